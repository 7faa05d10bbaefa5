use Rattle.std.proofs.Common.{arith, subst}
use Rattle.sh_tree.specs.Grammar.{AreBacks, backs_end}
use Rattle.sh_tree.specs.Lexeme.{lexemes}
use Rattle.sh_tree.specs.Tree.{tree_of, back}
use Rattle.sh_tree.proofs.Descent.{after_back, one_back, fewer_back, no_amp}
use Rattle.sh_tree.proofs.parser.parse_backs.Goals as goal

pub loop-after-preserved : goal.loop-after-preserved
loop-after-preserved g c = record {
  here = λ line at. after_back line c.loop-after.rest.now c.in-Some.after.now c.in-Some.ensures (c.loop-after.invariant.here line at);
  completes = λ line us t backs. c.loop-after.invariant.completes line us t (one_back line c.loop-after.rest.now c.in-Some.after.now us (tree_of c.loop-after.command) t c.in-Some.ensures (subst (λ x. AreBacks (lexemes line c.in-Some.after.now) us (back (tree_of x)) t) c.in_ok-new.ensures.ok backs));
  fewer = omega (arith, c.loop-after.invariant.fewer, fewer_back c.loop-after.rest.now c.in-Some.after.now c.in-Some.ensures);
}

pub returns : goal.returns
returns g c line at =
    let here = c.loop-after.invariant.here line at in
    record {
      derived = c.loop-after.invariant.completes line (lexemes line c.loop-after.rest.now) (tree_of c.loop-after.command) backs_end;
      follows = no_amp line c.loop-after.rest.now c.in_default.ensures here.follows;
      tokens = here.ready.tokens;
      fewer = c.loop-after.invariant.fewer;
    }
