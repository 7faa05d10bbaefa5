use Rattle.std.proofs.Common.{[], refl, arith}
use Rattle.sh_tree.specs.Grammar.{parts_end}
use Rattle.sh_tree.proofs.EachPart.{wraps_more}
use Rattle.sh_tree.proofs.parts.parse_redirections.Goals as goal

pub loop-part-init : goal.loop-part-init
loop-part-init g c = record {
  here = c.requires;
  wraps = record { words = []; redirections = []; parts = parts_end; wraps = refl };
  fewer = omega arith;
}

pub loop-part-preserved : goal.loop-part-preserved
loop-part-preserved g c = record {
  here = c.in-Some.ensures.goes_on;
  wraps = wraps_more c.loop-part.invariant.wraps c.in-Some.ensures.part_read c.in_ok-command.ensures;
  fewer = omega (arith, c.in-Some.ensures.fewer, c.loop-part.invariant.fewer);
}
