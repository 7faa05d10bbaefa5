use Rattle.std.proofs.Common.{◌≡◌, false, refl, sym, ◌∙◌, ap, subst, arith}
use Rattle.std.specs.Prelude.{max}
use Rattle.std.proofs.lemmas.Bool.{false≢true}
use Rattle.xvsh_runs.specs.Limit.{AreClear}
use Rattle.xvsh_runs.specs.declared.limit.TheConstants.{TURNS}
use Rattle.xvsh_runs.proofs.Clear.{clear_all, all_clear}
use Rattle.xvsh_runs.proofs.limit.own_limit.Goals as goal

pub returns-then-not-are_clear : goal.returns-then-not-are_clear
returns-then-not-are_clear c =
    let no : c.are_clear.result ≡ false = cc in
    let lines = c.as_slice.result.now in
    record { enough = λ clear few. absurd (false≢true (sym no ∙ c.are_clear.ensures.1 (all_clear lines (subst AreClear (sym c.as_slice.ensures) clear)))); other = λ over. refl }

pub returns-in-Some : goal.returns-in-Some
returns-in-Some c =
    let clear = subst AreClear c.as_slice.ensures (clear_all c.as_slice.result.now (c.are_clear.ensures.0 c.if-not-are_clear.false)) in
    record {
      enough = λ _ few. c.max.ensures ∙ ap (λ n. max n TURNS) c.in-Some.ensures.some;
      other = λ over. absurd (omega (arith, over clear, c.in-Some.ensures.some, c.in-Some.ensures.within));
    }

pub returns-in-None : goal.returns-in-None
returns-in-None c = record { enough = λ clear few. absurd (omega (arith, few, c.in-None.ensures.none)); other = λ over. refl }
