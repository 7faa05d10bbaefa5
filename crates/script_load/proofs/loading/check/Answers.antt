use Rattle.std.proofs.Common.{◌≡◌, ◌≤◌, ◌<◌, length, List, ℕ, arith, sym, get_or, ◌∙◌, true, false}
use Rattle.std.specs.Prelude.{Contains}
use Rattle.std.proofs.lemmas.Grind.{get_or_default_zero}
use Rattle.script_load.specs.Script.{IsFine}
use Rattle.script_load.proofs.Checked.{checked_one, checked_all, faulty}
use Rattle.script_load.proofs.loading.check.Goals as goal

false_not_true : false ≡ true → ⊥
false_not_true h = cc

holds : (xs : List ℕ) (k d : ℕ) → k < length xs → get_or xs k d ≡ 0 → Contains xs 0
holds xs k d inside is = (k, inside, sym (get_or_default_zero xs k d inside) ∙ is)

pub returns-then-line-gt-MAX_LINE-clause-err : goal.returns-then-line-gt-MAX_LINE-clause-err
returns-then-line-gt-MAX_LINE-clause-err c =
    faulty c.args.bytes.now c.loop-line.rest.now c.in-Some.line.now c.in-Some.after.now c.loop-line.number (λ line. 511 < length line) c.loop-line.invariant c.in-Some.ensures.some (omega arith)

pub returns-then-has_zero-clause-err : goal.returns-then-has_zero-clause-err
returns-then-has_zero-clause-err c =
    faulty c.args.bytes.now c.loop-line.rest.now c.in-Some.line.now c.in-Some.after.now c.loop-line.number (λ line. (length line ≤ 511) × Contains line 0) c.loop-line.invariant c.in-Some.ensures.some
    (omega arith, c.has_zero.ensures.0 c.if-has_zero.true)

pub loop-line-preserved : goal.loop-line-preserved
loop-line-preserved c =
    let fine : IsFine c.in-Some.line.now = (omega arith, λ k d inside is. false_not_true (sym c.if-has_zero.false ∙ c.has_zero.ensures.1 (holds c.in-Some.line.now k d inside is))) in
    checked_one c.args.bytes.now c.loop-line.rest.now c.in-Some.line.now c.in-Some.after.now c.loop-line.number c.loop-line.invariant c.in-Some.ensures.some fine

pub returns-clause-ok : goal.returns-clause-ok
returns-clause-ok c = checked_all c.args.bytes.now c.loop-line.rest.now c.loop-line.number c.loop-line.invariant c.in_default.ensures.none
