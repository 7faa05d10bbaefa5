-- The verdict is that of the lines, and of their reasons.
use Rattle.std.proofs.Common.{◌≡◌, ◌↔◌, IsTrue, false, sym, ap, subst, ◌∙◌}
use Rattle.mem_files.specs.Files.{files}
use Rattle.prog_parts.specs.NameSets.{no_names}
use Rattle.prog_parts.specs.Program.{is_empty}
use Rattle.conflict_check.specs.Clear.{has_back, IsClear}
use Rattle.script_load.specs.Line.{lines_of}
use Rattle.meaning_model.specs.Meaning.{script_tree}
use Rattle.meaning_model.specs.Settled.{IsSettled}
use Rattle.plain_run.proofs.Telling.{clear_then, unsettled}
use Rattle.plain_run.proofs.run.plain.Goals.{then-is_none, else-is_none}
use Rattle.plain_run.proofs.run.plain.Goals as goal

pub returns-clause-settled : goal.returns-clause-settled
returns-clause-settled g c =
    let T = script_tree (lines_of c.args.script.now.lines) in
    let B = has_back T ≡ false in
    let C = IsClear T in
    let S = IsSettled c.args.script.now.profile T no_names c.args.stdin.now (files c.args.given.now) in
    let none : c.is_none.result ≡ is_empty c.in_ok-outcome.outcome.reasons.items = c.is_none.ensures ∙ ap is_empty c.as_slice.ensures.value in
    let inner = subst (λ b. IsTrue b ↔ S) (sym none) c.in_ok-outcome.ensures.settled in
    elim c.if-is_none.branch [
      | then-is_none w ↦ clear_then B C S c.if-is_none.settled w.are_clear-settled.result c.is_none.result w.if-is_none.true w.settled-is (subst (λ ls. IsTrue w.are_clear-settled.result ↔ ((has_back (script_tree ls) ≡ false) × IsClear (script_tree ls))) w.as_slice-then-is_none.ensures w.are_clear-settled.ensures) inner
      | else-is_none w ↦ unsettled B C S c.if-is_none.settled c.is_none.result w.if-is_none.false (w.settled-is ∙ w.if-is_none.false) inner
    ]
