-- There is no reason just where the script is settled.
use Rattle.std.proofs.Common.{◌≡◌, ◌↔◌, IsTrue, List, ℕ, false, sym, ap, subst, ◌∙◌}
use Rattle.std.specs.Prelude.{All}
use Rattle.std.proofs.lemmas.List.Elements.{All-append}
use Rattle.mem_files.specs.Files.{FileMap, files}
use Rattle.prog_parts.specs.NameSets.{no_names}
use Rattle.prog_parts.specs.Program.{is_empty}
use Rattle.conflict_check.specs.Clear.{has_back, IsClear}
use Rattle.script_load.specs.declared.profile.Profile.{Profile}
use Rattle.script_load.specs.Line.{lines_of}
use Rattle.meaning_model.specs.Meaning.{script_tree}
use Rattle.meaning_model.specs.Settled.{IsSettled}
use Rattle.plain_run.specs.Reasons.{IsReason}
use Rattle.plain_run.proofs.Telling.{none_is, none_of_both}
use Rattle.plain_run.proofs.run.plain_with_reasons.Goals as goal

pub returns-clause-settled : goal.returns-clause-settled
returns-clause-settled g c =
    let T = script_tree (lines_of c.args.script.now.lines) in
    let B = has_back T ≡ false in
    let C = IsClear T in
    let S = IsSettled c.args.script.now.profile T no_names c.args.stdin.now (files c.args.given.now) in
    let first = c.in_ok-reasons.reasons.items in
    let clear = subst (λ ls. IsTrue (is_empty first) ↔ ((has_back (script_tree ls) ≡ false) × IsClear (script_tree ls))) c.as_slice.ensures c.in_ok-reasons.ensures.none in
    subst (λ b. IsTrue b ↔ (B × C × S)) (sym (c.is_none-settled.ensures ∙ ap is_empty c.as_slice-2.ensures.value))
    (none_of_both B C S first c.in_ok-outcome.outcome.reasons.items c.append.new.self.items c.in_ok-append.ensures.items clear c.in_ok-outcome.ensures.settled)

pub returns-clause-none : goal.returns-clause-none
returns-clause-none g c =
    let T = script_tree (lines_of c.args.script.now.lines) in
    let B = has_back T ≡ false in
    let C = IsClear T in
    let S = IsSettled c.args.script.now.profile T no_names c.args.stdin.now (files c.args.given.now) in
    let first = c.in_ok-reasons.reasons.items in
    let clear = subst (λ ls. IsTrue (is_empty first) ↔ ((has_back (script_tree ls) ≡ false) × IsClear (script_tree ls))) c.as_slice.ensures c.in_ok-reasons.ensures.none in
    none_is (B × C × S) c.append.new.self.items
    (none_of_both B C S first c.in_ok-outcome.outcome.reasons.items c.append.new.self.items c.in_ok-append.ensures.items clear c.in_ok-outcome.ensures.settled)

pub returns-clause-each : goal.returns-clause-each
returns-clause-each g c =
    let P = c.args.script.now.profile in
    let lines = lines_of c.args.script.now.lines in
    let input = c.args.stdin.now in
    let F = files c.args.given.now in
    let first = c.in_ok-reasons.reasons.items in
    let clear = subst (λ ls. (profile : Profile) (bytes : List ℕ) (G : FileMap) → All (IsReason profile ls bytes G) first) c.as_slice.ensures c.in_ok-reasons.ensures.each in
    subst (All (IsReason P lines input F)) (sym c.in_ok-append.ensures.items)
    (All-append (IsReason P lines input F) first c.in_ok-outcome.outcome.reasons.items (clear P input F) c.in_ok-outcome.ensures.each)
