-- The soft names are those of the run, in order.
use Rattle.std.proofs.Common.{◌≡◌, ◌↔◌, IsTrue, subst, ap, sym, ◌∙◌, ◌++◌, rules, List, ℕ}
use Rattle.mem_files.specs.Files.{FileMap, files}
use Rattle.prog_parts.specs.NameSets.{among, no_names}
use Rattle.script_load.specs.Line.{lines_of}
use Rattle.meaning_model.specs.Meaning.{script_meaning, script_tree}
use Rattle.plain_run.specs.Gives.{Gives}
use Rattle.std.specs.Prelude.{All}
use Rattle.prog_parts.specs.Program.{is_empty}
use Rattle.plain_run.specs.Reasons.{IsReason}
use Rattle.plain_run.specs.Told.{is_some}
use Rattle.plain_run.specs.Tells.{Tells}
use Rattle.plain_run.proofs.NameSets.{contained, contains}
use Rattle.meaning_model.specs.Settled.{IsSettled}
use Rattle.plain_run.proofs.run.run_script.Goals as goal

pub returns-clause-out : goal.returns-clause-out
returns-clause-out g c =
    let P = c.args.script.now.profile in
    let lines = lines_of c.args.script.now.lines in
    let stdin = c.args.stdin.now in
    let F = files c.args.given.now in
    let same : files c.in-Ok.store ≡ F = search rules in
    let old = c.new.result.items in
    let new = c.run_lines.new.self.out.items in
    let rest = c.in_ok-ran.ran.rest.now in
    let H = files c.run_lines.new.self.store in
    let gives = subst (λ G. Gives (script_meaning P lines stdin G) old new rest H) same (subst (λ ls. Gives (script_meaning P ls stdin (files c.in-Ok.store)) old new rest H) c.as_slice.ensures c.in_ok-ran.ensures.gives) in
    c.from_vec.ensures ∙ gives.out ∙ ap (λ before. before ++ (script_meaning P lines stdin F).out) c.new.ensures.items

pub returns-clause-rest : goal.returns-clause-rest
returns-clause-rest g c =
    let P = c.args.script.now.profile in
    let lines = lines_of c.args.script.now.lines in
    let stdin = c.args.stdin.now in
    let F = files c.args.given.now in
    let same : files c.in-Ok.store ≡ F = search rules in
    let old = c.new.result.items in
    let new = c.run_lines.new.self.out.items in
    let rest = c.in_ok-ran.ran.rest.now in
    let H = files c.run_lines.new.self.store in
    let gives = subst (λ G. Gives (script_meaning P lines stdin G) old new rest H) same (subst (λ ls. Gives (script_meaning P ls stdin (files c.in-Ok.store)) old new rest H) c.as_slice.ensures c.in_ok-ran.ensures.gives) in
    c.in_ok-copy_of.ensures ∙ gives.rest

pub returns-clause-files : goal.returns-clause-files
returns-clause-files g c =
    let P = c.args.script.now.profile in
    let lines = lines_of c.args.script.now.lines in
    let stdin = c.args.stdin.now in
    let F = files c.args.given.now in
    let same : files c.in-Ok.store ≡ F = search rules in
    let old = c.new.result.items in
    let new = c.run_lines.new.self.out.items in
    let rest = c.in_ok-ran.ran.rest.now in
    let H = files c.run_lines.new.self.store in
    let gives = subst (λ G. Gives (script_meaning P lines stdin G) old new rest H) same (subst (λ ls. Gives (script_meaning P ls stdin (files c.in-Ok.store)) old new rest H) c.as_slice.ensures c.in_ok-ran.ensures.gives) in
    λ name. ap (λ (G : FileMap). G name) gives.files

pub returns-clause-soft : goal.returns-clause-soft
returns-clause-soft g c =
    let value = script_meaning c.args.script.now.profile (lines_of c.args.script.now.lines) c.args.stdin.now (files c.args.given.now) in
    let same_files : files c.in-Ok.store ≡ files c.args.given.now = search rules in
    let told = subst (λ G. Tells (script_meaning c.args.script.now.profile (lines_of c.args.script.now.lines) c.args.stdin.now G) (is_some c.in_ok-ran.ran.told.loose) c.in_ok-ran.ran.told.soft.items) same_files
    (subst (λ ls. Tells (script_meaning c.args.script.now.profile ls c.args.stdin.now (files c.in-Ok.store)) (is_some c.in_ok-ran.ran.told.loose) c.in_ok-ran.ran.told.soft.items) c.as_slice.ensures c.in_ok-ran.ensures.tells)
    in
    let same : (name : List ℕ) → among c.from_vec-2.result name ≡ value.soft name =
    λ name. ap (λ ns. among ns name) c.from_vec-2.ensures ∙ c.in_ok-in_order.ensures.names name ∙ ap (λ ns. among ns name) c.as_slice-2.ensures.value ∙ told.soft name
    in
    λ name. (λ has. sym (same name) ∙ contained c.from_vec-2.result name has, λ is. contains c.from_vec-2.result name (same name ∙ is))

pub returns-clause-settled : goal.returns-clause-settled
returns-clause-settled g c =
    let lines = lines_of c.args.script.now.lines in
    let same : files c.in-Ok.store ≡ files c.args.given.now = search rules in
    let none = is_empty c.in_ok-ran.ran.told.reasons.items in
    subst (λ G. IsTrue none ↔ IsSettled c.args.script.now.profile (script_tree lines) no_names c.args.stdin.now G) same
    (subst (λ ls. IsTrue none ↔ IsSettled c.args.script.now.profile (script_tree ls) no_names c.args.stdin.now (files c.in-Ok.store)) c.as_slice.ensures c.in_ok-ran.ensures.settled)

pub returns-clause-each : goal.returns-clause-each
returns-clause-each g c =
    let lines = lines_of c.args.script.now.lines in
    let same : files c.in-Ok.store ≡ files c.args.given.now = search rules in
    let reasons = c.in_ok-ran.ran.told.reasons.items in
    subst (λ G. All (IsReason c.args.script.now.profile lines c.args.stdin.now G) reasons) same
    (subst (λ ls. All (IsReason c.args.script.now.profile ls c.args.stdin.now (files c.in-Ok.store)) reasons) c.as_slice.ensures c.in_ok-ran.ensures.each)
