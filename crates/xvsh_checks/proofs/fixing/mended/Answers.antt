use Rattle.std.proofs.Common.{sym, subst}
use Rattle.std.specs.Prelude.{MatchOption}
use Rattle.mem_files.specs.Files.{files}
use Rattle.script_mends.specs.Rounds.{IsMendFault}
use Rattle.xvsh_plain.specs.Running.{of_plain}
use Rattle.xvsh_checks.specs.Fixes.{HasNoFix, IsFix, IsFixFault, refused}
use Rattle.xvsh_checks.proofs.Fixed.{fix_by, plain_fault}
use Rattle.xvsh_checks.proofs.fixing.mended.Goals as goal

pub returns-in-Ok-clause-found : goal.returns-in-Ok-clause-found
returns-in-Ok-clause-found c =
    let start = c.args.start.now in
    let F = files start.files in
    let bytes = c.args.bytes.now in
    subst (λ s. MatchOption c.in-Ok.found (HasNoFix start.script.profile s F bytes) (λ text. IsFix start.script.profile s F bytes text.items)) c.as_slice.ensures.value
    (fix_by start.script.profile c.as_slice.result.now F bytes c.in-Ok.found (λ text. text.items) c.in-Ok.ensures.settled c.in-Ok.ensures.mended c.in-Ok.ensures.same c.in-Ok.ensures.none)

pub returns-in-Err-Load-clause-fault : goal.returns-in-Err-Load-clause-fault
returns-in-Err-Load-clause-fault c =
    let start = c.args.start.now in
    let F = files start.files in
    let bytes = c.args.bytes.now in
    let arm = c.in-Err-Load in
    subst (IsFixFault start.script.profile start.stdin.items F bytes) (sym c.from.ensures)
    (refused arm.fault (subst (IsMendFault start.script.profile c.as_slice.result.now F bytes) arm.field-0-is arm.ensures.fault))

pub returns-in-Err-Plain-clause-fault : goal.returns-in-Err-Plain-clause-fault
returns-in-Err-Plain-clause-fault c =
    let start = c.args.start.now in
    let F = files start.files in
    let bytes = c.args.bytes.now in
    let arm = c.in-Err-Plain in
    subst (IsFixFault start.script.profile start.stdin.items F bytes) (sym c.of_plain.ensures)
    (subst (λ s. IsFixFault start.script.profile s F bytes (of_plain arm.fault)) c.as_slice.ensures.value
    (plain_fault start.script.profile c.as_slice.result.now F bytes arm.fault (subst (IsMendFault start.script.profile c.as_slice.result.now F bytes) arm.field-0-is arm.ensures.fault)))
