use Rattle.std.proofs.Common.{◌≡◌, sym, subst, arith}
use Rattle.std.specs.Prelude.{IfNone, MatchOption}
use Rattle.mem_files.specs.Files.{files}
use Rattle.script_mends.specs.Mended.{AreMends, HasNoMend, IsMend, IsUnmended, no_mend, one_more, too_many, without_mend}
use Rattle.script_mends.specs.Rounds.{IsMendFault, IsRound, most_mends}
use Rattle.script_mends.proofs.Chains.{after_fault, after_none, begun, begun_none, no_unmended, spoils}
use Rattle.script_mends.proofs.rounds.mend.Goals as goal

pub loop-mends-init : goal.loop-mends-init
loop-mends-init c =
    let task = c.args.task.now in
    subst (λ text. AreMends task.profile task.stdin.now (files task.files.now) 0 c.args.bytes.now text) (sym c.in_ok-text.ensures.items) no_mend

pub loop-mends-preserved : goal.loop-mends-preserved
loop-mends-preserved c =
    let task = c.args.task.now in
    let F = files task.files.now in
    let arm = c.in-Ok-Mended in
    one_more c.loop-mends.invariant (subst (λ b. IsMend task.profile task.stdin.now F b arm.new.items) c.as_slice.ensures.value (subst (IsRound task.profile task.stdin.now F c.as_slice.result.now) arm.field-0-is arm.ensures.made))

pub returns-in-Ok-Settled-clause-same : goal.returns-in-Ok-Settled-clause-same
returns-in-Ok-Settled-clause-same c = λ is.
    let task = c.args.task.now in
    begun task.profile task.stdin.now (files task.files.now) c.loop-mends.mends c.args.bytes.now c.loop-mends.text.items is c.loop-mends.invariant

pub returns-in-Ok-Unmended-clause-same : goal.returns-in-Ok-Unmended-clause-same
returns-in-Ok-Unmended-clause-same c = λ is.
    let task = c.args.task.now in
    let F = files task.files.now in
    let arm = c.in-Ok-Unmended in
    let same = begun task.profile task.stdin.now F c.loop-mends.mends c.args.bytes.now c.loop-mends.text.items is c.loop-mends.invariant in
    no_unmended task.profile task.stdin.now F c.args.bytes.now is
    (subst (HasNoMend task.profile task.stdin.now F) same (subst (HasNoMend task.profile task.stdin.now F) c.as_slice.ensures.value (subst (IsRound task.profile task.stdin.now F c.as_slice.result.now) arm.field-0-is arm.ensures.made)))

pub returns-in-Ok-Unmended-clause-none : goal.returns-in-Ok-Unmended-clause-none
returns-in-Ok-Unmended-clause-none c =
    let task = c.args.task.now in
    let F = files task.files.now in
    let arm = c.in-Ok-Unmended in
    without_mend c.loop-mends.mends c.loop-mends.invariant
    (subst (HasNoMend task.profile task.stdin.now F) c.as_slice.ensures.value (subst (IsRound task.profile task.stdin.now F c.as_slice.result.now) arm.field-0-is arm.ensures.made))

pub returns-in-Err-clause-same : goal.returns-in-Err-clause-same
returns-in-Err-clause-same c = λ is.
    let task = c.args.task.now in
    let none = begun_none task.profile task.stdin.now (files task.files.now) c.loop-mends.mends c.args.bytes.now c.loop-mends.text.items is c.loop-mends.invariant in
    after_none c.after_mends.result c.loop-mends.mends c.in-Err.fault (λ found. MatchOption found ⊥ (λ text. text.items ≡ c.args.bytes.now)) c.after_mends.ensures.none
    (λ some other. absurd (omega (arith, some, none)))

pub returns-in-Err-clause-none : goal.returns-in-Err-clause-none
returns-in-Err-clause-none c =
    let task = c.args.task.now in
    let F = files task.files.now in
    after_none c.after_mends.result c.loop-mends.mends c.in-Err.fault (λ found. IfNone found (IsUnmended task.profile task.stdin.now F most_mends c.args.bytes.now)) c.after_mends.ensures.none
    (λ some other. spoils task.profile task.stdin.now F c.loop-mends.mends c.args.bytes.now c.loop-mends.text.items c.in-Err.fault some other c.loop-mends.invariant
    (subst (λ b. IsMendFault task.profile task.stdin.now F b c.in-Err.fault) c.as_slice.ensures.value c.in-Err.ensures.fault))

pub returns-in-Err-clause-fault : goal.returns-in-Err-clause-fault
returns-in-Err-clause-fault c =
    let task = c.args.task.now in
    let F = files task.files.now in
    after_fault task.profile task.stdin.now F c.after_mends.result c.loop-mends.mends c.args.bytes.now c.loop-mends.text.items c.in-Err.fault c.loop-mends.invariant
    (subst (λ b. IsMendFault task.profile task.stdin.now F b c.in-Err.fault) c.as_slice.ensures.value c.in-Err.ensures.fault) c.after_mends.ensures.error

pub returns-clause-same : goal.returns-clause-same
returns-clause-same c = λ is.
    let task = c.args.task.now in
    let none = begun_none task.profile task.stdin.now (files task.files.now) c.loop-mends.mends c.args.bytes.now c.loop-mends.text.items is c.loop-mends.invariant in
    omega (arith, none, c.loop-mends-test.false)

pub returns-clause-none : goal.returns-clause-none
returns-clause-none c =
    let task = c.args.task.now in
    let all : c.loop-mends.mends ≡ 100 = omega (arith, c.loop-mends.auto.mends-end, c.loop-mends-test.false) in
    too_many (subst (λ n. AreMends task.profile task.stdin.now (files task.files.now) n c.args.bytes.now c.loop-mends.text.items) all c.loop-mends.invariant)
