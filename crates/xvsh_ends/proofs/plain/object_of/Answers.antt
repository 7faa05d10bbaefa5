use Rattle.std.proofs.Common.{true, subst}
use Rattle.std.specs.Prelude.{MatchResult}
use Rattle.xvsh_read.specs.declared.fault.Fault.TheVariants.{Memory}
use Rattle.xvsh_read.specs.Status.{fault_told}
use Rattle.xvsh_ends.specs.Ends.{PrintsAlone, Tells, verdict_status}
use Rattle.xvsh_ends.proofs.Made.{prints_object, prints_as}
use Rattle.xvsh_ends.proofs.plain.object_of.Goals as goal

pub returns : goal.returns
returns c text report =
    let same = c.leaving.ensures in
    let status = verdict_status c.args.is_strict c.args.run.reasoned.plain.settled in
    prints_as true text report status c.print_made.result c.leaving.result same.out same.told same.status
    (prints_object c.plain_result-made.result (λ found. found.items) text report status c.print_made.result
    (subst (λ n. MatchResult c.plain_result-made.result (λ found. PrintsAlone found.items n c.print_made.result) (λ _. Tells (fault_told Memory) 4 c.print_made.result)) c.verdict_status-status.ensures c.print_made.ensures))
