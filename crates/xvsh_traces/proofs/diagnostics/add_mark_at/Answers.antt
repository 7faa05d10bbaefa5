use Rattle.std.proofs.Common.{sym, subst}
use Rattle.xvsh_traces.specs.Lined.{IsLined, mark_lined}
use Rattle.xvsh_traces.proofs.diagnostics.add_mark_at.Goals as goal

pub returns : goal.returns
returns c diag is = subst (IsLined diag) (sym c.in_ok-add_mark.ensures) (mark_lined c.in-Some.mark.now.line is)
