use Rattle.std.proofs.Common.{[], sym, subst}
use Rattle.xvsh_traces.specs.Lined.{IsLined, plain_lined}
use Rattle.xvsh_traces.proofs.diagnostics.with_marks.Goals as goal

pub loop-place-init : goal.loop-place-init
loop-place-init c = subst (IsLined []) (sym c.new-lined.ensures.items) plain_lined
