use Rattle.std.proofs.Common.{take}
use Rattle.xvsh_traces.specs.Lined.{IsLined}
use Rattle.xvsh_traces.proofs.diagnostics.with_marks.Given as goal

-- the bytes so far are there
abbrev pub invariant-loop-place : goal.invariant-loop-place
invariant-loop-place l = IsLined (take l.place l.diag) l.lined.items
