use Rattle.std.proofs.Common.{◌≡◌, ℕ, ◌<◌}
use Rattle.std.specs.Prelude.{slice_index_or}
use Rattle.proc_table.specs.declared.states.State.TheVariants.{Free}
use Rattle.proc_table.specs.Slots.{at, state_of}
use Rattle.run_trace.proofs.before.see_states.Given as goal

abbrev pub invariant-loop-index : goal.invariant-loop-index
invariant-loop-index g l = (pid : ℕ) → pid < l.index → slice_index_or l.states pid Free ≡ state_of (at l.kernel.now.table pid)
