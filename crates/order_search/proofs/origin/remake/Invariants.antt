use Rattle.std.proofs.Common.{◌≡◌, ◌*◌, Some, take}
use Rattle.std.specs.Prelude.{count_by}
use Rattle.proc_table.specs.Slots.{is_running}
use Rattle.order_search.specs.Led.{start_kernel}
use Rattle.kernel_model.specs.Sound.{IsSound}
use Rattle.kernel_model.specs.Turns.{after_turns}
use Rattle.order_search.proofs.origin.remake.Given as goal

abbrev pub invariant-loop-pid : goal.invariant-loop-pid
invariant-loop-pid g l = record {
  turns : after_turns g.M.Machine.call_of g.M.Machine.next_of (start_kernel (g.M.Machine.view l.origin.init) (g.M.Machine.view l.origin.shell) l.origin.stdin.now l.origin.files.now) (take l.pid-index l.pids) ≡ Some l.state;
  events : l.state.events ≡ 2 * l.pid-index;
  idle : count_by is_running l.state.table ≡ 0;
  sound : IsSound l.state.table l.state.entries;
}
