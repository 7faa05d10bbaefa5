-- Kernels that turns lead to. No public clause cites this module.
use Rattle.std.specs.Prelude.{◌≡◌, ℕ, ◌<◌, ◌^◌, Bool, true, List, Some, count_by}
use Rattle.mem_files.specs.Name.{Name, Bytes}
use Rattle.user_calls.specs.declared.calls.Call.{Call}
use Rattle.user_calls.specs.declared.calls.Reply.{Reply}
use Rattle.proc_table.specs.Slots.{is_running}
use Rattle.kernel_model.specs.KernelState.{KernelState}
use Rattle.kernel_model.specs.Boot.{boot_kernel}
use Rattle.kernel_model.specs.Sound.{IsSound}
use Rattle.kernel_model.specs.Key.{key}
use Rattle.kernel_model.specs.Explored.{IsBusy}
use Rattle.kernel_model.specs.Turns.{after_turns}
use Rattle.order_search.specs.declared.origin.Ahead.{Ahead}
use Rattle.order_search.specs.Room.{HasAhead}

-- the kernel at its start
unfoldable pub start_kernel : {S : Type 0} → S → S → Bytes → List (Name × Bytes) → KernelState S
start_kernel init shell input files = boot_kernel init shell input files

-- a kernel, where its run began, and whose turns lead to it
pub record Led (S : Type 0) : Type 0 where
  pub start : KernelState S
  pub pids : List ℕ
  pub now : KernelState S

-- the turns lead there, this is its key, nobody runs, the start has ahead what is said of it, and the kernel is busy where that is said
pub record IsLed {S : Type 0} (call : S → Reply → Call) (next : S → Reply → S) (start : KernelState S) (ahead : Ahead) (pids : List ℕ) (now seen : KernelState S) (is_busy : Bool) : Type 0 where
  pub room : HasAhead call next ahead start
  pub turns : after_turns call next start pids ≡ Some now
  pub look : seen ≡ key now
  pub idle : count_by is_running now.table ≡ 0
  pub busy : is_busy ≡ true → IsBusy call next now

-- the kernel of a node
abbrev pub kernel_of : {S : Type 0} → Led S → KernelState S
kernel_of n = n.now

-- the turns lead there, few events were counted, nobody runs, and descriptors hold entries
pub record IsStop {S : Type 0} (call : S → Reply → Call) (next : S → Reply → S) (start : KernelState S) (pids : List ℕ) (now : KernelState S) : Type 0 where
  pub turns : after_turns call next start pids ≡ Some now
  pub few : now.events < 2 ^ 32
  pub idle : count_by is_running now.table ≡ 0
  pub sound : IsSound now.table now.entries
