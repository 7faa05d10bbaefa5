-- When some process is awake.
use Rattle.std.specs.Prelude.{◌≡◌, ◌⊎◌, ℕ, true}
use Rattle.proc_table.specs.Slots.{Table, at, is_runnable, is_running}

-- this process is Runnable or Running
pub record IsAwake {S : Type 0} (t : Table S) : Type 0 where
  pub pid : ℕ
  pub awake : (is_runnable (at t pid) ≡ true) ⊎ (is_running (at t pid) ≡ true)
