-- What holds of every kernel: counts and sizes are right, so that each call may be made.
use Rattle.std.specs.Prelude.{◌≡◌, ℕ, ◌≤◌, ◌+◌, true, List, map, length, None, replicate, count_by}
use Rattle.fd_table.specs.Entries.{Entries, entry_at, offset_of}
use Rattle.fd_table.specs.Descriptors.{Descriptors}
use Rattle.fd_table.specs.Holders.{CountHolders}
use Rattle.fd_table.specs.declared.descriptors.TheConstants.{DESCRIPTORS}
use Rattle.mem_files.specs.Listing.{max_size}
use Rattle.proc_table.specs.declared.pid.TheConstants.{PROCS}
use Rattle.proc_table.specs.Slots.{Table, at, is_zombie, is_running}
use Rattle.kernel_model.specs.KernelState.{fds_of}

-- the descriptors of all slots
abbrev pub tables : {S : Type 0} → Table S → List Descriptors
tables t = map fds_of t

-- a table of processes and entries belong together
pub record IsSound {S : Type 0} (t : Table S) (entries : Entries) : Type 0 where
  -- each entry counts the descriptors that hold it
  pub counts : CountHolders entries (tables t)
  pub slots : length t ≡ PROCS
  pub places : (pid : ℕ) → length (fds_of (at t pid)) ≡ DESCRIPTORS
  -- a zombie has closed its descriptors
  pub zombies : (pid : ℕ) → is_zombie (at t pid) ≡ true → fds_of (at t pid) ≡ replicate DESCRIPTORS None
  -- no offset is past the largest file
  pub offsets : (e : ℕ) → offset_of (entry_at entries e) ≤ max_size

-- in the middle of a call of pid: as many processes run as before it, n
pub record IsMid {S : Type 0} (n : ℕ) (t : Table S) (entries : Entries) (pid : ℕ) : Type 0 where
  pub sound : IsSound t entries
  pub runs : is_running (at t pid) ≡ true
  pub count : count_by is_running t ≡ n

-- after a call, before which n processes ran: one less runs
pub record Keeps {S : Type 0} (n : ℕ) (t : Table S) (entries : Entries) : Type 0 where
  pub sound : IsSound t entries
  pub count : count_by is_running t + 1 ≡ n
