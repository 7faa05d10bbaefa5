-- An entry lost one holder, and isn't a pipe's end: each of the ten calls of another process comes to the same, but for numbers.
use Rattle.std.proofs.Common.{◌≡◌, ℕ, Bool, Some, subst}
use Rattle.user_calls.specs.declared.calls.Call.{Call}
use Rattle.user_calls.specs.declared.calls.Call.TheVariants.{Fork, Exec, Exit, Wait, MakePipe, Read, Write, OpenFile, Close, Dup}
use Rattle.fd_table.specs.Entries.{OpenFile as Opened, entry_at}
use Rattle.proc_table.specs.Calls.{lowest_free as lowest_free_slot, wait_answer}
use Rattle.kernel_model.specs.KernelState.{KernelState}
use Rattle.kernel_model.specs.Sound.{IsMid}
use Rattle.kernel_model.specs.Events.{acted}
use Rattle.kernel_model.specs.Numbers.{SameButNumbers}
use Rattle.law_turns.proofs.entry_numbers.Numberings.{same_itself}
use Rattle.kernel_model.specs.Closes.{FindsFree}
use Rattle.law_turns.proofs.last_closes.Losing.{lost, IsShared, fork_lost, wait_lost, dup_lost, read_lost, write_lost}
use Rattle.law_turns.proofs.last_closes.Making.{open_file_lost, make_pipe_lost}
use Rattle.law_turns.proofs.last_closes.Closing.{CanGo, close_lost, exit_lost}

-- what the entry e of k has to be for a call of pid
pub record CanLose {S : Type 0} (e pid : ℕ) (k : KernelState S) : Type 0 where
  pub file : Opened
  pub used : entry_at k.entries e ≡ Some file
  pub shared : IsShared e pid k
  pub running : ℕ
  pub mid : IsMid running k.table (lost e pid k).entries pid

-- a call that closes something closes the entry only where it is no pipe's end
abbrev pub CanGoBy : {S : Type 0} → ℕ → ℕ → KernelState S → Call → Type 0
CanGoBy e pid k Fork = Unit {0}
CanGoBy e pid k (Exec found) = Unit {0}
CanGoBy e pid k Exit = CanGo e pid k
CanGoBy e pid k Wait = Unit {0}
CanGoBy e pid k MakePipe = Unit {0}
CanGoBy e pid k (Read fd n) = Unit {0}
CanGoBy e pid k (Write fd b) = Unit {0}
CanGoBy e pid k (OpenFile name mode) = Unit {0}
CanGoBy e pid k (Close fd) = CanGo e pid k
CanGoBy e pid k (Dup fd) = Unit {0}

pub goes_by : {S : Type 0} (e pid : ℕ) (k : KernelState S) (call : Call) → CanGo e pid k → CanGoBy e pid k call
goes_by e pid k Fork go = tt
goes_by e pid k (Exec found) go = tt
goes_by e pid k Exit go = go
goes_by e pid k Wait go = tt
goes_by e pid k MakePipe go = tt
goes_by e pid k (Read fd n) go = tt
goes_by e pid k (Write fd b) go = tt
goes_by e pid k (OpenFile name mode) go = tt
goes_by e pid k (Close fd) go = go
goes_by e pid k (Dup fd) go = tt

module _ {S : Type 0} (e pid : ℕ) (after : S) where
  abbrev L : KernelState S → KernelState S
  L k = lost e pid k

  so : (k l : KernelState S) → k ≡ l → SameButNumbers k l
  so k l is = subst (λ (j : KernelState S). SameButNumbers k j) is (same_itself k)

  pub acted_lost : (k : KernelState S) (call : Call) (refused : Bool) → CanLose e pid k → CanGoBy e pid k call → FindsFree k call → SameButNumbers (acted (L k) pid after call refused) (L (acted k pid after call refused))
  acted_lost k Fork refused c go free = so _ _ (fork_lost e pid after k (lowest_free_slot k.table) c.shared)
  acted_lost k (Exec found) refused c go free = same_itself (acted (L k) pid after (Exec found) refused)
  acted_lost k Exit refused c go free = so _ _ (exit_lost e pid after k go)
  acted_lost k Wait refused c go free = so _ _ (wait_lost e pid after k (wait_answer k.table pid))
  acted_lost k MakePipe refused c go free = make_pipe_lost e pid c.file k c.used c.running c.mid after free refused
  acted_lost k (Read fd n) refused c go free = so _ _ (read_lost e pid after k fd n c.shared)
  acted_lost k (Write fd b) refused c go free = so _ _ (write_lost e pid after k fd b refused c.shared)
  acted_lost k (OpenFile name mode) refused c go free = open_file_lost e pid c.file after name mode refused k c.used free c.mid.sound.counts
  acted_lost k (Close fd) refused c go free = so _ _ (close_lost e pid after k go fd)
  acted_lost k (Dup fd) refused c go free = so _ _ (dup_lost e pid after k fd c.shared)
