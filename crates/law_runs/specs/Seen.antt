-- What an event does to a kernel, as it is seen.
use Rattle.std.specs.Prelude.{◌≡◌, ◌≢◌, ℕ, Some, None, replicate}
use Rattle.fd_table.specs.declared.descriptors.TheConstants.{DESCRIPTORS}
use Rattle.proc_table.specs.Slots.{Process, at}
use Rattle.kernel_model.specs.KernelState.{KernelState}
use Rattle.sh_machine.specs.State.{User, init}
use Rattle.process_model.specs.Seen.{free, zombie, Names, View, view}
use Rattle.process_model.specs.Shows.{ShowsIn}
use Rattle.process_model.specs.Effect.{Rest, Quiet, IsCall}

-- the call of p is seen, under names that are right again
pub record IsSeen (g : Names) (k l : KernelState User) (p : ℕ) : Type 0 where
  pub names : Names
  pub shows : ShowsIn names l
  pub call : IsCall (view g k) (view names l) p

-- init's slot has init in it, which has nothing open
abbrev pub IsInit : KernelState User → Type 0
IsInit k = (p : Process User) → at k.table 0 ≡ Some p → (p.machine ≡ init) × (p.fds ≡ replicate DESCRIPTORS None)

-- init, which waits, takes away one of its children that is a zombie, or nothing is seen
pub record TakesAway (V W : View) : Type 0 where
  pub child : ℕ
  pub was : V.slots child ≡ zombie 0
  pub gone : W.slots child ≡ free
  pub others : (q : ℕ) → q ≢ child → W.slots q ≡ V.slots q
  pub rest : Rest V W

pub data InitWaits (V W : View) : Type 0 where
  takes_away : TakesAway V W → InitWaits V W
  waits_on : Quiet V W → InitWaits V W
