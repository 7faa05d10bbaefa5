-- What a finished run comes to.
use Rattle.std.specs.Prelude.{◌≡◌, ◌↔◌, List, Option}
use Rattle.mem_files.specs.Name.{Name, Bytes}
use Rattle.kernel_model.specs.declared.events.Full.{Full}
use Rattle.kernel_model.specs.KernelState.{KernelState}
use Rattle.kernel_model.specs.Events.{IsFinished}

-- the output, the diagnostics, the files, and what was full at the first call that was refused for it
pub record RunOutcome : Type 0 where
  pub out : Bytes
  pub diag : Bytes
  pub files : List (Name × Bytes)
  pub full : Option Full

abbrev pub outcome_of : {S : Type 0} → KernelState S → RunOutcome
outcome_of k = record { out = k.out; diag = k.diag; files = k.files; full = k.full }

-- both have come to the same so far, have left the same input unread, and are finished or both are not
pub record SameOutcome {S : Type 0} (k l : KernelState S) : Type 0 where
  pub outcome : outcome_of k ≡ outcome_of l
  pub input : k.input ≡ l.input
  pub finished : IsFinished k ↔ IsFinished l
