-- What is due for words in which a fault is found, by its kind.
use Rattle.std.proofs.Common.{◌≡◌, ◌≢◌, ℕ, true, false, List, Option, inl, inr, refl}
use Rattle.clap.specs.Faults.{fault_of}
use Rattle.clap.specs.Kinds.{HasKind, IsAmong}
use Rattle.clap.specs.Values.{kind_of}
use Rattle.clap.specs.declared.error.Error.{Error}
use Rattle.clap.specs.declared.error.kind.ErrorKind.{ErrorKind}
use Rattle.clap.specs.declared.error.kind.ErrorKind.TheVariants.{DisplayHelp, DisplayVersion, OutOfMemory}
use Rattle.xvsh_read.specs.Path.{Path}
use Rattle.xvsh_read.specs.Status.{fault_told}
use Rattle.xvsh_read.specs.declared.fault.Fault.TheVariants.{Memory}
use Rattle.xvsh_ends.specs.Ends.{IsDue, Tells, help, misuse}
use Rattle.xvsh_ends.specs.declared.ending.Ending.{Ending}
use Rattle.xvsh.specs.Parsing.{IsUnparsed, for_help, for_memory, for_misuse, is_shown, own_program}

module _ (input : Option (List ℕ)) (file : Path → Option (List ℕ)) (words : List (List ℕ)) where
  by_kind : (ending : Ending) (kind : ErrorKind) → IsAmong kind (fault_of own_program words) → (kind ≡ OutOfMemory → Tells (fault_told Memory) 4 ending) → (kind ≢ OutOfMemory → is_shown kind ≡ true → IsDue input file help ending) → (kind ≢ OutOfMemory → is_shown kind ≡ false → IsDue input file misuse ending) → IsUnparsed input file words ending
  by_kind ending OutOfMemory among memory helps misuses = for_memory (memory refl)
  by_kind ending DisplayHelp among memory helps misuses = for_help (DisplayHelp, among, refl) (helps (λ e. cc) refl)
  by_kind ending DisplayVersion among memory helps misuses = for_help (DisplayVersion, among, refl) (helps (λ e. cc) refl)
  by_kind ending kind among memory helps misuses = for_misuse (inl (kind, among, refl)) (misuses (λ e. cc) refl)

  pub unparsed_by : (error : Error) (ending : Ending) → HasKind (fault_of own_program words) error → (kind_of error ≡ OutOfMemory → Tells (fault_told Memory) 4 ending) → (kind_of error ≢ OutOfMemory → is_shown (kind_of error) ≡ true → IsDue input file help ending) → (kind_of error ≢ OutOfMemory → is_shown (kind_of error) ≡ false → IsDue input file misuse ending) → IsUnparsed input file words ending
  unparsed_by error ending (inl memory) tells helps misuses = for_memory (tells memory)
  unparsed_by error ending (inr among) tells helps misuses = by_kind ending (kind_of error) among tells helps misuses
