-- What a run of something did, and which faults are due.
use Rattle.std.specs.Prelude.{◌≡◌, ◌++◌, false, List}
use Rattle.prog_parts.specs.NameSets.{among}
use Rattle.mem_files.specs.Name.{Name, Bytes}
use Rattle.mem_files.specs.Files.{FileMap}
use Rattle.meaning_model.specs.Value.{Value}
use Rattle.plain_run.specs.declared.fault.PlainFault.{PlainFault}
use Rattle.plain_run.specs.declared.fault.PlainFault.TheVariants.{TooLarge, Memory}

-- the value's output was added to the old one, and the value's rest of the input and its files are left
pub record Gives (value : Value) (old new left : Bytes) (F : FileMap) : Type 0 where
  pub out : new ≡ old ++ value.out
  pub rest : left ≡ value.rest
  pub files : F ≡ value.files

-- `TooLarge` is returned only where this says that a limit was passed
abbrev pub IsDue : Type 0 → PlainFault → Type 0
IsDue Large TooLarge = Large
IsDue Large Memory = Unit {0}

-- what was there stays, and at most bytes at its end are new
pub record Extends (old new : Bytes) : Type 0 where
  pub added : Bytes
  pub is : new ≡ old ++ added

-- of names that aren't among these, each holds what it held
abbrev pub SameBeside : List Name → FileMap → FileMap → Type 0
SameBeside names old new = (name : Name) → among names name ≡ false → new name ≡ old name
