-- A kernel at its start.
use Rattle.std.specs.Prelude.{◌≡◌, List}
use Rattle.mem_files.specs.Name.{Name, Bytes}
use Rattle.mem_files.specs.Listing.{AreFiles}
use Rattle.kernel_model.specs.KernelState.{KernelState}
use Rattle.kernel_model.specs.Boot.{boot_kernel}

-- nothing has happened in the kernel since it was booted, with files as they have to be
pub record IsBooted {S : Type 0} (k : KernelState S) : Type 0 where
  pub init : S
  pub shell : S
  pub input : Bytes
  pub files : List (Name × Bytes)
  pub start : k ≡ boot_kernel init shell input files
  pub are : AreFiles files
