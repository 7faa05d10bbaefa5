-- Kernels of runs, and which of them can do what others can, whoever sleeps.
use Rattle.std.specs.Prelude.{◌≡◌, ℕ, List, Some}
use Rattle.user_calls.specs.declared.calls.Call.{Call}
use Rattle.user_calls.specs.declared.calls.Reply.{Reply}
use Rattle.mem_files.specs.Name.{Name, Bytes}
use Rattle.mem_files.specs.Listing.{AreFiles}
use Rattle.kernel_model.specs.KernelState.{KernelState}
use Rattle.kernel_model.specs.Boot.{boot_kernel}
use Rattle.kernel_model.specs.Turns.{after_turns}
use Rattle.kernel_model.specs.Privately.{Privately}
use Rattle.kernel_model.specs.Woke.{AlikeAwake}

module _ {S : Type 0} (call : S → Reply → Call) (next : S → Reply → S) where
  -- turns lead to the kernel from a boot, of any machines, with files as they have to be
  pub record IsBegun (k : KernelState S) : Type 0 where
    pub init : S
    pub shell : S
    pub input : Bytes
    pub files : List (Name × Bytes)
    pub are : AreFiles files
    pub pids : List ℕ
    pub turns : after_turns call next (boot_kernel init shell input files) pids ≡ Some k

  -- such kernels, each alike to the next one but for who sleeps: the first can do what the last one can
  pub data DoesAwake : KernelState S → KernelState S → Type 0 where
    itself : (k : KernelState S) → DoesAwake k k
    likened : (k l m : KernelState S) → IsBegun k → IsBegun l → AlikeAwake k l → DoesAwake l m → DoesAwake k m

  -- the turn of the process p is private, in such a kernel
  pub record PrivatelyBegun (k : KernelState S) (p : ℕ) : Type 0 where
    pub private : Privately call k p
    pub begun : IsBegun k
