-- What the events of a run add to its output and its diagnostics.
use Rattle.std.specs.Prelude.{◌≡◌, Bool, List, [], ◌∷◌, ◌++◌, Option, Some, None}
use Rattle.mem_files.specs.Name.{Bytes}
use Rattle.user_calls.specs.declared.calls.Call.{Call}
use Rattle.user_calls.specs.declared.calls.Reply.{Reply}
use Rattle.kernel_model.specs.declared.events.Event.{Event}
use Rattle.kernel_model.specs.KernelState.{KernelState}
use Rattle.kernel_model.specs.Events.{then_happens}
use Rattle.run_trace.specs.Changes.{added}

-- the new kernel's output is the old one's with some bytes behind it, and so are its diagnostics
pub record Adds {S : Type 0} (old new : KernelState S) : Type 0 where
  pub out : (more : Bytes) × (new.out ≡ old.out ++ more)
  pub diag : (more : Bytes) × (new.diag ≡ old.diag ++ more)

-- what was added to the output, and to the diagnostics, between two kernels, if there are two
abbrev pub out_added : {S : Type 0} → Option (KernelState S) → Option (KernelState S) → Bytes
out_added (Some old) (Some new) = added old.out new.out
out_added (Some old) None = []
out_added None new = []

abbrev pub diag_added : {S : Type 0} → Option (KernelState S) → Option (KernelState S) → Bytes
diag_added (Some old) (Some new) = added old.diag new.diag
diag_added (Some old) None = []
diag_added None new = []

module _ {S : Type 0} (call : S → Reply → Call) (next : S → Reply → S) where
  -- what the events of a schedule add to the output, one after the other
  abbrev pub outs : Option (KernelState S) → List Event → List Bool → Bytes
  outs k [] notes = []
  outs k (e ∷ es) [] = []
  outs k (e ∷ es) (refused ∷ notes) = out_added k (then_happens call next k e refused) ++ outs (then_happens call next k e refused) es notes

  -- what they add to the diagnostics
  abbrev pub diags : Option (KernelState S) → List Event → List Bool → Bytes
  diags k [] notes = []
  diags k (e ∷ es) [] = []
  diags k (e ∷ es) (refused ∷ notes) = diag_added k (then_happens call next k e refused) ++ diags (then_happens call next k e refused) es notes
