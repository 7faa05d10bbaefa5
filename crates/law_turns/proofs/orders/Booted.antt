-- A kernel at its start is still, and kernels that are alike have the same outcome.
use Rattle.std.proofs.Common.{◌≡◌, ℕ, List, Some, None, refl, sym, ap, ◌∙◌}
use Rattle.mem_files.specs.Name.{Name, Bytes}
use Rattle.mem_files.specs.Listing.{AreFiles}
use Rattle.proc_table.specs.Slots.{Slot, at}
use Rattle.kernel_model.specs.KernelState.{KernelState}
use Rattle.kernel_model.specs.Boot.{boot_kernel}
use Rattle.kernel_model.specs.Events.{IsFinished}
use Rattle.kernel_model.proofs.Booting.{boot_sound}
use Rattle.kernel_model.specs.Idle.{idle_slot}
use Rattle.kernel_model.specs.Alike.{Alike, IsStill}
use Rattle.kernel_model.specs.Outcome.{SameOutcome, outcome_of}
use Rattle.law_turns.proofs.orders.Follow.{slots_alike}

-- each pipe keeps its name
abbrev same_name : ℕ → ℕ
same_name pipe = pipe

pub alike_itself : {S : Type 0} (k : KernelState S) → Alike k k
alike_itself k = record { first = same_name; second = same_name; first_one_to_one = λ a b is. is; second_one_to_one = λ a b is. is; same = refl }

pub boot_still : {S : Type 0} (init shell : S) (input : Bytes) (list : List (Name × Bytes)) → AreFiles list → IsStill (boot_kernel init shell input list)
boot_still init shell input list are = record { idle = refl; sound = boot_sound init shell input list; files = are; names = λ f g one two agree. refl }

free_idle : {S : Type 0} (name : ℕ → ℕ) (x : Slot S) → idle_slot name x ≡ None → x ≡ None
free_idle name None is = refl
free_idle name (Some p) is = absurd (let z : ⊥ = cc in z)

idle_free : {S : Type 0} (name : ℕ → ℕ) (x : Slot S) → x ≡ None → idle_slot name x ≡ None
idle_free name x is = ap (idle_slot name) is

pub same_outcome : {S : Type 0} (k l : KernelState S) → Alike k l → SameOutcome k l
same_outcome k l a =
    let there : IsFinished k → IsFinished l = λ over pid other. free_idle a.second (at l.table pid) (sym (slots_alike k l a pid) ∙ idle_free a.first (at k.table pid) (over pid other)) in
    let back : IsFinished l → IsFinished k = λ over pid other. free_idle a.first (at k.table pid) (slots_alike k l a pid ∙ idle_free a.second (at l.table pid) (over pid other)) in
    record {
      outcome = ap outcome_of a.same;
      input = ap (λ (j : KernelState _). j.input) a.same;
      finished = (there, back);
    }
