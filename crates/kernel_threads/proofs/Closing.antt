-- What a kernel leaves is the report of its run, from the start with the kernel's number.
use Rattle.std.proofs.Common.{◌≡◌, ◌<◌, ◌+◌, ◌∙◌, ℕ, List, Some, length, refl, sym}
use Rattle.std.specs.Coded.{Coded}
use base.Stored.{Gv}
use Rattle.user_calls.specs.declared.calls.Call.{Call}
use Rattle.user_calls.specs.declared.calls.Reply.{Reply}
use Rattle.kernel_model.specs.declared.events.Event.{Event}
use Rattle.kernel_model.specs.KernelState.{KernelState}
use Rattle.kernel_model.specs.Events.{run, IsFinished}
use Rattle.kernel_model.specs.History.{History}
use Rattle.kernel_events.specs.declared.report.Report.{Report}
use Rattle.kernel_events.specs.Reports.{Tells}
use Rattle.run_model.specs.Turns.{IsSpent}
use Rattle.kernel_threads.specs.Boots.{kernel_code, number_of}
use Rattle.kernel_threads.specs.Reports.{IsSoFarFrom, IsFinishedFrom, IsSpentAfter}

module _ {S : Type 0} (code : Coded S) (call : S → Reply → Call) (next : S → Reply → S) (boot : Gv) (k : History S) where
  -- a run from the kernel's start is one from any start with its number
  from_start : (start : KernelState S) (events : List Event) → number_of code k.boot ≡ boot → run call next (Some k.boot) k.schedule k.notes ≡ Some k.now → events ≡ k.schedule → number_of code start ≡ boot → run call next (Some start) events k.notes ≡ Some k.now
  from_start start events booted runs schedule is =
      let same : start ≡ k.boot = (kernel_code code).inj start k.boot (is ∙ sym booted) in
      (λ i. run call next (Some (same i)) (schedule i) k.notes) ∙ runs

  pub so_far : {A : _} (report : Report A) → number_of code k.boot ≡ boot → run call next (Some k.boot) k.schedule k.notes ≡ Some k.now → report.schedule ≡ k.schedule → Tells k.now report → IsSoFarFrom code call next boot report
  so_far report booted runs schedule tells = λ start is.
      record { last = k.now; notes = k.notes; runs = from_start start report.schedule booted runs schedule is; tells = tells }

  pub to_the_end : {A : _} (report : Report A) → number_of code k.boot ≡ boot → run call next (Some k.boot) k.schedule k.notes ≡ Some k.now → report.schedule ≡ k.schedule → Tells k.now report → IsFinished k.now → IsFinishedFrom code call next boot report
  to_the_end report booted runs schedule tells finished = λ start is.
      record { last = k.now; notes = k.notes; runs = from_start start report.schedule booted runs schedule is; finished = finished; tells = tells }

  pub spends : (turns : ℕ) → number_of code k.boot ≡ boot → run call next (Some k.boot) k.schedule k.notes ≡ Some k.now → IsSpent turns k.now k.schedule × (turns < length k.schedule + 2) → IsSpentAfter code call next boot turns
  spends turns booted runs spent = λ start is.
      (record { events = k.schedule; notes = k.notes; last = k.now; runs = from_start start k.schedule booted runs refl is; spent = spent.0 }, spent.1)
