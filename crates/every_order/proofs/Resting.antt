-- Where a run of turns came to, if nothing was full there.
use Rattle.std.proofs.Common.{◌≡◌, ℕ, List, Bool, Some, None, sym, ap, ◌∙◌}
use Rattle.user_calls.specs.declared.calls.Call.{Call}
use Rattle.user_calls.specs.declared.calls.Reply.{Reply}
use Rattle.kernel_model.specs.declared.events.Event.{Event}
use Rattle.kernel_model.specs.KernelState.{KernelState}
use Rattle.kernel_model.specs.Events.{run}
use Rattle.kernel_model.specs.Quiet.{no_refusals}
use Rattle.kernel_model.proofs.Quiet.{run_quiet}
use Rattle.kernel_model.specs.Turns.{after_turns, quiet_turns, turn_events}
use Rattle.law_turns.proofs.Runs.{turns_run}

module _ {S : Type 0} (call : S → Reply → Call) (next : S → Reply → S) where
  -- turns of these processes at which memory isn't refused come to the kernel of such a run
  pub same_kernel : (boot k m : KernelState S) (pids : List ℕ) (schedule : List Event) (notes : List Bool) → schedule ≡ turn_events (quiet_turns pids) → run call next (Some boot) schedule notes ≡ Some k → k.full ≡ None → after_turns call next boot pids ≡ Some m → m ≡ k
  same_kernel boot k m pids schedule notes by is roomy turns =
      let quiet : run call next (Some boot) schedule (no_refusals schedule) ≡ Some k = run_quiet call next boot k schedule notes is roomy in
      let other : run call next (Some boot) schedule (no_refusals schedule) ≡ Some m = ap (λ (es : List Event). run call next (Some boot) es (no_refusals es)) by ∙ turns_run call next boot m pids turns in
      let both : Some m ≡ Some k = sym other ∙ quiet in
      let same : m ≡ k = cc in
      same
