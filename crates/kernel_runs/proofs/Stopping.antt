-- A replay stops at the first event that can't take place.
use Rattle.std.proofs.Common.{◌≡◌, ◌∙◌, ℕ, ◌+◌, ◌<◌, List, ◌∷◌, ◌++◌, take, drop, length, get_or, Some, sym, ap, subst, arith}
use Rattle.std.proofs.lemmas.List.{drop_more, length-take-le, take-append-drop}
use Rattle.kernel_model.specs.declared.events.Event.{Event}
use Rattle.kernel_model.specs.declared.events.Event.TheVariants.{Dispatch, Trap}
use Rattle.kernel_model.specs.KernelState.{KernelState}
use Rattle.kernel_events.specs.Possible.{CanHappen}
use Rattle.user_calls.specs.declared.calls.Call.{Call}
use Rattle.user_calls.specs.declared.calls.Reply.{Reply}
use Rattle.kernel_model.specs.Events.{run}
use Rattle.kernel_model.specs.History.{History}
use Rattle.kernel_runs.specs.declared.replaying.ReplayFault.{ReplayFault}
use Rattle.kernel_runs.specs.declared.replaying.ReplayFault.TheVariants.{NotRunnable, NotRunning, Unfinished, Memory}
use Rattle.kernel_runs.specs.Refused.{IsFaultFrom, Stops, StopsAt, refused_at}

of_event : {S : Type 0} (k : KernelState S) (before events : List Event) (event : Event) (number : ℕ) → Stops k before events (refused_at event number) → StopsAt k before events (refused_at event number)
of_event k before events (Dispatch h pid) number stops = stops
of_event k before events (Trap h pid) number stops = stops

cut_at : (events : List Event) (place : ℕ) (d : Event) → place < length events → events ≡ take place events ++ get_or events place d ∷ drop (place + 1) events
cut_at events place d within = sym (take-append-drop place events) ∙ ap (λ es. take place events ++ es) (drop_more events place d within)

pub stops_at : {S : Type 0} (k : KernelState S) (before events : List Event) (place : ℕ) (d : Event) (fault : ReplayFault) → before ≡ take place events → place < length events → (CanHappen k.table (get_or events place d) → ⊥) → fault ≡ refused_at (get_or events place d) (place + 1) → StopsAt k before events fault
stops_at k before events place d fault so_far within impossible told =
    let event = get_or events place d in
    subst (StopsAt k before events) (sym told)
    (of_event k before events event (place + 1)
    (record {
      event = event;
      after = drop (place + 1) events;
      split = cut_at events place d within ∙ ap (λ es. es ++ event ∷ drop (place + 1) events) (sym so_far);
      impossible = impossible;
      told = ap (λ n. refused_at event (n + 1)) (sym (length-take-le place events (omega (arith, within))) ∙ ap length (sym so_far));
    }))

-- the fault of a kernel that the events led to, and that stopped there
pub fault_from : {S : Type 0} (call : S → Reply → Call) (next : S → Reply → S) (start : KernelState S) (kernel : History S) (events : List Event) (fault : ReplayFault) → run call next (Some start) kernel.schedule kernel.notes ≡ Some kernel.now → StopsAt kernel.now kernel.schedule events fault → IsFaultFrom call next start events fault
fault_from call next start kernel events (NotRunnable number) runs stops = record { before = kernel.schedule; notes = kernel.notes; last = kernel.now; runs = runs; stops = stops }
fault_from call next start kernel events (NotRunning number) runs stops = record { before = kernel.schedule; notes = kernel.notes; last = kernel.now; runs = runs; stops = stops }
fault_from call next start kernel events Unfinished runs stops = absurd stops
fault_from call next start kernel events Memory runs stops = stops
