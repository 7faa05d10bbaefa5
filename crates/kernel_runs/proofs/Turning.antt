-- A turn of a hart adds two events of that hart to the schedule.
use Rattle.std.proofs.Common.{◌≡◌, ℕ, ◌+◌, List, [], ◌∷◌, ◌++◌, true, length, refl, sym, ap, subst, ◌∙◌, arith}
use Rattle.std.specs.Prelude.{All}
use Rattle.std.proofs.lemmas.List.{length-append}
use Rattle.std.proofs.lemmas.List.Elements.{All-append, All-cons, All-nil}
use Rattle.std.proofs.lemmas.Bool.{eq-eqb}
use Rattle.user_calls.specs.declared.calls.Call.{Call}
use Rattle.user_calls.specs.declared.calls.Reply.{Reply}
use Rattle.kernel_model.specs.declared.events.Event.{Event}
use Rattle.kernel_model.specs.declared.events.Event.TheVariants.{Dispatch, Trap}
use Rattle.kernel_model.specs.History.{History, Steps}
use Rattle.kernel_events.specs.Harts.{is_of_hart}

-- all events are those of the hart h
abbrev pub AreOfHart : ℕ → List Event → Type 0
AreOfHart h events = All (λ event. is_of_hart h event ≡ true) events

more_of_hart : (h : ℕ) (events : List Event) (e : Event) → AreOfHart h events → is_of_hart h e ≡ true → AreOfHart h (events ++ e ∷ [])
more_of_hart h events e all is = All-append (λ event. is_of_hart h event ≡ true) events (e ∷ []) all (All-cons (λ event. is_of_hart h event ≡ true) e [] is (All-nil (λ event. is_of_hart h event ≡ true)))

one_longer : (events : List Event) (e : Event) → length (events ++ e ∷ []) ≡ length events + 1
one_longer events e = length-append events (e ∷ [])

module _ {S : Type 0} (call : S → Reply → Call) (next : S → Reply → S) (old new : History S) (h : ℕ) where
  pub turn_boot : Steps call next old h new → new.boot ≡ old.boot
  turn_boot (pid, mid, begins, ends) = ends.boot ∙ begins.boot

  pub turn_hart : Steps call next old h new → AreOfHart h old.schedule → AreOfHart h new.schedule
  turn_hart (pid, mid, begins, ends) all =
      subst (AreOfHart h) (sym ends.schedule) (more_of_hart h mid.schedule (Trap h pid) (subst (AreOfHart h) (sym begins.schedule) (more_of_hart h old.schedule (Dispatch h pid) all (eq-eqb h h refl))) (eq-eqb h h refl))

  pub turn_length : Steps call next old h new → length new.schedule ≡ length old.schedule + 2
  turn_length (pid, mid, begins, ends) =
      omega (arith, ap length ends.schedule, one_longer mid.schedule (Trap h pid), ap length begins.schedule, one_longer old.schedule (Dispatch h pid))
