-- What a schedule has at a number.
use Rattle.std.proofs.Common.{◌≡◌, ℕ, ◌-◌, nat_lt, true, length, List, Some, refl, sym, ◌∙◌, ap}
use Rattle.std.proofs.lemmas.Bool.{ltb-true}
use Rattle.std.proofs.lemmas.Option.{slice_get_read}
use Rattle.std.specs.Prelude.{get_or}
use Rattle.kernel_model.specs.declared.events.Event.{Event}
use Rattle.xvsh_runs.specs.Why.{IsEventAt}

-- from what `get` ensures of an event that it found
pub event_at : (events : List Event) (number : ℕ) (found event : Event) → true ≡ nat_lt (number - 1) (length events) → found ≡ get_or events (number - 1) found → found ≡ event → IsEventAt events number event
event_at events number found event within read same = slice_get_read events (length events) (number - 1) found refl (ltb-true (number - 1) (length events) (sym within)) read ∙ ap Some same
