-- Which events are those of a hart.
use Rattle.std.specs.Prelude.{◌≡◌, ℕ, ◌<◌, Bool, ◌==◌, List, count_by, length, slice_index}
use Rattle.kernel_model.specs.declared.events.Event.{Event}
use Rattle.kernel_model.specs.declared.events.Event.TheVariants.{Dispatch, Trap}

-- the event is one of the hart h
abbrev pub is_of_hart : ℕ → Event → Bool
is_of_hart h (Dispatch other pid) = h == other
is_of_hart h (Trap other pid) = h == other

-- the list has eight places, and at each hart's how many events of the schedule are its own
abbrev pub AreCounts : List ℕ → List Event → Type 0
AreCounts counts schedule = (length counts ≡ 8) × ((h : ℕ) → h < 8 → slice_index counts h ≡ count_by (is_of_hart h) schedule)
