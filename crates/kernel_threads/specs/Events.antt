-- Whose events they are.
use Rattle.std.specs.Prelude.{ℕ, ◌<◌, List, All}
use Rattle.kernel_model.specs.declared.events.Event.{Event}
use Rattle.kernel_model.specs.declared.events.Event.TheVariants.{Dispatch, Trap}

-- the hart of an event
abbrev pub hart_of : Event → ℕ
hart_of (Dispatch h pid) = h
hart_of (Trap h pid) = h

-- every event is one of so many harts, which are counted from 0
abbrev pub AreOfHarts : ℕ → List Event → Type 0
AreOfHarts harts events = All (λ event. hart_of event < harts) events
