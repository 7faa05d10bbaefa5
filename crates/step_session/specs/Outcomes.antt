-- What is reported of what a session can still come to.
use Rattle.std.specs.Prelude.{◌≡◌, ℕ, List, All, length, take}
use Rattle.user_calls.specs.declared.calls.Call.{Call}
use Rattle.user_calls.specs.declared.calls.Reply.{Reply}
use Rattle.kernel_model.specs.History.{History}
use Rattle.order_search.specs.declared.ordering.Exploration.{Exploration}
use Rattle.order_search.specs.declared.outcomes.Outcome.{Outcome}
use Rattle.every_order.specs.Rest.{TellsFrom}

-- the outcomes of the runs that go on from the kernel as it is in the session
abbrev pub TellsRest : {S : Type 0} → (S → Reply → Call) → (S → Reply → S) → History S → Exploration → Type 0
TellsRest call next h found = TellsFrom call next h.boot h.now found

-- the schedule of each outcome begins with these turns
abbrev pub GoOn : List ℕ → List Outcome → Type 0
GoOn turns = All (λ outcome. take (length turns) outcome.pids.items ≡ turns)
