-- What is shown of the states of a play.
use Rattle.std.specs.Prelude.{◌≡◌, ◌↔◌, ◌≤◌, ◌⊎◌, ℕ, List, [], ◌∷◌, ◌++◌, true, false, Some, IfSome, All, Any, Contains, map, length, take, slice_get}
use Rattle.user_calls.specs.declared.calls.Call.{Call}
use Rattle.user_calls.specs.declared.calls.Reply.{Reply}
use Rattle.kernel_model.specs.KernelState.{KernelState}
use Rattle.kernel_model.specs.Outcome.{RunOutcome}
use Rattle.kernel_model.specs.Turns.{after_turns}
use Rattle.kernel_model.specs.Explored.{AreAllOutcomes, IsNeverStuck}
use Rattle.order_search.specs.declared.ordering.Exploration.{Exploration}
use Rattle.order_search.specs.declared.outcomes.Outcome.{Outcome}
use Rattle.order_search.specs.Told.{outcome_by, LeadsToSleep}
use Rattle.order_search.specs.After.{AreAlikeAfter, GivesWayAfter}
use Rattle.every_order.specs.Rest.{TellsAfter}
use Rattle.play_states.specs.declared.spots.Turn.{Turn}
use Rattle.play_states.specs.declared.spots.Spot.{Spot}
use Rattle.play_states.specs.declared.spots.Shown.{Shown}
use Rattle.play_states.specs.declared.spots.Play.{Play}

-- the outcome stands at one of these places of the list
abbrev pub IsAt : List RunOutcome → List ℕ → RunOutcome → Type 0
IsAt outcomes places o = (place : ℕ) × Contains places place × (slice_get outcomes place ≡ Some o)

-- what stands at these places of the list are those that were found, and no others
abbrev pub AreAt : List RunOutcome → List RunOutcome → List ℕ → Type 0
AreAt outcomes found places = (o : RunOutcome) → Contains found o ↔ IsAt outcomes places o

-- what stands at the place is one of those that were found
abbrev pub IsOneOf : List RunOutcome → List RunOutcome → ℕ → Type 0
IsOneOf outcomes found place = IfSome (slice_get outcomes place) (Contains found)

-- these turns come first
abbrev pub BeginsWith : List ℕ → List ℕ → Type 0
BeginsWith turns pids = take (length turns) pids ≡ turns

-- the turn leads to a state of which the outcome of this place can still come
abbrev pub LeadsTo : List Shown → ℕ → Turn → Type 0
LeadsTo shown place turn = (next : Shown) × (slice_get shown turn.next ≡ Some next) × Contains next.possible.items place

abbrev pub IsLedTo : List Shown → List Turn → ℕ → Type 0
IsLedTo shown turns place = Any (LeadsTo shown place) turns

-- each outcome of the state can come after a turn that is offered there; or no turn is, and it has one outcome at most; or the turns
-- there weren't followed
abbrev pub IsCovered : List Shown → Shown → Type 0
IsCovered shown s = (s.spot.is_cut ≡ true) ⊎ (((s.spot.turns.items ≡ []) × (length s.possible.items ≤ 1)) ⊎ All (IsLedTo shown s.spot.turns.items) s.possible.items)

module _ {S : Type 0} (call : S → Reply → Call) (next : S → Reply → S) where
  -- all that is shown of what follows these turns, where every order was tried
  pub record TellsAllAfter (boot : KernelState S) (pids : List ℕ) (found : Exploration) : Type 0 where
    pub whole : found.whole ≡ true
    pub tells : TellsAfter call next boot pids found

  -- the outcomes of all finished runs that go on after these turns are those at these places of the list, and no others
  pub record ComesTo (boot : KernelState S) (pids : List ℕ) (outcomes : List RunOutcome) (places : List ℕ) : Type 0 where
    pub now : KernelState S
    pub turns : after_turns call next boot pids ≡ Some now
    pub left : List RunOutcome
    pub all : AreAllOutcomes call next now left
    pub are : AreAt outcomes left places

  -- turns of these processes lead to where all sleep, and the first of them are those that lead to the state
  pub record SleepsAfter (boot : KernelState S) (pids : List ℕ) : Type 0 where
    pub way : List ℕ
    pub asleep : LeadsToSleep call next boot way
    pub begins : BeginsWith pids way

  -- what is shown of a state is so: which outcomes can still come, whether all can come to sleep, and whose turn is enough
  pub record IsShown (boot : KernelState S) (outcomes : List Outcome) (s : Shown) : Type 0 where
    pub comes : ComesTo boot s.spot.pids.items (map outcome_by outcomes) s.possible.items
    pub awake : s.sleeps ≡ false → IsNeverStuck call next comes.now
    pub asleep : s.sleeps ≡ true → SleepsAfter boot s.spot.pids.items
    pub only : IfSome s.only (GivesWayAfter call next boot s.spot.pids.items)

  -- the turn, after these, leads to a kernel like that of the state that is next
  pub record IsAlikeTo (boot : KernelState S) (shown : List Shown) (pids : List ℕ) (turn : Turn) : Type 0 where
    pub to : Shown
    pub there : slice_get shown turn.next ≡ Some to
    pub alike : AreAlikeAfter call next boot to.spot.pids.items (pids ++ turn.pid ∷ [])

  -- the same, and the outcomes of all finished runs that go on after the turn are those that are shown of that state
  pub record IsTurnTo (boot : KernelState S) (outcomes : List Outcome) (shown : List Shown) (pids : List ℕ) (turn : Turn) : Type 0 where
    pub to : Shown
    pub there : slice_get shown turn.next ≡ Some to
    pub alike : AreAlikeAfter call next boot to.spot.pids.items (pids ++ turn.pid ∷ [])
    pub comes : ComesTo boot (pids ++ turn.pid ∷ []) (map outcome_by outcomes) to.possible.items

  -- all of this of each state that is shown, and of each turn that is offered there
  pub record IsPlay (boot : KernelState S) (play : Play) : Type 0 where
    pub each : All (IsShown boot play.outcomes.items) play.shown.items
    pub turns : All (λ s. All (IsTurnTo boot play.outcomes.items play.shown.items s.spot.pids.items) s.spot.turns.items) play.shown.items
    pub covered : All (IsCovered play.shown.items) play.shown.items
