-- What is shown of kernels, carried from one name of a kernel to another.
use Rattle.std.proofs.Common.{◌≡◌, ℕ, zero, suc, ◌<◌, List, [], ◌∷◌, ◌++◌, length, get_or, Some, None, Result, Ok, Err, refl, sym, ap, subst, ◌∙◌, arith, map}
use Rattle.std.specs.Prelude.{All, IfSome, IsSome, Option, slice_get, slice_index_or}
use Rattle.mem_files.specs.Name.{Name, Bytes}
use Rattle.mem_files.specs.Listing.{AreFiles}
use Rattle.user_calls.specs.declared.calls.Call.{Call}
use Rattle.user_calls.specs.declared.calls.Reply.{Reply}
use Rattle.kernel_model.specs.KernelState.{KernelState}
use Rattle.kernel_model.specs.Boot.{boot_kernel}
use Rattle.kernel_model.specs.Outcome.{RunOutcome}
use Rattle.kernel_model.specs.Anyhow.{SameKeyAnyhow}
use Rattle.kernel_model.specs.Begun.{IsBegun}
use Rattle.kernel_model.specs.Turns.{after_turns}
use Rattle.kernel_model.specs.Explored.{AreAllOutcomes}
use Rattle.order_search.specs.declared.outcomes.Outcome.{Outcome}
use Rattle.order_search.specs.Told.{outcome_by, LeadsToSleep}
use Rattle.order_search.specs.After.{AreAlikeAfter}
use Rattle.play_states.specs.declared.spots.Turn.{Turn}
use Rattle.play_states.specs.declared.spots.Shown.{Shown}
use Rattle.play_states.specs.Plays.{BeginsWith, ComesTo, SleepsAfter, IsShown, IsAlikeTo, IsTurnTo}

-- what stands at a place has what is said of all
pub got : {X : Type 0} (P : X → Type 0) (xs : List X) (k : ℕ) (x : X) → All P xs → slice_get xs k ≡ Some x → P x
got P [] k x all is = absurd (let z : ⊥ = cc in z)
got P (y ∷ ys) zero x all is = let same : y ≡ x = cc in subst P same (all zero y (omega arith))
got P (y ∷ ys) (suc k) x all is = got P ys k x (λ i d less. all (suc i) d (omega (arith, less))) is

module _ {S : Type 0} (call : S → Reply → Call) (next : S → Reply → S) where
  -- turns to where all sleep, which begin so
  pub slept : {V : Type 0} (boot : KernelState S) (pids : List ℕ) (o : Option V) (items : V → List ℕ) → IsSome o → IfSome o (λ w. LeadsToSleep call next boot (items w)) → IfSome o (λ w. BeginsWith pids (items w)) → SleepsAfter call next boot pids
  slept boot pids None items some asleep begins = absurd (let z : ⊥ = cc in z)
  slept boot pids (Some w) items some asleep begins = record { way = items w; asleep = asleep; begins = begins }

  -- kernels with the same key have the same outcomes
  abbrev pub KeyTells : Type 0
  KeyTells = (k l : KernelState S) (outcomes : List RunOutcome) → IsBegun call next k → IsBegun call next l → SameKeyAnyhow k l → AreAllOutcomes call next k outcomes → AreAllOutcomes call next l outcomes

  module _ (law : KeyTells) (init shell : S) (input : Bytes) (files : List (Name × Bytes)) (are : AreFiles files) where
    abbrev pub boot : KernelState S
    boot = boot_kernel init shell input files

    begun : (pids : List ℕ) (k : KernelState S) → after_turns call next boot pids ≡ Some k → IsBegun call next k
    begun pids k turns = record { init = init; shell = shell; input = input; files = files; are = are; pids = pids; turns = turns }

    -- what is shown of where turns lead is so of where others lead, to a kernel that is alike
    along : (pids others : List ℕ) (outcomes : List RunOutcome) (places : List ℕ) → AreAlikeAfter call next boot others pids → ComesTo call next boot others outcomes places → ComesTo call next boot pids outcomes places
    along pids others outcomes places a c =
        let both : ◌≡◌ {A = Option (KernelState S)} (Some c.now) (Some a.first) = sym c.turns ∙ a.turns in
        let same : c.now ≡ a.first = cc in
        let there : AreAllOutcomes call next a.first c.left = subst (λ (k : KernelState S). AreAllOutcomes call next k c.left) same c.all in
        record {
          now = a.second;
          turns = a.other_turns;
          left = c.left;
          all = law a.first a.second c.left (begun others a.first a.turns) (begun pids a.second a.other_turns) a.alike there;
          are = c.are;
        }

    turn_to : (outcomes : List Outcome) (shown : List Shown) (pids : List ℕ) (turn : Turn) → All (IsShown call next boot outcomes) shown → IsAlikeTo call next boot shown pids turn → IsTurnTo call next boot outcomes shown pids turn
    turn_to outcomes shown pids turn each a =
        record {
          to = a.to;
          there = a.there;
          alike = a.alike;
          comes = along (pids ++ turn.pid ∷ []) a.to.spot.pids.items (map outcome_by outcomes) a.to.possible.items a.alike (got (IsShown call next boot outcomes) shown turn.next a.to each a.there).comes;
        }

    pub turns_to : (outcomes : List Outcome) (shown : List Shown) → All (IsShown call next boot outcomes) shown → All (λ (s : Shown). All (IsAlikeTo call next boot shown s.spot.pids.items) s.spot.turns.items) shown → All (λ (s : Shown). All (IsTurnTo call next boot outcomes shown s.spot.pids.items) s.spot.turns.items) shown
    turns_to outcomes shown each all i d within j e less =
        let s = slice_index_or shown i d in
        turn_to outcomes shown s.spot.pids.items (slice_index_or s.spot.turns.items j e) each (all i d within j e less)
