-- Turns in a row are a run, and an outcome by turns is one of a run.
use Rattle.std.proofs.Common.{◌≡◌, ℕ, List, [], ◌∷◌, Bool, false, Option, Some, None, refl, sym, ap, ◌∙◌}
use Rattle.user_calls.specs.declared.calls.Call.{Call}
use Rattle.user_calls.specs.declared.calls.Reply.{Reply}
use Rattle.kernel_model.specs.KernelState.{KernelState}
use Rattle.kernel_model.specs.Events.{run}
use Rattle.kernel_model.specs.Quiet.{no_refusals}
use Rattle.kernel_model.specs.Outcome.{RunOutcome}
use Rattle.kernel_model.specs.Turns.{by_turns, after_turn, after_turns, quiet_turns, turn_events, turn_notes}
use Rattle.kernel_model.specs.Explored.{IsOutcomeByTurns, IsOutcomeOfRun}
use Rattle.kernel_model.specs.Reduced.{turns}

module _ {S : Type 0} (call : S → Reply → Call) (next : S → Reply → S) where
  pub folded : (ps : List ℕ) (o : Option (KernelState S)) → turns (after_turn call next) o ps ≡ by_turns call next o (quiet_turns ps)
  folded [] o = refl
  folded (p ∷ ps) (Some k) = folded ps (after_turn call next k p)
  folded (p ∷ ps) None = folded ps None

  notes_quiet : (pids : List ℕ) → turn_notes (quiet_turns pids) ≡ no_refusals (turn_events (quiet_turns pids))
  notes_quiet [] = refl
  notes_quiet (pid ∷ pids) = ap (λ (ns : List Bool). false ∷ false ∷ ns) (notes_quiet pids)

  -- turns are a run at which memory isn't refused
  pub turns_run : (start k : KernelState S) (pids : List ℕ) → after_turns call next start pids ≡ Some k → run call next (Some start) (turn_events (quiet_turns pids)) (no_refusals (turn_events (quiet_turns pids))) ≡ Some k
  turns_run start k pids is = ap (λ (ns : List Bool). run call next (Some start) (turn_events (quiet_turns pids)) ns) (sym (notes_quiet pids)) ∙ is

  pub of_run : (start : KernelState S) (o : RunOutcome) → IsOutcomeByTurns call next start o → IsOutcomeOfRun call next start o
  of_run start o by = record { schedule = turn_events (quiet_turns by.1.pids); last = by.0; runs = turns_run start by.0 by.1.pids by.1.turns; finishes = by.2 }
