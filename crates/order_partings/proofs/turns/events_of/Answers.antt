use Rattle.std.proofs.Common.{◌≡◌, ℕ, ◌<◌, List, [], ◌∷◌, ◌++◌, length, take, get_or, refl, sym, ap, ◌∙◌, rules}
use Rattle.std.proofs.lemmas.List.{take_more}
use Rattle.kernel_model.specs.declared.events.Event.{Event}
use Rattle.kernel_model.specs.declared.events.Event.TheVariants.{Dispatch, Trap}
use Rattle.kernel_model.specs.Turns.{quiet_turns, turn_events}
use Rattle.order_partings.proofs.turns.events_of.Goals as goal

-- one turn more has two events more
one_more : (pids : List ℕ) (pid : ℕ) → turn_events (quiet_turns (pids ++ pid ∷ [])) ≡ turn_events (quiet_turns pids) ++ Dispatch 0 pid ∷ Trap 0 pid ∷ []
one_more [] pid = refl
one_more (first ∷ pids) pid = ap (λ (es : List Event). Dispatch 0 first ∷ Trap 0 first ∷ es) (one_more pids pid)

pub loop-pid-preserved : goal.loop-pid-preserved
loop-pid-preserved c =
    let pids : List ℕ = c.args.pids.now in
    let n : ℕ = c.loop-pid.pid-index in
    let pid : ℕ = get_or pids n 0 in
    let within : n < length pids = search rules in
    c.in_ok-add_turn.ensures
    ∙ ap (λ (es : List Event). es ++ Dispatch 0 pid ∷ Trap 0 pid ∷ []) c.loop-pid.invariant
    ∙ sym (one_more (take n pids) pid)
    ∙ ap (λ (l : List ℕ). turn_events (quiet_turns l)) (sym (take_more pids n 0 within))
