use Rattle.std.proofs.Common.{◌≡◌, ℕ, ◌<◌, List, [], ◌∷◌, ◌++◌, length, take, get_or, refl, sym, ap, ◌∙◌, rules}
use Rattle.std.proofs.lemmas.List.{take_more}
use Rattle.kernel_model.specs.declared.events.Event.{Event}
use Rattle.kernel_model.specs.declared.events.Event.TheVariants.{Dispatch, Trap}
use Rattle.kernel_model.specs.Turns.{callers}
use Rattle.step_session.proofs.rest.callers_of.Goals as goal

-- one event more has its callers more
one_more : (events : List Event) (event : Event) → callers (events ++ event ∷ []) ≡ callers events ++ callers (event ∷ [])
one_more [] event = refl
one_more (Dispatch h p ∷ events) event = one_more events event
one_more (Trap h p ∷ events) event = ap (λ (pids : List ℕ). p ∷ pids) (one_more events event)

pub loop-event-preserved : goal.loop-event-preserved
loop-event-preserved c =
    let events : List Event = c.args.events.now in
    let n : ℕ = c.loop-event.event-index in
    let event : Event = get_or events n (Dispatch 0 0) in
    let within : n < length events = search rules in
    c.in_ok-add_caller.ensures.added
    ∙ ap (λ (pids : List ℕ). pids ++ callers (event ∷ [])) c.loop-event.invariant
    ∙ sym (one_more (take n events) event)
    ∙ ap callers (sym (take_more events n (Dispatch 0 0) within))
