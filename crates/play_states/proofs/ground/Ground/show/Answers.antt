use Rattle.std.proofs.Common.{ℕ, List, ap, subst, map}
use Rattle.std.specs.Prelude.{IfSome, Ok}
use Rattle.order_search.specs.declared.outcomes.Outcome.{Outcome}
use Rattle.order_search.specs.Told.{outcome_by}
use Rattle.order_search.specs.After.{GivesWayAfter}
use Rattle.play_states.specs.Plays.{AreAt, BeginsWith, TellsAllAfter}
use Rattle.play_states.proofs.Told.{slept}
use Rattle.play_states.proofs.ground.Ground.show.Goals as goal

pub returns : goal.returns
returns g c =
    let call = g.M.Machine.call_of in
    let next = g.M.Machine.next_of in
    let boot = c.args.self.now in
    let found = c.in_ok-found.found in
    let pids = c.args.spot.pids.items in
    let t : TellsAllAfter call next boot pids found = subst (λ (ps : List ℕ). TellsAllAfter call next boot ps found) c.deref.ensures.value c.in_ok-found.ensures in
    record {
      comes = record {
        now = t.tells.now;
        turns = t.tells.turns;
        left = map outcome_by found.outcomes.items;
        all = t.tells.tells.complete t.whole;
        are = subst (λ (os : List Outcome). AreAt (map outcome_by c.args.outcomes.now) (map outcome_by os) c.in_ok-possible.possible.items) c.deref-2.ensures.value c.in_ok-possible.ensures;
      };
      awake = λ no. t.tells.tells.awake t.whole (c.in_ok-sleeps.ensures.awake (ap Ok no));
      asleep = λ yes. slept call next boot pids found.stuck (λ w. w.items) (c.in_ok-sleeps.ensures.asleep (ap Ok yes)) t.tells.tells.asleep (subst (λ (ps : List ℕ). IfSome found.stuck (λ w. BeginsWith ps w.items)) c.deref-3.ensures.value c.in_ok-sleeps.ensures.goes_on);
      only = subst (λ (ps : List ℕ). IfSome c.in_ok-only.only (GivesWayAfter call next boot ps)) c.deref-4.ensures.value c.in_ok-only.ensures;
    }
