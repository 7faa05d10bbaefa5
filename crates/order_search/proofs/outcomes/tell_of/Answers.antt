use Rattle.std.proofs.Common.{◌≡◌, List, true, false, inr, map, sym, subst, ◌∙◌, rules}
use Rattle.std.specs.Prelude.{Contains}
use Rattle.kernel_model.specs.Events.{IsFinished}
use Rattle.kernel_model.specs.Outcome.{outcome_of}
use Rattle.order_search.specs.declared.outcomes.Outcome.{Outcome}
use Rattle.order_search.specs.Led.{Led, start_kernel}
use Rattle.order_search.specs.Told.{outcome_by, IsAddedTo}
use Rattle.order_search.proofs.Leading.{key_finished, finished_key, key_outcome}
use Rattle.order_search.proofs.Looking.{never}
use Rattle.order_search.proofs.outcomes.tell_of.Goals as goal

pub returns-then-not-is_finished-clause-told : goal.returns-then-not-is_finished-clause-told
returns-then-not-is_finished-clause-told g c = λ over.
    let k = c.node.inside.kernel.value in
    let here : IsFinished k = subst (λ (n : Led g.row.M-State.Denot). IsFinished n.now) (sym c.node.view_is) over in
    let not_over : c.is_finished.result ≡ false = search rules in
    absurd (never c.is_finished.result (c.is_finished.ensures.1 (finished_key k c.node.inside.look c.node.invariant.look here)) not_over)

pub returns-clause-added : goal.returns-clause-added
returns-clause-added g c =
    let v = g.M.Machine.view in
    let o = c.args.origin.now in
    let start = start_kernel (v o.init) (v o.shell) o.stdin.now o.files.now in
    let k = c.node.inside.kernel.value in
    let look = c.node.inside.look in
    let ended : c.is_finished.result ≡ true = search rules in
    let is_it : c.is_of.result ≡ true = search rules in
    let untold : c.is_told.result ≡ false = search rules in
    let same : outcome_by c.in_ok-outcome.outcome ≡ outcome_of look = c.is_of.ensures.0 is_it in
    let again : Contains (map outcome_by c.args.outcomes.now.items) (outcome_by c.in_ok-outcome.outcome) → ⊥ = λ has. never c.is_told.result (c.is_told.ensures.1 (subst (λ (os : List Outcome). Contains (map outcome_by os) (outcome_of look)) (sym c.deref.ensures.value) (subst (Contains (map outcome_by c.args.outcomes.now.items)) same has))) untold in
    subst (λ (n : Led g.row.M-State.Denot). IsAddedTo g.M.Machine.call_of g.M.Machine.next_of start n.now c.args.outcomes.now.items c.push_outcome.new.outcomes.items) c.node.view_is
    (inr (record {
      outcome = c.in_ok-outcome.outcome;
      adds = c.in_ok-push_outcome.ensures;
      replayed = c.in_ok-outcome.ensures;
      finishes = (key_finished k look c.node.invariant.look (c.is_finished.ensures.0 ended), sym (same ∙ key_outcome k look c.node.invariant.look));
      new = again;
    }))
