use Rattle.std.proofs.Common.{◌≡◌, ℕ, List, Some, true, sym, subst, rules}
use Rattle.kernel_model.specs.Events.{IsFinished}
use Rattle.kernel_model.specs.Turns.{after_turns}
use Rattle.order_search.specs.Led.{start_kernel}
use Rattle.order_search.proofs.outcomes.replayed.Goals as goal

pub returns : goal.returns
returns g c =
    let v = g.M.Machine.view in
    let o = c.args.origin.now in
    let start = start_kernel (v o.init) (v o.shell) o.stdin.now o.files.now in
    let ended : c.is_finished.result ≡ true = search rules in
    let over : IsFinished c.in_ok-state.state = c.is_finished.ensures.0 ended in
    record {
      last = c.in_ok-state.state;
      turns = subst (λ (l : List ℕ). after_turns g.M.Machine.call_of g.M.Machine.next_of start l ≡ Some c.in_ok-state.state) (sym c.in_ok-pids.ensures.items) c.in_ok-state.ensures.turns;
      finishes = (over, (λ i. record { out = sym c.into_parts-out.ensures.out i; diag = sym c.into_parts-out.ensures.diag i; files = sym c.into_parts-out.ensures.files i; full = sym c.full-full.ensures i }));
    }
