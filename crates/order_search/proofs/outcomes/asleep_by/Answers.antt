use Rattle.std.proofs.Common.{◌≡◌, ℕ, List, Some, true, false, inl, inr, refl, sym, subst, ◌∙◌, rules, arith}
use Rattle.std.specs.Prelude.{count_by}
use Rattle.proc_table.specs.Slots.{is_runnable}
use Rattle.kernel_model.specs.Turns.{after_turns}
use Rattle.kernel_model.specs.Explored.{IsFinishedOrReady}
use Rattle.order_search.specs.Led.{start_kernel}
use Rattle.order_search.proofs.Leading.{none_of}
use Rattle.order_search.proofs.Looking.{never}
use Rattle.order_search.proofs.outcomes.asleep_by.Goals as goal

pub returns : goal.returns
returns g c =
    let v = g.M.Machine.view in
    let o = c.args.origin.now in
    let k = c.in_ok-state.state in
    let start = start_kernel (v o.init) (v o.shell) o.stdin.now o.files.now in
    let not_over : c.is_finished.result ≡ false = search rules in
    let none : count_by is_runnable k.table ≡ 0 = omega (arith, c.runnable.ensures.count) in
    record {
      last = k;
      turns = subst (λ (l : List ℕ). after_turns g.M.Machine.call_of g.M.Machine.next_of start l ≡ Some k) (sym c.in_ok-way.ensures.items) c.in_ok-state.ensures.turns;
      asleep = sleeps not_over none;
    } where
      sleeps : c.is_finished.result ≡ false → count_by is_runnable c.in_ok-state.state.table ≡ 0 → IsFinishedOrReady c.in_ok-state.state → ⊥
      sleeps not_over none (inl over) = never c.is_finished.result (c.is_finished.ensures.1 over) not_over
      sleeps not_over none (inr ready) =
          let no : true ≡ false = sym ready.1 ∙ none_of is_runnable c.in_ok-state.state.table ready.0 refl none in
          let z : ⊥ = cc in z
