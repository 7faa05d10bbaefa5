use Rattle.std.proofs.Common.{◌≡◌, ℕ, List, Some, sym, ap, subst, ◌∙◌}
use Rattle.std.specs.Prelude.{count_by}
use Rattle.proc_table.specs.Slots.{is_running}
use Rattle.kernel_model.specs.KernelState.{KernelState}
use Rattle.kernel_model.specs.Key.{key}
use Rattle.kernel_model.specs.Turns.{after_turns}
use Rattle.order_search.specs.Led.{start_kernel}
use Rattle.order_search.proofs.Leading.{led_orderly, led_long}
use Rattle.order_search.proofs.standing.Standing.begin.Goals as goal

pub read-requires-clause-orderly : goal.read-requires-clause-orderly
read-requires-clause-orderly g c =
    let v = g.M.Machine.view in
    let o = c.args.origin.now in
    led_orderly g.M.Machine.call_of g.M.Machine.next_of (v o.init) (v o.shell) o.stdin.now o.files.now c.in_ok-state.state c.args.pids.now c.in_ok-state.ensures.turns

pub read-requires-clause-all : goal.read-requires-clause-all
read-requires-clause-all g c =
    let v = g.M.Machine.view in
    let o = c.args.origin.now in
    led_long g.M.Machine.call_of g.M.Machine.next_of (v o.init) (v o.shell) o.stdin.now o.files.now c.in_ok-state.state c.args.pids.now c.in_ok-state.ensures.turns

pub invariant_of-result : goal.invariant_of-result
invariant_of-result g c =
    let v = g.M.Machine.view in
    let o = c.args.origin.now in
    let start = start_kernel (v o.init) (v o.shell) o.stdin.now o.files.now in
    record {
      room = c.requires;
      turns = subst (λ (l : List ℕ). after_turns g.M.Machine.call_of g.M.Machine.next_of start l ≡ Some c.in_ok-state.state) (sym c.in_ok-taken.ensures.items) c.in_ok-state.ensures.turns ∙ ap Some (sym c.of.ensures);
      look = c.in_ok-look.ensures ∙ ap key (sym c.of.ensures);
      idle = ap (λ (k : KernelState g.row.M-State.Denot). count_by is_running k.table) c.of.ensures ∙ c.in_ok-state.ensures.idle;
      busy = λ yes. absurd (let z : ⊥ = cc in z);
    }
