-- The turns of the node and one more lead to the stop.
use Rattle.std.proofs.Common.{◌≡◌, ℕ, List, [], ◌∷◌, ◌++◌, Some, sym, ap, subst, ◌∙◌}
use Rattle.std.specs.Prelude.{count_by}
use Rattle.proc_table.specs.Slots.{is_running}
use Rattle.kernel_model.specs.KernelState.{KernelState}
use Rattle.kernel_model.specs.Key.{key}
use Rattle.kernel_model.specs.Turns.{after_turn, after_turns}
use Rattle.order_search.specs.Led.{start_kernel, Led}
use Rattle.order_search.proofs.Leading.{last_turn, led_orderly, led_long}
use Rattle.order_search.proofs.standing.Standing.turned.Goals as goal

pub read-requires-clause-orderly : goal.read-requires-clause-orderly
read-requires-clause-orderly g c =
    let v = g.M.Machine.view in
    let o = c.self.inside.origin.now in
    led_orderly g.M.Machine.call_of g.M.Machine.next_of (v o.init) (v o.shell) o.stdin.now o.files.now c.kernel-state.result.now c.deref-3.result.now (c.in_ok-stop.ensures.turns ∙ ap Some (sym c.kernel-state.ensures))

pub read-requires-clause-all : goal.read-requires-clause-all
read-requires-clause-all g c =
    let v = g.M.Machine.view in
    let o = c.self.inside.origin.now in
    led_long g.M.Machine.call_of g.M.Machine.next_of (v o.init) (v o.shell) o.stdin.now o.files.now c.kernel-state.result.now c.deref-3.result.now (c.in_ok-stop.ensures.turns ∙ ap Some (sym c.kernel-state.ensures))

pub invariant_of-result : goal.invariant_of-result
invariant_of-result g c =
    let v = g.M.Machine.view in
    let o = c.self.inside.origin.now in
    let start = start_kernel (v o.init) (v o.shell) o.stdin.now o.files.now in
    let same = c.of-kernel.ensures ∙ c.kernel-state.ensures in
    record {
      room = c.self.invariant.room;
      turns = subst (λ (l : List ℕ). after_turns g.M.Machine.call_of g.M.Machine.next_of start l ≡ Some c.in_ok-stop.stop.now.now) c.deref-3.ensures.value c.in_ok-stop.ensures.turns ∙ ap Some (sym same);
      look = c.in_ok-look.ensures ∙ ap key (sym c.of-kernel.ensures);
      idle = ap (λ (k : KernelState g.row.M-State.Denot). count_by is_running k.table) same ∙ c.in_ok-stop.ensures.idle;
      busy = λ yes. absurd (let z : ⊥ = cc in z);
    }

pub returns : goal.returns
returns g c =
    let v = g.M.Machine.view in
    let call = g.M.Machine.call_of in
    let next = g.M.Machine.next_of in
    let o = c.self.inside.origin.now in
    let start = start_kernel (v o.init) (v o.shell) o.stdin.now o.files.now in
    let m : KernelState g.row.M-State.Denot = c.of-kernel.result.value in
    let items : c.in_ok-pids.pids.items ≡ c.self.inside.pids.items ++ c.args.pid ∷ [] = c.in_ok-pids.ensures ∙ ap (λ (l : List ℕ). l ++ c.args.pid ∷ []) c.deref.ensures.value in
    let longer : after_turns call next start (c.self.inside.pids.items ++ c.args.pid ∷ []) ≡ Some m =
    subst (λ (l : List ℕ). after_turns call next start l ≡ Some c.in_ok-stop.stop.now.now) (c.deref-3.ensures.value ∙ items) c.in_ok-stop.ensures.turns ∙ ap Some (sym (c.of-kernel.ensures ∙ c.kernel-state.ensures)) in
    let led : after_turn call next c.self.inside.kernel.value c.args.pid ≡ Some m = last_turn call next start c.self.inside.kernel.value m c.self.inside.pids.items c.args.pid c.self.invariant.turns longer in
    subst (λ (n : Led g.row.M-State.Denot). after_turn call next n.now c.args.pid ≡ Some m) c.self.view_is led
