-- One turn more.
use Rattle.std.proofs.Common.{◌≡◌, ◌<◌, ◌+◌, List, ℕ, Some, true, sym, ap, subst, ◌∙◌, arith, rules}
use Rattle.kernel_model.specs.KernelState.{KernelState}
use Rattle.kernel_model.specs.Turns.{after_turn, after_turns}
use Rattle.order_search.specs.Led.{start_kernel, IsStop}
use Rattle.order_search.proofs.Leading.{led_on}
use Rattle.order_search.proofs.trail.Stop.turn.Goals as goal

pub invariant_of-self-2 : goal.invariant_of-self-2
invariant_of-self-2 g c = λ whole.
    let v = g.M.Machine.view in
    let call = g.M.Machine.call_of in
    let next = g.M.Machine.next_of in
    let o = c.self.inside.origin.now in
    let start : KernelState g.row.M-State.Denot = start_kernel (v o.init) (v o.shell) o.stdin.now o.files.now in
    let k : KernelState g.row.M-State.Denot = c.self.inside.kernel.value in
    let m : KernelState g.row.M-State.Denot = c.turn_by.new.state in
    let was_whole : c.self.inside.whole ≡ true = search rules in
    let was : IsStop call next start c.self.inside.pids.items k = c.self.invariant was_whole in
    let turn : after_turn call next k c.args.pid ≡ Some m = subst (λ (j : KernelState g.row.M-State.Denot). after_turn call next j c.args.pid ≡ Some m) c.deref_mut.ensures.value c.in_ok-turn_by.ensures.turn in
    let events : m.events ≡ k.events + 2 = c.in_ok-turn_by.ensures.events ∙ ap (λ (j : KernelState g.row.M-State.Denot). j.events + 2) c.deref_mut.ensures.value in
    let under : k.events < 2000000000 = search rules in
    record {
      turns = subst (λ (l : List ℕ). after_turns call next start l ≡ Some m) (sym c.in_ok-push_pid.ensures) (led_on call next start k m c.self.inside.pids.items c.args.pid was.turns turn);
      few = omega (arith, events, under);
      idle = c.in_ok-turn_by.ensures.idle;
      sound = c.in_ok-turn_by.ensures.sound;
    }
