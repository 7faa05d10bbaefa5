use Rattle.std.proofs.Common.{◌≡◌, ℕ, ◌<◌, List, Some, length, take, get_or, sym, ap, subst, ◌∙◌, arith, rules}
use Rattle.std.specs.Prelude.{count_by}
use Rattle.std.proofs.lemmas.List.{take_more}
use Rattle.proc_table.specs.Slots.{is_running}
use Rattle.kernel_model.specs.KernelState.{KernelState}
use Rattle.kernel_model.specs.Boot.{boot_kernel}
use Rattle.kernel_model.specs.Sound.{IsSound}
use Rattle.kernel_model.proofs.Booting.{boot_sound}
use Rattle.kernel_model.specs.Turns.{after_turns}
use Rattle.order_search.specs.Led.{start_kernel}
use Rattle.order_search.proofs.Leading.{start_is, led_on, boot_idle}
use Rattle.order_search.proofs.origin.remake.Goals as goal

pub loop-pid-init : goal.loop-pid-init
loop-pid-init g c =
    let v = g.M.Machine.view in
    let o = c.args.origin.now in
    let boot : KernelState g.row.M-State.Denot = boot_kernel (v o.init) (v o.shell) o.stdin.now o.files.now in
    let is : c.in_ok-state.state ≡ boot = c.in_ok-state.ensures ∙ (λ i. boot_kernel (c.twin.ensures i) (c.twin-2.ensures i) o.stdin.now o.files.now) in
    record {
      turns = ap Some (start_is (v o.init) (v o.shell) o.stdin.now o.files.now ∙ sym is);
      events = ap (λ (k : KernelState g.row.M-State.Denot). k.events) is;
      idle = ap (λ (k : KernelState g.row.M-State.Denot). count_by is_running k.table) is ∙ boot_idle (v o.init) (v o.shell) o.stdin.now o.files.now;
      sound = subst (λ (k : KernelState g.row.M-State.Denot). IsSound k.table k.entries) (sym is) (boot_sound (v o.init) (v o.shell) o.stdin.now o.files.now);
    }

pub loop-pid-preserved : goal.loop-pid-preserved
loop-pid-preserved g c =
    let v = g.M.Machine.view in
    let o = c.args.origin.now in
    let start : KernelState g.row.M-State.Denot = start_kernel (v o.init) (v o.shell) o.stdin.now o.files.now in
    let n : ℕ = c.loop-pid.pid-index in
    let within : n < length c.args.pids.now = search rules in
    let t = c.in_ok-turn_by.ensures in
    record {
      turns = subst (λ (l : List ℕ). after_turns g.M.Machine.call_of g.M.Machine.next_of start l ≡ Some c.turn_by.new.state) (sym (take_more c.args.pids.now n 0 within)) (led_on g.M.Machine.call_of g.M.Machine.next_of start c.loop-pid.state c.turn_by.new.state (take n c.args.pids.now) (get_or c.args.pids.now n 0) c.loop-pid.invariant.turns t.turn);
      events = omega (arith, t.events, c.loop-pid.invariant.events);
      idle = t.idle;
      sound = t.sound;
    }
