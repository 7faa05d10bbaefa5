-- A process that was woken sleeps no more, and none sleeps on the channel at the end.
use Rattle.std.proofs.Common.{◌≤◌, ◌∙◌, ap, refl, sym, subst, arith}
use Rattle.std.specs.Prelude.{count_by}
use Rattle.std.proofs.lemmas.List.Sums.{count_by-le-length}
use Rattle.proc_table.specs.Calls.{all_woken}
use Rattle.proc_table.specs.Slots.{is_asleep_on}
use Rattle.proc_table.proofs.Kept.{awake, none_asleep, one_fewer, one_woken}
use Rattle.proc_table.proofs.table.Procs.wake_all.Goals as goal

pub loop-pid-init : goal.loop-pid-init
loop-pid-init g c =
    let channel = c.args.channel.now in
    let few : count_by (is_asleep_on channel) c.args.self.now ≤ 64 =
    subst (λ t. count_by (is_asleep_on channel) t ≤ 64) c.self.view_is (omega (arith, count_by-le-length (is_asleep_on channel) c.self.inside.slots.items, c.self.invariant.all)) in
    record { rest = refl; count = omega arith; few = few }

pub loop-pid-preserved : goal.loop-pid-preserved
loop-pid-preserved g c =
    let channel = c.args.channel.now in
    let here = c.loop-pid.self in
    let fewer = one_fewer channel here c.in-Some.pid c.in-Some.ensures.some in
    let same = ap (count_by (is_asleep_on channel)) c.set_status.ensures in
    record {
      rest = ap (all_woken channel) c.set_status.ensures ∙ one_woken channel here c.in-Some.pid c.in-Some.ensures.some ∙ c.loop-pid.invariant.rest;
      count = omega (arith, fewer, same, c.loop-pid.invariant.count);
      few = c.loop-pid.invariant.few;
    }

pub returns-clause-woken : goal.returns-clause-woken
returns-clause-woken g c = sym (awake c.args.channel.now c.loop-pid.self c.in_default.ensures.none) ∙ c.loop-pid.invariant.rest

pub returns-clause-count : goal.returns-clause-count
returns-clause-count g c = omega (arith, none_asleep c.args.channel.now c.loop-pid.self c.in_default.ensures.none, c.loop-pid.invariant.count)
