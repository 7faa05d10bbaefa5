use Rattle.std.proofs.Common.{◌≤◌, sym, subst, map, arith}
use Rattle.proc_table.specs.declared.pid.TheConstants.{PROCS}
use Rattle.kernel_model.specs.KernelState.{KernelState}
use Rattle.kernel_model.specs.Boot.{boot_kernel}
use Rattle.kernel_model.specs.Begun.{IsBegun}
use Rattle.order_search.specs.Room.{HasAhead}
use Rattle.order_search.specs.Told.{outcome_by}
use Rattle.order_search.specs.Exploring.{ExploresAfter}
use Rattle.order_search.proofs.Leading.{start_is}
use Rattle.every_order.proofs.Passing.{passes}
use Rattle.every_order.proofs.going_on.explore_after.Goals as goal

enough : PROCS ≤ PROCS
enough = omega arith

pub explore_after-requires : goal.explore_after-requires
explore_after-requires g c =
    let v = g.M.Machine.view in
    let o = c.args.origin.now in
    subst (HasAhead g.M.Machine.call_of g.M.Machine.next_of o.ahead) (sym (start_is (v o.init) (v o.shell) o.stdin.now o.files.now)) c.requires

pub returns-clause-told : goal.returns-clause-told
returns-clause-told g c =
    let S = g.row.M-State.Denot in
    let call = g.M.Machine.call_of in
    let next = g.M.Machine.next_of in
    let v = g.M.Machine.view in
    let o = c.args.origin.now in
    let pids = c.args.pids.now in
    let boot : KernelState S = boot_kernel (v o.init) (v o.shell) o.stdin.now o.files.now in
    let search = c.what_a_search_found_is_explored.ensures in
    passes c.explore_after.result _ _
    (λ found e.
    let x : ExploresAfter call next boot pids found = subst (λ (k : KernelState S). ExploresAfter call next k pids found) (start_is (v o.init) (v o.shell) o.stdin.now o.files.now) e in
    let now = x.start in
    let seen = x.explores.seen in
    let begun : IsBegun call next now = record { init = v o.init; shell = v o.shell; input = o.stdin.now; files = o.files.now; are = c.are_files.ensures; pids = pids; turns = x.turns } in
    record {
      now = now;
      turns = x.turns;
      tells = record {
        sound = x.explores.tells.replayed;
        apart = x.explores.tells.apart;
        complete = λ whole. c.what_was_explored_is_every_outcome.ensures now (map outcome_by found.outcomes.items) begun (search.explored now seen (map outcome_by found.outcomes.items) (search.enough PROCS now seen begun enough x.explores.reached (x.explores.reduced whole)) x.explores.tells.of);
        asleep = x.explores.asleep;
        awake = λ whole none. c.no_run_is_stuck_if_each_kernel_can_do_something.ensures now seen begun (search.enough PROCS now seen begun enough x.explores.reached (x.explores.reduced whole)) (x.explores.busy none);
      };
    })
    c.explore_after.ensures.explores
