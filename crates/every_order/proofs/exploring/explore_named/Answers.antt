use Rattle.std.proofs.Common.{◌≤◌, sym, subst, ◌∙◌, map, arith}
use Rattle.proc_table.specs.declared.pid.TheConstants.{PROCS}
use Rattle.std.specs.Prelude.{All, IfSome}
use Rattle.kernel_model.specs.KernelState.{KernelState}
use Rattle.script_load.specs.Line.{lines_of}
use Rattle.sh_machine.specs.State.{User}
use Rattle.sh_machine.specs.Turn.{call_of, next_of}
use Rattle.sh_machine.specs.View.{user_of}
use Rattle.run_model.specs.ScriptRun.{script_kernel}
use Rattle.order_search.specs.Room.{HasAhead}
use Rattle.order_search.specs.Told.{outcome_by, IsReplayed, LeadsToSleep}
use Rattle.order_search.specs.Exploring.{Explores}
use Rattle.order_search.proofs.Leading.{start_is}
use Rattle.every_order.proofs.Passing.{passes}
use Rattle.every_order.proofs.exploring.explore_named.Goals as goal

enough : PROCS ≤ PROCS
enough = omega arith

pub explore_from-requires : goal.explore_from-requires
explore_from-requires g c =
    let o = c.origin_of-origin.result in
    subst (HasAhead call_of next_of o.ahead) (sym (start_is (user_of o.init) (user_of o.shell) o.stdin.now o.files.now)) c.origin_of-origin.ensures.ahead

pub returns-clause-sound : goal.returns-clause-sound
returns-clause-sound g c =
    let profile = c.args.setting.now.script.now.profile in
    let lines = lines_of c.args.setting.now.script.now.lines in
    let o = c.origin_of-origin.result in
    let same = start_is (user_of o.init) (user_of o.shell) o.stdin.now o.files.now ∙ c.origin_of-origin.ensures.begins in
    passes c.explore_from.result _ _ (λ found e. subst (λ (start : KernelState User). All (IsReplayed call_of next_of start) found.outcomes.items) same e.tells.replayed) c.explore_from.ensures.explores

pub returns-clause-apart : goal.returns-clause-apart
returns-clause-apart g c = passes c.explore_from.result _ _ (λ found e. e.tells.apart) c.explore_from.ensures.explores

pub returns-clause-complete : goal.returns-clause-complete
returns-clause-complete g c =
    let profile = c.args.setting.now.script.now.profile in
    let lines = lines_of c.args.setting.now.script.now.lines in
    let input = c.args.setting.now.stdin.now in
    let list = c.args.setting.now.files.now in
    let start : KernelState User = script_kernel profile lines input list in
    let o = c.origin_of-origin.result in
    let same = start_is (user_of o.init) (user_of o.shell) o.stdin.now o.files.now ∙ c.origin_of-origin.ensures.begins in
    let search_law = c.what_a_search_found_is_explored.ensures in
    passes c.explore_from.result _ _
    (λ found e whole.
    let x : Explores call_of next_of start start found = subst (λ (k : KernelState User). Explores call_of next_of k k found) same e in
    let begun = c.a_script_begins_at_a_boot.ensures profile lines input list c.are_files.ensures in
    let all = search_law.enough PROCS start x.seen begun enough x.reached (x.reduced whole) in
    c.what_was_explored_is_every_outcome.ensures start (map outcome_by found.outcomes.items) begun (search_law.explored start x.seen (map outcome_by found.outcomes.items) all x.tells.of))
    c.explore_from.ensures.explores

pub returns-clause-awake : goal.returns-clause-awake
returns-clause-awake g c =
    let profile = c.args.setting.now.script.now.profile in
    let lines = lines_of c.args.setting.now.script.now.lines in
    let input = c.args.setting.now.stdin.now in
    let list = c.args.setting.now.files.now in
    let start : KernelState User = script_kernel profile lines input list in
    let o = c.origin_of-origin.result in
    let same = start_is (user_of o.init) (user_of o.shell) o.stdin.now o.files.now ∙ c.origin_of-origin.ensures.begins in
    passes c.explore_from.result _ _
    (λ found e whole none.
    let x : Explores call_of next_of start start found = subst (λ (k : KernelState User). Explores call_of next_of k k found) same e in
    let begun = c.a_script_begins_at_a_boot.ensures profile lines input list c.are_files.ensures in
    let all = c.what_a_search_found_is_explored.ensures.enough PROCS start x.seen begun enough x.reached (x.reduced whole) in
    c.no_run_is_stuck_if_each_kernel_can_do_something.ensures start x.seen begun all (x.busy none))
    c.explore_from.ensures.explores

pub returns-clause-asleep : goal.returns-clause-asleep
returns-clause-asleep g c =
    let profile = c.args.setting.now.script.now.profile in
    let lines = lines_of c.args.setting.now.script.now.lines in
    let o = c.origin_of-origin.result in
    let same = start_is (user_of o.init) (user_of o.shell) o.stdin.now o.files.now ∙ c.origin_of-origin.ensures.begins in
    passes c.explore_from.result _ _ (λ found e. subst (λ (start : KernelState User). IfSome found.stuck (λ pids. LeadsToSleep call_of next_of start pids.items)) same e.asleep) c.explore_from.ensures.explores
