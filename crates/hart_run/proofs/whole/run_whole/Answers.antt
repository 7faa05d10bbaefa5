use Rattle.std.proofs.Common.{◌≡◌, ◌+◌, arith}
use Rattle.mem_files.specs.Files.{files}
use Rattle.script_load.specs.Line.{lines_of}
use Rattle.step_bounds.specs.Most.{most_events}
use Rattle.hart_run.proofs.Spending.{filled, refused}
use Rattle.hart_run.proofs.whole.run_whole.Goals as goal

pub returns-clause-spent : goal.returns-clause-spent
returns-clause-spent g c = λ is plain clear enough.
    let script = c.args.script.now in
    let lines = lines_of script.lines in
    let most = most_events lines c.args.stdin.now (files c.args.store.now) + 2 in
    let same : c.turns_for-turns.result ≡ most = c.turns_for-turns.ensures.enough enough in
    filled script.profile lines c.args.stdin.now c.args.store.now c.turns_for-turns.result c.are_files.ensures script.small plain clear (c.run_one.ensures.spent is) (omega (arith, same))

pub returns-clause-ends : goal.returns-clause-ends
returns-clause-ends g c = λ is plain clear roomy enough.
    let script = c.args.script.now in
    refused script.profile (lines_of script.lines) c.args.stdin.now c.args.store.now c.are_files.ensures script.small plain clear roomy (returns-clause-spent g c is plain clear enough)
