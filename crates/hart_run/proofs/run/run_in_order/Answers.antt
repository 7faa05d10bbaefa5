use Rattle.script_load.specs.Line.{lines_of}
use Rattle.law_runs.proofs.never_stuck.Turns.{spends_turns}
use Rattle.hart_run.proofs.run.run_in_order.Goals as goal

pub returns-clause-turns_spent : goal.returns-clause-turns_spent
returns-clause-turns_spent g c = λ is plain.
    let s = c.run_in_order.ensures.spent is in
    (s, spends_turns c.args.script.now.profile (lines_of c.args.script.now.lines) c.args.stdin.now c.args.files.now c.args.turns c.are_files.ensures plain s)
