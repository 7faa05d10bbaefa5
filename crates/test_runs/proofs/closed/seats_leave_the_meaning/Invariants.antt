-- The script that is named is the one that is given.
use Rattle.script_load.specs.Line.{lines_of}
use Rattle.test_runs.proofs.closed.seats_leave_the_meaning.Given as goal

abbrev pub ghosts-run_named : goal.ghosts-run_named
ghosts-run_named g a = record { script = lines_of a.setting.now.script.now.lines }
