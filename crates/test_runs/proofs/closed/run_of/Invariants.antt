-- The run that is named is the one of this script's kernel, on two harts.
use Rattle.script_load.specs.Line.{lines_of}
use Rattle.sh_machine.specs.Codes.{user_code}
use Rattle.run_model.specs.ScriptRun.{script_kernel}
use Rattle.kernel_threads.specs.Boots.{number_of}
use Rattle.test_runs.proofs.closed.run_of.Given as goal

abbrev pub ghosts-run_by_seats-N-Ledger : goal.ghosts-run_by_seats-N-Ledger
ghosts-run_by_seats-N-Ledger g a = record { name = a.blank.name; parts = a.blank.parts }

abbrev pub ghosts-run_by_seats-N-Run : goal.ghosts-run_by_seats-N-Run
ghosts-run_by_seats-N-Run g a = record { boot = number_of user_code (script_kernel a.setting.now.script.now.profile (lines_of a.setting.now.script.now.lines) a.setting.now.stdin.now a.setting.now.files.now); harts = 2; turns = 1000 }
