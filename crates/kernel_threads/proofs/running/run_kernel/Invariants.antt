-- The run that is named is the one of this kernel.
use Rattle.kernel_threads.specs.Boots.{number_of}
use Rattle.kernel_threads.proofs.running.run_kernel.Given as goal

abbrev pub ghosts-run_as-N-Ledger : goal.ghosts-run_as-N-Ledger
ghosts-run_as-N-Ledger g a = record { name = a.blank.name; parts = a.blank.parts }

abbrev pub ghosts-run_as-N-Run : goal.ghosts-run_as-N-Run
ghosts-run_as-N-Run g a = record { boot = number_of g.M.Machine.code a.kernel.boot; harts = a.way.harts; turns = a.way.turns }
