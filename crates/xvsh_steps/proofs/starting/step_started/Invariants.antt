-- The script that is named is the one that was read.
use Rattle.script_load.specs.Line.{lines_of}
use Rattle.xvsh_steps.proofs.starting.step_started.Given as goal

abbrev pub ghosts-step_named : goal.ghosts-step_named
ghosts-step_named g a = record { script = lines_of a.start.now.script.lines }
