-- The script that is named is the one that is given.
use Rattle.script_load.specs.Line.{lines_of}
use Rattle.xvsh_traces.proofs.diagnostics.lined.Given as goal

abbrev pub ghosts-marks_of : goal.ghosts-marks_of
ghosts-marks_of a = record { script = lines_of a.start.now.script.lines }
