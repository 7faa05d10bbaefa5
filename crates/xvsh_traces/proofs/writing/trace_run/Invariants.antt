-- The script that is named is the one that is given.
use Rattle.script_load.specs.Line.{lines_of}
use Rattle.xvsh_traces.proofs.writing.trace_run.Given as goal

abbrev pub ghosts-write_named : goal.ghosts-write_named
ghosts-write_named g a = record { script = lines_of a.start.now.script.lines }
