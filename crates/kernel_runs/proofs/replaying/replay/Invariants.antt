-- The script that is named is the one that is given.
use Rattle.script_load.specs.Line.{lines_of}
use Rattle.kernel_runs.proofs.replaying.replay.Given as goal

abbrev pub ghosts-replay_named : goal.ghosts-replay_named
ghosts-replay_named g a = record { script = lines_of a.setting.now.script.now.lines }
