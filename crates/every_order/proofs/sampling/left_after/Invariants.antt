-- The script that is named is the one that is given.
use Rattle.script_load.specs.Line.{lines_of}
use Rattle.every_order.proofs.sampling.left_after.Given as goal

abbrev pub ghosts-left_named : goal.ghosts-left_named
ghosts-left_named g a = record { script = lines_of a.setting.now.script.now.lines }
