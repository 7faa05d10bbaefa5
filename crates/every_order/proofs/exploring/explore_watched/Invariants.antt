-- The script that is named is the one that is given.
use Rattle.script_load.specs.Line.{lines_of}
use Rattle.every_order.proofs.exploring.explore_watched.Given as goal

abbrev pub ghosts-explore_named : goal.ghosts-explore_named
ghosts-explore_named g a = record { script = lines_of a.setting.now.script.now.lines }
