-- The script that is named is the one that is given.
use Rattle.script_load.specs.Line.{lines_of}
use Rattle.order_partings.proofs.parting.deed_at.Given as goal

abbrev pub ghosts-deed_named : goal.ghosts-deed_named
ghosts-deed_named a = record { script = lines_of a.setting.now.script.now.lines }
