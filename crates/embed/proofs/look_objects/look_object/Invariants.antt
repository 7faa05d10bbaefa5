-- The script that is named is the one that is given.
use Rattle.script_load.specs.Line.{lines_of}
use Rattle.embed.proofs.look_objects.look_object.Given as goal

abbrev pub ghosts-look_named : goal.ghosts-look_named
ghosts-look_named a = record { script = lines_of a.begun.now.script.lines }
