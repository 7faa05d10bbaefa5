-- The script that is named is the one that is given.
use Rattle.script_load.specs.Line.{lines_of}
use Rattle.play_page.proofs.making.play_page.Given as goal

abbrev pub ghosts-page_named : goal.ghosts-page_named
ghosts-page_named g a = record { script = lines_of a.setting.now.script.now.lines }
