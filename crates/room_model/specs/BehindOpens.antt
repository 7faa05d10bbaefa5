-- How many open-file entries of a script are in use at most, whatever its order, also where a command runs behind `&`: no more than it
-- comes to use in all, with those of the standard input, the standard output and the diagnostics, which are open from its start.
use Rattle.std.specs.Prelude.{ℕ, ◌+◌, List}
use Rattle.script_load.specs.Line.{ScriptLine}
use Rattle.meaning_model.specs.Meaning.{script_tree}
use Rattle.room_model.specs.Opens.{most_opens}

abbrev pub opens_in_all : List ScriptLine → ℕ
opens_in_all lines = 3 + most_opens (script_tree lines)
