-- How many events a run of a script has at most before it is finished (own).
use Rattle.std.specs.Prelude.{ℕ, ◌+◌, ◌*◌, List}
use Rattle.mem_files.specs.Name.{Bytes}
use Rattle.mem_files.specs.Files.{FileMap}
use Rattle.script_load.specs.Line.{ScriptLine}
use Rattle.tree_model.specs.Bound.{most_steps}

-- fifteen calls for each step of the tree machine, and 260 events for each call
abbrev pub most_events : List ScriptLine → Bytes → FileMap → ℕ
most_events lines input F = 192 + 260 * (15 * most_steps lines input F)
