-- A line of a script as plain data, whatever allocator holds it.
use Rattle.std.specs.Prelude.{ℕ, List, map}
use Rattle.sh_tree.specs.declared.fault.ParseFault.{ParseFault}
use Rattle.sh_tree.specs.Tree.{Tree, tree_of}
use Rattle.script_load.specs.declared.line.Line.{Line}
use Rattle.script_load.specs.declared.line.Line.TheVariants.{Tree as Tree', Bad, Cd}
use Rattle.script_load.specs.declared.line.Lines.{Lines}

pub data ScriptLine : Type 0 where
  -- a command
  command : Tree → ScriptLine
  -- no command, for this reason, and the whole line
  bad : ParseFault → List ℕ → ScriptLine
  -- the text after `cd `
  cd : List ℕ → ScriptLine

abbrev pub line_of : {A : _} → Line A → ScriptLine
line_of (Tree' tree) = command (tree_of tree)
line_of (Bad fault text) = bad fault text
line_of (Cd text) = cd text

abbrev pub lines_of : {A : _} → Lines A → List ScriptLine
lines_of lines = map line_of lines.items.items
