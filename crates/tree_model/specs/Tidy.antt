-- What is tidy: a command whose sides come upon each other at no file, and what is left of one, with its open files in place.
use Rattle.std.specs.Prelude.{◌≡◌, ◌≤◌, true, false, List, [], ◌∷◌, length, Option, Some, None}
use Rattle.sh_tree.specs.Tree.{Tree, exec, redir, pipe, list, back}
use Rattle.mem_files.specs.Name.{Name, Bytes}
use Rattle.mem_files.specs.Files.{FileMap}
use Rattle.prog_parts.specs.declared.program.Program.{Program}
use Rattle.conflict_check.specs.Clear.{has_back, IsClear}
use Rattle.script_load.specs.Line.{ScriptLine}
use Rattle.meaning_model.specs.Meaning.{script_tree}
use Rattle.tree_model.specs.Waits.{BeginsShort, Waits}
use Rattle.tree_model.specs.Fits.{Fits}
use Rattle.tree_model.specs.Residual.{alone, Residual, done, todo, running, seq, piped, unopened, from, into, Position, byte_in, left_names, left_writes, keeps_0}

-- commands short enough that each program does what its function says: echo writes an argument by one call, and tee holds at
-- most 16 files
abbrev pub IsShortCommand : List Bytes → Type 0
IsShortCommand [] = Unit {0}
IsShortCommand (word ∷ arguments) = (program : Program) → BeginsShort program arguments

abbrev pub HasShortCommands : Tree → Type 0
HasShortCommands (exec words) = IsShortCommand words
HasShortCommands (redir mode file body) = HasShortCommands body
HasShortCommands (pipe left right) = HasShortCommands left × HasShortCommands right
HasShortCommands (list left right) = HasShortCommands left × HasShortCommands right
HasShortCommands (back body) = HasShortCommands body

-- a clear tree of short commands
abbrev pub IsTidyTree : Tree → Type 0
IsTidyTree tree = IsClear tree × HasShortCommands tree

-- a script whose commands can't come upon each other at a file, of which none runs behind &, and whose commands are short
pub record IsClearScript (lines : List ScriptLine) : Type 0 where
  pub no_back : has_back (script_tree lines) ≡ false
  pub clear : IsClear (script_tree lines)
  pub short : HasShortCommands (script_tree lines)

-- the file is there, and this position is within its bytes or at their end
abbrev pub IsThere : Option Bytes → Position → Type 0
IsThere None at = ⊥
IsThere (Some bytes) at = byte_in at bytes ≤ length bytes

-- so with what is left of one: its programs wait for the replies to their calls, their files and those of redirections go on
-- within their bytes or at their end, and a pipe that lost a write has no reader
abbrev pub IsTidy : Residual → FileMap → Type 0
IsTidy done F = Unit {0}
IsTidy (todo tree) F = IsTidyTree tree
IsTidy (running run) F = Waits run.turn.next run.turn.call (alone run F) × Fits run.turn.next (alone run F)
IsTidy (seq X later) F = IsTidy X F × IsTidyTree later
IsTidy (piped lost X bytes Y) F =
    IsTidy X F × IsTidy Y F
    × ((name : Name) → left_writes X name ≡ true → left_names Y name ≡ false)
    × ((name : Name) → left_writes Y name ≡ true → left_names X name ≡ false)
    × (lost ≡ true → keeps_0 Y ≡ false)
IsTidy (unopened mode file body) F = IsTidyTree (redir mode file body)
IsTidy (from file at X) F = IsTidy X F × (left_writes X file ≡ false)
IsTidy (into file at X) F = IsTidy X F × (left_names X file ≡ false) × IsThere (F file) at
