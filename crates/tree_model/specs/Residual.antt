-- What is left to do of a command: its tree, cut up as far as it has been begun (own; xv6 keeps it in its processes).
use Rattle.std.specs.Prelude.{ℕ, ◌+◌, Bool, true, false, not, ◌||◌, List, [], length}
use Rattle.std.specs.Str.{bytes_eq}
use Rattle.sh_tree.specs.declared.tree.Mode.{Mode}
use Rattle.sh_tree.specs.declared.tree.Mode.TheVariants.{Input, Fresh, Over}
use Rattle.sh_tree.specs.Tree.{Tree, redir}
use Rattle.mem_files.specs.Name.{Name, Bytes}
use Rattle.mem_files.specs.Files.{FileMap, no_files}
use Rattle.prog_parts.specs.NameSets.{Names}
use Rattle.conflict_check.specs.Names.{names, writes, uses_input}
use Rattle.user_progs.specs.Turn.{Turn}
use Rattle.tree_model.specs.Ahead.{still_uses}
use Rattle.tree_model.specs.Alone.{OwnFile, World}
use Rattle.tree_model.specs.Frame.{depends_on, may_change}

-- a program that made a call: the call and the state in which it waits for the reply, its own open files, and how many
-- bytes of the call were put so far, where it is a write
pub record Running : Type 0 where
  pub turn : Turn
  pub own : List OwnFile
  pub put : ℕ

-- what it has before it: over some input, and over none
abbrev pub world_of : Running → Bytes → FileMap → World
world_of run input F = record { own = run.own; input = input; files = F }

abbrev pub alone : Running → FileMap → World
alone run F = world_of run [] F

-- where a redirection of the output writes next: at a byte of its file, or where the file ends at that time
pub data Position : Type 0 where
  at_byte : ℕ → Position
  at_file_end : Position

-- that byte, in a file that holds this; and the position behind so many bytes that were written
abbrev pub byte_in : Position → Bytes → ℕ
byte_in (at_byte n) held = n
byte_in at_file_end held = length held

abbrev pub moved_on : Position → ℕ → Position
moved_on (at_byte n) count = at_byte (n + count)
moved_on at_file_end count = at_file_end

pub data Residual : Type 0 where
  -- nothing is left
  done : Residual
  -- a command that was not begun
  todo : Tree → Residual
  -- a program that runs
  running : Running → Residual
  -- the left side of a list, and then a command
  seq : Residual → Tree → Residual
  -- the sides of a pipe with the bytes in it; and whether a write of the left side was ever refused
  piped : Bool → Residual → Bytes → Residual → Residual
  -- a redirection that gave up its old descriptor and has not opened its file
  unopened : Mode → Name → Tree → Residual
  -- a command whose input is the file of this name, from this byte on
  from : Name → ℕ → Residual → Residual
  -- a command whose output is the file of this name, from this position on
  into : Name → Position → Residual → Residual

-- the names of what is left: those of its trees and redirections, and those that its programs may still open or hold open
abbrev pub left_names : Residual → Names
left_names done name = false
left_names (todo tree) name = names tree name
left_names (running run) name = depends_on run.turn.next (alone run no_files) name
left_names (seq first later) name = left_names first name || names later name
left_names (piped lost left bytes right) name = left_names left name || left_names right name
left_names (unopened mode file body) name = names (redir mode file body) name
left_names (from file at body) name = bytes_eq name file || left_names body name
left_names (into file at body) name = bytes_eq name file || left_names body name

-- of these, those that it may still write
abbrev pub left_writes : Residual → Names
left_writes done name = false
left_writes (todo tree) name = writes tree name
left_writes (running run) name = may_change run.turn.next (alone run no_files) name
left_writes (seq first later) name = left_writes first name || writes later name
left_writes (piped lost left bytes right) name = left_writes left name || left_writes right name
left_writes (unopened mode file body) name = writes (redir mode file body) name
left_writes (from file at body) name = left_writes body name
left_writes (into file at body) name = bytes_eq name file || left_writes body name

-- whether some program still reads the input
abbrev pub left_uses : Residual → Bool
left_uses done = false
left_uses (todo tree) = uses_input tree
left_uses (running run) = still_uses run.turn.next
left_uses (seq first later) = left_uses first || uses_input later
left_uses (piped lost left bytes right) = left_uses left
left_uses (unopened mode file body) = uses_input (redir mode file body)
left_uses (from file at body) = false
left_uses (into file at body) = left_uses body

-- a redirection gives up descriptor 0 where its file is read, and 1 where it is written
abbrev pub gives_up_0 : Mode → Bool
gives_up_0 Input = true
gives_up_0 Fresh = false
gives_up_0 Over = false

-- whether descriptor 0 is still held: where the right side of a pipe no longer holds it, no process reads the pipe
abbrev pub keeps_0 : Residual → Bool
keeps_0 done = false
keeps_0 (todo tree) = true
keeps_0 (running run) = true
keeps_0 (seq first later) = true
keeps_0 (piped lost left bytes right) = true
keeps_0 (unopened mode file body) = not (gives_up_0 mode)
keeps_0 (from file at body) = false
keeps_0 (into file at body) = keeps_0 body

-- whether descriptor 1 is still held: where the left side of a pipe no longer holds it, no process writes to the pipe
abbrev pub keeps_1 : Residual → Bool
keeps_1 done = false
keeps_1 (todo tree) = true
keeps_1 (running run) = true
keeps_1 (seq first later) = true
keeps_1 (piped lost left bytes right) = true
keeps_1 (unopened mode file body) = gives_up_0 mode
keeps_1 (from file at body) = keeps_1 body
keeps_1 (into file at body) = false
