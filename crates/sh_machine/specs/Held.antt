-- What a shell may call, whatever it is answered, and the calls of a whole script.
use Rattle.std.specs.Prelude.{◌≡◌, ℕ, List, [], ◌∷◌, ◌++◌, Contains, codes}
use Rattle.script_load.specs.Line.{ScriptLine, command, bad, cd}
use Rattle.user_calls.specs.declared.calls.Call.{Call}
use Rattle.user_calls.specs.declared.calls.Call.TheVariants.{Fork, Exec, Exit, Wait, MakePipe, Read, Write, OpenFile, Close, Dup}
use Rattle.user_calls.specs.declared.calls.Reply.{Reply}
use Rattle.user_calls.specs.declared.calls.Reply.TheVariants.{Start, Child, Done, Bytes, Fd, Ends, Refused}
use Rattle.user_progs.specs.Turn.{block}
use Rattle.sh_machine.specs.declared.state.Side.{Side}
use Rattle.sh_machine.specs.declared.state.Side.TheVariants.{Closes, Dups, ClosesReader, ClosesWriter}
use Rattle.sh_machine.specs.State.{Parent, makes, forks_writer, forks_reader, closes_reader, closes_writer, waits_first, waits_second, Shell, top, unknown, closes_old, opens_file, forks_left, waits_left, pipes, side, forks_back, told, ended}
use Rattle.sh_machine.specs.Turn.{Next, stays, becomes}

-- the ends of its pipe that the process which made it may still close
abbrev pub held_by_parent : Parent → List ℕ
held_by_parent (makes left right) = []
held_by_parent (forks_writer left right reader writer) = reader ∷ writer ∷ []
held_by_parent (forks_reader right reader writer) = reader ∷ writer ∷ []
held_by_parent (closes_reader writer) = writer ∷ []
held_by_parent closes_writer = []
held_by_parent waits_first = []
held_by_parent waits_second = []

-- or one of its children, which may duplicate one of them, too
abbrev pub held_by_side : Side → List ℕ
held_by_side (Closes kept reader writer) = kept ∷ reader ∷ writer ∷ []
held_by_side (Dups reader writer) = reader ∷ writer ∷ []
held_by_side (ClosesReader writer) = writer ∷ []
held_by_side ClosesWriter = []

-- or any shell
abbrev pub held_by : Shell → List ℕ
held_by (top phase lines) = []
held_by (unknown name) = []
held_by (closes_old mode file body) = []
held_by (opens_file file body) = []
held_by (forks_left left right) = []
held_by (waits_left right) = []
held_by (pipes parent) = held_by_parent parent
held_by (side at tree) = held_by_side at
held_by (forks_back body) = []
held_by told = []
held_by ended = []

-- what a shell goes on as
abbrev pub held_next : Next → List ℕ
held_next (stays at) = held_by at
held_next (becomes state) = []

-- the ends of a pipe that was just made
abbrev pub ends_of : Reply → List ℕ
ends_of Start = []
ends_of Child = []
ends_of Done = []
ends_of (Bytes bytes) = []
ends_of (Fd fd) = []
ends_of (Ends reader writer) = reader ∷ writer ∷ []
ends_of Refused = []

-- a shell in this state may make this call
abbrev pub MayCall : Shell → Call → Type 0
MayCall at Fork = Unit {0}
MayCall at (Exec found) = Unit {0}
MayCall at Exit = Unit {0}
MayCall at Wait = Unit {0}
MayCall at MakePipe = Unit {0}
MayCall at (Read fd count) = ⊥
MayCall at (Write fd bytes) = fd ≡ 2
MayCall at (OpenFile name mode) = Unit {0}
MayCall at (Close fd) = Contains (0 ∷ 1 ∷ held_by at) fd
MayCall at (Dup fd) = Contains (held_by at) fd

-- the top shell's calls for a line
abbrev pub calls_of_line : ScriptLine → List Call
calls_of_line (command tree) = Fork ∷ Wait ∷ []
calls_of_line (bad fault text) = Fork ∷ Wait ∷ []
calls_of_line (cd text) = Write 2 (block (codes "cannot cd " ++ (text ++ 10 ∷ []))) ∷ []

-- and for lines
abbrev pub calls_of_lines : List ScriptLine → List Call
calls_of_lines [] = []
calls_of_lines (line ∷ later) = calls_of_line line ++ calls_of_lines later
