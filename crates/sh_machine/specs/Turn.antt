-- What init, the shell and the programs do with a reply (user/init.c, user/sh.c).
use Rattle.std.specs.Prelude.{ℕ, true, false, List, [], ◌∷◌, ◌++◌, drop, Option, Some, None, codes}
use Rattle.sh_tree.specs.declared.tree.Mode.{Mode}
use Rattle.sh_tree.specs.declared.tree.Mode.TheVariants.{Input, Fresh, Over}
use Rattle.sh_tree.specs.declared.fault.ParseFault.{ParseFault}
use Rattle.sh_tree.specs.declared.fault.ParseFault.TheVariants.{MissingFile, MissingParen, TooManyWords, Unexpected, Leftover, Memory}
use Rattle.sh_tree.specs.Tree.{Tree, exec, redir, pipe, list, back}
use Rattle.mem_files.specs.Name.{Bytes}
use Rattle.script_load.specs.declared.profile.Profile.{Profile}
use Rattle.script_load.specs.declared.profile.Profile.TheVariants.{Xv6, Append}
use Rattle.script_load.specs.Line.{ScriptLine, command, bad, cd}
use Rattle.user_calls.specs.declared.calls.Mode.{Mode as CallMode}
use Rattle.user_calls.specs.declared.calls.Mode.TheVariants.{Input as OpenInput, Fresh as OpenFresh, Over as OpenOver, Append as OpenAppend}
use Rattle.user_calls.specs.declared.calls.Call.{Call}
use Rattle.user_calls.specs.declared.calls.Call.TheVariants.{Fork, Exec, Exit, Wait, MakePipe, Write, OpenFile, Close, Dup}
use Rattle.user_calls.specs.declared.calls.Reply.{Reply}
use Rattle.user_calls.specs.declared.calls.Reply.TheVariants.{Start, Child, Done, Bytes as Bytes', Fd, Ends, Refused}
use Rattle.user_progs.specs.State.{State}
use Rattle.user_progs.specs.Turn.{block, turn}
use Rattle.user_progs.specs.View.{first_state}
use Rattle.sh_machine.specs.declared.state.Phase.{Phase}
use Rattle.sh_machine.specs.declared.state.Phase.TheVariants.{Starts, Forks, Waits, ToldCd}
use Rattle.sh_machine.specs.declared.state.Side.{Side}
use Rattle.sh_machine.specs.declared.state.Side.TheVariants.{Closes, Dups, ClosesReader, ClosesWriter}
use Rattle.sh_machine.specs.State.{Parent, makes, forks_writer, forks_reader, closes_reader, closes_writer, waits_first, waits_second, Shell, top, unknown, closes_old, opens_file, forks_left, waits_left, pipes, side, forks_back, told, ended, User, init, shell, program}

-- what a shell goes on as
pub data Next : Type 0 where
  stays : Shell → Next
  -- a program that was found takes the process over
  becomes : State → Next

pub record Turn : Type 0 where
  pub call : Call
  pub next : Next

abbrev pub calls : Call → Shell → Turn
calls call next = record { call = call; next = stays next }

abbrev pub exits : Turn
exits = calls Exit ended

-- a message is written to descriptor 2, and then the process exits
abbrev pub tells : Bytes → Turn
tells message = calls (Write 2 (block message)) told

-- what replies lead to; one that has no case ends the process

-- to a wait, a close, or a program that takes over
abbrev pub on_done : Reply → Turn → Turn
on_done Start then = exits
on_done Child then = exits
on_done Done then = then
on_done (Bytes' bytes) then = exits
on_done (Fd fd) then = exits
on_done (Ends reader writer) then = exits
on_done Refused then = exits

-- to an open, and to a dup
abbrev pub on_fd : Reply → Turn → Turn → Turn
on_fd Start then refused = exits
on_fd Child then refused = exits
on_fd Done then refused = exits
on_fd (Bytes' bytes) then refused = exits
on_fd (Fd fd) then refused = then
on_fd (Ends reader writer) then refused = exits
on_fd Refused then refused = refused

abbrev pub on_fork : Reply → Turn → Turn → Turn
on_fork Start parent child = exits
on_fork Child parent child = child
on_fork Done parent child = parent
on_fork (Bytes' bytes) parent child = exits
on_fork (Fd fd) parent child = exits
on_fork (Ends reader writer) parent child = exits
on_fork Refused parent child = tells (codes "fork\n")

abbrev pub on_pipe : Reply → Tree → Tree → Turn
on_pipe Start left right = exits
on_pipe Child left right = exits
on_pipe Done left right = exits
on_pipe (Bytes' bytes) left right = exits
on_pipe (Fd fd) left right = exits
on_pipe (Ends reader writer) left right = calls Fork (pipes (forks_writer left right reader writer))
on_pipe Refused left right = tells (codes "pipe\n")

-- to the call of a program that is unknown
abbrev pub on_unknown : Reply → Turn → Turn
on_unknown Start then = exits
on_unknown Child then = exits
on_unknown Done then = exits
on_unknown (Bytes' bytes) then = exits
on_unknown (Fd fd) then = exits
on_unknown (Ends reader writer) then = exits
on_unknown Refused then = then

-- the descriptor that a redirection replaces, and how it opens its file
abbrev pub old_fd : Mode → ℕ
old_fd Input = 0
old_fd Fresh = 1
old_fd Over = 1

abbrev pub over_mode : Profile → CallMode
over_mode Xv6 = OpenOver
over_mode Append = OpenAppend

abbrev pub call_mode : Profile → Mode → CallMode
call_mode profile Input = OpenInput
call_mode profile Fresh = OpenFresh
call_mode profile Over = over_mode profile

-- a program that is known takes the process over
abbrev pub execs_found : Option State → Bytes → Turn
execs_found None name = calls (Exec false) (unknown name)
execs_found (Some state) name = record { call = Exec true; next = becomes state }

-- a simple command
abbrev pub execs : List Bytes → Turn
execs [] = exits
execs (name ∷ arguments) = execs_found (first_state (name ∷ arguments)) name

-- a tree is run (`runcmd`)
abbrev pub runs : Tree → Turn
runs (exec words) = execs words
runs (redir mode file body) = calls (Close (old_fd mode)) (closes_old mode file body)
runs (pipe left right) = calls MakePipe (pipes (makes left right))
runs (list left right) = calls Fork (forks_left left right)
runs (back body) = calls Fork (forks_back body)

-- the message for a line that is no command
abbrev pub fault_text : ParseFault → Bytes → Bytes
fault_text (MissingFile at) text = codes "missing file for redirection\n"
fault_text (MissingParen at) text = codes "syntax - missing )\n"
fault_text (TooManyWords at) text = codes "too many args\n"
fault_text (Unexpected at) text = codes "syntax\n"
fault_text (Leftover at) text = codes "leftovers: " ++ (drop at text ++ 10 ∷ [])
fault_text Memory text = codes "no memory\n"

-- the child of a line
abbrev pub runs_line : ScriptLine → Turn
runs_line (command tree) = runs tree
runs_line (bad fault text) = tells (fault_text fault text)
runs_line (cd text) = exits

abbrev pub runs_first : List ScriptLine → Turn
runs_first [] = exits
runs_first (line ∷ later) = runs_line line

-- the top shell takes the first of these lines
abbrev pub takes_line : ScriptLine → List ScriptLine → Turn
takes_line (command tree) lines = calls Fork (top Forks lines)
takes_line (bad fault text) lines = calls Fork (top Forks lines)
takes_line (cd text) lines = calls (Write 2 (block (codes "cannot cd " ++ (text ++ 10 ∷ [])))) (top ToldCd lines)

abbrev pub takes_first : List ScriptLine → Turn
takes_first [] = exits
takes_first (line ∷ later) = takes_line line (line ∷ later)

-- the top shell, which takes the lines in order (`main`); the reply to a message is ignored
abbrev pub top_turn : Phase → List ScriptLine → Reply → Turn
top_turn Starts lines reply = takes_first lines
top_turn Forks lines reply = on_fork reply (calls Wait (top Waits lines)) (runs_first lines)
top_turn Waits lines reply = on_done reply (takes_first (drop 1 lines))
top_turn ToldCd lines reply = takes_first (drop 1 lines)

-- the process that makes a pipe
abbrev pub pipe_turn : Parent → Reply → Turn
pipe_turn (makes left right) reply = on_pipe reply left right
pipe_turn (forks_writer left right reader writer) reply =
    on_fork reply (calls Fork (pipes (forks_reader right reader writer))) (calls (Close 1) (side (Closes writer reader writer) left))
pipe_turn (forks_reader right reader writer) reply =
    on_fork reply (calls (Close reader) (pipes (closes_reader writer))) (calls (Close 0) (side (Closes reader reader writer) right))
pipe_turn (closes_reader writer) reply = on_done reply (calls (Close writer) (pipes closes_writer))
pipe_turn closes_writer reply = on_done reply (calls Wait (pipes waits_first))
pipe_turn waits_first reply = on_done reply (calls Wait (pipes waits_second))
pipe_turn waits_second reply = on_done reply exits

-- a child of a pipe: `dup` puts its end where its standard descriptor was, and then both ends are closed
abbrev pub side_turn : Side → Tree → Reply → Turn
side_turn (Closes kept reader writer) tree reply = on_done reply (calls (Dup kept) (side (Dups reader writer) tree))
side_turn (Dups reader writer) tree reply = on_fd reply (calls (Close reader) (side (ClosesReader writer) tree)) exits
side_turn (ClosesReader writer) tree reply = on_done reply (calls (Close writer) (side ClosesWriter tree))
side_turn ClosesWriter tree reply = on_done reply (runs tree)

abbrev pub failed : Bytes → Bytes → Turn
failed what name = tells (what ++ (name ++ codes " failed\n"))

-- what a shell does with a reply
abbrev pub shell_turn : Profile → Shell → Reply → Turn
shell_turn profile (top phase lines) reply = top_turn phase lines reply
shell_turn profile (unknown name) reply = on_unknown reply (failed (codes "exec ") name)
shell_turn profile (closes_old mode file body) reply = on_done reply (calls (OpenFile (block file) (call_mode profile mode)) (opens_file file body))
shell_turn profile (opens_file file body) reply = on_fd reply (runs body) (failed (codes "open ") file)
shell_turn profile (forks_left left right) reply = on_fork reply (calls Wait (waits_left right)) (runs left)
shell_turn profile (waits_left right) reply = on_done reply (runs right)
shell_turn profile (pipes parent) reply = pipe_turn parent reply
shell_turn profile (side at tree) reply = side_turn at tree reply
shell_turn profile (forks_back body) reply = on_fork reply exits (runs body)
shell_turn profile told reply = exits
shell_turn profile ended reply = exits

abbrev pub user_of_next : Profile → Next → User
user_of_next profile (stays state) = shell profile state
user_of_next profile (becomes state) = program state

-- the call that a process makes of a reply; init waits for ever
abbrev pub call_of : User → Reply → Call
call_of init reply = Wait
call_of (shell profile state) reply = (shell_turn profile state reply).call
call_of (program state) reply = (turn state reply).call

-- and the state in which it waits for the reply to that
abbrev pub next_of : User → Reply → User
next_of init reply = init
next_of (shell profile state) reply = user_of_next profile (shell_turn profile state reply).next
next_of (program state) reply = program (turn state reply).next
