-- The states of users over a borrowed script, as plain data.
use Rattle.std.specs.Prelude.{◌+◌, ◌++◌, List, map, Option}
use Rattle.sh_tree.specs.Tree.{Tree, exec, redir, pipe, list, back, tree_of}
use Rattle.script_load.specs.Line.{ScriptLine, line_of}
use Rattle.user_calls.specs.declared.calls.Call.{Call}
use Rattle.user_calls.specs.declared.calls.Call.TheVariants.{Fork, Exec, Exit, Wait, MakePipe, Write, OpenFile, Close, Dup}
use Rattle.user_progs.specs.Turn.{block}
use Rattle.user_progs.specs.View.{state_of, start_of}
use Rattle.sh_machine.specs.declared.says.Says.{Says}
use Rattle.sh_machine.specs.declared.says.Says.TheVariants as says
use Rattle.sh_machine.specs.declared.rest.Rest.{Rest}
use Rattle.sh_machine.specs.declared.node.Node.{Node}
use Rattle.sh_machine.specs.declared.node.Opened.{Opened}
use Rattle.sh_machine.specs.declared.node.Opened.TheVariants.{Exec as Exec', Redir as Redir', Pipe as Pipe', List as List', Back as Back'}
use Rattle.sh_machine.specs.declared.state.Parent.{Parent as Parent'}
use Rattle.sh_machine.specs.declared.state.Parent.TheVariants.{Makes, ForksWriter, ForksReader, ClosesReader, ClosesWriter, WaitsFirst, WaitsSecond}
use Rattle.sh_machine.specs.declared.state.At.{At}
use Rattle.sh_machine.specs.declared.state.At.TheVariants.{Top, Unknown, ClosesOld, OpensFile, ForksLeft, WaitsLeft, Pipes, Side as Side', ForksBack, Told, Ended}
use Rattle.sh_machine.specs.declared.state.Next.{Next as Next'}
use Rattle.sh_machine.specs.declared.state.Next.TheVariants.{Stays, Becomes}
use Rattle.sh_machine.specs.declared.state.Turn.{Turn as Turn'}
use Rattle.sh_machine.specs.declared.user.User.{User as User'}
use Rattle.sh_machine.specs.declared.user.Kind.{Kind}
use Rattle.sh_machine.specs.declared.user.Kind.TheVariants.{Init, Shell as Shell', Program}
use Rattle.sh_machine.specs.declared.place.Place.{Place}
use Rattle.sh_machine.specs.Place.{IsLater, size_of}
use Rattle.sh_machine.specs.State.{Parent, makes, forks_writer, forks_reader, closes_reader, closes_writer, waits_first, waits_second, Shell, top, unknown, closes_old, opens_file, forks_left, waits_left, pipes, side, forks_back, told, ended, User, init, shell, program}
use Rattle.sh_machine.specs.Turn.{Next, stays, becomes, Turn}

abbrev pub rest_of : {A N g : _} → Rest A N g → List ScriptLine
rest_of rest = map line_of rest.lines.now

abbrev pub node_of : {A N g : _} → Node A N g → Tree
node_of node = tree_of node.tree.now

abbrev pub opened_of : {A N g : _} → Opened A N g → Tree
opened_of (Exec' words) = exec words.now
opened_of (Redir' mode name body) = redir mode name.now (node_of body)
opened_of (Pipe' left right) = pipe (node_of left) (node_of right)
opened_of (List' left right) = list (node_of left) (node_of right)
opened_of (Back' body) = back (node_of body)

-- each part of a command at this place stands right behind it, but a right part behind the left one
abbrev pub ArePlaced : {A N g : _} → Option Place → Opened A N g → Type 0
ArePlaced place (Exec' words) = Unit {0}
ArePlaced place (Redir' mode name body) = IsLater place 1 body.place
ArePlaced place (Pipe' left right) = IsLater place 1 left.place × IsLater place (1 + size_of (node_of left)) right.place
ArePlaced place (List' left right) = IsLater place 1 left.place × IsLater place (1 + size_of (node_of left)) right.place
ArePlaced place (Back' body) = IsLater place 1 body.place

abbrev pub parent_of : {A N g : _} → Parent' A N g → Parent
parent_of (Makes left right) = makes (node_of left) (node_of right)
parent_of (ForksWriter left right reader writer) = forks_writer (node_of left) (node_of right) reader writer
parent_of (ForksReader right reader writer) = forks_reader (node_of right) reader writer
parent_of (ClosesReader writer) = closes_reader writer
parent_of ClosesWriter = closes_writer
parent_of WaitsFirst = waits_first
parent_of WaitsSecond = waits_second

abbrev pub shell_of : {A N g : _} → At A N g → Shell
shell_of (Top phase rest) = top phase (rest_of rest)
shell_of (Unknown name) = unknown name.now
shell_of (ClosesOld mode name body) = closes_old mode name.now (node_of body)
shell_of (OpensFile name body) = opens_file name.now (node_of body)
shell_of (ForksLeft left right) = forks_left (node_of left) (node_of right)
shell_of (WaitsLeft right) = waits_left (node_of right)
shell_of (Pipes parent) = pipes (parent_of parent)
shell_of (Side' at tree) = side at (node_of tree)
shell_of (ForksBack body) = forks_back (node_of body)
shell_of Told = told
shell_of Ended = ended

abbrev pub next_state : {A N g : _} → Next' A N g → Next
next_state (Stays at) = stays (shell_of at)
next_state (Becomes found) = becomes (start_of found)

abbrev pub says_of : Says → Call
says_of says.Fork = Fork
says_of (says.Exec found) = Exec found
says_of says.Exit = Exit
says_of says.Wait = Wait
says_of says.MakePipe = MakePipe
says_of (says.Write message) = Write 2 (block message.now)
says_of (says.Within before text after) = Write 2 (block (before.now ++ (text.now ++ after.now)))
says_of (says.OpenFile name mode) = OpenFile (block name.now) mode
says_of (says.Close fd) = Close fd
says_of (says.Dup fd) = Dup fd

abbrev pub turn_of : {A N g : _} → Turn' A N g → Turn
turn_of turn = record { call = says_of turn.call; next = next_state turn.next }

abbrev pub user_of_kind : {A N g : _} → Kind A N g → User
user_of_kind Init = init
user_of_kind (Shell' profile at) = shell profile (shell_of at)
user_of_kind (Program found) = program (state_of found)

abbrev pub user_of : {A N g : _} → User' A N g → User
user_of user = user_of_kind user.kind
