-- What the shell and its processes still open at most: each file and pipe of what is still to be run.
use Rattle.std.proofs.Common.{◌≡◌, ℕ, ◌+◌, ◌≤◌, List, [], ◌∷◌, Option, Some, None, length, refl, ap, subst, arith}
use Rattle.std.specs.Prelude.{drop, codes}
use Rattle.sh_tree.specs.Tree.{Tree, exec, redir, pipe, list, back}
use Rattle.mem_files.specs.Name.{Bytes}
use Rattle.prog_parts.specs.declared.program.Program.{Program}
use Rattle.prog_parts.specs.Program.{program_of, file_words}
use Rattle.prog_parts.specs.Words.{by_program}
use Rattle.script_load.specs.declared.profile.Profile.{Profile}
use Rattle.script_load.specs.Line.{ScriptLine, command, bad, cd}
use Rattle.meaning_model.specs.Meaning.{script_tree}
use Rattle.user_calls.specs.declared.calls.Call.{Call}
use Rattle.user_calls.specs.declared.calls.Call.TheVariants.{Fork, Exec, Exit, Wait, MakePipe, Read, Write, OpenFile, Close, Dup}
use Rattle.user_calls.specs.declared.calls.Reply.{Reply}
use Rattle.user_calls.specs.declared.calls.Reply.TheVariants.{Start, Child, Done, Bytes as Bytes', Fd, Ends, Refused}
use Rattle.user_progs.specs.Turn.{block}
use Rattle.user_progs.specs.View.{begun}
use Rattle.sh_machine.specs.declared.state.Phase.{Phase}
use Rattle.sh_machine.specs.declared.state.Phase.TheVariants.{Starts, Forks, Waits, ToldCd}
use Rattle.sh_machine.specs.declared.state.Side.{Side}
use Rattle.sh_machine.specs.declared.state.Side.TheVariants.{Closes, Dups, ClosesReader, ClosesWriter}
use Rattle.sh_machine.specs.State.{Parent, makes, forks_writer, forks_reader, closes_reader, closes_writer, waits_first, waits_second, Shell, top, unknown, closes_old, opens_file, forks_left, waits_left, pipes, side, forks_back, told, ended, User, init, shell, program}
use Rattle.sh_machine.specs.Turn.{Next, stays, becomes, Turn, calls, exits, failed, call_mode, call_of, next_of, user_of_next, on_done, on_fd, on_fork, on_pipe, on_unknown, execs_found, runs, runs_first, takes_first, top_turn, pipe_turn, side_turn, shell_turn}
use Rattle.room_model.specs.Opens.{most_opens}
use Rattle.law_limits.proofs.opens.Left.{left, IsSpent}
use Rattle.law_limits.proofs.opens.Spending.{cost}
use Rattle.law_limits.proofs.opens.Programs.{program_ahead, turn_opens, no_fork}

-- what lines open
abbrev pub of_lines : List ScriptLine → ℕ
of_lines lines = most_opens (script_tree lines)

-- what is still opened once the call that the state names is answered
abbrev parent_ahead : Parent → ℕ
parent_ahead (makes left right) = most_opens left + most_opens right
parent_ahead (forks_writer left right reader writer) = most_opens left + most_opens right
parent_ahead (forks_reader right reader writer) = most_opens right
parent_ahead (closes_reader writer) = 0
parent_ahead closes_writer = 0
parent_ahead waits_first = 0
parent_ahead waits_second = 0

abbrev top_ahead : Phase → List ScriptLine → ℕ
top_ahead Starts lines = of_lines lines
top_ahead Forks lines = of_lines lines
top_ahead Waits lines = of_lines (drop 1 lines)
top_ahead ToldCd lines = of_lines (drop 1 lines)

abbrev shell_ahead : Shell → ℕ
shell_ahead (top phase lines) = top_ahead phase lines
shell_ahead (unknown name) = 0
shell_ahead (closes_old mode file body) = 1 + most_opens body
shell_ahead (opens_file file body) = most_opens body
shell_ahead (forks_left left right) = most_opens left + most_opens right
shell_ahead (waits_left right) = most_opens right
shell_ahead (pipes parent) = parent_ahead parent
shell_ahead (side at tree) = most_opens tree
shell_ahead (forks_back body) = most_opens body
shell_ahead told = 0
shell_ahead ended = 0

abbrev next_ahead : Next → ℕ
next_ahead (stays state) = shell_ahead state
next_ahead (becomes state) = program_ahead state

abbrev pub user_ahead : User → ℕ
user_ahead init = 0
user_ahead (shell profile state) = shell_ahead state
user_ahead (program state) = program_ahead state

next_same : (profile : Profile) (next : Next) → user_ahead (user_of_next profile next) ≡ next_ahead next
next_same profile (stays state) = refl
next_same profile (becomes state) = refl

-- what a turn opens, and what comes after it
abbrev opens_in : Turn → ℕ
opens_in t = cost t.call + next_ahead t.next

-- ---- what is run

begun_opens : (found : Option Program) (name : Bytes) (arguments : List Bytes) → opens_in (execs_found (begun found arguments) name) ≤ length (by_program file_words [] found arguments)
begun_opens None name arguments = omega arith
begun_opens (Some p) name arguments = omega arith

runs_opens : (tree : Tree) → opens_in (runs tree) ≤ most_opens tree
runs_opens (exec []) = omega arith
runs_opens (exec (name ∷ arguments)) = begun_opens (program_of name) name arguments
runs_opens (redir mode file body) = omega arith
runs_opens (pipe left right) = omega arith
runs_opens (list left right) = omega arith
runs_opens (back body) = omega arith

-- the first line, and those after it
first_opens : (lines : List ScriptLine) → opens_in (runs_first lines) + of_lines (drop 1 lines) ≤ of_lines lines
first_opens [] = omega arith
first_opens (command tree ∷ later) = omega (arith, runs_opens tree)
first_opens (bad fault text ∷ later) = omega arith
first_opens (cd text ∷ later) = omega arith

takes_opens : (lines : List ScriptLine) → opens_in (takes_first lines) ≤ of_lines lines
takes_opens [] = omega arith
takes_opens (command tree ∷ later) = omega arith
takes_opens (bad fault text ∷ later) = omega arith
takes_opens (cd text ∷ later) = omega arith

-- ---- replies

done_opens : (reply : Reply) (then : Turn) → opens_in (on_done reply then) ≤ opens_in then
done_opens Start then = omega arith
done_opens Child then = omega arith
done_opens Done then = omega arith
done_opens (Bytes' bytes) then = omega arith
done_opens (Fd fd) then = omega arith
done_opens (Ends reader writer) then = omega arith
done_opens Refused then = omega arith

fd_opens : (reply : Reply) (then refused : Turn) → opens_in (on_fd reply then refused) ≤ opens_in then + opens_in refused
fd_opens Start then refused = omega arith
fd_opens Child then refused = omega arith
fd_opens Done then refused = omega arith
fd_opens (Bytes' bytes) then refused = omega arith
fd_opens (Fd fd) then refused = omega arith
fd_opens (Ends reader writer) then refused = omega arith
fd_opens Refused then refused = omega arith

fork_opens : (reply : Reply) (parent child : Turn) → opens_in (on_fork reply parent child) ≤ opens_in parent + opens_in child
fork_opens Start parent child = omega arith
fork_opens Child parent child = omega arith
fork_opens Done parent child = omega arith
fork_opens (Bytes' bytes) parent child = omega arith
fork_opens (Fd fd) parent child = omega arith
fork_opens (Ends reader writer) parent child = omega arith
fork_opens Refused parent child = omega arith

pipe_opens : (reply : Reply) (left right : Tree) → opens_in (on_pipe reply left right) ≤ most_opens left + most_opens right
pipe_opens Start left right = omega arith
pipe_opens Child left right = omega arith
pipe_opens Done left right = omega arith
pipe_opens (Bytes' bytes) left right = omega arith
pipe_opens (Fd fd) left right = omega arith
pipe_opens (Ends reader writer) left right = omega arith
pipe_opens Refused left right = omega arith

unknown_opens : (reply : Reply) (then : Turn) → opens_in (on_unknown reply then) ≤ opens_in then
unknown_opens Start then = omega arith
unknown_opens Child then = omega arith
unknown_opens Done then = omega arith
unknown_opens (Bytes' bytes) then = omega arith
unknown_opens (Fd fd) then = omega arith
unknown_opens (Ends reader writer) then = omega arith
unknown_opens Refused then = omega arith

-- ---- turns of the shell

top_opens : (phase : Phase) (lines : List ScriptLine) (reply : Reply) → opens_in (top_turn phase lines reply) ≤ top_ahead phase lines
top_opens Starts lines reply = takes_opens lines
top_opens Forks lines reply = omega (arith, fork_opens reply (calls Wait (top Waits lines)) (runs_first lines), first_opens lines)
top_opens Waits lines reply = omega (arith, done_opens reply (takes_first (drop 1 lines)), takes_opens (drop 1 lines))
top_opens ToldCd lines reply = takes_opens (drop 1 lines)

parent_opens : (parent : Parent) (reply : Reply) → opens_in (pipe_turn parent reply) ≤ parent_ahead parent
parent_opens (makes left right) reply = pipe_opens reply left right
parent_opens (forks_writer left right reader writer) reply = omega (arith, fork_opens reply (calls Fork (pipes (forks_reader right reader writer))) (calls (Close 1) (side (Closes writer reader writer) left)))
parent_opens (forks_reader right reader writer) reply = omega (arith, fork_opens reply (calls (Close reader) (pipes (closes_reader writer))) (calls (Close 0) (side (Closes reader reader writer) right)))
parent_opens (closes_reader writer) reply = omega (arith, done_opens reply (calls (Close writer) (pipes closes_writer)))
parent_opens closes_writer reply = omega (arith, done_opens reply (calls Wait (pipes waits_first)))
parent_opens waits_first reply = omega (arith, done_opens reply (calls Wait (pipes waits_second)))
parent_opens waits_second reply = omega (arith, done_opens reply exits)

side_opens : (at : Side) (tree : Tree) (reply : Reply) → opens_in (side_turn at tree reply) ≤ most_opens tree
side_opens (Closes kept reader writer) tree reply = omega (arith, done_opens reply (calls (Dup kept) (side (Dups reader writer) tree)))
side_opens (Dups reader writer) tree reply = omega (arith, fd_opens reply (calls (Close reader) (side (ClosesReader writer) tree)) exits)
side_opens (ClosesReader writer) tree reply = omega (arith, done_opens reply (calls (Close writer) (side ClosesWriter tree)))
side_opens ClosesWriter tree reply = omega (arith, done_opens reply (runs tree), runs_opens tree)

shell_opens : (profile : Profile) (state : Shell) (reply : Reply) → opens_in (shell_turn profile state reply) ≤ shell_ahead state
shell_opens profile (top phase lines) reply = top_opens phase lines reply
shell_opens profile (unknown name) reply = omega (arith, unknown_opens reply (failed (codes "exec ") name))
shell_opens profile (closes_old mode file body) reply = omega (arith, done_opens reply (calls (OpenFile (block file) (call_mode profile mode)) (opens_file file body)))
shell_opens profile (opens_file file body) reply = omega (arith, fd_opens reply (runs body) (failed (codes "open ") file), runs_opens body)
shell_opens profile (forks_left left right) reply = omega (arith, fork_opens reply (calls Wait (waits_left right)) (runs left), runs_opens left)
shell_opens profile (waits_left right) reply = omega (arith, done_opens reply (runs right), runs_opens right)
shell_opens profile (pipes parent) reply = parent_opens parent reply
shell_opens profile (side at tree) reply = side_opens at tree reply
shell_opens profile (forks_back body) reply = omega (arith, fork_opens reply exits (runs body), runs_opens body)
shell_opens profile told reply = omega arith
shell_opens profile ended reply = omega arith

-- ---- forks: both processes together open what was left

-- where a turn forks, what comes after it is split
abbrev SplitsAt : Profile → Call → Next → Type 0
SplitsAt profile Fork next = left call_of next_of cost user_ahead (user_of_next profile next) Child + left call_of next_of cost user_ahead (user_of_next profile next) Done ≤ next_ahead next
SplitsAt profile (Exec found) next = Unit {0}
SplitsAt profile Exit next = Unit {0}
SplitsAt profile Wait next = Unit {0}
SplitsAt profile MakePipe next = Unit {0}
SplitsAt profile (Read fd n) next = Unit {0}
SplitsAt profile (Write fd b) next = Unit {0}
SplitsAt profile (OpenFile name mode) next = Unit {0}
SplitsAt profile (Close fd) next = Unit {0}
SplitsAt profile (Dup fd) next = Unit {0}

abbrev SplitsIn : Profile → Turn → Type 0
SplitsIn profile t = SplitsAt profile t.call t.next

module _ (profile : Profile) where
  -- what a turn of the shell leaves
  turn_left : (t : Turn) → cost t.call + user_ahead (user_of_next profile t.next) ≡ opens_in t
  turn_left t = ap (λ (n : ℕ). cost t.call + n) (next_same profile t.next)

  begun_splits : (found : Option Program) (name : Bytes) (arguments : List Bytes) → SplitsIn profile (execs_found (begun found arguments) name)
  begun_splits None name arguments = tt
  begun_splits (Some p) name arguments = tt

  runs_splits : (tree : Tree) → SplitsIn profile (runs tree)
  runs_splits (exec []) = tt
  runs_splits (exec (name ∷ arguments)) = begun_splits (program_of name) name arguments
  runs_splits (redir mode file body) = tt
  runs_splits (pipe left right) = tt
  runs_splits (list left right) = omega (arith, turn_left (runs left), runs_opens left)
  runs_splits (back body) = omega (arith, turn_left (runs body), runs_opens body)

  first_splits : (lines : List ScriptLine) → SplitsIn profile (runs_first lines)
  first_splits [] = tt
  first_splits (command tree ∷ later) = runs_splits tree
  first_splits (bad fault text ∷ later) = tt
  first_splits (cd text ∷ later) = tt

  forks_split : (lines : List ScriptLine) → SplitsAt profile Fork (stays (top Forks lines))
  forks_split lines = omega (arith, turn_left (runs_first lines), first_opens lines)

  takes_splits : (lines : List ScriptLine) → SplitsIn profile (takes_first lines)
  takes_splits [] = tt
  takes_splits (command tree ∷ later) = forks_split (command tree ∷ later)
  takes_splits (bad fault text ∷ later) = forks_split (bad fault text ∷ later)
  takes_splits (cd text ∷ later) = tt

  done_splits : (reply : Reply) (then : Turn) → SplitsIn profile then → SplitsIn profile (on_done reply then)
  done_splits Start then s = tt
  done_splits Child then s = tt
  done_splits Done then s = s
  done_splits (Bytes' bytes) then s = tt
  done_splits (Fd fd) then s = tt
  done_splits (Ends reader writer) then s = tt
  done_splits Refused then s = tt

  fd_splits : (reply : Reply) (then refused : Turn) → SplitsIn profile then → SplitsIn profile refused → SplitsIn profile (on_fd reply then refused)
  fd_splits Start then refused s o = tt
  fd_splits Child then refused s o = tt
  fd_splits Done then refused s o = tt
  fd_splits (Bytes' bytes) then refused s o = tt
  fd_splits (Fd fd) then refused s o = s
  fd_splits (Ends reader writer) then refused s o = tt
  fd_splits Refused then refused s o = o

  fork_splits : (reply : Reply) (parent child : Turn) → SplitsIn profile parent → SplitsIn profile child → SplitsIn profile (on_fork reply parent child)
  fork_splits Start parent child s o = tt
  fork_splits Child parent child s o = o
  fork_splits Done parent child s o = s
  fork_splits (Bytes' bytes) parent child s o = tt
  fork_splits (Fd fd) parent child s o = tt
  fork_splits (Ends reader writer) parent child s o = tt
  fork_splits Refused parent child s o = tt

  pipe_splits : (reply : Reply) (left right : Tree) → SplitsIn profile (on_pipe reply left right)
  pipe_splits Start left right = tt
  pipe_splits Child left right = tt
  pipe_splits Done left right = tt
  pipe_splits (Bytes' bytes) left right = tt
  pipe_splits (Fd fd) left right = tt
  pipe_splits (Ends reader writer) left right = omega arith
  pipe_splits Refused left right = tt

  unknown_splits : (reply : Reply) (then : Turn) → SplitsIn profile then → SplitsIn profile (on_unknown reply then)
  unknown_splits Start then s = tt
  unknown_splits Child then s = tt
  unknown_splits Done then s = tt
  unknown_splits (Bytes' bytes) then s = tt
  unknown_splits (Fd fd) then s = tt
  unknown_splits (Ends reader writer) then s = tt
  unknown_splits Refused then s = s

  top_splits : (phase : Phase) (lines : List ScriptLine) (reply : Reply) → SplitsIn profile (top_turn phase lines reply)
  top_splits Starts lines reply = takes_splits lines
  top_splits Forks lines reply = fork_splits reply (calls Wait (top Waits lines)) (runs_first lines) tt (first_splits lines)
  top_splits Waits lines reply = done_splits reply (takes_first (drop 1 lines)) (takes_splits (drop 1 lines))
  top_splits ToldCd lines reply = takes_splits (drop 1 lines)

  parent_splits : (parent : Parent) (reply : Reply) → SplitsIn profile (pipe_turn parent reply)
  parent_splits (makes left right) reply = pipe_splits reply left right
  parent_splits (forks_writer left right reader writer) reply =
      fork_splits reply (calls Fork (pipes (forks_reader right reader writer))) (calls (Close 1) (side (Closes writer reader writer) left)) (omega arith) tt
  parent_splits (forks_reader right reader writer) reply =
      fork_splits reply (calls (Close reader) (pipes (closes_reader writer))) (calls (Close 0) (side (Closes reader reader writer) right)) tt tt
  parent_splits (closes_reader writer) reply = done_splits reply (calls (Close writer) (pipes closes_writer)) tt
  parent_splits closes_writer reply = done_splits reply (calls Wait (pipes waits_first)) tt
  parent_splits waits_first reply = done_splits reply (calls Wait (pipes waits_second)) tt
  parent_splits waits_second reply = done_splits reply exits tt

  side_splits : (at : Side) (tree : Tree) (reply : Reply) → SplitsIn profile (side_turn at tree reply)
  side_splits (Closes kept reader writer) tree reply = done_splits reply (calls (Dup kept) (side (Dups reader writer) tree)) tt
  side_splits (Dups reader writer) tree reply = fd_splits reply (calls (Close reader) (side (ClosesReader writer) tree)) exits tt tt
  side_splits (ClosesReader writer) tree reply = done_splits reply (calls (Close writer) (side ClosesWriter tree)) tt
  side_splits ClosesWriter tree reply = done_splits reply (runs tree) (runs_splits tree)

  shell_splits : (state : Shell) (reply : Reply) → SplitsIn profile (shell_turn profile state reply)
  shell_splits (top phase lines) reply = top_splits phase lines reply
  shell_splits (unknown name) reply = unknown_splits reply (failed (codes "exec ") name) tt
  shell_splits (closes_old mode file body) reply = done_splits reply (calls (OpenFile (block file) (call_mode profile mode)) (opens_file file body)) tt
  shell_splits (opens_file file body) reply = fd_splits reply (runs body) (failed (codes "open ") file) (runs_splits body) tt
  shell_splits (forks_left left right) reply = fork_splits reply (calls Wait (waits_left right)) (runs left) tt (runs_splits left)
  shell_splits (waits_left right) reply = done_splits reply (runs right) (runs_splits right)
  shell_splits (pipes parent) reply = parent_splits parent reply
  shell_splits (side at tree) reply = side_splits at tree reply
  shell_splits (forks_back body) reply = fork_splits reply exits (runs body) tt (runs_splits body)
  shell_splits told reply = tt
  shell_splits ended reply = tt

  at_fork : (made : Call) (next : Next) → made ≡ Fork → SplitsAt profile made next → SplitsAt profile Fork next
  at_fork made next is s = subst (λ (c : Call). SplitsAt profile c next) is s

-- ---- processes

each_left : (m : User) (r : Reply) → left call_of next_of cost user_ahead m r ≤ user_ahead m
each_left init r = omega arith
each_left (shell profile state) r = omega (arith, turn_left profile (shell_turn profile state r), shell_opens profile state r)
each_left (program state) r = (turn_opens state r).most

split_left : (m : User) (r : Reply) → call_of m r ≡ Fork → left call_of next_of cost user_ahead (next_of m r) Child + left call_of next_of cost user_ahead (next_of m r) Done ≤ user_ahead (next_of m r)
split_left init r is = absurd (let z : ⊥ = cc in z)
split_left (shell profile state) r is =
    let t = shell_turn profile state r in
    omega (arith, at_fork profile t.call t.next is (shell_splits profile state r), next_same profile t.next)
split_left (program state) r is = absurd (no_fork _ (turn_opens state r).forkless is)

pub users_spend : IsSpent call_of next_of cost user_ahead
users_spend = record { each = each_left; splits = split_left }
