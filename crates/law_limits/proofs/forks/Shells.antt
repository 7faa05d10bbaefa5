-- What the shell and its processes still fork at most: what is still to be run, with a fork whose reply has not come yet.
use Rattle.std.proofs.Common.{◌≡◌, ℕ, ◌+◌, ◌≤◌, List, [], ◌∷◌, Option, Some, None, refl, subst, arith}
use Rattle.std.specs.Prelude.{drop, codes}
use Rattle.sh_tree.specs.Tree.{Tree, exec, redir, pipe, list, back}
use Rattle.mem_files.specs.Name.{Bytes}
use Rattle.prog_parts.specs.declared.program.Program.{Program}
use Rattle.prog_parts.specs.Program.{program_of}
use Rattle.script_load.specs.declared.profile.Profile.{Profile}
use Rattle.script_load.specs.Line.{ScriptLine, command, bad, cd}
use Rattle.meaning_model.specs.Meaning.{script_tree}
use Rattle.user_calls.specs.declared.calls.Call.{Call}
use Rattle.user_calls.specs.declared.calls.Call.TheVariants.{Fork, Exec, Exit, Wait, MakePipe, Read, Write, OpenFile, Close, Dup}
use Rattle.user_calls.specs.declared.calls.Reply.{Reply}
use Rattle.user_calls.specs.declared.calls.Reply.TheVariants.{Start, Child, Done, Bytes as Bytes', Fd, Ends, Refused}
use Rattle.user_progs.specs.View.{begun}
use Rattle.sh_machine.specs.declared.state.Phase.{Phase}
use Rattle.sh_machine.specs.declared.state.Phase.TheVariants.{Starts, Forks, Waits, ToldCd}
use Rattle.sh_machine.specs.declared.state.Side.{Side}
use Rattle.sh_machine.specs.declared.state.Side.TheVariants.{Closes, Dups, ClosesReader, ClosesWriter}
use Rattle.sh_machine.specs.State.{Parent, makes, forks_writer, forks_reader, closes_reader, closes_writer, waits_first, waits_second, Shell, top, unknown, closes_old, opens_file, forks_left, waits_left, pipes, side, forks_back, told, ended, User, init, shell, program}
use Rattle.sh_machine.specs.Turn.{Next, stays, becomes, Turn, calls, exits, tells, failed, call_of, next_of, user_of_next, on_done, on_fd, on_fork, on_pipe, on_unknown, execs_found, runs, runs_first, takes_first, top_turn, pipe_turn, side_turn, shell_turn}
use Rattle.law_limits.proofs.opens.Left.{left, IsSpent}
use Rattle.law_limits.proofs.opens.Programs.{turn_opens, no_fork}
use Rattle.room_model.specs.Forks.{most_forks}
use Rattle.law_limits.proofs.forks.Slots.{nothing}

-- what lines fork
abbrev of_lines : List ScriptLine → ℕ
of_lines lines = most_forks (script_tree lines)

-- what is still forked from the call on whose reply the state waits
abbrev parent_forks : Parent → ℕ
parent_forks (makes left right) = 2 + most_forks left + most_forks right
parent_forks (forks_writer left right reader writer) = 2 + most_forks left + most_forks right
parent_forks (forks_reader right reader writer) = 1 + most_forks right
parent_forks (closes_reader writer) = 0
parent_forks closes_writer = 0
parent_forks waits_first = 0
parent_forks waits_second = 0

abbrev top_forks : Phase → List ScriptLine → ℕ
top_forks Starts lines = of_lines lines
top_forks Forks lines = of_lines lines
top_forks Waits lines = of_lines (drop 1 lines)
top_forks ToldCd lines = of_lines (drop 1 lines)

abbrev shell_forks : Shell → ℕ
shell_forks (top phase lines) = top_forks phase lines
shell_forks (unknown name) = 0
shell_forks (closes_old mode file body) = most_forks body
shell_forks (opens_file file body) = most_forks body
shell_forks (forks_left left right) = 1 + most_forks left + most_forks right
shell_forks (waits_left right) = most_forks right
shell_forks (pipes parent) = parent_forks parent
shell_forks (side at tree) = most_forks tree
shell_forks (forks_back body) = 1 + most_forks body
shell_forks told = 0
shell_forks ended = 0

abbrev next_forks : Next → ℕ
next_forks (stays state) = shell_forks state
next_forks (becomes state) = 0

-- a process, and what it still forks
abbrev pub user_ahead : User → ℕ
user_ahead init = 1
user_ahead (shell profile state) = 1 + shell_forks state
user_ahead (program state) = 1

pub users_each : (m : User) → 1 ≤ user_ahead m
users_each init = omega arith
users_each (shell profile state) = omega arith
users_each (program state) = omega arith

next_same : (profile : Profile) (next : Next) → user_ahead (user_of_next profile next) ≡ 1 + next_forks next
next_same profile (stays state) = refl
next_same profile (becomes state) = refl

module _ (profile : Profile) where
  -- where a turn forks, both processes together fork what comes after it, and one of them is that fork
  abbrev SplitsAt : Call → Next → Type 0
  SplitsAt Fork next = left call_of next_of nothing user_ahead (user_of_next profile next) Child + left call_of next_of nothing user_ahead (user_of_next profile next) Done ≤ 1 + next_forks next
  SplitsAt (Exec found) next = Unit {0}
  SplitsAt Exit next = Unit {0}
  SplitsAt Wait next = Unit {0}
  SplitsAt MakePipe next = Unit {0}
  SplitsAt (Read fd n) next = Unit {0}
  SplitsAt (Write fd b) next = Unit {0}
  SplitsAt (OpenFile name mode) next = Unit {0}
  SplitsAt (Close fd) next = Unit {0}
  SplitsAt (Dup fd) next = Unit {0}

  -- a turn that comes to so many forks at most
  record Fits (n : ℕ) (t : Turn) : Type 0 where
    most : next_forks t.next ≤ n
    splits : SplitsAt t.call t.next

  fits_more : (m n : ℕ) (t : Turn) → m ≤ n → Fits m t → Fits n t
  fits_more m n t less fits = record { most = omega (arith, less, fits.most); splits = fits.splits }

  exit_fits : (n : ℕ) → Fits n exits
  exit_fits n = record { most = omega arith; splits = tt }

  told_fits : (n : ℕ) (message : Bytes) → Fits n (tells message)
  told_fits n message = record { most = omega arith; splits = tt }

  failed_fits : (n : ℕ) (what name : Bytes) → Fits n (failed what name)
  failed_fits n what name = record { most = omega arith; splits = tt }

  -- what a turn leaves
  turn_left : (t : Turn) → user_ahead (user_of_next profile t.next) ≡ 1 + next_forks t.next
  turn_left t = next_same profile t.next

  -- ---- replies

  done_fits : (n : ℕ) (reply : Reply) (then : Turn) → Fits n then → Fits n (on_done reply then)
  done_fits n Start then fits = exit_fits n
  done_fits n Child then fits = exit_fits n
  done_fits n Done then fits = fits
  done_fits n (Bytes' bytes) then fits = exit_fits n
  done_fits n (Fd fd) then fits = exit_fits n
  done_fits n (Ends reader writer) then fits = exit_fits n
  done_fits n Refused then fits = exit_fits n

  fd_fits : (n : ℕ) (reply : Reply) (then refused : Turn) → Fits n then → Fits n refused → Fits n (on_fd reply then refused)
  fd_fits n Start then refused fits other = exit_fits n
  fd_fits n Child then refused fits other = exit_fits n
  fd_fits n Done then refused fits other = exit_fits n
  fd_fits n (Bytes' bytes) then refused fits other = exit_fits n
  fd_fits n (Fd fd) then refused fits other = fits
  fd_fits n (Ends reader writer) then refused fits other = exit_fits n
  fd_fits n Refused then refused fits other = other

  fork_fits : (n : ℕ) (reply : Reply) (parent child : Turn) → Fits n parent → Fits n child → Fits n (on_fork reply parent child)
  fork_fits n Start parent child fits other = exit_fits n
  fork_fits n Child parent child fits other = other
  fork_fits n Done parent child fits other = fits
  fork_fits n (Bytes' bytes) parent child fits other = exit_fits n
  fork_fits n (Fd fd) parent child fits other = exit_fits n
  fork_fits n (Ends reader writer) parent child fits other = exit_fits n
  fork_fits n Refused parent child fits other = told_fits n (codes "fork\n")

  pipe_fits : (reply : Reply) (left right : Tree) → Fits (2 + most_forks left + most_forks right) (on_pipe reply left right)
  pipe_fits Start left right = exit_fits _
  pipe_fits Child left right = exit_fits _
  pipe_fits Done left right = exit_fits _
  pipe_fits (Bytes' bytes) left right = exit_fits _
  pipe_fits (Fd fd) left right = exit_fits _
  pipe_fits (Ends reader writer) left right = record { most = omega arith; splits = omega arith }
  pipe_fits Refused left right = told_fits _ (codes "pipe\n")

  unknown_fits : (n : ℕ) (reply : Reply) (then : Turn) → Fits n then → Fits n (on_unknown reply then)
  unknown_fits n Start then fits = exit_fits n
  unknown_fits n Child then fits = exit_fits n
  unknown_fits n Done then fits = exit_fits n
  unknown_fits n (Bytes' bytes) then fits = exit_fits n
  unknown_fits n (Fd fd) then fits = exit_fits n
  unknown_fits n (Ends reader writer) then fits = exit_fits n
  unknown_fits n Refused then fits = fits

  -- ---- what is run

  begun_fits : (found : Option Program) (name : Bytes) (arguments : List Bytes) → Fits 0 (execs_found (begun found arguments) name)
  begun_fits None name arguments = record { most = omega arith; splits = tt }
  begun_fits (Some p) name arguments = record { most = omega arith; splits = tt }

  runs_fits : (tree : Tree) → Fits (most_forks tree) (runs tree)
  runs_fits (exec []) = exit_fits 0
  runs_fits (exec (name ∷ arguments)) = begun_fits (program_of name) name arguments
  runs_fits (redir mode file body) = record { most = omega arith; splits = tt }
  runs_fits (pipe left right) = record { most = omega arith; splits = tt }
  runs_fits (list left right) = record { most = omega arith; splits = omega (arith, turn_left (runs left), (runs_fits left).most) }
  runs_fits (back body) = record { most = omega arith; splits = omega (arith, turn_left (runs body), (runs_fits body).most) }

  -- the first line, and those after it
  first_fits : (lines : List ScriptLine) → Fits (of_lines lines) (runs_first lines)
  first_fits [] = exit_fits 0
  first_fits (command tree ∷ later) = fits_more (most_forks tree) _ _ (omega arith) (runs_fits tree)
  first_fits (bad fault text ∷ later) = told_fits _ _
  first_fits (cd text ∷ later) = exit_fits _

  fewer_later : (lines : List ScriptLine) → of_lines (drop 1 lines) ≤ of_lines lines
  fewer_later [] = omega arith
  fewer_later (line ∷ later) = omega arith

  takes_fits : (lines : List ScriptLine) → Fits (of_lines lines) (takes_first lines)
  takes_fits [] = exit_fits 0
  takes_fits (command tree ∷ later) = record { most = omega arith; splits = omega (arith, turn_left (runs tree), (runs_fits tree).most) }
  takes_fits (bad fault text ∷ later) = record { most = omega arith; splits = omega arith }
  takes_fits (cd text ∷ later) = record { most = omega arith; splits = tt }

  -- ---- turns of the shell

  top_fits : (phase : Phase) (lines : List ScriptLine) (reply : Reply) → Fits (top_forks phase lines) (top_turn phase lines reply)
  top_fits Starts lines reply = takes_fits lines
  top_fits Forks lines reply = fork_fits _ reply (calls Wait (top Waits lines)) (runs_first lines) (record { most = fewer_later lines; splits = tt }) (first_fits lines)
  top_fits Waits lines reply = done_fits _ reply (takes_first (drop 1 lines)) (takes_fits (drop 1 lines))
  top_fits ToldCd lines reply = takes_fits (drop 1 lines)

  parent_fits : (parent : Parent) (reply : Reply) → Fits (parent_forks parent) (pipe_turn parent reply)
  parent_fits (makes left right) reply = pipe_fits reply left right
  parent_fits (forks_writer left right reader writer) reply =
      fork_fits _ reply (calls Fork (pipes (forks_reader right reader writer))) (calls (Close 1) (side (Closes writer reader writer) left))
      (record { most = omega arith; splits = omega arith })
      (record { most = omega arith; splits = tt })
  parent_fits (forks_reader right reader writer) reply =
      fork_fits _ reply (calls (Close reader) (pipes (closes_reader writer))) (calls (Close 0) (side (Closes reader reader writer) right))
      (record { most = omega arith; splits = tt })
      (record { most = omega arith; splits = tt })
  parent_fits (closes_reader writer) reply = done_fits 0 reply (calls (Close writer) (pipes closes_writer)) (record { most = omega arith; splits = tt })
  parent_fits closes_writer reply = done_fits 0 reply (calls Wait (pipes waits_first)) (record { most = omega arith; splits = tt })
  parent_fits waits_first reply = done_fits 0 reply (calls Wait (pipes waits_second)) (record { most = omega arith; splits = tt })
  parent_fits waits_second reply = done_fits 0 reply exits (exit_fits 0)

  side_fits : (at : Side) (tree : Tree) (reply : Reply) → Fits (most_forks tree) (side_turn at tree reply)
  side_fits (Closes kept reader writer) tree reply = done_fits _ reply (calls (Dup kept) (side (Dups reader writer) tree)) (record { most = omega arith; splits = tt })
  side_fits (Dups reader writer) tree reply = fd_fits _ reply (calls (Close reader) (side (ClosesReader writer) tree)) exits (record { most = omega arith; splits = tt }) (exit_fits _)
  side_fits (ClosesReader writer) tree reply = done_fits _ reply (calls (Close writer) (side ClosesWriter tree)) (record { most = omega arith; splits = tt })
  side_fits ClosesWriter tree reply = done_fits _ reply (runs tree) (runs_fits tree)

  shell_fits : (state : Shell) (reply : Reply) → Fits (shell_forks state) (shell_turn profile state reply)
  shell_fits (top phase lines) reply = top_fits phase lines reply
  shell_fits (unknown name) reply = unknown_fits 0 reply (failed (codes "exec ") name) (failed_fits 0 (codes "exec ") name)
  shell_fits (closes_old mode file body) reply = done_fits _ reply _ (record { most = omega arith; splits = tt })
  shell_fits (opens_file file body) reply = fd_fits _ reply (runs body) (failed (codes "open ") file) (runs_fits body) (failed_fits _ (codes "open ") file)
  shell_fits (forks_left left right) reply =
      fork_fits _ reply (calls Wait (waits_left right)) (runs left) (record { most = omega arith; splits = tt }) (fits_more (most_forks left) _ _ (omega arith) (runs_fits left))
  shell_fits (waits_left right) reply = done_fits _ reply (runs right) (runs_fits right)
  shell_fits (pipes parent) reply = parent_fits parent reply
  shell_fits (side at tree) reply = side_fits at tree reply
  shell_fits (forks_back body) reply = fork_fits _ reply exits (runs body) (exit_fits _) (fits_more (most_forks body) _ _ (omega arith) (runs_fits body))
  shell_fits told reply = exit_fits 0
  shell_fits ended reply = exit_fits 0

  at_fork : (made : Call) (next : Next) → made ≡ Fork → SplitsAt made next → SplitsAt Fork next
  at_fork made next is s = subst (λ (c : Call). SplitsAt c next) is s

-- ---- processes

each_left : (m : User) (r : Reply) → left call_of next_of nothing user_ahead m r ≤ user_ahead m
each_left init r = omega arith
each_left (shell profile state) r = omega (arith, turn_left profile (shell_turn profile state r), (shell_fits profile state r).most)
each_left (program state) r = omega arith

split_left : (m : User) (r : Reply) → call_of m r ≡ Fork → left call_of next_of nothing user_ahead (next_of m r) Child + left call_of next_of nothing user_ahead (next_of m r) Done ≤ user_ahead (next_of m r)
split_left init r is = absurd (let z : ⊥ = cc in z)
split_left (shell profile state) r is =
    let t = shell_turn profile state r in
    omega (arith, at_fork profile t.call t.next is (shell_fits profile state r).splits, next_same profile t.next)
split_left (program state) r is = absurd (no_fork _ (turn_opens state r).forkless is)

pub users_spend : IsSpent call_of next_of nothing user_ahead
users_spend = record { each = each_left; splits = split_left }
