-- The table of phases: what each process of the shell does next, and what its first five descriptors are open on. It is
-- to be read beside `runcmd` and `main` of user/sh.c. The sixteen places have no others open; 2 is always the diagnostics;
-- a pipe's ends are at 3 and 4 wherever there is one, since those are the lowest that are free.
use Rattle.std.specs.Prelude.{ℕ, List, ◌∷◌, replicate, Option, Some, None}
use Rattle.sh_tree.specs.declared.tree.Mode.{Mode}
use Rattle.sh_tree.specs.declared.tree.Mode.TheVariants.{Input, Fresh, Over}
use Rattle.sh_tree.specs.Tree.{Tree}
use Rattle.mem_files.specs.Name.{Name}
use Rattle.script_load.specs.declared.profile.Profile.{Profile}
use Rattle.script_load.specs.Line.{ScriptLine}
use Rattle.user_calls.specs.declared.calls.Call.TheVariants.{Fork, Wait, OpenFile, Close, Dup}
use Rattle.user_progs.specs.Turn.{block}
use Rattle.sh_machine.specs.declared.state.Phase.TheVariants.{Waits}
use Rattle.sh_machine.specs.declared.state.Side.TheVariants.{Closes, Dups, ClosesReader, ClosesWriter}
use Rattle.sh_machine.specs.State.{forks_writer, forks_reader, closes_reader, closes_writer, waits_first, waits_second, top, opens_file, waits_left, pipes, side}
use Rattle.sh_machine.specs.Turn.{Turn, calls, exits, runs, takes_first, call_mode, user_of_next}
use Rattle.process_model.specs.Seen.{Entry, input, out, diag, reader, writer, file, Fds, Act}

-- how far the process of a pipe is, once it has both children
pub data Stage : Type 0 where
  closes_read : Stage
  closes_write : Stage
  waits_two : Stage
  waits_one : Stage
  leaves_pipe : Stage

-- how far a child of a pipe is
pub data Step : Type 0 where
  closes_old : Step
  dups_kept : Step
  drops_read : Step
  drops_write : Step

pub data Phase : Type 0 where
  -- main's loop, at these lines; and its wait for the child that runs the first of them
  at_lines : List ScriptLine → Phase
  waits_line : List ScriptLine → Phase
  -- runcmd, at this command
  begins : Tree → Phase
  -- REDIR, between close and open
  opens : Mode → Name → Tree → Phase
  -- LIST, between fork1 and the right side
  waits_list : Tree → Phase
  -- PIPE, after pipe, after the first fork1, and after the second; the ends of the pipe of this name
  forks_left : Tree → Tree → ℕ → Phase
  forks_right : Tree → ℕ → Phase
  has_forked : Stage → ℕ → Phase
  -- the children of PIPE, before they run their side
  on_left : Step → Tree → Phase
  on_right : Step → Tree → Phase

-- ---- what it does next

abbrev stage_turn : Stage → Turn
stage_turn closes_read = calls (Close 3) (pipes (closes_reader 4))
stage_turn closes_write = calls (Close 4) (pipes closes_writer)
stage_turn waits_two = calls Wait (pipes waits_first)
stage_turn waits_one = calls Wait (pipes waits_second)
stage_turn leaves_pipe = exits

-- a child gives up its old descriptor, 1 on the left and 0 on the right, and duplicates its end, at 4 or at 3
abbrev step_turn : Step → ℕ → ℕ → Tree → Turn
step_turn closes_old old kept tree = calls (Close old) (side (Closes kept 3 4) tree)
step_turn dups_kept old kept tree = calls (Dup kept) (side (Dups 3 4) tree)
step_turn drops_read old kept tree = calls (Close 3) (side (ClosesReader 4) tree)
step_turn drops_write old kept tree = calls (Close 4) (side ClosesWriter tree)

abbrev phase_turn : Profile → Phase → Turn
phase_turn profile (at_lines lines) = takes_first lines
phase_turn profile (waits_line lines) = calls Wait (top Waits lines)
phase_turn profile (begins tree) = runs tree
phase_turn profile (opens mode name body) = calls (OpenFile (block name) (call_mode profile mode)) (opens_file name body)
phase_turn profile (waits_list later) = calls Wait (waits_left later)
phase_turn profile (forks_left left right id) = calls Fork (pipes (forks_writer left right 3 4))
phase_turn profile (forks_right right id) = calls Fork (pipes (forks_reader right 3 4))
phase_turn profile (has_forked stage id) = stage_turn stage
phase_turn profile (on_left step tree) = step_turn step 1 4 tree
phase_turn profile (on_right step tree) = step_turn step 0 3 tree

-- a turn of the shell, as a call and the machine after it
abbrev pub shell_act : Profile → Turn → Act
shell_act profile turn = record { call = turn.call; next = user_of_next profile turn.next }

abbrev pub does : Profile → Phase → Act
does profile phase = shell_act profile (phase_turn profile phase)

-- ---- what it has open, where its command has a as its input and b as its output

-- descriptors 0, 1, 3 and 4
abbrev pub fds : Option Entry → Option Entry → Option Entry → Option Entry → Fds
fds zeroth first third fourth = zeroth ∷ first ∷ Some diag ∷ third ∷ fourth ∷ replicate 11 None

-- a and b alone
abbrev pub plain_fds : Entry → Entry → Fds
plain_fds a b = fds (Some a) (Some b) None None

-- with both ends of a pipe
abbrev pub pipe_fds : Entry → Entry → ℕ → Fds
pipe_fds a b i = fds (Some a) (Some b) (Some (reader i)) (Some (writer i))

-- the other end of the same pipe
abbrev pub partner : Entry → Entry
partner input = input
partner out = out
partner diag = diag
partner (reader i) = writer i
partner (writer i) = reader i
partner (file e) = file e

abbrev pub open_fds : Mode → Entry → Entry → Fds
open_fds Input a b = fds None (Some b) None None
open_fds Fresh a b = fds (Some a) None None None
open_fds Over a b = fds (Some a) None None None

abbrev stage_fds : Stage → Entry → Entry → ℕ → Fds
stage_fds closes_read a b i = pipe_fds a b i
stage_fds closes_write a b i = fds (Some a) (Some b) None (Some (writer i))
stage_fds waits_two a b i = plain_fds a b
stage_fds waits_one a b i = plain_fds a b
stage_fds leaves_pipe a b i = plain_fds a b

-- on the left b is the write end, and `old` is what the pipe's own output is; on the right a is the read end, and `old` its
-- input
abbrev left_fds : Step → Entry → Entry → Entry → Fds
left_fds closes_old a b old = fds (Some a) (Some old) (Some (partner b)) (Some b)
left_fds dups_kept a b old = fds (Some a) None (Some (partner b)) (Some b)
left_fds drops_read a b old = fds (Some a) (Some b) (Some (partner b)) (Some b)
left_fds drops_write a b old = fds (Some a) (Some b) None (Some b)

abbrev right_fds : Step → Entry → Entry → Entry → Fds
right_fds closes_old a b old = fds (Some old) (Some b) (Some a) (Some (partner a))
right_fds dups_kept a b old = fds None (Some b) (Some a) (Some (partner a))
right_fds drops_read a b old = fds (Some a) (Some b) (Some a) (Some (partner a))
right_fds drops_write a b old = fds (Some a) (Some b) None (Some (partner a))

abbrev pub has_open : Phase → Entry → Entry → Entry → Fds
has_open (at_lines lines) a b old = plain_fds a b
has_open (waits_line lines) a b old = plain_fds a b
has_open (begins tree) a b old = plain_fds a b
has_open (opens mode name body) a b old = open_fds mode a b
has_open (waits_list later) a b old = plain_fds a b
has_open (forks_left left right id) a b old = pipe_fds a b id
has_open (forks_right right id) a b old = pipe_fds a b id
has_open (has_forked stage id) a b old = stage_fds stage a b id
has_open (on_left step tree) a b old = left_fds step a b old
has_open (on_right step tree) a b old = right_fds step a b old
