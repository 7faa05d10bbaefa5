-- Whatever a shell is answered, it makes no call but those of its table.
use Rattle.std.proofs.Common.{ℕ, List, [], ◌∷◌, Option, Some, None, refl, arith}
use Rattle.std.specs.Prelude.{Contains, codes}
use Rattle.std.proofs.lemmas.List.Elements.{Contains-append_right}
use Rattle.sh_tree.specs.declared.tree.Mode.TheVariants.{Input, Fresh, Over}
use Rattle.sh_tree.specs.Tree.{Tree, exec, redir, pipe, list, back}
use Rattle.script_load.specs.declared.profile.Profile.{Profile}
use Rattle.script_load.specs.Line.{ScriptLine, command, bad, cd}
use Rattle.user_calls.specs.declared.calls.Reply.{Reply}
use Rattle.user_calls.specs.declared.calls.Reply.TheVariants.{Start, Child, Done, Bytes, Fd, Ends, Refused}
use Rattle.user_progs.specs.State.{State}
use Rattle.user_progs.specs.View.{first_state}
use Rattle.sh_machine.specs.declared.state.Phase.{Phase}
use Rattle.sh_machine.specs.declared.state.Phase.TheVariants.{Starts, Forks, Waits, ToldCd}
use Rattle.sh_machine.specs.declared.state.Side.{Side}
use Rattle.sh_machine.specs.declared.state.Side.TheVariants.{Closes, Dups, ClosesReader, ClosesWriter}
use Rattle.sh_machine.specs.Held.{MayCall, held_by}
use Rattle.sh_machine.specs.State.{Parent, makes, forks_writer, forks_reader, closes_reader, closes_writer, waits_first, waits_second, Shell, top, unknown, closes_old, opens_file, forks_left, waits_left, pipes, side, forks_back, told, ended}
use Rattle.sh_machine.specs.Turn.{Turn, execs_found, failed, on_done, on_fd, on_fork, on_pipe, on_unknown, runs, runs_first, shell_turn, takes_first}
use Rattle.sh_machine.proofs.Answered.{by_done, by_fd, by_fork, by_unknown}

abbrev May : Shell → Turn → Type 0
May at turn = MayCall at turn.call

done_may : (at : Shell) (reply : Reply) (then : Turn) → May at then → May at (on_done reply then)
done_may at reply then may = by_done (May at) tt reply then may

fd_may : (at : Shell) (reply : Reply) (then refused : Turn) → May at then → May at refused → May at (on_fd reply then refused)
fd_may at reply then refused may other = by_fd (May at) tt reply then refused may other

fork_may : (at : Shell) (reply : Reply) (parent child : Turn) → May at parent → May at child → May at (on_fork reply parent child)
fork_may at reply parent child may other = by_fork (May at) tt reply parent child may other refl

pipe_may : (at : Shell) (reply : Reply) (left right : Tree) → May at (on_pipe reply left right)
pipe_may at Start left right = tt
pipe_may at Child left right = tt
pipe_may at Done left right = tt
pipe_may at (Bytes bytes) left right = tt
pipe_may at (Fd fd) left right = tt
pipe_may at (Ends reader writer) left right = tt
pipe_may at Refused left right = refl

unknown_may : (at : Shell) (reply : Reply) (then : Turn) → May at then → May at (on_unknown reply then)
unknown_may at reply then may = by_unknown (May at) tt reply then may

execs_may : (at : Shell) (found : Option State) (name : List ℕ) → May at (execs_found found name)
execs_may at None name = tt
execs_may at (Some state) name = tt

runs_may : (at : Shell) (tree : Tree) → May at (runs tree)
runs_may at (exec []) = tt
runs_may at (exec (name ∷ arguments)) = execs_may at (first_state (name ∷ arguments)) name
runs_may at (redir Input file body) = (0, omega arith, refl)
runs_may at (redir Fresh file body) = (1, omega arith, refl)
runs_may at (redir Over file body) = (1, omega arith, refl)
runs_may at (pipe left right) = tt
runs_may at (list left right) = tt
runs_may at (back body) = tt

runs_first_may : (at : Shell) (lines : List ScriptLine) → May at (runs_first lines)
runs_first_may at [] = tt
runs_first_may at (command tree ∷ later) = runs_may at tree
runs_first_may at (bad fault text ∷ later) = refl
runs_first_may at (cd text ∷ later) = tt

takes_first_may : (at : Shell) (lines : List ScriptLine) → May at (takes_first lines)
takes_first_may at [] = tt
takes_first_may at (command tree ∷ later) = tt
takes_first_may at (bad fault text ∷ later) = tt
takes_first_may at (cd text ∷ later) = refl

held_closes : (at : Shell) (fd : ℕ) → Contains (held_by at) fd → Contains (0 ∷ 1 ∷ held_by at) fd
held_closes at fd held = Contains-append_right (0 ∷ 1 ∷ []) (held_by at) fd held

parent_may : (profile : Profile) (parent : Parent) (reply : Reply) → May (pipes parent) (shell_turn profile (pipes parent) reply)
parent_may profile (makes left right) reply = pipe_may (pipes (makes left right)) reply left right
parent_may profile (forks_writer left right reader writer) reply =
    fork_may (pipes (forks_writer left right reader writer)) reply _ _ tt (1, omega arith, refl)
parent_may profile (forks_reader right reader writer) reply =
    let at = pipes (forks_reader right reader writer) in
    fork_may at reply _ _ (held_closes at reader (0, omega arith, refl)) (0, omega arith, refl)
parent_may profile (closes_reader writer) reply =
    let at = pipes (closes_reader writer) in done_may at reply _ (held_closes at writer (0, omega arith, refl))
parent_may profile closes_writer reply = done_may (pipes closes_writer) reply _ tt
parent_may profile waits_first reply = done_may (pipes waits_first) reply _ tt
parent_may profile waits_second reply = done_may (pipes waits_second) reply _ tt

side_may : (profile : Profile) (place : Side) (tree : Tree) (reply : Reply) → May (side place tree) (shell_turn profile (side place tree) reply)
side_may profile (Closes kept reader writer) tree reply =
    done_may (side (Closes kept reader writer) tree) reply _ (0, omega arith, refl)
side_may profile (Dups reader writer) tree reply =
    let at = side (Dups reader writer) tree in fd_may at reply _ _ (held_closes at reader (0, omega arith, refl)) tt
side_may profile (ClosesReader writer) tree reply =
    let at = side (ClosesReader writer) tree in done_may at reply _ (held_closes at writer (0, omega arith, refl))
side_may profile ClosesWriter tree reply = done_may (side ClosesWriter tree) reply (runs tree) (runs_may (side ClosesWriter tree) tree)

top_may : (profile : Profile) (phase : Phase) (lines : List ScriptLine) (reply : Reply) → May (top phase lines) (shell_turn profile (top phase lines) reply)
top_may profile Starts lines reply = takes_first_may (top Starts lines) lines
top_may profile Forks lines reply = fork_may (top Forks lines) reply _ (runs_first lines) tt (runs_first_may (top Forks lines) lines)
top_may profile Waits lines reply = done_may (top Waits lines) reply _ (takes_first_may (top Waits lines) _)
top_may profile ToldCd lines reply = takes_first_may (top ToldCd lines) _

pub shell_may : (profile : Profile) (at : Shell) (reply : Reply) → MayCall at (shell_turn profile at reply).call
shell_may profile (top phase lines) reply = top_may profile phase lines reply
shell_may profile (unknown name) reply = unknown_may (unknown name) reply (failed (codes "exec ") name) refl
shell_may profile (closes_old mode file body) reply = done_may (closes_old mode file body) reply _ tt
shell_may profile (opens_file file body) reply =
    fd_may (opens_file file body) reply (runs body) (failed (codes "open ") file) (runs_may (opens_file file body) body) refl
shell_may profile (forks_left left right) reply = fork_may (forks_left left right) reply _ (runs left) tt (runs_may (forks_left left right) left)
shell_may profile (waits_left right) reply = done_may (waits_left right) reply (runs right) (runs_may (waits_left right) right)
shell_may profile (pipes parent) reply = parent_may profile parent reply
shell_may profile (side place tree) reply = side_may profile place tree reply
shell_may profile (forks_back body) reply = fork_may (forks_back body) reply _ (runs body) tt (runs_may (forks_back body) body)
shell_may profile told reply = tt
shell_may profile ended reply = tt
