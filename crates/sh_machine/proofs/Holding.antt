-- Whatever a shell is answered, the ends of a pipe that it holds then are ends that it held before or that the answer names.
use Rattle.std.proofs.Common.{ℕ, zero, suc, List, [], ◌∷◌, ◌++◌, Option, Some, None, arith}
use Rattle.std.specs.Prelude.{Contains, codes}
use Rattle.std.proofs.lemmas.List.Elements.{Contains-append_left, Contains-append_right}
use Rattle.sh_tree.specs.Tree.{Tree, exec, redir, pipe, list, back}
use Rattle.script_load.specs.declared.profile.Profile.{Profile}
use Rattle.script_load.specs.Line.{ScriptLine, command, bad, cd}
use Rattle.user_calls.specs.declared.calls.Reply.{Reply}
use Rattle.user_calls.specs.declared.calls.Reply.TheVariants.{Start, Child, Done, Bytes, Fd, Ends, Refused}
use Rattle.user_progs.specs.State.{State}
use Rattle.user_progs.specs.View.{first_state}
use Rattle.sh_machine.specs.declared.state.Phase.{Phase}
use Rattle.sh_machine.specs.declared.state.Phase.TheVariants.{Starts, Forks, Waits, ToldCd}
use Rattle.sh_machine.specs.declared.state.Side.{Side}
use Rattle.sh_machine.specs.declared.state.Side.TheVariants.{Closes, Dups, ClosesReader, ClosesWriter}
use Rattle.sh_machine.specs.Held.{ends_of, held_by, held_next}
use Rattle.sh_machine.specs.State.{Parent, makes, forks_writer, forks_reader, closes_reader, closes_writer, waits_first, waits_second, Shell, top, unknown, closes_old, opens_file, forks_left, waits_left, pipes, side, forks_back, told, ended}
use Rattle.sh_machine.specs.Turn.{Turn, execs_found, failed, on_done, on_fd, on_fork, on_pipe, on_unknown, runs, runs_first, shell_turn, takes_first}
use Rattle.sh_machine.proofs.Answered.{by_done, by_fd, by_fork, by_unknown}

-- after this turn the shell holds none but these
abbrev Within : List ℕ → Turn → Type 0
Within fds turn = (fd : ℕ) → Contains (held_next turn.next) fd → Contains fds fd

none : (fds : List ℕ) (fd : ℕ) → Contains [] fd → Contains fds fd
none fds fd held = absurd (omega (arith, held.1))

-- the end that is duplicated is the one for writing, or the one for reading
writer_twice : (reader writer fd : ℕ) → Contains (writer ∷ reader ∷ writer ∷ []) fd → Contains (reader ∷ writer ∷ []) fd
writer_twice reader writer fd (zero, within, is) = (1, omega arith, is)
writer_twice reader writer fd (suc n, within, is) = (n, omega arith, is)

reader_twice : (reader writer fd : ℕ) → Contains (reader ∷ reader ∷ writer ∷ []) fd → Contains (reader ∷ writer ∷ []) fd
reader_twice reader writer fd (zero, within, is) = (0, omega arith, is)
reader_twice reader writer fd (suc n, within, is) = (n, omega arith, is)

-- what each answer leads to

wider : (fds : List ℕ) (reply : Reply) (turn : Turn) → Within fds turn → Within (fds ++ ends_of reply) turn
wider fds reply turn within fd held = Contains-append_left fds (ends_of reply) fd (within fd held)

done_holds : (fds : List ℕ) (reply : Reply) (then : Turn) → Within fds then → Within (fds ++ ends_of reply) (on_done reply then)
done_holds fds reply then holds = wider fds reply (on_done reply then) (by_done (Within fds) (none fds) reply then holds)

fd_holds : (fds : List ℕ) (reply : Reply) (then refused : Turn) → Within fds then → Within fds refused → Within (fds ++ ends_of reply) (on_fd reply then refused)
fd_holds fds reply then refused holds other = wider fds reply (on_fd reply then refused) (by_fd (Within fds) (none fds) reply then refused holds other)

fork_holds : (fds : List ℕ) (reply : Reply) (parent child : Turn) → Within fds parent → Within fds child → Within (fds ++ ends_of reply) (on_fork reply parent child)
fork_holds fds reply parent child holds other = wider fds reply (on_fork reply parent child) (by_fork (Within fds) (none fds) reply parent child holds other (none fds))

pipe_holds : (reply : Reply) (left right : Tree) → Within ([] ++ ends_of reply) (on_pipe reply left right)
pipe_holds Start left right fd held = none [] fd held
pipe_holds Child left right fd held = none [] fd held
pipe_holds Done left right fd held = none [] fd held
pipe_holds (Bytes bytes) left right fd held = none [] fd held
pipe_holds (Fd n) left right fd held = none [] fd held
pipe_holds (Ends reader writer) left right fd held = held
pipe_holds Refused left right fd held = none [] fd held

unknown_holds : (fds : List ℕ) (reply : Reply) (what name : List ℕ) → Within fds (on_unknown reply (failed what name))
unknown_holds fds reply what name = by_unknown (Within fds) (none fds) reply (failed what name) (none fds)

-- what is only begun holds none

execs_holds : (fds : List ℕ) (found : Option State) (name : List ℕ) → Within fds (execs_found found name)
execs_holds fds None name fd held = none fds fd held
execs_holds fds (Some state) name fd held = none fds fd held

runs_holds : (fds : List ℕ) (tree : Tree) → Within fds (runs tree)
runs_holds fds (exec []) fd held = none fds fd held
runs_holds fds (exec (name ∷ arguments)) fd held = execs_holds fds (first_state (name ∷ arguments)) name fd held
runs_holds fds (redir mode file body) fd held = none fds fd held
runs_holds fds (pipe left right) fd held = none fds fd held
runs_holds fds (list left right) fd held = none fds fd held
runs_holds fds (back body) fd held = none fds fd held

runs_first_holds : (fds : List ℕ) (lines : List ScriptLine) → Within fds (runs_first lines)
runs_first_holds fds [] fd held = none fds fd held
runs_first_holds fds (command tree ∷ later) fd held = runs_holds fds tree fd held
runs_first_holds fds (bad fault text ∷ later) fd held = none fds fd held
runs_first_holds fds (cd text ∷ later) fd held = none fds fd held

takes_first_holds : (fds : List ℕ) (lines : List ScriptLine) → Within fds (takes_first lines)
takes_first_holds fds [] fd held = none fds fd held
takes_first_holds fds (command tree ∷ later) fd held = none fds fd held
takes_first_holds fds (bad fault text ∷ later) fd held = none fds fd held
takes_first_holds fds (cd text ∷ later) fd held = none fds fd held

-- state by state

parent_holds : (profile : Profile) (parent : Parent) (reply : Reply) → Within (held_by (pipes parent) ++ ends_of reply) (shell_turn profile (pipes parent) reply)
parent_holds profile (makes left right) reply = pipe_holds reply left right
parent_holds profile (forks_writer left right reader writer) reply =
    fork_holds (reader ∷ writer ∷ []) reply _ _ (λ fd held. held) (λ fd held. writer_twice reader writer fd held)
parent_holds profile (forks_reader right reader writer) reply =
    fork_holds (reader ∷ writer ∷ []) reply _ _ (λ fd held. Contains-append_right (reader ∷ []) (writer ∷ []) fd held) (λ fd held. reader_twice reader writer fd held)
parent_holds profile (closes_reader writer) reply = done_holds (writer ∷ []) reply _ (λ fd held. none (writer ∷ []) fd held)
parent_holds profile closes_writer reply = done_holds [] reply _ (λ fd held. held)
parent_holds profile waits_first reply = done_holds [] reply _ (λ fd held. held)
parent_holds profile waits_second reply = done_holds [] reply _ (λ fd held. held)

side_holds : (profile : Profile) (place : Side) (tree : Tree) (reply : Reply) → Within (held_by (side place tree) ++ ends_of reply) (shell_turn profile (side place tree) reply)
side_holds profile (Closes kept reader writer) tree reply =
    done_holds (kept ∷ reader ∷ writer ∷ []) reply _ (λ fd held. Contains-append_right (kept ∷ []) (reader ∷ writer ∷ []) fd held)
side_holds profile (Dups reader writer) tree reply =
    fd_holds (reader ∷ writer ∷ []) reply _ _ (λ fd held. Contains-append_right (reader ∷ []) (writer ∷ []) fd held) (λ fd held. none (reader ∷ writer ∷ []) fd held)
side_holds profile (ClosesReader writer) tree reply = done_holds (writer ∷ []) reply _ (λ fd held. none (writer ∷ []) fd held)
side_holds profile ClosesWriter tree reply = done_holds [] reply (runs tree) (runs_holds [] tree)

top_holds : (profile : Profile) (phase : Phase) (lines : List ScriptLine) (reply : Reply) → Within ([] ++ ends_of reply) (shell_turn profile (top phase lines) reply)
top_holds profile Starts lines reply = takes_first_holds ([] ++ ends_of reply) lines
top_holds profile Forks lines reply = fork_holds [] reply _ (runs_first lines) (λ fd held. held) (runs_first_holds [] lines)
top_holds profile Waits lines reply = done_holds [] reply _ (takes_first_holds [] _)
top_holds profile ToldCd lines reply = takes_first_holds ([] ++ ends_of reply) _

pub shell_holds : (profile : Profile) (at : Shell) (reply : Reply) (fd : ℕ) → Contains (held_next (shell_turn profile at reply).next) fd → Contains (held_by at ++ ends_of reply) fd
shell_holds profile (top phase lines) reply = top_holds profile phase lines reply
shell_holds profile (unknown name) reply = unknown_holds ([] ++ ends_of reply) reply (codes "exec ") name
shell_holds profile (closes_old mode file body) reply = done_holds [] reply _ (λ fd held. held)
shell_holds profile (opens_file file body) reply = fd_holds [] reply (runs body) (failed (codes "open ") file) (runs_holds [] body) (λ fd held. held)
shell_holds profile (forks_left left right) reply = fork_holds [] reply _ (runs left) (λ fd held. held) (runs_holds [] left)
shell_holds profile (waits_left right) reply = done_holds [] reply (runs right) (runs_holds [] right)
shell_holds profile (pipes parent) reply = parent_holds profile parent reply
shell_holds profile (side place tree) reply = side_holds profile place tree reply
shell_holds profile (forks_back body) reply = fork_holds [] reply _ (runs body) (λ fd held. held) (runs_holds [] body)
shell_holds profile told reply = λ fd held. none ([] ++ ends_of reply) fd held
shell_holds profile ended reply = λ fd held. none ([] ++ ends_of reply) fd held
