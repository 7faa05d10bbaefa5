-- No first call of a command is one that has to wait, nor is any that takes a line.
use Rattle.std.proofs.Common.{◌≡◌, ℕ, List, [], ◌∷◌, Option, Some, None}
use Rattle.mem_files.specs.Name.{Bytes}
use Rattle.sh_tree.specs.Tree.{Tree, exec, redir, pipe, list, back}
use Rattle.script_load.specs.Line.{ScriptLine, command, bad, cd}
use Rattle.user_progs.specs.State.{State}
use Rattle.user_progs.specs.View.{first_state}
use Rattle.sh_machine.specs.Turn.{runs, execs_found, takes_first}
use Rattle.process_model.specs.Seen.{Entry, diag, writer, Fds, View}
use Rattle.process_model.specs.Phases.{plain_fds}
use Rattle.law_runs.proofs.never_stuck.Blocked.{Blocked}

found_now : (V : View) (p : ℕ) (d : Fds) (o : Option State) (name : Bytes) → Blocked V p d (execs_found o name).call → ⊥
found_now V p d None name blocked = blocked
found_now V p d (Some state) name blocked = blocked

pub begins_now : (V : View) (p : ℕ) (d : Fds) (tree : Tree) → Blocked V p d (runs tree).call → ⊥
begins_now V p d (exec []) blocked = blocked
begins_now V p d (exec (name ∷ arguments)) blocked = found_now V p d (first_state (name ∷ arguments)) name blocked
begins_now V p d (redir mode name body) blocked = blocked
begins_now V p d (pipe left right) blocked = blocked
begins_now V p d (list left right) blocked = blocked
begins_now V p d (back body) blocked = blocked

pub takes_now : (V : View) (p : ℕ) (a b : Entry) (lines : List ScriptLine) → Blocked V p (plain_fds a b) (takes_first lines).call → ⊥
takes_now V p a b [] blocked = blocked
takes_now V p a b (command tree ∷ later) blocked = blocked
takes_now V p a b (bad fault text ∷ later) blocked = blocked
takes_now V p a b (cd text ∷ later) blocked = let y : Some diag ≡ Some (writer blocked.0) = blocked.1 in let z : ⊥ = cc in z
