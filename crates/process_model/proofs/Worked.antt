-- The definitions at work, on a kernel that runs: why entries have names, and why what a pipe held is remembered.
use Rattle.std.specs.Prelude.{◌≡◌, ℕ, zero, suc, true, false, List, [], ◌∷◌, Option, Some, None, option_map, replicate, length, refl}
use Rattle.fd_table.specs.Descriptors.{entry_of}
use Rattle.sh_tree.specs.declared.tree.Mode.TheVariants.{Input}
use Rattle.sh_tree.specs.Tree.{Tree, exec, redir, pipe}
use Rattle.mem_files.specs.Name.{Name, Bytes}
use Rattle.script_load.specs.Line.{command}
use Rattle.script_load.specs.declared.profile.Profile.TheVariants.{Xv6}
use Rattle.kernel_model.specs.declared.events.Event.{Event}
use Rattle.kernel_model.specs.declared.events.Event.TheVariants.{Dispatch, Trap}
use Rattle.kernel_model.specs.KernelState.{KernelState, fds_at}
use Rattle.kernel_model.specs.Boot.{boot_kernel}
use Rattle.kernel_model.specs.Events.{run}
use Rattle.kernel_model.specs.Pipes.{Pipes, pipe_of, reader_gone}
use Rattle.sh_machine.specs.State.{User, init, shell, top}
use Rattle.sh_machine.specs.Turn.{call_of, next_of}
use Rattle.sh_machine.specs.declared.state.Phase.TheVariants.{Starts}
use Rattle.process_model.specs.Seen.{Entry, input, out, diag, reader, writer, Seen, live, seen}
use Rattle.process_model.specs.Phases.{Phase, waits_line, begins, forks_left, forks_right, has_forked, closes_read, closes_write, waits_two, on_left, on_right, closes_old, dups_kept, drops_read, drops_write, does, has_open}

-- both ends of a pipe are closed while it holds a byte that no process read: it is given up, and its byte with it
one_byte : Pipes
one_byte = (7, record { bytes = 1 ∷ []; reader = true; writer = false }) ∷ []

bytes_go : pipe_of (reader_gone one_byte 7 (pipe_of one_byte 7)) 7 ≡ None
unfolding one_byte
bytes_go = refl

-- each of these processes in turn is dispatched, and makes its call
turns : List ℕ → List Event
turns [] = []
turns (p ∷ ps) = Dispatch 0 p ∷ Trap 0 p ∷ turns ps

module _ (tree : Tree) (list : List (Name × Bytes)) where
  after : List ℕ → Option (KernelState User)
  unfolding turns
  after ps = run call_of next_of (Some (boot_kernel init (shell Xv6 (top Starts (command tree ∷ []))) [] list)) (turns ps) (replicate (length (turns ps)) false)

-- ---- cat < a < b: the second file gets the entry that the first had, while the tree still has the first

two_files : List (Name × Bytes)
two_files = (97 ∷ [], 1 ∷ []) ∷ (98 ∷ [], 2 ∷ []) ∷ []

nested : Tree
nested = redir Input (98 ∷ []) (redir Input (97 ∷ []) (exec ((99 ∷ 97 ∷ 116 ∷ []) ∷ [])))

first_entry : option_map (λ (k : KernelState User). entry_of (fds_at k 2) 0) (after nested two_files (1 ∷ 2 ∷ 2 ∷ [])) ≡ Some (Some 3)
unfolding after turns nested two_files
first_entry = refl

second_entry : option_map (λ (k : KernelState User). entry_of (fds_at k 2) 0) (after nested two_files (1 ∷ 2 ∷ 2 ∷ 2 ∷ 2 ∷ [])) ≡ Some (Some 3)
unfolding after turns nested two_files
second_entry = refl

-- ---- echo a | cat: the phases of its processes, as the table has them

left : Tree
left = exec ((101 ∷ 99 ∷ 104 ∷ 111 ∷ []) ∷ (97 ∷ []) ∷ [])

right : Tree
right = exec ((99 ∷ 97 ∷ 116 ∷ []) ∷ [])

-- the entries 3 and 4 are the ends of the pipe, which the fourth event makes
name : ℕ → Entry
name zero = input
name (suc zero) = out
name (suc (suc zero)) = diag
name (suc (suc (suc zero))) = reader 4
name (suc (suc (suc (suc n)))) = writer 4

slot : ℕ → List ℕ → Option Seen
unfolding after turns left right name
slot p ps = option_map (λ (k : KernelState User). seen name k.table p) (after (pipe left right) [] ps)

-- the process of a command with these as its input, its output and what it gives up, in this phase
in_phase : ℕ → Phase → Entry → Entry → Entry → Option Seen
in_phase parent phase a b old = Some (live parent (does Xv6 phase) 0 (has_open phase a b old))

-- the shell waits for the line
waits : slot 1 (1 ∷ []) ≡ in_phase 0 (waits_line (command (pipe left right) ∷ [])) input out out
unfolding slot in_phase after turns left right name
waits = refl

-- its child begins the pipe
begun : slot 2 (1 ∷ []) ≡ in_phase 1 (begins (pipe left right)) input out out
unfolding slot in_phase after turns left right name
begun = refl

-- the pipe is made
made : slot 2 (1 ∷ 2 ∷ []) ≡ in_phase 1 (forks_left left right 4) input out out
unfolding slot in_phase after turns left right name
made = refl

-- one child
half : slot 2 (1 ∷ 2 ∷ 2 ∷ []) ≡ in_phase 1 (forks_right right 4) input out out
unfolding slot in_phase after turns left right name
half = refl

-- two
both : slot 2 (1 ∷ 2 ∷ 2 ∷ 2 ∷ []) ≡ in_phase 1 (has_forked closes_read 4) input out out
unfolding slot in_phase after turns left right name
both = refl

-- its ends are closed
one_end : slot 2 (1 ∷ 2 ∷ 2 ∷ 2 ∷ 2 ∷ []) ≡ in_phase 1 (has_forked closes_write 4) input out out
unfolding slot in_phase after turns left right name
one_end = refl

no_end : slot 2 (1 ∷ 2 ∷ 2 ∷ 2 ∷ 2 ∷ 2 ∷ []) ≡ in_phase 1 (has_forked waits_two 4) input out out
unfolding slot in_phase after turns left right name
no_end = refl

-- the left child takes its end
left_first : slot 3 (1 ∷ 2 ∷ 2 ∷ []) ≡ in_phase 2 (on_left closes_old left) input (writer 4) out
unfolding slot in_phase after turns left right name
left_first = refl

left_second : slot 3 (1 ∷ 2 ∷ 2 ∷ 3 ∷ []) ≡ in_phase 2 (on_left dups_kept left) input (writer 4) out
unfolding slot in_phase after turns left right name
left_second = refl

left_third : slot 3 (1 ∷ 2 ∷ 2 ∷ 3 ∷ 3 ∷ []) ≡ in_phase 2 (on_left drops_read left) input (writer 4) out
unfolding slot in_phase after turns left right name
left_third = refl

left_fourth : slot 3 (1 ∷ 2 ∷ 2 ∷ 3 ∷ 3 ∷ 3 ∷ []) ≡ in_phase 2 (on_left drops_write left) input (writer 4) out
unfolding slot in_phase after turns left right name
left_fourth = refl

-- and begins its side
left_begun : slot 3 (1 ∷ 2 ∷ 2 ∷ 3 ∷ 3 ∷ 3 ∷ 3 ∷ []) ≡ in_phase 2 (begins left) input (writer 4) out
unfolding slot in_phase after turns left right name
left_begun = refl

-- and so the right one
right_first : slot 4 (1 ∷ 2 ∷ 2 ∷ 2 ∷ []) ≡ in_phase 2 (on_right closes_old right) (reader 4) out input
unfolding slot in_phase after turns left right name
right_first = refl

right_second : slot 4 (1 ∷ 2 ∷ 2 ∷ 2 ∷ 4 ∷ []) ≡ in_phase 2 (on_right dups_kept right) (reader 4) out input
unfolding slot in_phase after turns left right name
right_second = refl

right_third : slot 4 (1 ∷ 2 ∷ 2 ∷ 2 ∷ 4 ∷ 4 ∷ []) ≡ in_phase 2 (on_right drops_read right) (reader 4) out input
unfolding slot in_phase after turns left right name
right_third = refl

right_fourth : slot 4 (1 ∷ 2 ∷ 2 ∷ 2 ∷ 4 ∷ 4 ∷ 4 ∷ []) ≡ in_phase 2 (on_right drops_write right) (reader 4) out input
unfolding slot in_phase after turns left right name
right_fourth = refl

right_begun : slot 4 (1 ∷ 2 ∷ 2 ∷ 2 ∷ 4 ∷ 4 ∷ 4 ∷ 4 ∷ []) ≡ in_phase 2 (begins right) (reader 4) out input
unfolding slot in_phase after turns left right name
right_begun = refl
