-- The tree of processes: when the kernel has it, and what it stands for.
use Rattle.std.specs.Prelude.{◌≡◌, ◌⊎◌, ℕ, ◌+◌, ◌<◌, ◌≤◌, Bool, false, ◌==◌, if◌then◌else◌, List, [], ◌∷◌, drop, Some}
use Rattle.sh_tree.specs.declared.tree.Mode.{Mode}
use Rattle.sh_tree.specs.Tree.{Tree}
use Rattle.mem_files.specs.Name.{Name, Bytes}
use Rattle.script_load.specs.declared.profile.Profile.{Profile}
use Rattle.script_load.specs.declared.profile.Profile.TheVariants.{Xv6, Append}
use Rattle.script_load.specs.Line.{ScriptLine}
use Rattle.meaning_model.specs.Meaning.{script_tree}
use Rattle.user_calls.specs.declared.calls.Mode.TheVariants.{Input as ToRead, Fresh as ToFresh, Over as ToOver, Append as ToAppend}
use Rattle.user_calls.specs.declared.calls.Mode.{Mode as CallMode}
use Rattle.user_calls.specs.declared.calls.Call.TheVariants.{Write}
use Rattle.user_progs.specs.Turn.{Turn}
use Rattle.sh_machine.specs.State.{told}
use Rattle.sh_machine.specs.Turn.{calls, exits}
use Rattle.tree_model.specs.Residual.{Residual, done, todo, running, seq, piped, unopened, from, into, Position, at_byte, at_file_end}
use Rattle.process_model.specs.Seen.{Entry, input, out, diag, reader, writer, file, Fds, fd_at, Seen, free, zombie, live, Place, View}
use Rattle.process_model.specs.Phases.{Stage, closes_read, closes_write, waits_two, waits_one, leaves_pipe, Step, Phase, at_lines, waits_line, begins, opens, waits_list, forks_left, forks_right, has_forked, on_left, on_right, shell_act, does, has_open, plain_fds, open_fds}
use Rattle.process_model.specs.Own.{Owned, own_files, Works}

pub data Node : Type 0 where
  -- no process any more, and one that exited and isn't reaped
  reaped : Node
  gone : ℕ → Node
  -- the process that is to run a command
  starts : ℕ → Tree → Node
  -- a program, with so many bytes of its call put, and its own files
  works : ℕ → Turn → ℕ → List Owned → Node
  -- a process that has a message and then Exit before it, or Exit alone
  tells : ℕ → Bytes → Node
  leaves : ℕ → Node
  -- the top shell at these lines; and waiting for what runs the first of them
  reads_lines : ℕ → List ScriptLine → Node
  in_line : ℕ → Node → List ScriptLine → Node
  -- a list, whose left side runs
  in_list : ℕ → Node → Tree → Node
  -- a pipe: before its children are there, with the left one, and with both. The mark that a write was lost is the residual's
  pipe_made : ℕ → ℕ → Tree → Tree → Node
  pipe_half : ℕ → ℕ → Bool → Node → Bytes → Tree → Node
  pipe_both : ℕ → ℕ → Stage → Bool → Node → Bytes → Node → Node
  -- its children, until they run their side
  left_child : ℕ → Step → Tree → Node
  right_child : ℕ → Step → Tree → Node
  -- a redirection that is to open its file; and what runs under one, whose file's entry has this name
  opening : ℕ → Mode → Name → Tree → Node
  under_input : ℕ → Name → ℕ → Node → Node
  under_output : ℕ → CallMode → Name → ℕ → Node → Node

-- 1 where the process that runs this isn't reaped, and where it isn't over
abbrev pub is_there : Node → ℕ
is_there reaped = 0
is_there t = 1

abbrev pub is_up : Node → ℕ
is_up reaped = 0
is_up (gone p) = 0
is_up t = 1

-- how many children a pipe's process is still to reap
abbrev pub awaited : Stage → ℕ
awaited closes_read = 2
awaited closes_write = 2
awaited waits_two = 2
awaited waits_one = 1
awaited leaves_pipe = 0

-- how `>` and `>>` open their files: in xv6 `>>` writes from the first byte on, in the other profile at the end
abbrev pub OpensOutput : Profile → CallMode → Type 0
OpensOutput profile ToRead = ⊥
OpensOutput profile ToFresh = Unit {0}
OpensOutput Xv6 ToOver = Unit {0}
OpensOutput Append ToOver = ⊥
OpensOutput Xv6 ToAppend = ⊥
OpensOutput Append ToAppend = Unit {0}

-- what a process that ends has open: what its command began with, or that but for what a redirection gave up
abbrev pub HasLeft : Entry → Entry → Fds → Type 0
HasLeft a b d = (d ≡ plain_fds a b) ⊎ ((mode : Mode) × (d ≡ open_fds mode a b))

module _ (profile : Profile) where
  -- the process p of the shell is in this phase, in a command with a as its input and b as its output
  abbrev pub IsIn : View → Entry → Entry → Entry → ℕ → ℕ → Phase → Type 0
  IsIn V a b old parent p phase = V.slots p ≡ live parent (does profile phase) 0 (has_open phase a b old)

  -- the kernel has this tree, in a command with a as its input and b as its output, under the process `parent`; `old` is what
  -- a child of a pipe is to give up
  abbrev pub Has : View → Entry → Entry → Entry → ℕ → Node → Type 0
  Has V a b old parent reaped = Unit {0}
  Has V a b old parent (gone p) = V.slots p ≡ zombie parent
  Has V a b old parent (starts p tree) = IsIn V a b old parent p (begins tree)
  Has V a b old parent (works p turn put owns) = Works V a b parent p turn put owns
  Has V a b old parent (tells p message) =
      (d : Fds) × (V.slots p ≡ live parent (shell_act profile (calls (Write 2 message) told)) 0 d) × (fd_at d 2 ≡ Some diag) × HasLeft a b d
  Has V a b old parent (leaves p) = (d : Fds) × (V.slots p ≡ live parent (shell_act profile exits) 0 d) × HasLeft a b d
  Has V a b old parent (reads_lines p lines) = IsIn V a b old parent p (at_lines lines)
  Has V a b old parent (in_line p x lines) = IsIn V a b old parent p (waits_line lines) × (is_there x ≡ 1) × Has V a b old p x
  Has V a b old parent (in_list p x later) = IsIn V a b old parent p (waits_list later) × (is_there x ≡ 1) × Has V a b old p x
  Has V a b old parent (pipe_made p i left right) = IsIn V a b old parent p (forks_left left right i) × (V.pipes i ≡ [])
  Has V a b old parent (pipe_half p i lost x bytes right) =
      IsIn V a b old parent p (forks_right right i) × (V.pipes i ≡ bytes) × (is_there x ≡ 1) × Has V a (writer i) b p x
  Has V a b old parent (pipe_both p i stage lost x bytes y) =
      IsIn V a b old parent p (has_forked stage i)
      × (V.pipes i ≡ bytes)
      × (is_there x + is_there y ≡ awaited stage)
      × Has V a (writer i) b p x
      × Has V (reader i) b a p y
  Has V a b old parent (left_child p step tree) = IsIn V a b old parent p (on_left step tree)
  Has V a b old parent (right_child p step tree) = IsIn V a b old parent p (on_right step tree)
  Has V a b old parent (opening p mode name body) = IsIn V a b old parent p (opens mode name body)
  Has V a b old parent (under_input e name at x) =
      (V.places e ≡ record { name = name; mode = ToRead; at = at }) × (is_up x ≡ 1) × Has V (file e) b old parent x
  Has V a b old parent (under_output e mode name at x) =
      (V.places e ≡ record { name = name; mode = mode; at = at }) × (is_up x ≡ 1) × Has V a (file e) old parent x × OpensOutput profile mode

-- ---- which processes and names occur in a tree

-- 1 where two numbers are the same
unfoldable pub same : ℕ → ℕ → ℕ
same q p = if q == p then 1 else 0

-- how often a process occurs
abbrev pub occurs : ℕ → Node → ℕ
occurs q reaped = 0
occurs q (gone p) = same q p
occurs q (starts p tree) = same q p
occurs q (works p turn put owns) = same q p
occurs q (tells p message) = same q p
occurs q (leaves p) = same q p
occurs q (reads_lines p lines) = same q p
occurs q (in_line p x lines) = same q p + occurs q x
occurs q (in_list p x later) = same q p + occurs q x
occurs q (pipe_made p i left right) = same q p
occurs q (pipe_half p i lost x bytes right) = same q p + occurs q x
occurs q (pipe_both p i stage lost x bytes y) = same q p + occurs q x + occurs q y
occurs q (left_child p step tree) = same q p
occurs q (right_child p step tree) = same q p
occurs q (opening p mode name body) = same q p
occurs q (under_input e name at x) = occurs q x
occurs q (under_output e mode name at x) = occurs q x

-- how often the name of a pipe or of a file's entry occurs
abbrev pub owned_names : ℕ → List Owned → ℕ
owned_names k [] = 0
owned_names k (o ∷ later) = same k o.entry + owned_names k later

abbrev pub names : ℕ → Node → ℕ
names k reaped = 0
names k (gone p) = 0
names k (starts p tree) = 0
names k (works p turn put owns) = owned_names k owns
names k (tells p message) = 0
names k (leaves p) = 0
names k (reads_lines p lines) = 0
names k (in_line p x lines) = names k x
names k (in_list p x later) = names k x
names k (pipe_made p i left right) = same k i
names k (pipe_half p i lost x bytes right) = same k i + names k x
names k (pipe_both p i stage lost x bytes y) = same k i + names k x + names k y
names k (left_child p step tree) = 0
names k (right_child p step tree) = 0
names k (opening p mode name body) = 0
names k (under_input e name at x) = same k e + names k x
names k (under_output e mode name at x) = same k e + names k x

-- 1 where there is a process
abbrev pub is_used : Seen → ℕ
is_used free = 0
is_used (zombie parent) = 1
is_used (live parent act put d) = 1

-- the kernel has this tree: each of its processes occurs once, and no other; no name occurs twice
pub record IsShape (profile : Profile) (V : View) (t : Node) : Type 0 where
  pub has : Has profile V input out out 0 t
  pub all : (q : ℕ) → occurs q t ≡ is_used (V.slots q)
  pub once : (k : ℕ) → names k t ≤ 1
  pub known : (k : ℕ) → 1 ≤ names k t → k < V.next

-- ---- what it stands for

-- where an entry that was opened so goes on: one that appends at its file's end, whatever its offset
abbrev pub position : CallMode → ℕ → Position
position ToRead at = at_byte at
position ToFresh at = at_byte at
position ToOver at = at_byte at
position ToAppend at = at_file_end

abbrev pub position_of : Place → Position
position_of place = position place.mode place.at

abbrev pub stands_for : Node → Residual
stands_for reaped = done
stands_for (gone p) = done
stands_for (starts p tree) = todo tree
stands_for (works p turn put owns) = running (record { turn = turn; own = own_files owns; put = put })
stands_for (tells p message) = done
stands_for (leaves p) = done
stands_for (reads_lines p lines) = todo (script_tree lines)
stands_for (in_line p x lines) = seq (stands_for x) (script_tree (drop 1 lines))
stands_for (in_list p x later) = seq (stands_for x) later
stands_for (pipe_made p i left right) = piped false (todo left) [] (todo right)
stands_for (pipe_half p i lost x bytes right) = piped lost (stands_for x) bytes (todo right)
stands_for (pipe_both p i stage lost x bytes y) = piped lost (stands_for x) bytes (stands_for y)
stands_for (left_child p step tree) = todo tree
stands_for (right_child p step tree) = todo tree
stands_for (opening p mode name body) = unopened mode name body
stands_for (under_input e name at x) = from name at (stands_for x)
stands_for (under_output e mode name at x) = into name (position mode at) (stands_for x)
