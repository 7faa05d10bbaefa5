-- What each process of a run is at, as it is seen: a phase of the shell, a program, or nothing that writes to a place any more. And how
-- many bytes it may still write to a place, itself and through the processes that it forks.
use Rattle.std.proofs.Common.{◌≡◌, ◌⊎◌, ℕ, ◌+◌, ◌-◌, ◌<◌, ◌==◌, Bool, true, false, List, length, drop, Option, Some, None}
use Rattle.std.specs.Prelude.{◌||◌}
use Rattle.std.specs.List.{list_any}
use Rattle.std.specs.Str.{bytes_eq}
use Rattle.sh_tree.specs.Tree.{Tree, redir}
use Rattle.mem_files.specs.Name.{Name, Bytes}
use Rattle.prog_parts.specs.declared.program.Program.{Program}
use Rattle.prog_parts.specs.NameSets.{Names, no_names, among}
use Rattle.prog_parts.specs.Words.{files_read, files_written}
use Rattle.script_load.specs.declared.profile.Profile.{Profile}
use Rattle.meaning_model.specs.Meaning.{script_tree}
use Rattle.user_calls.specs.declared.calls.Call.{Call}
use Rattle.user_calls.specs.declared.calls.Call.TheVariants.{Fork, Exec, Exit, Wait, MakePipe, Read, Write, OpenFile, Close, Dup}
use Rattle.user_calls.specs.declared.calls.Mode.TheVariants.{Input as ToRead}
use Rattle.user_calls.specs.declared.calls.Reply.{Reply}
use Rattle.user_progs.specs.State.{Source, standard, file as file_at, State, begins, echo_word, echo_space, opens, works, closes, tees, told, ended}
use Rattle.user_progs.specs.Turn.{block}
use Rattle.tree_model.specs.Ahead.{still_uses}
use Rattle.tree_model.specs.FilesAhead.{Sizes, sizes, all_sizes}
use Rattle.tree_model.specs.Tame.{Among, AreTame}
use Rattle.tree_model.specs.Bound.{input_ahead, input_under}
use Rattle.tree_model.specs.ProgramBytes.{call_bytes, later_bytes}
use Rattle.sh_machine.specs.State.{program, told as shell_told}
use Rattle.sh_machine.specs.Turn.{calls, exits}
use Rattle.process_model.specs.Seen.{Entry, input, out, diag, reader, writer, file, Fds, fd_at, Act, Seen, free, zombie, live, View}
use Rattle.process_model.specs.Phases.{Phase, at_lines, waits_line, begins as begins_tree, opens as opens_redir, waits_list, forks_left, forks_right, has_forked, on_left, on_right, shell_act, does, has_open}
use Rattle.process_model.specs.Own.{IsWriter}
use Rattle.process_model.specs.Part.{CanBeInput, CanBeOutput, OpenedToRead, OpenedToWrite}
use Rattle.room_model.specs.Files.{names_written}
use Rattle.room_model.specs.Place.{counted_if, output_under, to_place}

-- ---- places

-- a pipe, by its name, and the file of a name
pub data Goal : Type 0 where
  a_pipe : ℕ → Goal
  a_file : Name → Goal

abbrev pub names_of : Goal → Names
names_of (a_pipe i) = no_names
names_of (a_file f) = bytes_eq f

abbrev pub pipe_goes : ℕ → Entry → Bool
pipe_goes i input = false
pipe_goes i out = false
pipe_goes i diag = false
pipe_goes i (reader k) = false
pipe_goes i (writer k) = i == k
pipe_goes i (file e) = false

abbrev pub file_goes : View → Name → Entry → Bool
file_goes V f input = false
file_goes V f out = false
file_goes V f diag = false
file_goes V f (reader k) = false
file_goes V f (writer k) = false
file_goes V f (file e) = bytes_eq f (V.places e).name

-- whether what is written through an entry goes there
abbrev pub goes_to : View → Goal → Entry → Bool
goes_to V (a_pipe i) x = pipe_goes i x
goes_to V (a_file f) x = file_goes V f x

abbrev pub goes_by : View → Goal → Option Entry → Bool
goes_by V x None = false
goes_by V x (Some y) = goes_to V x y

-- how many bytes a place has
abbrev pub has : View → Goal → ℕ
has V (a_pipe i) = length (V.pipes i)
has V (a_file f) = sizes V.files f

-- an entry is older than the next event
abbrev pub IsOld : ℕ → Entry → Type 0
IsOld next input = Unit {0}
IsOld next out = Unit {0}
IsOld next diag = Unit {0}
IsOld next (reader i) = i < next
IsOld next (writer i) = i < next
IsOld next (file e) = e < next

-- ---- what a process is at

pub data Doing : Type 0 where
  -- no process, a zombie, or one that only prints a message and exits
  over : Doing
  -- the shell, with this input and this output, and what it is to give up
  in_phase : Phase → Entry → Entry → Entry → Doing
  -- a program with these arguments, that makes this call in this state, of which so many bytes are put, with these descriptors
  runs : Program → List Bytes → Call → State → ℕ → Fds → Doing

abbrev pub IsEnding : Profile → Act → Fds → Type 0
IsEnding profile act d = (act ≡ shell_act profile exits) ⊎ ((message : Bytes) × (act ≡ shell_act profile (calls (Write 2 message) shell_told)) × (fd_at d 2 ≡ Some diag))

abbrev pub IsOver : Profile → Seen → Type 0
IsOver profile free = Unit {0}
IsOver profile (zombie parent) = Unit {0}
IsOver profile (live parent act put d) = IsEnding profile act d

-- the input and the output of a command
pub record IsFine (profile : Profile) (V : View) (a b : Entry) : Type 0 where
  pub can_read : CanBeInput a
  pub can_write : CanBeOutput b
  pub to_read : OpenedToRead V a
  pub to_write : OpenedToWrite profile V b
  pub old_input : IsOld V.next a
  pub old_output : IsOld V.next b

-- a phase names only pipes that were made
abbrev pub IsOldPhase : ℕ → Phase → Type 0
IsOldPhase next (at_lines lines) = Unit {0}
IsOldPhase next (waits_line lines) = Unit {0}
IsOldPhase next (begins_tree tree) = Unit {0}
IsOldPhase next (opens_redir mode name body) = Unit {0}
IsOldPhase next (waits_list later) = Unit {0}
IsOldPhase next (forks_left left right i) = i < next
IsOldPhase next (forks_right right i) = i < next
IsOldPhase next (has_forked stage i) = Unit {0}
IsOldPhase next (on_left step tree) = Unit {0}
IsOldPhase next (on_right step tree) = Unit {0}

-- what a program opened is a file, and one that it can write has a name that the program writes
pub record IsOwnFile (V : View) (written : Names) (x : Entry) : Type 0 where
  pub entry : ℕ
  pub is : x ≡ file entry
  pub old : entry < V.next
  pub named : ((V.places entry).mode ≡ ToRead) ⊎ (written (V.places entry).name ≡ true)

abbrev pub written_by : Program → List Bytes → Names
written_by which arguments name = list_any (bytes_eq name) (files_written which arguments)

-- a call is the one that the state waits for, as far as it counts
abbrev pub fd_source : State → Option ℕ
fd_source (begins which arguments) = None
fd_source (echo_word later) = None
fd_source (echo_space later) = None
fd_source (opens filter name later) = None
fd_source (works work standard) = Some 0
fd_source (works work (file_at fd name later)) = Some fd
fd_source (closes filter later) = None
fd_source (tees tee) = Some 0
fd_source told = None
fd_source ended = None

abbrev pub name_opened : State → Option Name
name_opened (begins which arguments) = None
name_opened (echo_word later) = None
name_opened (echo_space later) = None
name_opened (opens filter name later) = Some name
name_opened (works work source) = None
name_opened (closes filter later) = None
name_opened (tees tee) = None
name_opened told = None
name_opened ended = None

abbrev pub OpensIts : Name → State → Type 0
OpensIts name (begins which arguments) = ⊥
OpensIts name (echo_word later) = ⊥
OpensIts name (echo_space later) = ⊥
OpensIts name (opens filter its later) = name ≡ block its
OpensIts name (works work source) = ⊥
OpensIts name (closes filter later) = ⊥
OpensIts name (tees tee) = Unit {0}
OpensIts name told = ⊥
OpensIts name ended = ⊥

abbrev pub IsAsked : Call → State → Type 0
IsAsked Fork state = Unit {0}
IsAsked (Exec found) state = Unit {0}
IsAsked Exit state = Unit {0}
IsAsked Wait state = Unit {0}
IsAsked MakePipe state = Unit {0}
IsAsked (Read fd most) state = fd_source state ≡ Some fd
IsAsked (Write fd bytes) state = Unit {0}
IsAsked (OpenFile name mode) state = OpensIts name state
IsAsked (Close fd) state = Unit {0}
IsAsked (Dup fd) state = Unit {0}

-- ---- how many bytes are ahead

module _ (L : Sizes) (V : View) (N : ℕ → ℕ) where
  -- that an entry may still give
  abbrev pub ahead : Entry → ℕ
  ahead input = length V.input
  ahead out = 0
  ahead diag = 0
  ahead (reader i) = N i
  ahead (writer i) = 0
  ahead (file e) = L (V.places e).name - (V.places e).at

  abbrev pub ahead_by : Option Entry → ℕ
  ahead_by None = 0
  ahead_by (Some x) = ahead x

  -- that a command writes to a place, with this input and this output
  abbrev pub of_tree : Goal → Entry → Entry → Tree → ℕ
  of_tree x a b tree = to_place (names_of x) (goes_to V x b) tree (ahead a) L

  abbrev pub of_phase : Goal → Phase → Entry → Entry → ℕ
  of_phase x (at_lines lines) a b = of_tree x a b (script_tree lines)
  of_phase x (waits_line lines) a b = of_tree x a b (script_tree (drop 1 lines))
  of_phase x (begins_tree tree) a b = of_tree x a b tree
  of_phase x (opens_redir mode name body) a b = to_place (names_of x) (output_under (names_of x) mode name (goes_to V x b)) body (input_under mode (ahead a) (L name)) L
  of_phase x (waits_list later) a b = of_tree x a b later
  of_phase x (forks_left left right i) a b = of_tree x a (writer i) left + of_tree x (reader i) b right
  of_phase x (forks_right right i) a b = of_tree x (reader i) b right
  of_phase x (has_forked stage i) a b = 0
  of_phase x (on_left step tree) a b = of_tree x a b tree
  of_phase x (on_right step tree) a b = of_tree x a b tree

  -- that a program reads, with these descriptors
  abbrev pub of_source : Fds → Source → ℕ
  of_source d standard = 0
  of_source d (file_at fd name later) = ahead_by (fd_at d fd) + all_sizes later L

  abbrev pub of_files : Fds → State → ℕ
  of_files d (begins which arguments) = all_sizes (files_read which arguments) L
  of_files d (echo_word later) = 0
  of_files d (echo_space later) = 0
  of_files d (opens filter name later) = L name + all_sizes later L
  of_files d (works work source) = of_source d source
  of_files d (closes filter later) = all_sizes later L
  of_files d (tees tee) = 0
  of_files d told = 0
  of_files d ended = 0

  abbrev pub reads_left : Fds → State → ℕ
  reads_left d state = input_ahead (still_uses state) (ahead_by (fd_at d 0)) + of_files d state

  abbrev pub writes_left : Call → State → ℕ → Fds → ℕ
  writes_left call state put d = call_bytes call put + later_bytes state (reads_left d state)

  abbrev pub writes_to : Goal → Program → List Bytes → Fds → Bool
  writes_to x which arguments d = goes_by V x (fd_at d 1) || list_any (names_of x) (files_written which arguments)

  abbrev pub may : Goal → Doing → ℕ
  may x over = 0
  may x (in_phase phase a b old) = of_phase x phase a b
  may x (runs which arguments call state put d) = counted_if (writes_to x which arguments d) (writes_left call state put d)

-- ---- what it doesn't make

-- a command doesn't write a file of this name
abbrev pub NoName : Name → Tree → Type 0
NoName f tree = among (names_written tree) f ≡ false

abbrev pub NoPhase : Name → Phase → Type 0
NoPhase f (at_lines lines) = NoName f (script_tree lines)
NoPhase f (waits_line lines) = NoName f (script_tree (drop 1 lines))
NoPhase f (begins_tree tree) = NoName f tree
NoPhase f (opens_redir mode name body) = NoName f (redir mode name body)
NoPhase f (waits_list later) = NoName f later
NoPhase f (forks_left left right i) = NoName f left × NoName f right
NoPhase f (forks_right right i) = NoName f right
NoPhase f (has_forked stage i) = Unit {0}
NoPhase f (on_left step tree) = NoName f tree
NoPhase f (on_right step tree) = NoName f tree

abbrev pub NoFile : Name → Doing → Type 0
NoFile f over = Unit {0}
NoFile f (in_phase phase a b old) = NoPhase f phase
NoFile f (runs which arguments call state put d) = written_by which arguments f ≡ false

-- ---- the kernel has it so

pub record IsRun (profile : Profile) (V : View) (p : ℕ) (which : Program) (arguments : List Bytes) (call : Call) (state : State) (put : ℕ) (d : Fds) : Type 0 where
  pub parent : ℕ
  pub slot : V.slots p ≡ live parent (record { call = call; next = program state }) put d
  pub a : Entry
  pub b : Entry
  pub input : fd_at d 0 ≡ Some a
  pub output : fd_at d 1 ≡ Some b
  pub messages : fd_at d 2 ≡ Some diag
  pub fine : IsFine profile V a b
  pub above : (fd : ℕ) (x : Entry) → 2 < fd → fd_at d fd ≡ Some x → IsOwnFile V (written_by which arguments) x
  pub opened : List ℕ
  pub tame : (replies : List Reply) → AreTame which arguments state call opened replies
  pub asked : IsAsked call state
  pub high : (fd : ℕ) → Among fd opened → 2 < fd
  pub part : (put ≡ 0) ⊎ (IsWriter b × ((bytes : Bytes) × (call ≡ Write 1 bytes)))

abbrev pub Is : Profile → View → ℕ → Doing → Type 0
Is profile V p over = IsOver profile (V.slots p)
Is profile V p (in_phase phase a b old) =
    (parent : ℕ) × (V.slots p ≡ live parent (does profile phase) 0 (has_open phase a b old)) × IsFine profile V a b × IsOldPhase V.next phase
Is profile V p (runs which arguments call state put d) = IsRun profile V p which arguments call state put d
