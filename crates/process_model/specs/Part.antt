-- A part of the tree of processes, and what a call of one of its processes does to it.
use Rattle.std.specs.Prelude.{◌≡◌, ℕ, suc, ◌+◌, ◌*◌, ◌<◌, ◌≤◌, true, if◌then◌else◌, [], ◌++◌, length, drop}
use Rattle.mem_files.specs.Name.{Bytes}
use Rattle.mem_files.specs.Files.{FileMap, bytes_of}
use Rattle.byte_pipe.specs.Limits.{pipe_size}
use Rattle.script_load.specs.declared.profile.Profile.{Profile}
use Rattle.user_calls.specs.declared.calls.Mode.TheVariants.{Input as ToRead}
use Rattle.tree_model.specs.Residual.{Residual}
use Rattle.tree_model.specs.Rules.{Label, silent, takes, meets_end, puts, refused, Steps, patched, is_gap}
use Rattle.tree_model.specs.Moving.{IsPlain}
use Rattle.process_model.specs.Seen.{Entry, input, out, diag, reader, writer, file, View}
use Rattle.process_model.specs.Effect.{ParentIs, NoHolder, further}
use Rattle.process_model.specs.Phases.{Stage, closes_read, closes_write, waits_two, waits_one, leaves_pipe, Step, closes_old, dups_kept, drops_read, drops_write}
use Rattle.process_model.specs.Shape.{Node, reaped, gone, starts, works, tells, leaves, reads_lines, in_line, in_list, pipe_made, pipe_half, pipe_both, left_child, right_child, opening, under_input, under_output, OpensOutput, Has, same, occurs, names, is_there, is_up, is_used, position_of, stands_for}

-- 1 where the entry has this name
abbrev pub name_of : ℕ → Entry → ℕ
name_of k input = 0
name_of k out = 0
name_of k diag = 0
name_of k (reader i) = same k i
name_of k (writer i) = same k i
name_of k (file e) = same k e

-- what a command can have as its input, and as its output
abbrev pub CanBeInput : Entry → Type 0
CanBeInput input = Unit {0}
CanBeInput out = ⊥
CanBeInput diag = ⊥
CanBeInput (reader i) = Unit {0}
CanBeInput (writer i) = ⊥
CanBeInput (file e) = Unit {0}

abbrev pub CanBeOutput : Entry → Type 0
CanBeOutput input = ⊥
CanBeOutput out = Unit {0}
CanBeOutput diag = ⊥
CanBeOutput (reader i) = ⊥
CanBeOutput (writer i) = Unit {0}
CanBeOutput (file e) = Unit {0}

-- a file that is the input was opened to be read, and one that is the output as `>` and `>>` open theirs
abbrev pub OpenedToRead : View → Entry → Type 0
OpenedToRead V input = Unit {0}
OpenedToRead V out = Unit {0}
OpenedToRead V diag = Unit {0}
OpenedToRead V (reader i) = Unit {0}
OpenedToRead V (writer i) = Unit {0}
OpenedToRead V (file e) = (V.places e).mode ≡ ToRead

abbrev pub OpenedToWrite : Profile → View → Entry → Type 0
OpenedToWrite profile V input = Unit {0}
OpenedToWrite profile V out = Unit {0}
OpenedToWrite profile V diag = Unit {0}
OpenedToWrite profile V (reader i) = Unit {0}
OpenedToWrite profile V (writer i) = Unit {0}
OpenedToWrite profile V (file e) = OpensOutput profile (V.places e).mode

-- a part with a as its input and b as its output, under the process `parent`, in which p is
pub record Part (profile : Profile) (V : View) (a b old : Entry) (parent p : ℕ) (t : Node) : Type 0 where
  pub has : Has profile V a b old parent t
  pub inside : 1 ≤ occurs p t
  pub once : (q : ℕ) → occurs q t ≤ 1
  pub above : occurs parent t ≡ 0
  -- no name occurs twice, those of a and b among them, and each is older than the next event
  pub apart : (k : ℕ) → names k t + name_of k a + name_of k b ≤ 1
  pub known : (k : ℕ) → 1 ≤ names k t → k < V.next
  pub ends_known : (k : ℕ) → 1 ≤ name_of k a + name_of k b → k < V.next
  pub can_read : CanBeInput a
  pub can_write : CanBeOutput b
  pub to_read : OpenedToRead V a
  pub to_write : OpenedToWrite profile V b
  -- the children of p are in it
  pub kids : (c : ℕ) → ParentIs (V.slots c) p → 1 ≤ occurs c t
  -- no command of it is behind &
  pub plain : IsPlain (stands_for t)

-- ---- what is done to the input and the output of a part

-- nothing
abbrev pub Same : View → View → Entry → Type 0
Same V W input = W.input ≡ V.input
Same V W out = W.out ≡ V.out
Same V W diag = Unit {0}
Same V W (reader i) = W.pipes i ≡ V.pipes i
Same V W (writer i) = W.pipes i ≡ V.pipes i
Same V W (file e) = W.places e ≡ V.places e

-- these bytes are taken
abbrev pub Takes : View → View → Entry → Bytes → Type 0
Takes V W input c = V.input ≡ c ++ W.input
Takes V W out c = ⊥
Takes V W diag c = ⊥
Takes V W (reader i) c = V.pipes i ≡ c ++ W.pipes i
Takes V W (writer i) c = ⊥
Takes V W (file e) c =
    (W.places e ≡ further (V.places e) (length c)) × ((more : Bytes) × (drop (V.places e).at (bytes_of (V.files (V.places e).name)) ≡ c ++ more))

-- its end is met
abbrev pub MeetsEnd : View → Entry → Type 0
MeetsEnd V input = V.input ≡ []
MeetsEnd V out = ⊥
MeetsEnd V diag = ⊥
MeetsEnd V (reader i) = (V.pipes i ≡ []) × NoHolder V (writer i)
MeetsEnd V (writer i) = ⊥
MeetsEnd V (file e) = drop (V.places e).at (bytes_of (V.files (V.places e).name)) ≡ []

-- these bytes are put, where the files were these
abbrev pub Puts : View → View → FileMap → Entry → Bytes → Type 0
Puts V W F input c = ⊥
Puts V W F out c = (W.out ≡ V.out ++ c) × (W.files ≡ F)
Puts V W F diag c = ⊥
Puts V W F (reader i) c = ⊥
Puts V W F (writer i) c = (W.pipes i ≡ V.pipes i ++ c) × (length (W.pipes i) ≤ pipe_size) × (W.files ≡ F)
Puts V W F (file e) c =
    (W.places e ≡ further (V.places e) (length c))
    × (is_gap (V.files (V.places e).name) (position_of (V.places e)) ≡ true → c ≡ [])
    × (W.files ≡ patched F (V.places e).name (position_of (V.places e)) c)

-- a write is refused
abbrev pub Refuses : View → Entry → Type 0
Refuses V input = ⊥
Refuses V out = ⊥
Refuses V diag = ⊥
Refuses V (reader i) = ⊥
Refuses V (writer i) = NoHolder V (reader i)
Refuses V (file e) = is_gap (V.files (V.places e).name) (position_of (V.places e)) ≡ true

-- how a step with this label changes a and b
abbrev pub Tells : View → View → FileMap → Entry → Entry → Label → Type 0
Tells V W F a b silent = Same V W a × Same V W b × (W.files ≡ F)
Tells V W F a b (takes c) = Takes V W a c × Same V W b × (W.files ≡ F)
Tells V W F a b meets_end = MeetsEnd V a × Same V W a × Same V W b × (W.files ≡ F)
Tells V W F a b (puts c) = Puts V W F b c × Same V W a
Tells V W F a b refused = Refuses V b × Same V W a × Same V W b × (W.files ≡ F)

-- ---- a call of p

-- so many steps of the tree machine: none, one, or a few silent ones
pub data Moves (profile : Profile) : ℕ → Residual → FileMap → Label → Residual → FileMap → Type 0 where
  stays : {X : Residual} {F : FileMap} → Moves profile 0 X F silent X F
  goes : {X Y : Residual} {F G : FileMap} {label : Label} → Steps profile X F label Y G → Moves profile 1 X F label Y G
  then_goes : {n : ℕ} {X Y Z : Residual} {F G H : FileMap} → Moves profile n X F silent Y G → Steps profile Y G silent Z H → Moves profile (suc n) X F silent Z H

abbrev pub IsNotInput : Entry → Type 0
IsNotInput input = ⊥
IsNotInput out = Unit {0}
IsNotInput diag = Unit {0}
IsNotInput (reader i) = Unit {0}
IsNotInput (writer i) = Unit {0}
IsNotInput (file e) = Unit {0}

abbrev pub IsNotOut : Entry → Type 0
IsNotOut input = Unit {0}
IsNotOut out = ⊥
IsNotOut diag = Unit {0}
IsNotOut (reader i) = Unit {0}
IsNotOut (writer i) = Unit {0}
IsNotOut (file e) = Unit {0}

-- how many calls the shell's processes still make before the machine goes on: a message and an exit, those of a pipe's process
-- and those of its children
abbrev pub stage_calls : Stage → ℕ
stage_calls closes_read = 4
stage_calls closes_write = 3
stage_calls waits_two = 2
stage_calls waits_one = 1
stage_calls leaves_pipe = 0

abbrev pub step_calls : Step → ℕ
step_calls closes_old = 4
step_calls dups_kept = 3
step_calls drops_read = 2
step_calls drops_write = 1

abbrev pub calls_left : Node → ℕ
calls_left reaped = 0
calls_left (gone p) = 0
calls_left (starts p tree) = 0
calls_left (works p turn put owns) = 0
calls_left (tells p message) = 2
calls_left (leaves p) = 1
calls_left (reads_lines p lines) = 0
calls_left (in_line p x lines) = calls_left x
calls_left (in_list p x later) = calls_left x
calls_left (pipe_made p i left right) = 14
calls_left (pipe_half p i lost x bytes right) = 9 + calls_left x
calls_left (pipe_both p i stage lost x bytes y) = stage_calls stage + calls_left x + calls_left y
calls_left (left_child p step tree) = step_calls step
calls_left (right_child p step tree) = step_calls step
calls_left (opening p mode name body) = 0
calls_left (under_input e name at x) = calls_left x
calls_left (under_output e mode name at x) = calls_left x

-- 1 where the call of p was carried out, and didn't put it to sleep
unfoldable pub called : View → ℕ → ℕ
called W p = if W.asleep p then 0 else 1

-- the part after it
pub record After (profile : Profile) (V W : View) (p : ℕ) (a b old : Entry) (parent : ℕ) (t : Node) : Type 0 where
  pub to : Node
  pub label : Label
  pub files : FileMap
  pub has : Has profile W a b old parent to
  pub steps : ℕ
  pub moves : Moves profile steps (stands_for t) V.files label (stands_for to) files
  pub tells : Tells V W files a b label
  -- it has the processes that came and went, and at most the name of this event more
  pub pids : (q : ℕ) → occurs q to + is_used (V.slots q) ≡ occurs q t + is_used (W.slots q)
  pub ids : (k : ℕ) → names k to ≤ names k t + same k V.next
  -- what it doesn't name stays
  pub others : (k : ℕ) → name_of k a ≡ 0 → name_of k b ≡ 0 → k < V.next → names k t ≡ 0 → (W.pipes k ≡ V.pipes k) × (W.places k ≡ V.places k)
  pub input_stays : IsNotInput a → W.input ≡ V.input
  pub out_stays : IsNotOut b → W.out ≡ V.out
  -- it isn't reaped, and where it is over the step was silent
  pub there : is_there to ≡ is_there t
  pub over : is_up to ≡ 0 → label ≡ silent
  -- a step of the machine pays for a call and for those of the shell that follow it
  pub pays : calls_left to + called W p ≤ calls_left t + 15 * steps
