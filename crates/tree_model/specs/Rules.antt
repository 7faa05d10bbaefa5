-- The steps of the machine, as rules. A label says what a step does to the input and to the output around it.
use Rattle.std.specs.Prelude.{◌≡◌, ℕ, ◌+◌, ◌≤◌, Bool, true, false, nat_lt, [], ◌++◌, length, drop, Option, Some, None, if◌then◌else◌}
use Rattle.std.specs.Str.{bytes_eq}
use Rattle.sh_tree.specs.declared.tree.Mode.{Mode}
use Rattle.sh_tree.specs.Tree.{Tree}
use Rattle.mem_files.specs.Name.{Name, Bytes}
use Rattle.mem_files.specs.Files.{FileMap, bytes_of}
use Rattle.mem_files.specs.Overlay.{written}
use Rattle.user_calls.specs.declared.calls.Reply.TheVariants.{Done, Bytes as Bytes', Refused}
use Rattle.script_load.specs.declared.profile.Profile.{Profile}
use Rattle.tree_model.specs.Residual.{Running, Residual, done, todo, running, seq, piped, unopened, from, into, Position, at_byte, at_file_end, byte_in, moved_on, keeps_0, keeps_1}
use Rattle.tree_model.specs.Answers.{leaves, reads_input, writes_output, asks, kind_of, resumed, replied, files_after, answer}
use Rattle.tree_model.specs.Begin.{unfolded, opens_file}

pub data Label : Type 0 where
  silent : Label
  -- these bytes are taken from the input, or its end is met
  takes : Bytes → Label
  meets_end : Label
  -- these bytes are put to the output, or a write to it is refused
  puts : Bytes → Label
  refused : Label

-- a pipe has room for so many bytes (kernel/pipe.c's PIPESIZE)
abbrev pub PIPE_ROOM : ℕ
PIPE_ROOM = 512

-- the bytes written over a file from a position on, if it is there
abbrev pub patch : Option Bytes → Position → Bytes → Option Bytes
patch None at bytes = None
patch (Some held) at bytes = Some (written held (byte_in at held) bytes)

abbrev pub patched : FileMap → Name → Position → Bytes → FileMap
patched F file at bytes name = if bytes_eq name file then patch (F name) at bytes else F name

-- a write that goes on at this position would leave a gap
abbrev pub is_gap : Option Bytes → Position → Bool
is_gap held (at_byte n) = nat_lt (length (bytes_of held)) n
is_gap held at_file_end = false

pub data Steps (profile : Profile) : Residual → FileMap → Label → Residual → FileMap → Type 0 where
  -- a command is begun by its node; a redirection gives up its descriptor, and then opens its file or ends
  begins : {F : FileMap} {tree : Tree} {X : Residual} → X ≡ unfolded tree → Steps profile (todo tree) F silent X F
  opens : {F G : FileMap} {mode : Mode} {file : Name} {body : Tree} {X : Residual} → X ≡ (opens_file profile mode file body F).next → G ≡ (opens_file profile mode file body F).files → Steps profile (unopened mode file body) F silent X G
  -- a program makes one call
  exits : {F : FileMap} {run : Running} → kind_of run.turn.call ≡ leaves → Steps profile (running run) F silent done F
  calls : {F G : FileMap} {run : Running} {X : Residual} → kind_of run.turn.call ≡ asks → X ≡ running (replied run (answer run F) F) → G ≡ files_after run (answer run F) F → Steps profile (running run) F silent X G
  reads : {F : FileMap} {run : Running} {bytes : Bytes} {X : Residual} (most : ℕ) → kind_of run.turn.call ≡ reads_input most → 1 ≤ length bytes → length bytes ≤ most → X ≡ running (resumed run (Bytes' bytes)) → Steps profile (running run) F (takes bytes) X F
  reads_end : {F : FileMap} {run : Running} {X : Residual} (most : ℕ) → kind_of run.turn.call ≡ reads_input most → X ≡ running (resumed run (Bytes' [])) → Steps profile (running run) F meets_end X F
  writes_all : {F : FileMap} {run : Running} {now : Bytes} {X : Residual} (bytes : Bytes) → kind_of run.turn.call ≡ writes_output bytes → now ≡ drop run.put bytes → X ≡ running (resumed run Done) → Steps profile (running run) F (puts now) X F
  writes_some : {F : FileMap} {run : Running} {now : Bytes} {X : Residual} (bytes later : Bytes) → kind_of run.turn.call ≡ writes_output bytes → drop run.put bytes ≡ now ++ later → 1 ≤ length now → 1 ≤ length later → X ≡ running (record run { put = run.put + length now }) → Steps profile (running run) F (puts now) X F
  write_refused : {F : FileMap} {run : Running} {X : Residual} (bytes : Bytes) → kind_of run.turn.call ≡ writes_output bytes → 1 ≤ length (drop run.put bytes) → X ≡ running (resumed run Refused) → Steps profile (running run) F refused X F
  -- what ended goes
  seq_ends : {F : FileMap} {later : Tree} → Steps profile (seq done later) F silent (todo later) F
  pipe_ends : {F : FileMap} {lost : Bool} {bytes : Bytes} → Steps profile (piped lost done bytes done) F silent done F
  from_ends : {F : FileMap} {file : Name} {at : ℕ} → Steps profile (from file at done) F silent done F
  into_ends : {F : FileMap} {file : Name} {at : Position} → Steps profile (into file at done) F silent done F
  -- a step inside a list
  seq_steps : {F G : FileMap} {X X' : Residual} {later : Tree} {label : Label} → Steps profile X F label X' G → Steps profile (seq X later) F label (seq X' later) G
  -- steps of the left side of a pipe: what it puts, the pipe holds, within its room; a write is refused only where the right
  -- side no longer holds descriptor 0
  left_silent : {F G : FileMap} {X X' Y : Residual} {lost : Bool} {q : Bytes} → Steps profile X F silent X' G → Steps profile (piped lost X q Y) F silent (piped lost X' q Y) G
  left_takes : {F G : FileMap} {X X' Y : Residual} {lost : Bool} {q bytes : Bytes} → Steps profile X F (takes bytes) X' G → Steps profile (piped lost X q Y) F (takes bytes) (piped lost X' q Y) G
  left_meets_end : {F G : FileMap} {X X' Y : Residual} {lost : Bool} {q : Bytes} → Steps profile X F meets_end X' G → Steps profile (piped lost X q Y) F meets_end (piped lost X' q Y) G
  left_puts : {F G : FileMap} {X X' Y : Residual} {lost : Bool} {q q' bytes : Bytes} → Steps profile X F (puts bytes) X' G → q' ≡ q ++ bytes → length q' ≤ PIPE_ROOM → Steps profile (piped lost X q Y) F silent (piped lost X' q' Y) G
  left_refused : {F G : FileMap} {X X' Y : Residual} {lost : Bool} {q : Bytes} → Steps profile X F refused X' G → keeps_0 Y ≡ false → Steps profile (piped lost X q Y) F silent (piped true X' q Y) G
  -- steps of the right side: it takes what the pipe holds, and meets the end only where the pipe is empty and the left side
  -- no longer holds descriptor 1
  right_silent : {F G : FileMap} {X Y Y' : Residual} {lost : Bool} {q : Bytes} → Steps profile Y F silent Y' G → Steps profile (piped lost X q Y) F silent (piped lost X q Y') G
  right_takes : {F G : FileMap} {X Y Y' : Residual} {lost : Bool} {q q' bytes : Bytes} → Steps profile Y F (takes bytes) Y' G → q ≡ bytes ++ q' → Steps profile (piped lost X q Y) F silent (piped lost X q' Y') G
  right_meets_end : {F G : FileMap} {X Y Y' : Residual} {lost : Bool} {q : Bytes} → Steps profile Y F meets_end Y' G → q ≡ [] → keeps_1 X ≡ false → Steps profile (piped lost X q Y) F silent (piped lost X q Y') G
  right_puts : {F G : FileMap} {X Y Y' : Residual} {lost : Bool} {q bytes : Bytes} → Steps profile Y F (puts bytes) Y' G → Steps profile (piped lost X q Y) F (puts bytes) (piped lost X q Y') G
  right_refused : {F G : FileMap} {X Y Y' : Residual} {lost : Bool} {q : Bytes} → Steps profile Y F refused Y' G → Steps profile (piped lost X q Y) F refused (piped lost X q Y') G
  -- steps under a redirection of the input, which takes the file's bytes in order
  from_silent : {F G : FileMap} {X X' : Residual} {file : Name} {at : ℕ} → Steps profile X F silent X' G → Steps profile (from file at X) F silent (from file at X') G
  from_takes : {F G : FileMap} {X X' : Residual} {file : Name} {at at' : ℕ} {bytes : Bytes} (more : Bytes) → Steps profile X F (takes bytes) X' G → drop at (bytes_of (F file)) ≡ bytes ++ more → at' ≡ at + length bytes → Steps profile (from file at X) F silent (from file at' X') G
  from_meets_end : {F G : FileMap} {X X' : Residual} {file : Name} {at : ℕ} → Steps profile X F meets_end X' G → drop at (bytes_of (F file)) ≡ [] → Steps profile (from file at X) F silent (from file at X') G
  from_puts : {F G : FileMap} {X X' : Residual} {file : Name} {at : ℕ} {bytes : Bytes} → Steps profile X F (puts bytes) X' G → Steps profile (from file at X) F (puts bytes) (from file at X') G
  from_refused : {F G : FileMap} {X X' : Residual} {file : Name} {at : ℕ} → Steps profile X F refused X' G → Steps profile (from file at X) F refused (from file at X') G
  -- steps under a redirection of the output, whose writes are refused exactly where they would leave a gap
  into_silent : {F G : FileMap} {X X' : Residual} {file : Name} {at : Position} → Steps profile X F silent X' G → Steps profile (into file at X) F silent (into file at X') G
  into_takes : {F G : FileMap} {X X' : Residual} {file : Name} {at : Position} {bytes : Bytes} → Steps profile X F (takes bytes) X' G → Steps profile (into file at X) F (takes bytes) (into file at X') G
  into_meets_end : {F G : FileMap} {X X' : Residual} {file : Name} {at : Position} → Steps profile X F meets_end X' G → Steps profile (into file at X) F meets_end (into file at X') G
  into_puts : {F G H : FileMap} {X X' : Residual} {file : Name} {at at' : Position} {bytes : Bytes} → Steps profile X F (puts bytes) X' G → (is_gap (F file) at ≡ true → bytes ≡ []) → at' ≡ moved_on at (length bytes) → H ≡ patched G file at bytes → Steps profile (into file at X) F silent (into file at' X') H
  into_refused : {F G : FileMap} {X X' : Residual} {file : Name} {at : Position} → Steps profile X F refused X' G → is_gap (F file) at ≡ true → Steps profile (into file at X) F silent (into file at X') G

-- where a label can be met: by these bytes of the input, whether these are all that ever come, and whether no process reads
-- the output any more
abbrev pub IsMet : Label → Bool → Bool → Bytes → Type 0
IsMet silent closed ended input = Unit {0}
IsMet (takes bytes) closed ended input = (more : Bytes) × (input ≡ bytes ++ more)
IsMet meets_end closed ended input = (ended ≡ true) × (input ≡ [])
IsMet (puts bytes) closed ended input = Unit {0}
IsMet refused closed ended input = closed ≡ true

abbrev pub taken : Label → ℕ
taken silent = 0
taken (takes bytes) = length bytes
taken meets_end = 0
taken (puts bytes) = 0
taken refused = 0

abbrev pub put_out : Label → Bytes
put_out silent = []
put_out (takes bytes) = []
put_out meets_end = []
put_out (puts bytes) = bytes
put_out refused = []

abbrev pub is_refused : Label → Bool
is_refused silent = false
is_refused (takes bytes) = false
is_refused meets_end = false
is_refused (puts bytes) = false
is_refused refused = true
