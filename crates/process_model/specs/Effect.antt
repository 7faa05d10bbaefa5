-- What each system call of a process does to the tree of processes, where no call is refused because something is full.
use Rattle.std.specs.Prelude.{◌≡◌, ◌≢◌, ℕ, ◌+◌, ◌≤◌, ◌==◌, min, nat_lt, Bool, true, false, if◌then◌else◌, [], ◌++◌, length, take, drop, Option, Some, None, position, slice_set}
use Rattle.mem_files.specs.Name.{Name, Bytes, is_openable}
use Rattle.mem_files.specs.Files.{FileMap, with_file}
use Rattle.mem_files.specs.Overlay.{written}
use Rattle.byte_pipe.specs.Limits.{pipe_size}
use Rattle.user_calls.specs.Limits.{block_size}
use Rattle.user_calls.specs.declared.calls.Call.{Call}
use Rattle.user_calls.specs.declared.calls.Call.TheVariants.{Fork, Exec, Exit, Wait, MakePipe, Read, Write, OpenFile, Close, Dup}
use Rattle.user_calls.specs.declared.calls.Mode.{Mode}
use Rattle.user_calls.specs.declared.calls.Mode.TheVariants.{Input as ToRead, Fresh, Over, Append}
use Rattle.user_calls.specs.declared.calls.Reply.{Reply}
use Rattle.user_calls.specs.declared.calls.Reply.TheVariants.{Child, Done, Bytes as Bytes', Fd, Ends, Refused}
use Rattle.fd_table.specs.Entries.{is_free}
use Rattle.process_model.specs.Seen.{Entry, input, out, diag, reader, writer, file, Fds, fd_at, Act, act_of, Seen, free, zombie, live, Place, View}

-- ---- what can change

-- the process that a slot's process is a child of
abbrev pub ParentIs : Seen → ℕ → Type 0
ParentIs free p = ⊥
ParentIs (zombie q) p = q ≡ p
ParentIs (live q act put d) p = q ≡ p

-- some descriptor is open on this
pub record HasOpen (d : Fds) (x : Entry) : Type 0 where
  pub fd : ℕ
  pub is : fd_at d fd ≡ Some x

abbrev pub Holds : Seen → Entry → Type 0
Holds free x = ⊥
Holds (zombie q) x = ⊥
Holds (live q act put d) x = HasOpen d x

-- no process holds it
abbrev pub NoHolder : View → Entry → Type 0
NoHolder V x = (q : ℕ) → Holds (V.slots q) x → ⊥

-- of the slots only that of p changes, to this
pub record Sets (V W : View) (p : ℕ) (s : Seen) : Type 0 where
  pub here : W.slots p ≡ s
  pub others : (q : ℕ) → q ≢ p → W.slots q ≡ V.slots q

-- the pipes, the places of files, the files, the input and the output stay
pub record Rest (V W : View) : Type 0 where
  pub pipes : (i : ℕ) → W.pipes i ≡ V.pipes i
  pub places : (e : ℕ) → W.places e ≡ V.places e
  pub files : W.files ≡ V.files
  pub input : W.input ≡ V.input
  pub out : W.out ≡ V.out

-- of these only the input changes, or the output, or one pipe
pub record InputChanges (V W : View) : Type 0 where
  pub pipes : (i : ℕ) → W.pipes i ≡ V.pipes i
  pub places : (e : ℕ) → W.places e ≡ V.places e
  pub files : W.files ≡ V.files
  pub out : W.out ≡ V.out

pub record OutChanges (V W : View) : Type 0 where
  pub pipes : (i : ℕ) → W.pipes i ≡ V.pipes i
  pub places : (e : ℕ) → W.places e ≡ V.places e
  pub files : W.files ≡ V.files
  pub input : W.input ≡ V.input

pub record PipeChanges (V W : View) (i : ℕ) : Type 0 where
  pub pipes : (k : ℕ) → k ≢ i → W.pipes k ≡ V.pipes k
  pub places : (e : ℕ) → W.places e ≡ V.places e
  pub files : W.files ≡ V.files
  pub input : W.input ≡ V.input
  pub out : W.out ≡ V.out

-- or one place of a file's entry, to this, and the files, to these
pub record PlaceChanges (V W : View) (e : ℕ) (now : Place) (F : FileMap) : Type 0 where
  pub place : W.places e ≡ now
  pub files : W.files ≡ F
  pub pipes : (i : ℕ) → W.pipes i ≡ V.pipes i
  pub places : (k : ℕ) → k ≢ e → W.places k ≡ V.places k
  pub input : W.input ≡ V.input
  pub out : W.out ≡ V.out

-- nothing changes
pub record Quiet (V W : View) : Type 0 where
  pub slots : (q : ℕ) → W.slots q ≡ V.slots q
  pub rest : Rest V W

-- the lowest free descriptor
abbrev pub lowest : Fds → Option ℕ
lowest d = position is_free d

-- a process that goes on with this reply
abbrev pub answered : ℕ → Act → Reply → Fds → Seen
answered parent act reply d = live parent (act_of act.next reply) 0 d

-- ---- the calls of a process p, the child of `parent`, with so many bytes put and these descriptors

-- p goes on with this reply and these descriptors, and nothing else changes
pub record Answers (V W : View) (p parent : ℕ) (act : Act) (reply : Reply) (d : Fds) : Type 0 where
  pub slots : Sets V W p (answered parent act reply d)
  pub rest : Rest V W

-- fork: the child, in a free slot, goes on from the same call with the same descriptors
pub record Forks (V W : View) (p parent : ℕ) (act : Act) (d : Fds) : Type 0 where
  pub child : ℕ
  pub was_free : V.slots child ≡ free
  pub child_is : W.slots child ≡ answered p act Child d
  pub here : W.slots p ≡ answered parent act Done d
  pub others : (q : ℕ) → q ≢ p → q ≢ child → W.slots q ≡ V.slots q
  pub rest : Rest V W

-- exit: p is a zombie, and its children are init's
abbrev pub given : ℕ → Seen → Seen
given p free = free
given p (zombie q) = zombie (if p == q then 0 else q)
given p (live q act put d) = live (if p == q then 0 else q) act put d

pub record Exits (V W : View) (p parent : ℕ) : Type 0 where
  pub here : W.slots p ≡ zombie parent
  pub others : (q : ℕ) → q ≢ p → W.slots q ≡ given p (V.slots q)
  pub rest : Rest V W

-- wait: a child that is a zombie goes; without children it is refused; else p sleeps
pub record Reaps (V W : View) (p parent : ℕ) (act : Act) (d : Fds) : Type 0 where
  pub child : ℕ
  pub was : V.slots child ≡ zombie p
  pub gone : W.slots child ≡ free
  pub here : W.slots p ≡ answered parent act Done d
  pub others : (q : ℕ) → q ≢ p → q ≢ child → W.slots q ≡ V.slots q
  pub rest : Rest V W

pub data WaitsFor (V W : View) (p parent : ℕ) (act : Act) (d : Fds) : Type 0 where
  reaps : Reaps V W p parent act d → WaitsFor V W p parent act d
  has_none : ((q : ℕ) → ParentIs (V.slots q) p → ⊥) → Answers V W p parent act Refused d → WaitsFor V W p parent act d
  sleeps : (child : ℕ) → ParentIs (V.slots child) p → ((q : ℕ) → V.slots q ≡ zombie p → ⊥)
      → Sets V W p (live parent act 0 d) → Rest V W → W.asleep p ≡ true → WaitsFor V W p parent act d

-- pipe: an empty pipe, named by this event, with both its ends at the lowest free descriptors
pub record MakesPipe (V W : View) (p parent : ℕ) (act : Act) (d : Fds) : Type 0 where
  pub read_fd : ℕ
  pub write_fd : ℕ
  pub read_end : lowest d ≡ Some read_fd
  pub write_end : lowest (slice_set d read_fd (Some (reader V.next))) ≡ Some write_fd
  pub empty : W.pipes V.next ≡ []
  pub others : PipeChanges V W V.next
  pub slots : Sets V W p (answered parent act (Ends read_fd write_fd) (slice_set (slice_set d read_fd (Some (reader V.next))) write_fd (Some (writer V.next))))

-- close
abbrev pub ClosesAt : View → View → ℕ → ℕ → Act → Fds → ℕ → Option Entry → Type 0
ClosesAt V W p parent act d fd None = Answers V W p parent act Refused d
ClosesAt V W p parent act d fd (Some x) = Answers V W p parent act Done (slice_set d fd None)

-- dup, to the lowest free descriptor
abbrev pub DupsTo : View → View → ℕ → ℕ → Act → Fds → Entry → Option ℕ → Type 0
DupsTo V W p parent act d x None = ⊥
DupsTo V W p parent act d x (Some place) = Answers V W p parent act (Fd place) (slice_set d place (Some x))

abbrev pub DupsAt : View → View → ℕ → ℕ → Act → Fds → Option Entry → Type 0
DupsAt V W p parent act d None = Answers V W p parent act Refused d
DupsAt V W p parent act d (Some x) = DupsTo V W p parent act d x (lowest d)

-- open: the files once a file of this name was opened so; None where it is refused
abbrev pub files_read : FileMap → Option Bytes → Option FileMap
files_read F None = None
files_read F (Some bytes) = Some F

abbrev pub files_kept : FileMap → Name → Option Bytes → FileMap
files_kept F name None = with_file F name []
files_kept F name (Some bytes) = F

abbrev pub files_opened : FileMap → Name → Mode → Option FileMap
files_opened F name ToRead = files_read F (F name)
files_opened F name Fresh = Some (with_file F name [])
files_opened F name Over = Some (files_kept F name (F name))
files_opened F name Append = Some (files_kept F name (F name))

-- an open for appending goes on at the file's end, any other at its first byte
abbrev pub first_byte : Mode → Option Bytes → ℕ
first_byte ToRead held = 0
first_byte Fresh held = 0
first_byte Over held = 0
first_byte Append None = 0
first_byte Append (Some bytes) = length bytes

pub record Opens (V W : View) (p parent : ℕ) (act : Act) (d : Fds) (name : Name) (mode : Mode) (F : FileMap) : Type 0 where
  pub fd : ℕ
  pub place : lowest d ≡ Some fd
  pub entry : PlaceChanges V W V.next (record { name = name; mode = mode; at = first_byte mode (V.files name) }) F
  pub slots : Sets V W p (answered parent act (Fd fd) (slice_set d fd (Some (file V.next))))

abbrev pub OpensBy : View → View → ℕ → ℕ → Act → Fds → Name → Mode → Option FileMap → Type 0
OpensBy V W p parent act d name mode None = Answers V W p parent act Refused d
OpensBy V W p parent act d name mode (Some F) = Opens V W p parent act d name mode F

abbrev pub OpensNamed : View → View → ℕ → ℕ → Act → Fds → Name → Mode → Bool → Type 0
OpensNamed V W p parent act d name mode true = OpensBy V W p parent act d name mode (files_opened V.files name mode)
OpensNamed V W p parent act d name mode false = Answers V W p parent act Refused d

-- read of at most `most` bytes: of a pipe some bytes that are there; its end where it is empty and no process holds its write
-- end; else p sleeps
pub data ReadsPipe (V W : View) (p parent : ℕ) (act : Act) (d : Fds) (most i : ℕ) : Type 0 where
  gets : 1 ≤ length (V.pipes i) → W.pipes i ≡ drop most (V.pipes i) → PipeChanges V W i
      → Sets V W p (answered parent act (Bytes' (take most (V.pipes i))) d) → ReadsPipe V W p parent act d most i
  meets_end : V.pipes i ≡ [] → NoHolder V (writer i) → Answers V W p parent act (Bytes' []) d → ReadsPipe V W p parent act d most i
  finds_none : V.pipes i ≡ [] → Sets V W p (live parent act 0 d) → Rest V W → W.asleep p ≡ true → ReadsPipe V W p parent act d most i

-- of a file, from the place on, the bytes that are there; a file that is open is always there
abbrev pub further : Place → ℕ → Place
further place count = record place { at = place.at + count }

abbrev pub ReadsBytes : View → View → ℕ → ℕ → Act → Fds → ℕ → ℕ → Option Bytes → Type 0
ReadsBytes V W p parent act d most e None = ⊥
ReadsBytes V W p parent act d most e (Some bytes) =
    Sets V W p (answered parent act (Bytes' (take most (drop (V.places e).at bytes))) d)
    × PlaceChanges V W e (further (V.places e) (length (take most (drop (V.places e).at bytes)))) V.files

abbrev pub ReadsFile : View → View → ℕ → ℕ → Act → Fds → ℕ → ℕ → Mode → Type 0
ReadsFile V W p parent act d most e ToRead = ReadsBytes V W p parent act d most e (V.files (V.places e).name)
ReadsFile V W p parent act d most e Fresh = Answers V W p parent act Refused d
ReadsFile V W p parent act d most e Over = Answers V W p parent act Refused d
ReadsFile V W p parent act d most e Append = Answers V W p parent act Refused d

abbrev pub ReadsAt : View → View → ℕ → ℕ → Act → Fds → ℕ → Option Entry → Type 0
ReadsAt V W p parent act d most None = Answers V W p parent act Refused d
ReadsAt V W p parent act d most (Some input) =
    Sets V W p (answered parent act (Bytes' (take most V.input)) d) × (W.input ≡ drop most V.input) × InputChanges V W
ReadsAt V W p parent act d most (Some out) = Answers V W p parent act Refused d
ReadsAt V W p parent act d most (Some diag) = Answers V W p parent act Refused d
ReadsAt V W p parent act d most (Some (reader i)) = ReadsPipe V W p parent act d most i
ReadsAt V W p parent act d most (Some (writer i)) = Answers V W p parent act Refused d
ReadsAt V W p parent act d most (Some (file e)) = ReadsFile V W p parent act d most e (V.places e).mode

-- write: to a pipe all that is left, or a part and then p sleeps; refused where no process holds its read end; nothing where it
-- is full
pub data WritesPipe (V W : View) (p parent put : ℕ) (act : Act) (d : Fds) (bytes : Bytes) (i : ℕ) : Type 0 where
  puts_all : W.pipes i ≡ V.pipes i ++ drop put bytes → length (W.pipes i) ≤ pipe_size → PipeChanges V W i
      → Sets V W p (answered parent act Done d) → WritesPipe V W p parent put act d bytes i
  puts_some : (now later : Bytes) → drop put bytes ≡ now ++ later → 1 ≤ length now → 1 ≤ length later
      → W.pipes i ≡ V.pipes i ++ now → length (W.pipes i) ≤ pipe_size → PipeChanges V W i
      → Sets V W p (live parent act (put + length now) d) → WritesPipe V W p parent put act d bytes i
  has_no_reader : 1 ≤ length (drop put bytes) → NoHolder V (reader i) → Answers V W p parent act Refused d → WritesPipe V W p parent put act d bytes i
  finds_it_full : 1 ≤ length (drop put bytes) → Quiet V W → W.asleep p ≡ true → WritesPipe V W p parent put act d bytes i

-- to a file: over its bytes from the place on, but not where that leaves a gap; or behind them
abbrev pub WritesHere : View → View → ℕ → ℕ → Act → Fds → Bytes → ℕ → Bytes → Bool → Type 0
WritesHere V W p parent act d bytes e held true = Answers V W p parent act Refused d
WritesHere V W p parent act d bytes e held false =
    Sets V W p (answered parent act Done d) × PlaceChanges V W e (further (V.places e) (length bytes)) (with_file V.files (V.places e).name (written held (V.places e).at bytes))

abbrev pub WritesOver : View → View → ℕ → ℕ → Act → Fds → Bytes → ℕ → Option Bytes → Type 0
WritesOver V W p parent act d bytes e None = ⊥
WritesOver V W p parent act d bytes e (Some held) = WritesHere V W p parent act d bytes e held (nat_lt (length held) (V.places e).at)

abbrev pub WritesBehind : View → View → ℕ → ℕ → Act → Fds → Bytes → ℕ → Option Bytes → Type 0
WritesBehind V W p parent act d bytes e None = ⊥
WritesBehind V W p parent act d bytes e (Some held) =
    Sets V W p (answered parent act Done d) × PlaceChanges V W e (further (V.places e) (length bytes)) (with_file V.files (V.places e).name (held ++ bytes))

abbrev pub WritesFile : View → View → ℕ → ℕ → Act → Fds → Bytes → ℕ → Mode → Type 0
WritesFile V W p parent act d bytes e ToRead = Answers V W p parent act Refused d
WritesFile V W p parent act d bytes e Fresh = WritesOver V W p parent act d bytes e (V.files (V.places e).name)
WritesFile V W p parent act d bytes e Over = WritesOver V W p parent act d bytes e (V.files (V.places e).name)
WritesFile V W p parent act d bytes e Append = WritesBehind V W p parent act d bytes e (V.files (V.places e).name)

abbrev pub WritesAt : View → View → ℕ → ℕ → ℕ → Act → Fds → Bytes → Option Entry → Type 0
WritesAt V W p parent put act d bytes None = Answers V W p parent act Refused d
WritesAt V W p parent put act d bytes (Some input) = Answers V W p parent act Refused d
WritesAt V W p parent put act d bytes (Some out) = Sets V W p (answered parent act Done d) × (W.out ≡ V.out ++ bytes) × OutChanges V W
WritesAt V W p parent put act d bytes (Some diag) = Answers V W p parent act Done d
WritesAt V W p parent put act d bytes (Some (reader i)) = Answers V W p parent act Refused d
WritesAt V W p parent put act d bytes (Some (writer i)) = WritesPipe V W p parent put act d bytes i
WritesAt V W p parent put act d bytes (Some (file e)) = WritesFile V W p parent act d bytes e (V.places e).mode

-- by the call, what p, the child of `parent`, does, with so many bytes of the call put and these descriptors
abbrev pub EffectBy : View → View → ℕ → ℕ → ℕ → Act → Fds → Call → Type 0
EffectBy V W p parent put act d Fork = Forks V W p parent act d
EffectBy V W p parent put act d (Exec found) = Answers V W p parent act (if found then Done else Refused) d
EffectBy V W p parent put act d Exit = Exits V W p parent
EffectBy V W p parent put act d Wait = WaitsFor V W p parent act d
EffectBy V W p parent put act d MakePipe = MakesPipe V W p parent act d
EffectBy V W p parent put act d (Read fd most) = ReadsAt V W p parent act d (min most block_size) (fd_at d fd)
EffectBy V W p parent put act d (Write fd bytes) = WritesAt V W p parent put act d bytes (fd_at d fd)
EffectBy V W p parent put act d (OpenFile name mode) = OpensNamed V W p parent act d name mode (is_openable name)
EffectBy V W p parent put act d (Close fd) = ClosesAt V W p parent act d fd (fd_at d fd)
EffectBy V W p parent put act d (Dup fd) = DupsAt V W p parent act d (fd_at d fd)

-- W is V after the call that p, which lives, makes
pub record IsCall (V W : View) (p : ℕ) : Type 0 where
  pub parent : ℕ
  pub act : Act
  pub put : ℕ
  pub fds : Fds
  pub slot : V.slots p ≡ live parent act put fds
  pub effect : EffectBy V W p parent put act fds act.call
  pub next : W.next ≡ V.next + 1
