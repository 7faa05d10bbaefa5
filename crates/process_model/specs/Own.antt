-- A program that runs: its descriptors, and the files of its own among them.
use Rattle.std.specs.Prelude.{◌≡◌, ◌⊎◌, ℕ, ◌<◌, ◌≤◌, ◌==◌, if◌then◌else◌, List, [], ◌∷◌, length, Option, Some, None}
use Rattle.mem_files.specs.Name.{Bytes}
use Rattle.prog_parts.specs.declared.program.Program.{Program}
use Rattle.user_calls.specs.declared.calls.Call.TheVariants.{Write}
use Rattle.user_calls.specs.declared.calls.Mode.{Mode}
use Rattle.user_calls.specs.declared.calls.Mode.TheVariants.{Input, Fresh, Over, Append}
use Rattle.user_calls.specs.declared.calls.Reply.{Reply}
use Rattle.user_calls.specs.declared.calls.Reply.TheVariants.{Done, Refused}
use Rattle.user_progs.specs.State.{Tee, tee_opens, tee_reads, tee_writes, tee_gives, State, begins, echo_word, echo_space, opens, works, closes, tees, told, ended}
use Rattle.user_progs.specs.Turn.{Turn, turn as turn_on}
use Rattle.tree_model.specs.Alone.{OwnFile}
use Rattle.tree_model.specs.Tame.{AreTame}
use Rattle.sh_machine.specs.State.{program}
use Rattle.process_model.specs.Seen.{Entry, input, out, diag, reader, writer, file, Fds, fd_at, Act, live, Place, View}

-- a file that a program holds open, and the name of its entry
pub record Owned : Type 0 where
  pub entry : ℕ
  pub own : OwnFile

abbrev pub own_files : List Owned → List OwnFile
own_files [] = []
own_files (o ∷ later) = o.own ∷ own_files later

abbrev pub own_fds : List Owned → List ℕ
own_fds [] = []
own_fds (o ∷ later) = o.own.fd ∷ own_fds later

-- what a descriptor is open on by these files
abbrev pub owned_at : List Owned → ℕ → Option Entry
owned_at [] fd = None
owned_at (o ∷ later) fd = if o.own.fd == fd then Some (file o.entry) else owned_at later fd

-- no two of them have one descriptor, and each is above 2
abbrev pub AreApart : List Owned → Type 0
AreApart [] = Unit {0}
AreApart (o ∷ later) = (2 < o.own.fd) × (owned_at later o.own.fd ≡ None) × AreApart later

-- each goes on where its entry does
abbrev pub place_of : OwnFile → Place
place_of own = record { name = own.name; mode = own.mode; at = own.at }

abbrev pub ArePlaced : View → List Owned → Type 0
ArePlaced V [] = Unit {0}
ArePlaced V (o ∷ later) = (V.places o.entry ≡ place_of o.own) × ArePlaced V later

-- none of them appends: no program opens a file so
abbrev pub Appends : Mode → Type 0
Appends Input = ⊥
Appends Fresh = ⊥
Appends Over = ⊥
Appends Append = Unit {0}

abbrev pub NoneAppends : List Owned → Type 0
NoneAppends [] = Unit {0}
NoneAppends (o ∷ later) = (Appends o.own.mode → ⊥) × NoneAppends later

-- the program's own files are all that is open above 2
pub record OwnFds (a b : Entry) (owns : List Owned) (d : Fds) : Type 0 where
  pub input : fd_at d 0 ≡ Some a
  pub output : fd_at d 1 ≡ Some b
  pub messages : fd_at d 2 ≡ Some diag
  pub above : (fd : ℕ) → 2 < fd → fd_at d fd ≡ owned_at owns fd

abbrev pub IsWriter : Entry → Type 0
IsWriter input = ⊥
IsWriter out = ⊥
IsWriter diag = ⊥
IsWriter (reader i) = ⊥
IsWriter (writer i) = Unit {0}
IsWriter (file e) = ⊥

-- a call is put in part only where it is a write to a pipe
abbrev pub PutFits : Entry → Turn → ℕ → Type 0
PutFits b turn put = (put ≡ 0) ⊎ (IsWriter b × ((bytes : Bytes) × (turn.call ≡ Write 1 bytes)))

-- it makes only calls that a program makes
pub record IsTame (turn : Turn) (owns : List Owned) : Type 0 where
  pub which : Program
  pub arguments : List Bytes
  pub calls : (replies : List Reply) → AreTame which arguments turn.next turn.call (own_fds owns) replies

-- what tee read and has still to write is never nothing
abbrev pub TeeHoldsSome : Tee → Type 0
TeeHoldsSome (tee_opens fds name later) = Unit {0}
TeeHoldsSome (tee_reads fds) = Unit {0}
TeeHoldsSome (tee_writes fds bytes) = 1 ≤ length bytes
TeeHoldsSome (tee_gives fds at bytes) = 1 ≤ length bytes

abbrev pub HoldsSome : State → Type 0
HoldsSome (begins which arguments) = Unit {0}
HoldsSome (echo_word later) = Unit {0}
HoldsSome (echo_space later) = Unit {0}
HoldsSome (opens filter name later) = Unit {0}
HoldsSome (works work source) = Unit {0}
HoldsSome (closes filter later) = Unit {0}
HoldsSome (tees tee) = TeeHoldsSome tee
HoldsSome told = Unit {0}
HoldsSome ended = Unit {0}

-- after a write of no bytes, as echo's of an empty argument, it does the same whether that was done or refused: behind a gap in
-- a file the kernel refuses it
pub record IsSteady (turn : Turn) : Type 0 where
  pub holds : HoldsSome turn.next
  pub passes : turn.call ≡ Write 1 [] → turn_on turn.next Refused ≡ turn_on turn.next Done

abbrev pub program_act : Turn → Act
program_act turn = record { call = turn.call; next = program turn.next }

-- the process p is this program, with a as its input and b as its output
pub record Works (V : View) (a b : Entry) (parent p : ℕ) (turn : Turn) (put : ℕ) (owns : List Owned) : Type 0 where
  pub fds : Fds
  pub slot : V.slots p ≡ live parent (program_act turn) put fds
  pub opened : OwnFds a b owns fds
  pub apart : AreApart owns
  pub placed : ArePlaced V owns
  pub fits : PutFits b turn put
  pub tame : IsTame turn owns
  pub plain : NoneAppends owns
  pub steady : IsSteady turn
