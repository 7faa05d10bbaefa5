-- A program that runs alone over an input and files: what its calls may be answered, and what they change.
use Rattle.std.specs.Prelude.{◌≡◌, ℕ, zero, suc, ◌+◌, ◌<◌, ◌≤◌, ◌==◌, nat_le, Bool, true, false, not, ◌&&◌, List, [], ◌∷◌, ◌++◌, length, drop, Option, Some, None, if◌then◌else◌}
use Rattle.std.specs.Option.{is_some}
use Rattle.mem_files.specs.Name.{Name, Bytes, is_openable}
use Rattle.mem_files.specs.Files.{FileMap, with_file, bytes_of}
use Rattle.mem_files.specs.Overlay.{written}
use Rattle.user_calls.specs.declared.calls.Mode.{Mode}
use Rattle.user_calls.specs.declared.calls.Mode.TheVariants.{Input, Fresh, Over, Append}
use Rattle.user_calls.specs.declared.calls.Call.{Call}
use Rattle.user_calls.specs.declared.calls.Call.TheVariants.{Fork, Exec, Exit, Wait, MakePipe, Read, Write, OpenFile, Close, Dup}
use Rattle.user_calls.specs.declared.calls.Reply.{Reply}
use Rattle.user_calls.specs.declared.calls.Reply.TheVariants.{Done, Bytes as Bytes', Fd, Refused}
use Rattle.meaning_model.specs.Inputs.{found}
use Rattle.user_progs.specs.Turn.{Answer, yields, denies, strays, bytes_in, fd_in, done_in}

-- an open file of the program's own: its descriptor, its name, the mode that it was opened with, and the byte at which
-- it goes on
pub record OwnFile : Type 0 where
  pub fd : ℕ
  pub name : Name
  pub mode : Mode
  pub at : ℕ

-- what a program that runs alone has before it: its open files, the input that is left, and all files
pub record World : Type 0 where
  pub own : List OwnFile
  pub input : Bytes
  pub files : FileMap

-- the open file of this descriptor
abbrev pub held : List OwnFile → ℕ → Option OwnFile
held [] fd = None
held (file ∷ later) fd = if file.fd == fd then Some file else held later fd

-- it goes on so many bytes further
abbrev pub moved_on : List OwnFile → ℕ → ℕ → List OwnFile
moved_on [] fd count = []
moved_on (file ∷ later) fd count =
    if file.fd == fd then record file { at = file.at + count } ∷ later else file ∷ moved_on later fd count

-- it is closed
abbrev pub closed : List OwnFile → ℕ → List OwnFile
closed [] fd = []
closed (file ∷ later) fd = if file.fd == fd then later else file ∷ closed later fd

-- a file that was opened so can be read; any other can be written
abbrev pub is_to_read : Mode → Bool
is_to_read Input = true
is_to_read Fresh = false
is_to_read Over = false
is_to_read Append = false

-- the bytes of an open file from where it goes on, if it can be read
abbrev pub left_of_file : Option OwnFile → FileMap → Option Bytes
left_of_file None F = None
left_of_file (Some file) F = if is_to_read file.mode then Some (drop file.at (bytes_of (F file.name))) else None

-- the bytes that this descriptor can still be read for, if it can be read
abbrev pub readable : ℕ → World → Option Bytes
readable zero world = Some world.input
readable (suc fd) world = left_of_file (held world.own (suc fd)) world.files

-- none, where it can't be read
abbrev pub left_at : ℕ → World → Bytes
left_at fd world = bytes_of (readable fd world)

-- an open file can be written, and goes on within its bytes or at their end, so that a write leaves no gap
abbrev pub is_writable : Option OwnFile → FileMap → Bool
is_writable None F = false
is_writable (Some file) F = not (is_to_read file.mode) && nat_le file.at (length (bytes_of (F file.name)))

-- a read of at most so many bytes takes these of those that are left: a prefix, of at least one byte where there is one
pub record Takes (most : ℕ) (left bytes : Bytes) : Type 0 where
  pub more : Bytes
  pub prefix : left ≡ bytes ++ more
  pub few : length bytes ≤ most
  pub some : bytes ≡ [] → left ≡ []

-- a descriptor above 2 that the program doesn't hold
abbrev pub IsNew : ℕ → World → Type 0
IsNew fd world = (2 < fd) × (held world.own fd ≡ None)

-- an open is granted where a name can be opened in that mode: for reading where there is a file, and for writing
-- always. No program opens a file to append, and here such an open is not granted
abbrev pub can_open : Name → Mode → FileMap → Option Bytes
can_open name Input F = found F name
can_open name Fresh F = if is_openable name then Some [] else None
can_open name Over F = if is_openable name then Some (bytes_of (F name)) else None
can_open name Append F = None

abbrev pub MayOpen : Option Bytes → Reply → World → Type 0
MayOpen None reply world = reply ≡ Refused
MayOpen (Some bytes) reply world = (fd : ℕ) × (reply ≡ Fd fd) × IsNew fd world

abbrev pub MayRead : ℕ → Option Bytes → Reply → Type 0
MayRead most None reply = reply ≡ Refused
MayRead most (Some left) reply = (bytes : Bytes) × (reply ≡ Bytes' bytes) × Takes most left bytes

-- nothing is written to standard input; what is written to descriptors 1 and 2 is taken
abbrev pub may_write : ℕ → World → Bool
may_write zero world = false
may_write (suc zero) world = true
may_write (suc (suc zero)) world = true
may_write (suc (suc (suc fd))) world = is_writable (held world.own (suc (suc (suc fd)))) world.files

abbrev pub done_if : Bool → Reply
done_if true = Done
done_if false = Refused

-- what a call may be answered
abbrev pub May : Call → Reply → World → Type 0
May Fork reply world = ⊥
May (Exec is_known) reply world = reply ≡ Done
May Exit reply world = ⊥
May Wait reply world = ⊥
May MakePipe reply world = ⊥
May (Read fd most) reply world = MayRead most (readable fd world) reply
May (Write fd bytes) reply world = reply ≡ done_if (may_write fd world)
May (OpenFile name mode) reply world = MayOpen (can_open name mode world.files) reply world
May (Close fd) reply world = reply ≡ done_if (is_some (held world.own fd))
May (Dup fd) reply world = ⊥

-- what the calls change, by their replies: a call that is refused changes nothing
abbrev pub after_read : ℕ → Answer Bytes → World → World
after_read zero (yields bytes) world = record world { input = drop (length bytes) world.input }
after_read (suc fd) (yields bytes) world = record world { own = moved_on world.own (suc fd) (length bytes) }
after_read fd denies world = world
after_read fd strays world = world

abbrev pub after_file_write : Option OwnFile → Bytes → World → World
after_file_write None bytes world = world
after_file_write (Some file) bytes world = record world {
  own = moved_on world.own file.fd (length bytes);
  files = with_file world.files file.name (written (bytes_of (world.files file.name)) file.at bytes);
}

abbrev pub after_done_write : ℕ → Bytes → World → World
after_done_write zero bytes world = world
after_done_write (suc zero) bytes world = world
after_done_write (suc (suc zero)) bytes world = world
after_done_write (suc (suc (suc fd))) bytes world = after_file_write (held world.own (suc (suc (suc fd)))) bytes world

abbrev pub after_write : ℕ → Bytes → Answer (Unit {0}) → World → World
after_write fd bytes (yields done) world = after_done_write fd bytes world
after_write fd bytes denies world = world
after_write fd bytes strays world = world

abbrev pub opened_files : Option Bytes → Name → Mode → FileMap → FileMap
opened_files None name mode F = F
opened_files (Some bytes) name Input F = F
opened_files (Some bytes) name Fresh F = with_file F name bytes
opened_files (Some bytes) name Over F = with_file F name bytes
opened_files (Some bytes) name Append F = F

abbrev pub after_open : Name → Mode → Answer ℕ → World → World
after_open name mode (yields fd) world = record world {
  own = record { fd = fd; name = name; mode = mode; at = 0 } ∷ world.own;
  files = opened_files (can_open name mode world.files) name mode world.files;
}
after_open name mode denies world = world
after_open name mode strays world = world

abbrev pub after_close : ℕ → Answer (Unit {0}) → World → World
after_close fd (yields done) world = record world { own = closed world.own fd }
after_close fd denies world = world
after_close fd strays world = world

abbrev pub after_call : Call → Reply → World → World
after_call Fork reply world = world
after_call (Exec is_known) reply world = world
after_call Exit reply world = world
after_call Wait reply world = world
after_call MakePipe reply world = world
after_call (Read fd most) reply world = after_read fd (bytes_in reply) world
after_call (Write fd bytes) reply world = after_write fd bytes (done_in reply) world
after_call (OpenFile name mode) reply world = after_open name mode (fd_in reply) world
after_call (Close fd) reply world = after_close fd (done_in reply) world
after_call (Dup fd) reply world = world

-- what a call writes to descriptor 1
abbrev pub to_out : Call → Bytes
to_out Fork = []
to_out (Exec is_known) = []
to_out Exit = []
to_out Wait = []
to_out MakePipe = []
to_out (Read fd most) = []
to_out (Write fd bytes) = if fd == 1 then bytes else []
to_out (OpenFile name mode) = []
to_out (Close fd) = []
to_out (Dup fd) = []
