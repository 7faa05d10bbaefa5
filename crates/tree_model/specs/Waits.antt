-- For the reply to which call a state waits, when its program runs alone, and what it has before it then.
use Rattle.std.specs.Prelude.{◌≡◌, ℕ, ◌+◌, ◌-◌, ◌<◌, ◌≤◌, true, List, [], ◌∷◌, length, take, drop, slice_index_or, Option, Some, None}
use Rattle.std.specs.Option.{is_some}
use Rattle.mem_files.specs.Name.{Name, Bytes}
use Rattle.prog_parts.specs.declared.program.Program.{Program}
use Rattle.prog_parts.specs.declared.program.Program.TheVariants.{Cat, Echo, Grep, Head, Tee as Tee', Wc}
use Rattle.user_calls.specs.Limits.{block_size}
use Rattle.user_calls.specs.declared.calls.Mode.TheVariants.{Input, Fresh}
use Rattle.user_calls.specs.declared.calls.Call.{Call}
use Rattle.user_calls.specs.declared.calls.Call.TheVariants.{Exec, Exit, Read, Write, OpenFile, Close}
use Rattle.prog_parts.specs.Grep.{tested}
use Rattle.prog_parts.specs.Wc.{capped}
use Rattle.user_progs.specs.State.{Source, standard, file, Work, cat_reads, cat_writes, head_reads, head_writes, wc_reads, wc_writes, grep_reads, grep_writes, Tee, tee_opens, tee_reads, tee_writes, tee_gives, State, begins, echo_word, echo_space, opens, works, closes, tees, told, ended}
use Rattle.user_progs.specs.Turn.{fd_of, block}
use Rattle.tree_model.specs.Alone.{OwnFile, World, is_to_read, held}
use Rattle.tree_model.specs.Given.{AreAt, AreDistinct}

-- words that one call can write whole
abbrev pub AreShort : List Bytes → Type 0
AreShort [] = Unit {0}
AreShort (word ∷ words) = (length word ≤ block_size) × AreShort words

-- the call writes to this descriptor
abbrev pub IsWrite : ℕ → Call → Type 0
IsWrite fd call = (bytes : Bytes) × (call ≡ Write fd bytes)

-- a file of this name is open, and can be read
abbrev pub IsOpenToRead : Name → Option OwnFile → Type 0
IsOpenToRead name None = ⊥
IsOpenToRead name (Some own) = (own.name ≡ name) × (is_to_read own.mode ≡ true)

-- a file of the program's own is open at a descriptor above 2, and a name that can be opened is short
abbrev pub IsOpen : Source → World → Type 0
IsOpen standard world = Unit {0}
IsOpen (file fd name later) world = (2 < fd) × (length name ≤ 14) × IsOpenToRead name (held world.own fd)

abbrev pub WorkWaits : Work → ℕ → Call → Type 0
WorkWaits cat_reads fd call = call ≡ Read fd 512
WorkWaits cat_writes fd call = IsWrite 1 call
WorkWaits (head_reads lines wanted) fd call = (0 < wanted) × (call ≡ Read fd 1)
WorkWaits (head_writes lines wanted) fd call = IsWrite 1 call
WorkWaits (wc_reads lines words count inside) fd call =
    (capped lines ≡ lines) × (capped words ≡ words) × (capped count ≡ count) × (call ≡ Read fd 512)
WorkWaits wc_writes fd call = IsWrite 1 call
WorkWaits (grep_reads pattern kept) fd call = (tested kept ≡ []) × (length kept < 1023) × (call ≡ Read fd (1023 - length kept))
WorkWaits (grep_writes pattern rest) fd call = (length rest ≤ 1023) × IsWrite 1 call

-- tee's files are open, each at a descriptor of its own, and go on at one place; while a block is written to one of them,
-- those before it go on behind the block
abbrev pub TeeWaits : Tee → Call → World → Type 0
TeeWaits (tee_opens fds name later) call world =
    (call ≡ OpenFile (block name) Fresh) × (length fds + length later < 16) × AreDistinct fds × AreAt 0 fds world.own world.files
TeeWaits (tee_reads fds) call world = (call ≡ Read 0 512) × AreDistinct fds × ((place : ℕ) × AreAt place fds world.own world.files)
TeeWaits (tee_writes fds bytes) call world =
    (call ≡ Write 1 bytes) × AreDistinct fds × ((place : ℕ) × AreAt place fds world.own world.files)
TeeWaits (tee_gives fds at bytes) call world =
    (call ≡ Write (slice_index_or fds at 0) bytes)
    × (at < length fds)
    × AreDistinct fds
    × ((place : ℕ) × AreAt (place + length bytes) (take at fds) world.own world.files × AreAt place (drop at fds) world.own world.files)

-- what a program's words must be, so that it does what its function says: echo writes each argument by one call, of at
-- most 1,024 bytes, and tee holds at most 16 files
abbrev pub BeginsShort : Program → List Bytes → Type 0
BeginsShort Cat arguments = Unit {0}
BeginsShort Echo arguments = AreShort arguments
BeginsShort Grep arguments = Unit {0}
BeginsShort Head arguments = Unit {0}
BeginsShort Tee' arguments = length arguments ≤ 16
BeginsShort Wc arguments = Unit {0}

abbrev pub Waits : State → Call → World → Type 0
Waits (begins program arguments) call world = (call ≡ Exec true) × BeginsShort program arguments
Waits (echo_word later) call world = IsWrite 1 call × AreShort later
Waits (echo_space later) call world = IsWrite 1 call × AreShort later
Waits (opens filter name later) call world = call ≡ OpenFile (block name) Input
Waits (works work source) call world = WorkWaits work (fd_of source) call × IsOpen source world
Waits (closes filter later) call world = (fd : ℕ) × (call ≡ Close fd) × (is_some (held world.own fd) ≡ true)
Waits (tees tee) call world = TeeWaits tee call world
Waits told call world = (fd : ℕ) × (0 < fd) × (fd < 3) × IsWrite fd call
Waits ended call world = call ≡ Exit
