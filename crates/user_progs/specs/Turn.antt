-- What a program does with a reply: the call that it makes, and the state in which it waits for the reply to that.
use Rattle.std.specs.Prelude.{ℕ, zero, suc, ◌+◌, ◌-◌, ◌==◌, nat_lt, nat_le, Bool, true, false, List, [], ◌∷◌, ◌++◌, length, take, drop, slice_index_or, if◌then◌else◌, codes}
use Rattle.std.specs.Fmt.{decimal}
use Rattle.mem_files.specs.Name.{Name, Bytes}
use Rattle.prog_parts.specs.declared.program.Program.{Program}
use Rattle.prog_parts.specs.declared.program.Program.TheVariants.{Cat, Echo, Grep, Head, Tee as Tee', Wc}
use Rattle.prog_parts.specs.Head.{head_files, has_wrong_option}
use Rattle.user_calls.specs.Limits.{block_size}
use Rattle.user_calls.specs.declared.calls.Mode.TheVariants.{Input, Fresh}
use Rattle.user_calls.specs.declared.calls.Call.{Call}
use Rattle.user_calls.specs.declared.calls.Call.TheVariants.{Exit, Read, Write, OpenFile, Close}
use Rattle.user_calls.specs.declared.calls.Reply.{Reply}
use Rattle.user_calls.specs.declared.calls.Reply.TheVariants.{Start, Child, Done, Bytes as Bytes', Fd, Ends, Refused}
use Rattle.grep_match.specs.Match.{matches}
use Rattle.prog_parts.specs.Grep.{tested}
use Rattle.prog_parts.specs.Head.{line_count}
use Rattle.prog_parts.specs.Wc.{line_ends, words_after, ends_inside, capped}
use Rattle.user_progs.specs.State.{Filter, copying, heading, counting, searching, Source, standard, file, Work, cat_reads, cat_writes, head_reads, head_writes, wc_reads, wc_writes, grep_reads, grep_writes, Tee, tee_opens, tee_reads, tee_writes, tee_gives, State, begins, echo_word, echo_space, opens, works, closes, tees, told, ended}

pub record Turn : Type 0 where
  pub call : Call
  pub next : State

-- the reply to a call: what the call is for, a refusal, or what such a call can't get
pub data Answer (X : Type 0) : Type 0 where
  yields : X → Answer X
  denies : Answer X
  strays : Answer X

-- to a read
abbrev pub bytes_in : Reply → Answer Bytes
bytes_in Start = strays
bytes_in Child = strays
bytes_in Done = strays
bytes_in (Bytes' bytes) = yields bytes
bytes_in (Fd fd) = strays
bytes_in (Ends reader writer) = strays
bytes_in Refused = denies

-- to an open
abbrev pub fd_in : Reply → Answer ℕ
fd_in Start = strays
fd_in Child = strays
fd_in Done = strays
fd_in (Bytes' bytes) = strays
fd_in (Fd fd) = yields fd
fd_in (Ends reader writer) = strays
fd_in Refused = denies

-- to a write or a close
abbrev pub done_in : Reply → Answer (Unit {0})
done_in Start = strays
done_in Child = strays
done_in Done = yields tt
done_in (Bytes' bytes) = strays
done_in (Fd fd) = strays
done_in (Ends reader writer) = strays
done_in Refused = denies

-- as many bytes as one call moves
abbrev pub block : Bytes → Bytes
block bytes = take block_size bytes

abbrev pub exits : Turn
exits = record { call = Exit; next = ended }

-- a last write
abbrev pub writes_last : ℕ → Bytes → Turn
writes_last fd bytes = record { call = Write fd bytes; next = told }

-- a message is written to descriptor 2, and then the program exits
abbrev pub tells : Bytes → Turn
tells message = writes_last 2 (block message)

-- echo (user/echo.c)
abbrev pub echo_next : List Bytes → Turn
echo_next [] = exits
echo_next (argument ∷ later) = record { call = Write 1 (block argument); next = echo_word later }

abbrev pub echo_end : List Bytes → Turn
echo_end [] = writes_last 1 (10 ∷ [])
echo_end (argument ∷ later) = record { call = Write 1 (32 ∷ []); next = echo_space (argument ∷ later) }

-- programs that work on their inputs one by one

abbrev pub name_of_program : Filter → Bytes
name_of_program copying = codes "cat"
name_of_program (heading n) = codes "head"
name_of_program counting = codes "wc"
name_of_program (searching pattern) = codes "grep"

abbrev pub fd_of : Source → ℕ
fd_of standard = 0
fd_of (file fd name later) = fd

abbrev pub name_of : Source → Name
name_of standard = []
name_of (file fd name later) = name

abbrev pub opens_next : Filter → List Name → Turn
opens_next filter [] = exits
opens_next filter (name ∷ later) = record { call = OpenFile (block name) Input; next = opens filter name later }

-- the work on this input is done
abbrev pub after_source : Filter → Source → Turn
after_source filter standard = exits
after_source filter (file fd name later) = record { call = Close fd; next = closes filter later }

-- what the work on an input does
pub data Step : Type 0 where
  -- it reads at most so many bytes
  reads : ℕ → Work → Step
  -- it writes these bytes to descriptor 1
  writes : Bytes → Work → Step
  finishes : Step
  -- it ends the program, with this message or without one
  fails : Bytes → Step
  quits : Step

abbrev pub turn_by : Step → Filter → Source → Turn
turn_by (reads most work) filter source = record { call = Read (fd_of source) most; next = works work source }
turn_by (writes bytes work) filter source = record { call = Write 1 bytes; next = works work source }
turn_by finishes filter source = after_source filter source
turn_by (fails message) filter source = tells message
turn_by quits filter source = exits

-- cat (user/cat.c)
abbrev pub cat_got : Answer Bytes → Step
cat_got (yields []) = finishes
cat_got (yields (byte ∷ bytes)) = writes (byte ∷ bytes) cat_writes
cat_got denies = fails (codes "cat: read error\n")
cat_got strays = quits

abbrev pub cat_wrote : Answer (Unit {0}) → Step
cat_wrote (yields done) = reads 512 cat_reads
cat_wrote denies = fails (codes "cat: write error\n")
cat_wrote strays = quits

-- head (own)
abbrev pub head_goes_on : ℕ → ℕ → Step
head_goes_on lines zero = finishes
head_goes_on lines (suc left) = reads 1 (head_reads lines (suc left))

abbrev pub head_got : ℕ → ℕ → Answer Bytes → Step
head_got lines left (yields []) = finishes
head_got lines zero (yields (byte ∷ bytes)) = finishes
head_got lines (suc left) (yields (byte ∷ bytes)) = writes (byte ∷ []) (head_writes lines (if byte == 10 then left else suc left))
head_got lines left denies = fails (codes "head: read error\n")
head_got lines left strays = quits

abbrev pub head_wrote : ℕ → ℕ → Answer (Unit {0}) → Step
head_wrote lines left (yields done) = head_goes_on lines left
head_wrote lines left denies = fails (codes "head: write error\n")
head_wrote lines left strays = quits

-- wc (user/wc.c)
abbrev pub counts_line : ℕ → ℕ → ℕ → Name → Bytes
counts_line lines words count name = decimal lines ++ 32 ∷ (decimal words ++ 32 ∷ (decimal count ++ 32 ∷ (name ++ 10 ∷ [])))

-- so many LFs, words and bytes, and then these bytes
abbrev pub wc_counts : ℕ → ℕ → ℕ → Bool → Bytes → Work
wc_counts lines words count inside bytes =
    wc_reads (capped (lines + line_ends bytes)) (capped (words + words_after inside bytes)) (capped (count + length bytes)) (ends_inside inside bytes)

abbrev pub wc_got : ℕ → ℕ → ℕ → Bool → Name → Answer Bytes → Step
wc_got lines words count inside name (yields []) = writes (block (counts_line lines words count name)) wc_writes
wc_got lines words count inside name (yields (byte ∷ bytes)) = reads 512 (wc_counts lines words count inside (byte ∷ bytes))
wc_got lines words count inside name denies = fails (codes "wc: read error\n")
wc_got lines words count inside name strays = quits

-- grep (user/grep.c, whose buffer of 1,024 bytes holds at most 1,023): with these bytes and no line to test, it reads on,
-- or its buffer is full
abbrev pub grep_keeps : Bytes → Bytes → Step
grep_keeps pattern kept = if nat_le 1023 (length kept) then finishes else reads (1023 - length kept) (grep_reads pattern kept)

-- the first of these lines, with which the buffer begins, that matches is written
abbrev pub grep_lines : Bytes → List Bytes → Bytes → Step
grep_lines pattern [] buffer = grep_keeps pattern buffer
grep_lines pattern (line ∷ lines) buffer =
    if matches pattern line then writes (block (line ++ 10 ∷ [])) (grep_writes pattern (drop (length line + 1) buffer))
    else grep_lines pattern lines (drop (length line + 1) buffer)

abbrev pub grep_goes_on : Bytes → Bytes → Step
grep_goes_on pattern buffer = grep_lines pattern (tested buffer) buffer

-- a refused read ends an input, as its end does
abbrev pub grep_got : Bytes → Bytes → Answer Bytes → Step
grep_got pattern kept (yields []) = finishes
grep_got pattern kept (yields (byte ∷ bytes)) = grep_goes_on pattern (block (kept ++ byte ∷ bytes))
grep_got pattern kept denies = finishes
grep_got pattern kept strays = quits

abbrev pub first_step : Filter → Step
first_step copying = reads 512 cat_reads
first_step (heading lines) = head_goes_on lines lines
first_step counting = reads 512 (wc_reads 0 0 0 false)
first_step (searching pattern) = reads 1023 (grep_reads pattern [])

abbrev pub work_step : Work → Name → Reply → Step
work_step cat_reads name reply = cat_got (bytes_in reply)
work_step cat_writes name reply = cat_wrote (done_in reply)
work_step (head_reads lines left) name reply = head_got lines left (bytes_in reply)
work_step (head_writes lines left) name reply = head_wrote lines left (done_in reply)
work_step (wc_reads lines words count inside) name reply = wc_got lines words count inside name (bytes_in reply)
work_step wc_writes name reply = finishes
work_step (grep_reads pattern kept) name reply = grep_got pattern kept (bytes_in reply)
work_step (grep_writes pattern rest) name reply = grep_goes_on pattern rest

abbrev pub filter_of : Work → Filter
filter_of cat_reads = copying
filter_of cat_writes = copying
filter_of (head_reads lines left) = heading lines
filter_of (head_writes lines left) = heading lines
filter_of (wc_reads lines words count inside) = counting
filter_of wc_writes = counting
filter_of (grep_reads pattern kept) = searching pattern
filter_of (grep_writes pattern rest) = searching pattern

abbrev pub opened_by : Filter → Name → List Name → Answer ℕ → Turn
opened_by filter name later (yields fd) = turn_by (first_step filter) filter (file fd name later)
opened_by filter name later denies = tells (name_of_program filter ++ (codes ": cannot open " ++ (name ++ 10 ∷ [])))
opened_by filter name later strays = exits

-- a file was closed; a close that is refused ends the program too
abbrev pub closed_by : Filter → List Name → Answer (Unit {0}) → Turn
closed_by filter later (yields done) = opens_next filter later
closed_by filter later denies = exits
closed_by filter later strays = exits

abbrev pub begins_filter : Filter → List Name → Turn
begins_filter filter [] = turn_by (first_step filter) filter standard
begins_filter filter (name ∷ later) = opens_next filter (name ∷ later)

abbrev pub begins_head : Bool → List Bytes → Turn
begins_head true arguments = tells (codes "usage: head [-N] [file ...]\n")
begins_head false arguments = begins_filter (heading (line_count arguments)) (head_files arguments)

abbrev pub begins_grep : List Bytes → Turn
begins_grep [] = tells (codes "usage: grep pattern [file ...]\n")
begins_grep (pattern ∷ names) = begins_filter (searching pattern) names

-- tee (own)
abbrev pub tee_waits : List ℕ → Turn
tee_waits fds = record { call = Read 0 512; next = tees (tee_reads fds) }

abbrev pub tee_opens_next : List ℕ → List Name → Turn
tee_opens_next fds [] = tee_waits fds
tee_opens_next fds (name ∷ later) = record { call = OpenFile (block name) Fresh; next = tees (tee_opens fds name later) }

abbrev pub tee_cannot_open : Name → Turn
tee_cannot_open name = tells (codes "tee" ++ (codes ": cannot open " ++ (name ++ 10 ∷ [])))

-- it holds at most 16 files, as many as a process has descriptors
abbrev pub tee_opened : List ℕ → Name → List Name → Answer ℕ → Turn
tee_opened fds name later denies = tee_cannot_open name
tee_opened fds name later strays = exits
tee_opened fds name later (yields fd) = if nat_lt (length fds) 16 then tee_opens_next (fds ++ fd ∷ []) later else tee_cannot_open name

abbrev pub tee_got : List ℕ → Answer Bytes → Turn
tee_got fds (yields []) = exits
tee_got fds (yields (byte ∷ bytes)) = record { call = Write 1 (byte ∷ bytes); next = tees (tee_writes fds (byte ∷ bytes)) }
tee_got fds denies = tells (codes "tee: read error\n")
tee_got fds strays = exits

-- the file at this place is given these bytes, if there is one
abbrev pub tee_gives_next : List ℕ → ℕ → Bytes → Turn
tee_gives_next fds at bytes =
    if nat_lt at (length fds) then record { call = Write (slice_index_or fds at 0) bytes; next = tees (tee_gives fds at bytes) }
    else tee_waits fds

abbrev pub tee_wrote : List ℕ → ℕ → Bytes → Answer (Unit {0}) → Turn
tee_wrote fds at bytes (yields done) = tee_gives_next fds at bytes
tee_wrote fds at bytes denies = tells (codes "tee: write error\n")
tee_wrote fds at bytes strays = exits

abbrev pub tee_turn : Tee → Reply → Turn
tee_turn (tee_opens fds name later) reply = tee_opened fds name later (fd_in reply)
tee_turn (tee_reads fds) reply = tee_got fds (bytes_in reply)
tee_turn (tee_writes fds bytes) reply = tee_wrote fds 0 bytes (done_in reply)
tee_turn (tee_gives fds at bytes) reply = tee_wrote fds (at + 1) bytes (done_in reply)

abbrev pub begins_program : Program → List Bytes → Turn
begins_program Cat arguments = begins_filter copying arguments
begins_program Echo arguments = echo_next arguments
begins_program Grep arguments = begins_grep arguments
begins_program Head arguments = begins_head (has_wrong_option arguments) arguments
begins_program Tee' arguments = tee_opens_next [] arguments
begins_program Wc arguments = begins_filter counting arguments

-- what a program does with the reply to its call; one that such a call can't get makes it exit, unless the program
-- ignores all replies to the call. It begins at any reply (the call that found the program is always answered Done)
abbrev pub turn : State → Reply → Turn
turn (begins program arguments) reply = begins_program program arguments
turn (echo_word later) reply = echo_end later
turn (echo_space later) reply = echo_next later
turn (opens filter name later) reply = opened_by filter name later (fd_in reply)
turn (works work source) reply = turn_by (work_step work (name_of source) reply) (filter_of work) source
turn (closes filter later) reply = closed_by filter later (done_in reply)
turn (tees tee) reply = tee_turn tee reply
turn told reply = exits
turn ended reply = exits

abbrev pub call_of : State → Reply → Call
call_of state reply = (turn state reply).call

abbrev pub next_of : State → Reply → State
next_of state reply = (turn state reply).next
