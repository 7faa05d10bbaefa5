-- The states of programs over borrowed words, as plain data.
use Rattle.std.specs.Prelude.{ℕ, ◌-◌, ◌≤◌, List, [], ◌∷◌, ◌++◌, length, Option, Some, None, codes}
use Rattle.mem_files.specs.Name.{Bytes}
use Rattle.prog_parts.specs.declared.program.Program.{Program}
use Rattle.prog_parts.specs.Program.{program_of}
use Rattle.user_progs.specs.State.{Filter, copying, heading, counting, searching, Source, standard, file, Work, cat_reads, cat_writes, head_reads, head_writes, wc_reads, wc_writes, grep_reads, grep_writes, Tee, tee_opens, tee_reads, tee_writes, tee_gives, State, begins, echo_word, echo_space, opens, works, closes, tees, told, ended}
use Rattle.user_calls.specs.Limits.{block_size}
use Rattle.user_calls.specs.declared.calls.Call.{Call}
use Rattle.user_calls.specs.declared.calls.Call.TheVariants.{Exit as Exit', Read as Read', Write as Write', OpenFile as OpenFile', Close as Close'}
use Rattle.user_progs.specs.Turn.{Turn, Step, reads, writes, finishes, fails, quits, block, counts_line, grep_goes_on}
use Rattle.user_progs.specs.declared.says.Says.{Says}
use Rattle.user_progs.specs.declared.says.Says.TheVariants as says
use Rattle.user_progs.specs.declared.state.Filter.{Filter as Filter'}
use Rattle.user_progs.specs.declared.state.Filter.TheVariants.{Copying, Heading, Counting, Searching}
use Rattle.user_progs.specs.declared.state.Source.{Source as Source'}
use Rattle.user_progs.specs.declared.state.Source.TheVariants.{Standard, File}
use Rattle.user_progs.specs.declared.state.Work.{Work as Work'}
use Rattle.user_progs.specs.declared.state.Work.TheVariants.{CatReads, CatWrites, HeadReads, HeadWrites, WcReads, WcWrites}
use Rattle.user_progs.specs.declared.state.Search.{Search}
use Rattle.user_progs.specs.declared.state.Search.TheVariants as searches
use Rattle.user_progs.specs.declared.state.Grep.{Grep}
use Rattle.user_progs.specs.declared.grep.Found.{Found}
use Rattle.user_progs.specs.declared.grep.Found.TheVariants.{Full, Keeps, Matches}
use Rattle.user_progs.specs.declared.grep.Heard.{Heard}
use Rattle.user_progs.specs.declared.grep.Heard.TheVariants as heards
use Rattle.user_progs.specs.declared.tee.Tee.{Tee as Tee'}
use Rattle.user_progs.specs.declared.tee.Tee.TheVariants.{Opens as TeeOpens, Reads as TeeReads, Writes as TeeWrites, Gives as TeeGives}
use Rattle.user_progs.specs.declared.state.Plain.{Plain as Plain'}
use Rattle.user_progs.specs.declared.state.Plain.TheVariants.{Begins, EchoWord, EchoSpace, Opens, Works, Closes, Told, Ended}
use Rattle.user_progs.specs.declared.state.At.{At}
use Rattle.user_progs.specs.declared.state.At.TheVariants.{Plain, Greps, Tees}
use Rattle.user_progs.specs.declared.state.Next.{Next}
use Rattle.user_progs.specs.declared.state.Next.TheVariants as nexts
use Rattle.user_progs.specs.declared.state.Turn.{Turn as Turn'}
use Rattle.user_progs.specs.declared.state.Step.{Step as Step'}
use Rattle.user_progs.specs.declared.state.Step.TheVariants as steps
use Rattle.user_progs.specs.declared.prog.Prog.{Prog}
use Rattle.user_progs.specs.declared.prog.Start.{Start}

abbrev pub filter_of_code : Filter' → Filter
filter_of_code Copying = copying
filter_of_code (Heading lines) = heading lines
filter_of_code Counting = counting
filter_of_code (Searching pattern) = searching pattern.now

abbrev pub work_of_code : Work' → Work
work_of_code CatReads = cat_reads
work_of_code CatWrites = cat_writes
work_of_code (HeadReads lines left) = head_reads lines left
work_of_code (HeadWrites lines left) = head_writes lines left
work_of_code (WcReads counts) = wc_reads counts.lines counts.words counts.bytes counts.is_inside
work_of_code WcWrites = wc_writes

abbrev pub source_of_code : {A : _} → Source' A → Source
source_of_code Standard = standard
source_of_code (File fd name later) = file fd name.now later.now

-- grep's work, with its pattern and the bytes that it keeps
abbrev pub search_of : Search → Bytes → Bytes → Work
search_of searches.Reads pattern kept = grep_reads pattern kept
search_of searches.Writes pattern kept = grep_writes pattern kept

abbrev pub grep_of : {A : _} → Grep A → Bytes → State
grep_of grep kept = works (search_of grep.search grep.pattern.now kept) (source_of_code grep.source)

-- tee, with its descriptors and the bytes that it writes
abbrev pub tee_of_code : {A : _} → Tee' A → List ℕ → Bytes → Tee
tee_of_code (TeeOpens name later) fds bytes = tee_opens fds name.now later.now
tee_of_code TeeReads fds bytes = tee_reads fds
tee_of_code TeeWrites fds bytes = tee_writes fds bytes
tee_of_code (TeeGives at) fds bytes = tee_gives fds at bytes

abbrev pub plain_of : {A : _} → Plain' A → State
plain_of (Begins program arguments) = begins program arguments.now
plain_of (EchoWord later) = echo_word later.now
plain_of (EchoSpace later) = echo_space later.now
plain_of (Opens filter name later) = opens (filter_of_code filter) name.now later.now
plain_of (Works work source) = works (work_of_code work) (source_of_code source)
plain_of (Closes filter later) = closes (filter_of_code filter) later.now
plain_of Told = told
plain_of Ended = ended

-- the state, with the descriptors and the bytes that are kept
abbrev pub at_of : {A : _} → At A → List ℕ → Bytes → State
at_of (Plain at) fds bytes = plain_of at
at_of (Greps grep) fds bytes = grep_of grep bytes
at_of (Tees tee) fds bytes = tees (tee_of_code tee fds bytes)

abbrev pub next_state : {A : _} → Next A → State
next_state (nexts.Stays at) = plain_of at
next_state (nexts.Searches pattern source) = works (grep_reads pattern.now []) (source_of_code source)
next_state (nexts.Opens name later) = tees (tee_opens [] name.now later.now)
next_state nexts.Reads = tees (tee_reads [])

abbrev pub says_of : Says → Call
says_of says.Exit = Exit'
says_of (says.Read fd most) = Read' fd most
says_of (says.Write fd bytes) = Write' fd (block bytes.now)
says_of (says.OpenFile name mode) = OpenFile' (block name.now) mode
says_of (says.Close fd) = Close' fd
says_of (says.CannotOpen program name) = Write' 2 (block (program.now ++ (codes ": cannot open " ++ (name.now ++ 10 ∷ []))))
says_of (says.Line line) = Write' 1 (block (line.now ++ 10 ∷ []))
says_of (says.Counts counts name) = Write' 1 (block (counts_line counts.lines counts.words counts.bytes name.now))

abbrev pub turn_of : {A : _} → Turn' A → Turn
turn_of turn = record { call = says_of turn.call; next = next_state turn.next }

abbrev pub step_of : Step' → Step
step_of (steps.Reads most work) = reads most (work_of_code work)
step_of (steps.Writes bytes work) = writes (block bytes.now) (work_of_code work)
step_of (steps.Tells counts name) = writes (block (counts_line counts.lines counts.words counts.bytes name.now)) wc_writes
step_of steps.Finishes = finishes
step_of (steps.Fails message) = fails message.now
step_of steps.Quits = quits

-- what grep with this pattern does with what it found
abbrev pub found_of : Bytes → Found → Step
found_of pattern Full = finishes
found_of pattern (Keeps kept) = reads (1023 - length kept.now) (grep_reads pattern kept.now)
found_of pattern (Matches line rest) = writes (block (line.now ++ 10 ∷ [])) (grep_writes pattern rest.now)

-- what it keeps fits its buffer
abbrev pub FoundFits : Found → Type 0
FoundFits Full = Unit {0}
FoundFits (Keeps kept) = length kept.now ≤ 1023
FoundFits (Matches line rest) = length rest.now ≤ block_size

-- what it does with what it heard, where it keeps these bytes
abbrev pub heard_of : Bytes → Bytes → Heard → Step
heard_of pattern kept (heards.Looks more) = grep_goes_on pattern (block (kept ++ more.now))
heard_of pattern kept heards.Finishes = finishes
heard_of pattern kept heards.Quits = quits

-- the state that a program is in
abbrev pub state_of : {A : _} → Prog A → State
state_of program = at_of program.at program.kept.fds program.kept.block

-- the first state of these words, where the first of them names a program
abbrev pub begun : Option Program → List Bytes → Option State
begun None arguments = None
begun (Some program) arguments = Some (begins program arguments)

abbrev pub first_state : List Bytes → Option State
first_state [] = None
first_state (word ∷ arguments) = begun (program_of word) arguments

abbrev pub found_state : {A : _} → Option (Prog A) → Option State
found_state None = None
found_state (Some program) = Some (state_of program)

-- the state of a program that was found and is not begun yet
abbrev pub start_of : {A : _} → Start A → State
start_of start = begins start.program start.arguments.now

abbrev pub found_start : {A : _} → Option (Start A) → Option State
found_start None = None
found_start (Some start) = Some (start_of start)
