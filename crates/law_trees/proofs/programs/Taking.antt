-- The work on an input reads of it what it doesn't leave: each step reads what is fewer then.
use Rattle.std.proofs.Common.{◌≡◌, ◌∙◌, ℕ, zero, suc, ◌+◌, ◌-◌, ◌≤◌, List, [], ◌∷◌, ◌++◌, length, drop, refl, sym, ap, subst, arith}
use Rattle.std.specs.Prelude.{if◌then◌else◌}
use Rattle.std.proofs.lemmas.List.{length-append, length-drop}
use Rattle.mem_files.specs.Name.{Name, Bytes}
use Rattle.mem_files.specs.Files.{FileMap}
use Rattle.user_calls.specs.declared.calls.Call.{Call}
use Rattle.user_calls.specs.declared.calls.Call.TheVariants.{Read, Write}
use Rattle.user_calls.specs.declared.calls.Reply.{Reply}
use Rattle.user_calls.specs.declared.calls.Reply.TheVariants.{Done, Bytes as Bytes', Refused}
use Rattle.prog_parts.specs.Grep.{with_ends, tested, grep_left}
use Rattle.prog_parts.specs.Head.{first_lines}
use Rattle.meaning_model.specs.Tee.{are_openable}
use Rattle.user_progs.specs.State.{Filter, heading, searching, Source, standard, file, Work, cat_reads, cat_writes, head_reads, head_writes, wc_reads, wc_writes, grep_reads, grep_writes, Tee, tee_opens, tee_reads, tee_writes, tee_gives, State, begins, echo_word, echo_space, opens, works, closes, tees, told, ended}
use Rattle.user_progs.specs.Turn.{yields, Step, reads, writes, finishes, fails, quits, bytes_in, turn, turn_by, work_step, filter_of, name_of, fd_of, head_goes_on, grep_goes_on}
use Rattle.tree_model.specs.Alone.{World, left_at, Takes, May, after_read, after_call}
use Rattle.tree_model.specs.Still.{work_rest}
use Rattle.tree_model.specs.Waits.{IsWrite, IsOpen, WorkWaits}
use Rattle.tree_model.specs.Exits.{bytes_told}
use Rattle.tree_model.specs.Reads.{taken_of_files, bytes_of_function}
use Rattle.law_trees.proofs.programs.Work.{GoesOn, step_rest, left_over, cat_kept, head_kept, head_begins}
use Rattle.law_trees.proofs.programs.Counting.{wc_kept}
use Rattle.law_trees.proofs.programs.Search.{grep_kept, buffer_kept}
use Rattle.law_trees.proofs.programs.Keeps.{moved_left, heard_read, short_name}
use Rattle.law_trees.proofs.programs.Waiting.{StepWaits, step_waits}

-- how many bytes the work still reads of those that are left of its input, and a step
abbrev pub work_takes : Work → Bytes → ℕ
work_takes work left = length left - length (work_rest work left)

abbrev pub step_takes : Step → Bytes → ℕ
step_takes (reads most work) left = work_takes work left
step_takes (writes bytes work) left = work_takes work left
step_takes finishes left = 0
step_takes (fails message) left = 0
step_takes quits left = 0

abbrev pub later_takes : Filter → Source → FileMap → ℕ
later_takes filter standard F = 0
later_takes filter (file fd name later) F = taken_of_files filter later F

-- tee, of which these names are still to be opened
abbrev pub tee_takes : List Name → Bytes → ℕ
tee_takes names input = if are_openable names then length input else 0

abbrev pub tee_still_takes : Tee → World → ℕ
tee_still_takes (tee_opens fds name later) world = tee_takes (name ∷ later) world.input
tee_still_takes (tee_reads fds) world = length world.input
tee_still_takes (tee_writes fds bytes) world = length world.input
tee_still_takes (tee_gives fds at bytes) world = length world.input

-- how many bytes a program still reads
abbrev pub takes : State → World → ℕ
takes (begins program arguments) world = bytes_of_function program arguments world.input world.files
takes (echo_word later) world = 0
takes (echo_space later) world = 0
takes (opens filter name later) world = taken_of_files filter (name ∷ later) world.files
takes (works work source) world = work_takes work (left_at (fd_of source) world) + later_takes (filter_of work) source world.files
takes (closes filter later) world = taken_of_files filter later world.files
takes (tees tee) world = tee_still_takes tee world
takes told world = 0
takes ended world = 0

-- a step takes what it doesn't leave

pub takes_rest : (step : Step) (left : Bytes) → step_takes step left ≡ length left - length (step_rest step left)
takes_rest (reads most work) left = refl
takes_rest (writes bytes work) left = refl
takes_rest finishes left = omega arith
takes_rest (fails message) left = omega arith
takes_rest quits left = omega arith

-- the work leaves no more than there is

buffer_few : (kept left : Bytes) → length kept ≤ 1023 → length (grep_left (kept ++ left)) ≤ length left
buffer_few kept left few =
    let all = kept ++ left in
    let tested_so = length (with_ends (tested all)) in
    omega (arith, few, length-drop 1023 (drop tested_so all), length-drop tested_so all, length-append kept left)

rest_few : (work : Work) (fd : ℕ) (call : Call) (left : Bytes) → WorkWaits work fd call → length (work_rest work left) ≤ length left
rest_few cat_reads fd call left waits = omega arith
rest_few cat_writes fd call left waits = omega arith
rest_few (head_reads lines wanted) fd call left waits = omega (arith, length-drop (length (first_lines wanted left)) left)
rest_few (head_writes lines wanted) fd call left waits = omega (arith, length-drop (length (first_lines wanted left)) left)
rest_few (wc_reads lines words count inside) fd call left waits = omega arith
rest_few wc_writes fd call left waits = omega arith
rest_few (grep_reads pattern kept) fd call left waits = buffer_few kept left (omega (arith, waits.1))
rest_few (grep_writes pattern rest) fd call left waits = buffer_few rest left waits.0

step_few : (step : Step) (left : Bytes) → StepWaits step → length (step_rest step left) ≤ length left
step_few (reads most work) left waits = rest_few work 0 (Read 0 most) left (waits 0)
step_few (writes bytes work) left waits = rest_few work 0 (Write 1 bytes) left (waits 0)
step_few finishes left waits = omega arith
step_few (fails message) left waits = omega arith
step_few quits left waits = omega arith

-- the state after a step of this filter's work

abbrev pub IsOf : Filter → Step → Type 0
IsOf filter (reads most work) = filter_of work ≡ filter
IsOf filter (writes bytes work) = filter_of work ≡ filter
IsOf filter finishes = Unit {0}
IsOf filter (fails message) = Unit {0}
IsOf filter quits = Unit {0}

pub goes_of : (filter : Filter) (step : Step) → GoesOn filter step → IsOf filter step
goes_of filter (reads most work) on = on
goes_of filter (writes bytes work) on = on
goes_of filter finishes on = tt
goes_of filter (fails message) on = tt
goes_of filter quits on = tt

same_filter : (work : Work) (filter : Filter) (source : Source) (world : World) → filter_of work ≡ filter →
    takes (works work source) world ≤ work_takes work (left_at (fd_of source) world) + later_takes filter source world.files
same_filter work filter source world is =
    subst (λ (f : Filter). takes (works work source) world ≤ work_takes work (left_at (fd_of source) world) + later_takes f source world.files) is (omega arith)

pub step_next : (filter : Filter) (step : Step) (source : Source) (world : World) → IsOf filter step →
    takes (turn_by step filter source).next world ≤ step_takes step (left_at (fd_of source) world) + later_takes filter source world.files
step_next filter (reads most work) source world is = same_filter work filter source world is
step_next filter (writes bytes work) source world is = same_filter work filter source world is
step_next filter finishes standard world is = omega arith
step_next filter finishes (file fd name later) world is = omega arith
step_next filter (fails message) source world is = omega arith
step_next filter quits source world is = omega arith

-- after a read

read_left : (source : Source) (world : World) (bytes : Bytes) → IsOpen source world → left_at (fd_of source) (after_read (fd_of source) (yields bytes) world) ≡ drop (length bytes) (left_at (fd_of source) world)
read_left standard world bytes is = refl
read_left (file zero name later) world bytes is = absurd (omega (arith, is.0))
read_left (file (suc fd) name later) world bytes is = moved_left world.own (suc fd) (length bytes) world.files

pub read_files : (fd : ℕ) (bytes : Bytes) (world : World) → (after_read fd (yields bytes) world).files ≡ world.files
read_files zero bytes world = refl
read_files (suc fd) bytes world = refl

-- what this reply makes of what is still read
abbrev pub Less : State → Call → Reply → World → Type 0
Less state call reply world = bytes_told (bytes_in reply) + takes (turn state reply).next (after_call call reply world) ≤ takes state world

-- the step goes on with the work, and leaves what the work leaves
abbrev pub LeavesSo : Work → Step → Bytes → Bytes → Type 0
LeavesSo work step before left = GoesOn (filter_of work) step × (work_rest work before ≡ step_rest step left)

work_read : (work : Work) (source : Source) (call : Call) (reply : Reply) (world : World) (most : ℕ) → WorkWaits work (fd_of source) call → call ≡ Read (fd_of source) most → IsOpen source world → May call reply world →
    ((bytes : Bytes) → Takes most (left_at (fd_of source) world) bytes →
    LeavesSo work (work_step work (name_of source) (Bytes' bytes)) (left_at (fd_of source) world) (drop (length bytes) (left_at (fd_of source) world))) →
    Less (works work source) call reply world
work_read work source call reply world most waits is ready may leaves =
    subst (λ (c : Call). Less (works work source) c reply world) (sym is)
    (subst (λ (r : Reply). Less (works work source) (Read (fd_of source) most) r world) (sym heard.1) now)
  where
    heard : (bytes : Bytes) × (reply ≡ Bytes' bytes) × Takes most (left_at (fd_of source) world) bytes
    heard = heard_read source call reply world most is ready may

    bytes : Bytes
    bytes = heard.0

    before : Bytes
    before = left_at (fd_of source) world

    left : Bytes
    left = drop (length bytes) before

    step : Step
    step = work_step work (name_of source) (Bytes' bytes)

    so : LeavesSo work step before left
    so = leaves bytes heard.2

    after : World
    after = after_read (fd_of source) (yields bytes) world

    next : takes (turn_by step (filter_of work) source).next after ≤ step_takes step left + later_takes (filter_of work) source world.files
    next =
        subst (λ (F : FileMap). takes (turn_by step (filter_of work) source).next after ≤ step_takes step left + later_takes (filter_of work) source F) (read_files (fd_of source) bytes world)
        (subst (λ (l : Bytes). takes (turn_by step (filter_of work) source).next after ≤ step_takes step l + later_takes (filter_of work) source after.files) (read_left source world bytes ready)
        (step_next (filter_of work) step source after (goes_of (filter_of work) step so.0)))

    waits_then : StepWaits step
    waits_then = subst (λ (r : Reply). StepWaits (work_step work (name_of source) r)) heard.1 (step_waits work source call reply world waits ready may)

    whole : length before ≡ length bytes + length left
    whole = ap length (left_over most before bytes heard.2) ∙ length-append bytes left

    now : Less (works work source) (Read (fd_of source) most) (Bytes' bytes) world
    now = omega (arith, next, takes_rest step left, step_few step left waits_then, whole, ap length so.1)

-- after a write, and after a call that is refused

work_goes : (work : Work) (source : Source) (step : Step) (world : World) → IsOf (filter_of work) step → step_takes step (left_at (fd_of source) world) ≤ work_takes work (left_at (fd_of source) world) →
    takes (turn_by step (filter_of work) source).next world ≤ takes (works work source) world
work_goes work source step world is few = omega (arith, step_next (filter_of work) step source world is, few)

head_goes : (lines wanted : ℕ) (left : Bytes) → step_takes (head_goes_on lines wanted) left ≤ work_takes (head_writes lines wanted) left
head_goes lines zero left = omega arith
head_goes lines (suc wanted) left = omega arith

buffer_goes : (pattern rest left : Bytes) → length rest ≤ 1023 → step_takes (grep_goes_on pattern rest) left ≤ work_takes (grep_writes pattern rest) left
buffer_goes pattern rest left few =
    let kept = buffer_kept pattern [] left rest few in
    omega (arith, takes_rest (grep_goes_on pattern rest) left, ap length kept.rest)

buffer_of : (pattern rest left : Bytes) → length rest ≤ 1023 → IsOf (searching pattern) (grep_goes_on pattern rest)
buffer_of pattern rest left few = goes_of (searching pattern) (grep_goes_on pattern rest) (buffer_kept pattern [] left rest few).on

work_wrote : (work : Work) (source : Source) (call : Call) (reply : Reply) (world : World) → IsWrite 1 call → May call reply world →
    takes (turn_by (work_step work (name_of source) Done) (filter_of work) source).next world ≤ takes (works work source) world →
    Less (works work source) call reply world
work_wrote work source call reply world (bytes, is) may few =
    let done : reply ≡ Done = subst (λ (c : Call). May c reply world) is may in
    subst (λ (c : Call). Less (works work source) c reply world) (sym is)
    (subst (λ (r : Reply). Less (works work source) (Write 1 bytes) r world) (sym done) (omega (arith, few)))

pub work_less : (work : Work) (source : Source) (call : Call) (reply : Reply) (world : World) → WorkWaits work (fd_of source) call → IsOpen source world → May call reply world → Less (works work source) call reply world
work_less cat_reads source call reply world waits ready may =
    work_read cat_reads source call reply world 512 waits waits ready may
    (λ bytes is. let k = cat_kept (name_of source) 512 (left_at (fd_of source) world) bytes is in (k.on, k.rest))
work_less cat_writes source call reply world waits ready may =
    work_wrote cat_writes source call reply world waits may (work_goes cat_writes source (reads 512 cat_reads) world refl (omega arith))
work_less (head_reads lines wanted) source call reply world waits ready may =
    work_read (head_reads lines wanted) source call reply world 1 waits waits.1 ready may
    (λ bytes is. let k = head_kept lines wanted (name_of source) (left_at (fd_of source) world) bytes waits.0 is in (k.on, k.rest))
work_less (head_writes lines wanted) source call reply world waits ready may =
    let left = left_at (fd_of source) world in
    let step = head_goes_on lines wanted in
    work_wrote (head_writes lines wanted) source call reply world waits may
    (work_goes (head_writes lines wanted) source step world (goes_of (heading lines) step (head_begins lines wanted [] left).on) (head_goes lines wanted left))
work_less (wc_reads lines words count inside) source call reply world waits ready may =
    work_read (wc_reads lines words count inside) source call reply world 512 waits waits.3 ready may
    (λ bytes is.
    let k = wc_kept lines words count inside (name_of source) 512 (left_at (fd_of source) world) bytes waits.0 waits.1 waits.2 (short_name source world ready) is in
    (k.on, k.rest))
work_less wc_writes source call reply world waits ready may =
    work_wrote wc_writes source call reply world waits may (work_goes wc_writes source finishes world tt (omega arith))
work_less (grep_reads pattern kept) source call reply world waits ready may =
    work_read (grep_reads pattern kept) source call reply world (1023 - length kept) waits waits.2 ready may
    (λ bytes is. let k = grep_kept pattern kept (name_of source) (left_at (fd_of source) world) bytes waits.0 waits.1 is in (k.on, k.rest))
work_less (grep_writes pattern rest) source call reply world waits ready may =
    let left = left_at (fd_of source) world in
    work_wrote (grep_writes pattern rest) source call reply world waits.1 may
    (work_goes (grep_writes pattern rest) source (grep_goes_on pattern rest) world (buffer_of pattern rest left waits.0) (buffer_goes pattern rest left waits.0))

pub work_refused : (work : Work) (source : Source) (call : Call) (world : World) → WorkWaits work (fd_of source) call → takes (turn (works work source) Refused).next world ≤ takes (works work source) world
work_refused cat_reads source call world waits = omega arith
work_refused cat_writes source call world waits = omega arith
work_refused (head_reads lines wanted) source call world waits = omega arith
work_refused (head_writes lines wanted) source call world waits = omega arith
work_refused (wc_reads lines words count inside) source call world waits = omega arith
work_refused wc_writes source call world waits = work_goes wc_writes source finishes world tt (omega arith)
work_refused (grep_reads pattern kept) source call world waits = work_goes (grep_reads pattern kept) source finishes world tt (omega arith)
work_refused (grep_writes pattern rest) source call world waits =
    let left = left_at (fd_of source) world in
    work_goes (grep_writes pattern rest) source (grep_goes_on pattern rest) world (buffer_of pattern rest left waits.0) (buffer_goes pattern rest left waits.0)
