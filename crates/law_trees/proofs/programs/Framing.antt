-- What a program that runs alone still does depends on no other files than those that it may open or holds open, and changes
-- only those that it writes.
use Rattle.std.proofs.Common.{◌≡◌, ◌∙◌, ℕ, zero, suc, Bool, true, false, List, [], ◌∷◌, ◌++◌, take, drop, Option, Some, None, refl, sym, ap}
use Rattle.std.specs.Prelude.{◌||◌, if◌then◌else◌}
use Rattle.std.specs.Str.{bytes_eq}
use Rattle.std.specs.Option.{is_some}
use Rattle.std.proofs.lemmas.Slice.Eq.{bytes_eq-Decides}
use Rattle.std.proofs.lemmas.Bool.{or_left, or_right}
use Rattle.mem_files.specs.Name.{Name, Bytes, is_openable}
use Rattle.mem_files.specs.Files.{FileMap, with_file, bytes_of}
use Rattle.prog_parts.specs.declared.program.Program.{Program}
use Rattle.prog_parts.specs.declared.program.Program.TheVariants.{Cat, Echo, Grep, Head, Tee as Tee', Wc}
use Rattle.prog_parts.specs.Head.{head_files, has_wrong_option, first_lines, after_lines, line_count}
use Rattle.prog_parts.specs.NameSets.{Names, among}
use Rattle.user_calls.specs.declared.calls.Call.{Call}
use Rattle.meaning_model.specs.Value.{fixed, nothing}
use Rattle.meaning_model.specs.Inputs.{of_found, of_files, filter_value}
use Rattle.prog_parts.specs.Grep.{grep_out, grep_left}
use Rattle.prog_parts.specs.Wc.{wc_line}
use Rattle.meaning_model.specs.Tee.{filled, are_openable}
use Rattle.meaning_model.specs.Programs.{program_value}
use Rattle.user_progs.specs.State.{Source, standard, file, Work, Tee, tee_opens, tee_reads, tee_writes, tee_gives, State, begins, echo_word, echo_space, opens, works, closes, tees, told, ended}
use Rattle.user_progs.specs.Turn.{filter_of}
use Rattle.tree_model.specs.Alone.{OwnFile, World, is_to_read, held, left_of_file, left_at}
use Rattle.tree_model.specs.Given.{place_in, written_from, given, given_block, left_open}
use Rattle.tree_model.specs.Still.{of_input, work_out, work_still, tee_still, still}
use Rattle.tree_model.specs.Waits.{BeginsShort, Waits}
use Rattle.tree_model.specs.Frame.{is_held, is_given, depends_on, may_change, only_changed}
use Rattle.meaning_model.proofs.Bools.{not_left, not_right}

abbrev Agree : Names → FileMap → FileMap → Type 0
Agree names F G = (name : Name) → names name ≡ true → F name ≡ G name

pub itself : (name : Name) → bytes_eq name name ≡ true
itself name = (bytes_eq-Decides name name).1 refl

of_files_same : (write : Name → Bytes → Bytes) (names : List Name) (F G : FileMap) → Agree (among names) F G → of_files write names F ≡ of_files write names G
of_files_same write [] F G agree = refl
of_files_same write (name ∷ names) F G agree =
    let here : F name ≡ G name = agree name (or_left (bytes_eq name name) (among names name) (itself name)) in
    let later = of_files_same write names F G (λ n e. agree n (or_right (bytes_eq n name) (among names n) e)) in
    λ i. of_found (if is_openable name then here i else None) (write name) (later i)

filter_same : (write : Name → Bytes → Bytes) (left : Bytes → Bytes) (names : List Name) (input : Bytes) (F G : FileMap) → Agree (among names) F G →
    filter_value write left names input G ≡ record (filter_value write left names input F) { files = G }
filter_same write left [] input F G agree = refl
filter_same write left (name ∷ names) input F G agree = ap (λ (o : Bytes). fixed o input G) (sym (of_files_same write (name ∷ names) F G agree))

-- the names of a program that reads
reads_alone : (a b c : Bool) → a ≡ true → ((a || b) || c) ≡ true
reads_alone a b c e = or_left (a || b) c (or_left a b e)

head_same : (arguments : List Bytes) (input : Bytes) (F G : FileMap) → Agree (among (head_files arguments)) F G →
    program_value (Some Head) arguments input G ≡ record (program_value (Some Head) arguments input F) { files = G }
head_same arguments input F G agree = go (has_wrong_option arguments)
  where
    go : (wrong : Bool) →
        (if wrong then nothing input G else filter_value (λ name. first_lines (line_count arguments)) (after_lines (line_count arguments)) (head_files arguments) input G)
        ≡ record (if wrong then nothing input F else filter_value (λ name. first_lines (line_count arguments)) (after_lines (line_count arguments)) (head_files arguments) input F) { files = G }
    go true = refl
    go false = filter_same (λ name. first_lines (line_count arguments)) (after_lines (line_count arguments)) (head_files arguments) input F G agree

-- what changes only these files, each by what it holds, changes them alike among other files
only_where : (N : Names) (change : FileMap → FileMap) (F G : FileMap) → ((name : Name) → F name ≡ G name → change F name ≡ change G name) → ((name : Name) → N name ≡ false → change G name ≡ G name) →
    Agree N F G → change G ≡ only_changed N (change F) G
only_where N change F G same other agree = λ i name. go name (N name) refl i
  where
    go : (name : Name) (is : Bool) → N name ≡ is → change G name ≡ (if is then change F name else G name)
    go name true e = sym (same name (agree name e))
    go name false e = other name e

filled_same : (names : List Name) (bytes : Bytes) (F G : FileMap) (name : Name) → F name ≡ G name → filled names bytes F name ≡ filled names bytes G name
filled_same [] bytes F G name e = e
filled_same (first ∷ names) bytes F G name e = go (is_openable first) (filled_same names bytes (with_file F first bytes) (with_file G first bytes) name (λ i. if bytes_eq name first then Some bytes else e i))
  where
    go : (can : Bool) → filled names bytes (with_file F first bytes) name ≡ filled names bytes (with_file G first bytes) name →
        (if can then filled names bytes (with_file F first bytes) else F) name ≡ (if can then filled names bytes (with_file G first bytes) else G) name
    go true ih = ih
    go false ih = e

filled_other : (names : List Name) (bytes : Bytes) (F : FileMap) (name : Name) → among names name ≡ false → filled names bytes F name ≡ F name
filled_other [] bytes F name none = refl
filled_other (first ∷ names) bytes F name none =
    go (is_openable first)
    (filled_other names bytes (with_file F first bytes) name (not_right (bytes_eq name first) (among names name) none)
    ∙ ap (λ (t : Bool). if t then Some bytes else F name) (not_left (bytes_eq name first) (among names name) none))
  where
    go : (can : Bool) → filled names bytes (with_file F first bytes) name ≡ F name → (if can then filled names bytes (with_file F first bytes) else F) name ≡ F name
    go true ih = ih
    go false ih = refl

written_other : (found : Option ℕ) (bytes : Bytes) (before other : Option Bytes) → is_some found ≡ false → written_from found bytes before other ≡ other
written_other None bytes before other none = refl
written_other (Some place) bytes before other none = cc

-- tee, whose files at these descriptors are open and which still opens these names
open_same : (fds : List ℕ) (names : List Name) (world : World) (G : FileMap) → Agree (λ name. among names name || is_given fds world.own name) world.files G →
    left_open fds names (record world { files = G }) ≡ record (left_open fds names world) { files = only_changed (λ name. among names name || is_given fds world.own name) (left_open fds names world).files G }
open_same fds names world G agree = go (are_openable names)
  where
    changed : (bytes : Bytes) → filled names bytes (given fds world.own bytes G) ≡ only_changed (λ name. among names name || is_given fds world.own name) (filled names bytes (given fds world.own bytes world.files)) G
    changed bytes =
        only_where (λ name. among names name || is_given fds world.own name) (λ F. filled names bytes (given fds world.own bytes F)) world.files G
        (λ name e. filled_same names bytes (given fds world.own bytes world.files) (given fds world.own bytes G) name (λ i. written_from (place_in fds world.own name) bytes (e i) (e i)))
        (λ name none. filled_other names bytes (given fds world.own bytes G) name (not_left (among names name) _ none) ∙ written_other (place_in fds world.own name) bytes (G name) (G name) (not_right (among names name) _ none))
        agree

    go : (all : Bool) →
        (if all then fixed world.input [] (filled names world.input (given fds world.own (if all then world.input else []) G)) else fixed [] world.input (filled names [] (given fds world.own (if all then world.input else []) G)))
        ≡ record (if all then fixed world.input [] (filled names world.input (given fds world.own (if all then world.input else []) world.files)) else fixed [] world.input (filled names [] (given fds world.own (if all then world.input else []) world.files))) { files = only_changed (λ name. among names name || is_given fds world.own name) (if all then fixed world.input [] (filled names world.input (given fds world.own (if all then world.input else []) world.files)) else fixed [] world.input (filled names [] (given fds world.own (if all then world.input else []) world.files))).files G }
    go true = ap (λ (H : FileMap). fixed world.input [] H) (changed world.input)
    go false = ap (λ (H : FileMap). fixed [] world.input H) (changed [])

tee_same : (tee : Tee) (world : World) (G : FileMap) → Agree (depends_on (tees tee) world) world.files G →
    tee_still tee (record world { files = G }) ≡ record (tee_still tee world) { files = only_changed (may_change (tees tee) world) (tee_still tee world).files G }
tee_same (tee_opens fds name later) world G agree = open_same fds (name ∷ later) world G agree
tee_same (tee_reads fds) world G agree = open_same fds [] world G agree
tee_same (tee_writes fds bytes) world G agree =
    ap (λ (H : FileMap). fixed world.input [] H)
    (only_where (is_given fds world.own) (given fds world.own (bytes ++ world.input)) world.files G
    (λ name e i. written_from (place_in fds world.own name) (bytes ++ world.input) (e i) (e i))
    (λ name none. written_other (place_in fds world.own name) (bytes ++ world.input) (G name) (G name) none)
    agree)
tee_same (tee_gives fds at bytes) world G agree =
    let waiting = drop at fds in
    let done = take at fds in
    let later = world.input in
    ap (λ (H : FileMap). fixed world.input [] H)
    (only_where (λ name. is_given (drop at fds) world.own name || is_given (take at fds) world.own name) (given_block (drop at fds) (take at fds) world.own bytes world.input) world.files G
    (λ name e i. written_from (place_in waiting world.own name) (bytes ++ later) (e i) (written_from (place_in done world.own name) later (e i) (e i)))
    (λ name none. written_other (place_in waiting world.own name) (bytes ++ later) (G name) _ (not_left (is_given waiting world.own name) _ none)
    ∙ written_other (place_in done world.own name) later (G name) (G name) (not_right (is_given waiting world.own name) _ none))
    agree)

begins_same : (program : Program) (arguments : List Bytes) (world : World) (G : FileMap) → BeginsShort program arguments → Agree (depends_on (begins program arguments) world) world.files G →
    program_value (Some program) arguments world.input G
    ≡ record (program_value (Some program) arguments world.input world.files) { files = only_changed (may_change (begins program arguments) world) (program_value (Some program) arguments world.input world.files).files G }
begins_same Cat arguments world G short agree = filter_same (λ name bytes. bytes) (λ bytes. []) arguments world.input world.files G (λ n e. agree n (reads_alone _ _ _ e))
begins_same Echo arguments world G short agree = refl
begins_same Grep [] world G short agree = refl
begins_same Grep (pattern ∷ names) world G short agree = filter_same (λ name. grep_out pattern) grep_left names world.input world.files G (λ n e. agree n (reads_alone _ _ _ e))
begins_same Head arguments world G short agree = head_same arguments world.input world.files G (λ n e. agree n (reads_alone _ _ _ e))
begins_same Tee' arguments world G short agree = open_same [] arguments world G agree
begins_same Wc arguments world G short agree = filter_same wc_line (λ bytes. []) arguments world.input world.files G (λ n e. agree n (reads_alone _ _ _ e))

held_same : (o : Option OwnFile) (F G : FileMap) → Agree (is_held o) F G → bytes_of (left_of_file o F) ≡ bytes_of (left_of_file o G)
held_same None F G agree = refl
held_same (Some own) F G agree = ap (λ (b : Option Bytes). bytes_of (if is_to_read own.mode then Some (drop own.at (bytes_of b)) else None)) (agree own.name (itself own.name))

left_same : (fd : ℕ) (world : World) (G : FileMap) → Agree (is_held (held world.own fd)) world.files G → left_at fd world ≡ left_at fd (record world { files = G })
left_same zero world G agree = refl
left_same (suc fd) world G agree = held_same (held world.own (suc fd)) world.files G agree

work_same : (work : Work) (source : Source) (world : World) (G : FileMap) → Agree (depends_on (works work source) world) world.files G →
    work_still work source (record world { files = G }) ≡ record (work_still work source world) { files = G }
work_same work standard world G agree = refl
work_same work (file fd name later) world G agree =
    let here = left_same fd world G (λ n e. agree n (or_right (among later n) _ e)) in
    let after = of_files_same (of_input (filter_of work)) later world.files G (λ n e. agree n (or_left (among later n) _ e)) in
    sym (λ i. fixed (work_out work name (here i) ++ after i) world.input G)

pub frame : (state : State) (call : Call) (world : World) (G : FileMap) → Waits state call world → Agree (depends_on state world) world.files G →
    still state (record world { files = G }) ≡ record (still state world) { files = only_changed (may_change state world) (still state world).files G }
frame (begins program arguments) call world G waits agree = begins_same program arguments world G waits.1 agree
frame (echo_word later) call world G waits agree = refl
frame (echo_space later) call world G waits agree = refl
frame (opens filter name later) call world G waits agree =
    ap (λ (o : Bytes). fixed o world.input G) (sym (of_files_same (of_input filter) (name ∷ later) world.files G (λ n e. agree n (or_left _ false e))))
frame (works work source) call world G waits agree = work_same work source world G agree
frame (closes filter later) call world G waits agree =
    ap (λ (o : Bytes). fixed o world.input G) (sym (of_files_same (of_input filter) later world.files G (λ n e. agree n (or_left _ false e))))
frame (tees tee) call world G waits agree = tee_same tee world G agree
frame told call world G waits agree = refl
frame ended call world G waits agree = refl
