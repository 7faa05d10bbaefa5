-- Each call of a process of the tree finds as many free descriptors as it wants, where the bound on descriptors is within 16.
use Rattle.std.proofs.Common.{◌≡◌, ◌⊎◌, inl, inr, ℕ, zero, suc, ◌+◌, ◌<◌, ◌≤◌, ◌==◌, Bool, true, false, List, [], ◌∷◌, Option, Some, None, length, drop, refl, sym, ap, ◌∙◌, subst, arith}
use Rattle.std.proofs.lemmas.List.Sums.{sum_by-cons}
use Rattle.std.specs.Prelude.{max, cond, if◌then◌else◌}
use Rattle.std.proofs.Math.Nat.{le-max_left, le-max_right, max-le}
use Rattle.std.proofs.lemmas.Bool.{eqb-true}
use Rattle.sh_tree.specs.declared.tree.Mode.{Mode}
use Rattle.sh_tree.specs.declared.tree.Mode.TheVariants.{Input, Fresh, Over}
use Rattle.sh_tree.specs.Tree.{Tree, exec, redir, pipe, list, back}
use Rattle.mem_files.specs.Name.{Name, Bytes}
use Rattle.prog_parts.specs.declared.program.Program.{Program}
use Rattle.script_load.specs.declared.profile.Profile.{Profile}
use Rattle.script_load.specs.Line.{ScriptLine, command, bad, cd}
use Rattle.meaning_model.specs.Meaning.{script_tree}
use Rattle.user_calls.specs.declared.calls.Call.{Call}
use Rattle.user_calls.specs.declared.calls.Call.TheVariants.{Fork, Exec, Exit, Wait, MakePipe, Read, Write, OpenFile, Close, Dup}
use Rattle.user_progs.specs.State.{State}
use Rattle.user_progs.specs.View.{first_state}
use Rattle.tree_model.specs.Alone.{OwnFile}
use Rattle.tree_model.specs.Tame.{IsTame}
use Rattle.fd_table.specs.Entries.{is_free, free_count}
use Rattle.sh_machine.specs.Turn.{runs, execs_found, takes_first}
use Rattle.tree_model.specs.Residual.{Running}
use Rattle.tree_model.specs.Begin.{begun_words}
use Rattle.process_model.specs.Seen.{Entry, reader, writer, file, Fds, fd_at, Seen, free, zombie, live, View}
use Rattle.process_model.specs.Own.{Owned, own_files, own_fds, owned_at, OwnFds, program_act}
use Rattle.process_model.specs.Phases.{Stage, closes_read, closes_write, waits_two, waits_one, leaves_pipe, Step, closes_old, dups_kept, drops_read, drops_write, has_forked, on_left, on_right, opens, does, plain_fds, has_open}
use Rattle.process_model.specs.Shape.{Node, reaped, gone, starts, works, tells, leaves, reads_lines, in_line, in_list, pipe_made, pipe_half, pipe_both, left_child, right_child, opening, under_input, under_output, Has, same, occurs, stands_for}
use Rattle.process_model.proofs.Counts.{same_self, same_yes, none_or_some}
use Rattle.room_model.specs.Descriptors.{most_descriptors}
use Rattle.law_runs.proofs.room.Counting.{total, total_sum, total_none, total_some, met_once}
use Rattle.law_runs.proofs.room.Measure.{Measure, of_begun, IsMeasure, left}
use Rattle.law_runs.proofs.room.Marks.{descriptors_wanted}
use Rattle.law_runs.proofs.room.FilesHeld.{more_files, files_held, replied_few, resumed_few, held_of, begun_few}

-- ---- the bound

abbrev pub opened : Measure
opened = record {
  ended = 3;
  of_run = λ run. 3 + files_held run;
  of_tree = most_descriptors;
  under = λ a. a;
  sides = λ a b. max 5 (max a b);
  after = λ a b. max a b;
}

three : (tree : Tree) → 3 ≤ most_descriptors tree
three (exec words) = omega arith
three (redir mode name body) = three body
three (pipe l r) = omega (arith, le-max_left 5 (max (most_descriptors l) (most_descriptors r)))
three (list l r) = omega (arith, three l, le-max_left (most_descriptors l) (most_descriptors r))
three (back body) = three body

begun_opened : (o : Option Running) → of_begun opened o ≡ 3 + held_of o
begun_opened None = refl
begun_opened (Some run) = refl

left_all : (a b : ℕ) → a ≤ max 5 (max a b)
left_all a b = omega (arith, le-max_left a b, le-max_right 5 (max a b))

right_all : (a b : ℕ) → b ≤ max 5 (max a b)
right_all a b = omega (arith, le-max_right a b, le-max_right 5 (max a b))

sides_more : (a b c d : ℕ) → a ≤ b → c ≤ d → max 5 (max a c) ≤ max 5 (max b d)
sides_more a b c d few less =
    max-le (le-max_left 5 (max b d)) (max-le (omega (arith, few, left_all b d)) (omega (arith, less, right_all b d)))

after_more : (a b c : ℕ) → a ≤ b → max a c ≤ max b c
after_more a b c few = max-le (omega (arith, le-max_left b c, few)) (le-max_right b c)

pub is_measure : IsMeasure opened
is_measure = record {
  small = three;
  begun = λ words. omega (arith, begun_opened (begun_words words), begun_few words);
  redir = λ mode name body. omega arith;
  pipe = λ l r. omega arith;
  list = λ l r. omega arith;
  under_more = λ a b few. few;
  under_all = λ a. omega arith;
  sides_more = sides_more;
  sides_ended = left_all 3 3;
  after_more = after_more;
  after_ended = λ a. le-max_right 3 a;
  exits = λ run. omega arith;
  resumes = λ run reply passed. omega (arith, resumed_few run reply passed);
  replies = λ run F. omega (arith, replied_few run F);
  puts = λ run n. omega arith;
}

abbrev pub bound : Node → ℕ
bound t = left opened (stands_for t)

-- ---- a program's

-- how often a descriptor is one of these files'
abbrev held_at : ℕ → List Owned → ℕ
held_at fd [] = 0
held_at fd (o ∷ later) = same fd o.own.fd + held_at fd later

held_all : (owns : List Owned) (a n : ℕ) → total (λ fd. held_at fd owns) a n ≤ length owns
held_all [] a n = omega (arith, total_none a n)
held_all (o ∷ later) a n = omega (arith, met_once o.own.fd a n, held_all later a n, total_sum (λ fd. same fd o.own.fd) (λ fd. held_at fd later) a n)

is_held : (owns : List Owned) (fd : ℕ) (e : Entry) → owned_at owns fd ≡ Some e → 1 ≤ held_at fd owns
is_held [] fd e is = absurd (let z : ⊥ = cc in z)
is_held (o ∷ later) fd e is = by (o.own.fd == fd) refl is (is_held later fd e)
  where
    by : (b : Bool) → (o.own.fd == fd) ≡ b → (if b then Some (file o.entry) else owned_at later fd) ≡ Some e → (owned_at later fd ≡ Some e → 1 ≤ held_at fd later) → 1 ≤ held_at fd (o ∷ later)
    by true here it rest = omega (arith, ap (λ n. same n o.own.fd) (eqb-true o.own.fd fd here), same_self o.own.fd)
    by false other it rest = omega (arith, rest it)

own_length : (owns : List Owned) → length (own_files owns) ≡ length owns
own_length [] = refl
own_length (o ∷ later) = omega (arith, own_length later)

free_there : (d : Fds) → free_count (None ∷ d) ≡ 1 + free_count d
free_there d = sum_by-cons (λ (y : Option Entry). cond {A = ℕ} (is_free y) 1 0) None d

free_later : (e : Entry) (d : Fds) → free_count (Some e ∷ d) ≡ free_count d
free_later e d = omega (arith, sum_by-cons (λ (y : Option Entry). cond {A = ℕ} (is_free y) 1 0) (Some e) d)

-- where no place is free, each holds something
filled : (d : Fds) → free_count d ≡ 0 → (fd : ℕ) → fd < length d → (e : Entry) × (fd_at d fd ≡ Some e)
filled [] none fd few = absurd (omega (arith, few))
filled (None ∷ d) none fd few = absurd (omega (arith, none, free_there d))
filled (Some e ∷ d) none zero few = (e, refl)
filled (Some e ∷ d) none (suc fd) few = filled d (omega (arith, none, free_later e d)) fd (omega (arith, few))

-- a program with fewer than 13 files of its own has a place for one more
one_free : (a b : Entry) (owns : List Owned) (d : Fds) → OwnFds a b owns d → length d ≡ 16 → length owns < 13 → 1 ≤ free_count d
one_free a b owns d own long few = by (free_count d) refl
  where
    by : (n : ℕ) → free_count d ≡ n → 1 ≤ n
    by (suc n) is = omega arith
    by zero is =
        absurd (
        let each : (fd : ℕ) → 3 ≤ fd → fd < 3 + 13 → 1 ≤ held_at fd owns =
        (λ fd low high. let at = filled d is fd (omega (arith, high, long)) in is_held owns fd at.0 (sym (own.above fd (omega (arith, low))) ∙ at.1)) in
        omega (arith, few, total_some (λ fd. held_at fd owns) 3 13 each, held_all owns 3 13)
        )

-- ---- of the tree

-- a slot's process finds as many free descriptors as its call wants
abbrev pub FindsRoom : Seen → Type 0
FindsRoom free = Unit {0}
FindsRoom (zombie q) = Unit {0}
FindsRoom (live q act put d) = descriptors_wanted act.call ≤ free_count d

-- and has 16 descriptors
abbrev pub HasPlaces : Seen → Type 0
HasPlaces free = Unit {0}
HasPlaces (zombie q) = Unit {0}
HasPlaces (live q act put d) = length d ≡ 16

found_none : (o : Option State) (name : Bytes) → descriptors_wanted (execs_found o name).call ≡ 0
found_none None name = refl
found_none (Some state) name = refl

first_room : (a b : Entry) (tree : Tree) → descriptors_wanted (runs tree).call ≤ free_count (plain_fds a b)
first_room a b (exec []) = omega arith
first_room a b (exec (name ∷ arguments)) = omega (arith, found_none (first_state (name ∷ arguments)) name)
first_room a b (redir mode name body) = omega arith
first_room a b (pipe l r) = let free : free_count (plain_fds a b) ≡ 13 = refl in omega (arith, free)
first_room a b (list l r) = omega arith
first_room a b (back body) = omega arith

lines_none : (lines : List ScriptLine) → descriptors_wanted (takes_first lines).call ≡ 0
lines_none [] = refl
lines_none (command tree ∷ later) = refl
lines_none (bad fault text ∷ later) = refl
lines_none (cd text ∷ later) = refl

stage_none : (profile : Profile) (stage : Stage) (i : ℕ) → descriptors_wanted (does profile (has_forked stage i)).call ≡ 0
stage_none profile closes_read i = refl
stage_none profile closes_write i = refl
stage_none profile waits_two i = refl
stage_none profile waits_one i = refl
stage_none profile leaves_pipe i = refl

left_room : (profile : Profile) (step : Step) (tree : Tree) (a b old : Entry) → descriptors_wanted (does profile (on_left step tree)).call ≤ free_count (has_open (on_left step tree) a b old)
left_room profile closes_old tree a b old = omega arith
left_room profile dups_kept tree a b old = let room : free_count (has_open (on_left dups_kept tree) a b old) ≡ 12 = refl in omega (arith, room)
left_room profile drops_read tree a b old = omega arith
left_room profile drops_write tree a b old = omega arith

right_room : (profile : Profile) (step : Step) (tree : Tree) (a b old : Entry) → descriptors_wanted (does profile (on_right step tree)).call ≤ free_count (has_open (on_right step tree) a b old)
right_room profile closes_old tree a b old = omega arith
right_room profile dups_kept tree a b old = let room : free_count (has_open (on_right dups_kept tree) a b old) ≡ 12 = refl in omega (arith, room)
right_room profile drops_read tree a b old = omega arith
right_room profile drops_write tree a b old = omega arith

opening_room : (mode : Mode) (name : Name) (body : Tree) (a b old : Entry) → 1 ≤ free_count (has_open (opens mode name body) a b old)
opening_room Input name body a b old = let room : free_count (has_open (opens Input name body) a b old) ≡ 14 = refl in omega (arith, room)
opening_room Fresh name body a b old = let room : free_count (has_open (opens Fresh name body) a b old) ≡ 14 = refl in omega (arith, room)
opening_room Over name body a b old = let room : free_count (has_open (opens Over name body) a b old) ≡ 14 = refl in omega (arith, room)

-- a program opens its files one by one
program_wants : (which : Program) (arguments : List Bytes) (fds : List ℕ) (call : Call) (state : State) → IsTame which arguments fds call → (descriptors_wanted call ≡ 0) ⊎ ((descriptors_wanted call ≡ 1) × (1 ≤ more_files call state))
program_wants which arguments fds Fork state tame = inl refl
program_wants which arguments fds (Exec found) state tame = inl refl
program_wants which arguments fds Exit state tame = inl refl
program_wants which arguments fds Wait state tame = inl refl
program_wants which arguments fds MakePipe state tame = absurd tame
program_wants which arguments fds (Read fd most) state tame = inl refl
program_wants which arguments fds (Write fd bytes) state tame = inl refl
program_wants which arguments fds (OpenFile name mode) state tame = inr (refl, omega arith)
program_wants which arguments fds (Close fd) state tame = inl refl
program_wants which arguments fds (Dup fd) state tame = absurd tame

program_room : (a b : Entry) (owns : List Owned) (d : Fds) (run : Running) → run.own ≡ own_files owns → OwnFds a b owns d → length d ≡ 16 → 3 + files_held run ≤ 16
    → (descriptors_wanted run.turn.call ≡ 0) ⊎ ((descriptors_wanted run.turn.call ≡ 1) × (1 ≤ more_files run.turn.call run.turn.next)) → descriptors_wanted run.turn.call ≤ free_count d
program_room a b owns d run is own long fits (inl none) = omega (arith, none)
program_room a b owns d run is own long fits (inr one) = omega (arith, one.0, one_free a b owns d own long (omega (arith, fits, one.1, own_length owns, ap (length {A = OwnFile}) is)))

module _ (profile : Profile) (V : View) (p : ℕ) (long : HasPlaces (V.slots p)) where
  -- the process r, which is in this phase
  at_here : (r : ℕ) (s : Seen) → V.slots r ≡ s → 1 ≤ same p r → (HasPlaces s → FindsRoom s) → FindsRoom (V.slots p)
  at_here r s is some room =
      let here : V.slots p ≡ s = ap V.slots (same_yes p r some) ∙ is in
      subst FindsRoom (sym here) (room (subst HasPlaces here long))

  -- it, or a process inside what runs under it
  here_or : (r n : ℕ) (s : Seen) → V.slots r ≡ s → FindsRoom s → 1 ≤ same p r + n → (1 ≤ n → FindsRoom (V.slots p)) → FindsRoom (V.slots p)
  here_or r n s is room some rest = elim (none_or_some (same p r)) [ inl none ↦ rest (omega (arith, none, some)) | inr one ↦ at_here r s is one (λ h. room) ]

  pub finds_room : (a b old : Entry) (parent : ℕ) (t : Node) → Has profile V a b old parent t → 1 ≤ occurs p t → bound t ≤ 16 → FindsRoom (V.slots p)
  finds_room a b old parent reaped h some fits = absurd (omega (arith, some))
  finds_room a b old parent (gone r) h some fits = at_here r _ h some (λ l. tt)
  finds_room a b old parent (starts r tree) h some fits = at_here r _ h some (λ l. first_room a b tree)
  finds_room a b old parent (works r turn put owns) h some fits =
      at_here r (live parent (program_act turn) put h.fds) h.slot some
      (λ l. program_room a b owns h.fds (record { turn = turn; own = own_files owns; put = put }) refl h.opened l fits (program_wants h.tame.which h.tame.arguments (own_fds owns) turn.call turn.next (h.tame.calls [])))
  finds_room a b old parent (tells r message) h some fits = at_here r _ h.1 some (λ l. omega arith)
  finds_room a b old parent (leaves r) h some fits = at_here r _ h.1 some (λ l. omega arith)
  finds_room a b old parent (reads_lines r lines) h some fits = at_here r _ h some (λ l. omega (arith, lines_none lines))
  finds_room a b old parent (in_line r x lines) h some fits =
      here_or r (occurs p x) _ h.0 (omega arith) some
      (λ one. finds_room a b old r x h.2 one (omega (arith, fits, le-max_left (bound x) (most_descriptors (script_tree (drop 1 lines))))))
  finds_room a b old parent (in_list r x later) h some fits =
      here_or r (occurs p x) _ h.0 (omega arith) some (λ one. finds_room a b old r x h.2 one (omega (arith, fits, le-max_left (bound x) (most_descriptors later))))
  finds_room a b old parent (pipe_made r i l c) h some fits = at_here r _ h.0 some (λ l. omega arith)
  finds_room a b old parent (pipe_half r i lost x bytes c) h some fits =
      here_or r (occurs p x) _ h.0 (omega arith) some (λ one. finds_room a (writer i) b r x h.3 one (omega (arith, fits, left_all (bound x) (most_descriptors c))))
  finds_room a b old parent (pipe_both r i stage lost x bytes y) h some fits =
      here_or r (occurs p x + occurs p y) _ h.0 (omega (arith, stage_none profile stage i)) (omega (arith, some))
      (λ one. elim (none_or_some (occurs p x)) [
        | inl none ↦ finds_room (reader i) b a r y h.4 (omega (arith, one, none)) (omega (arith, fits, right_all (bound x) (bound y)))
        | inr left ↦ finds_room a (writer i) b r x h.3 left (omega (arith, fits, left_all (bound x) (bound y)))
      ])
  finds_room a b old parent (left_child r step tree) h some fits = at_here r _ h some (λ l. left_room profile step tree a b old)
  finds_room a b old parent (right_child r step tree) h some fits = at_here r _ h some (λ l. right_room profile step tree a b old)
  finds_room a b old parent (opening r mode name body) h some fits = at_here r _ h some (λ l. opening_room mode name body a b old)
  finds_room a b old parent (under_input e name at x) h some fits = finds_room (file e) b old parent x h.2 some fits
  finds_room a b old parent (under_output e mode name at x) h some fits = finds_room a (file e) old parent x h.2 some fits
