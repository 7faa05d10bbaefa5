-- The open-file entries that a tree of processes names: no more than its bound, and as many fewer as a call of one of them wants.
use Rattle.std.proofs.Common.{◌≡◌, inl, inr, ℕ, ◌+◌, ◌≤◌, List, [], ◌∷◌, ◌++◌, Option, Some, None, length, length-append, drop, refl, sym, ap, ◌∙◌, arith}
use Rattle.std.specs.Prelude.{max}
use Rattle.std.proofs.Math.Nat.{le-max_left, le-max_right, max-le}
use Rattle.sh_tree.specs.Tree.{Tree, exec, redir, pipe, list, back}
use Rattle.mem_files.specs.Name.{Bytes}
use Rattle.prog_parts.specs.declared.program.Program.{Program}
use Rattle.script_load.specs.declared.profile.Profile.{Profile}
use Rattle.script_load.specs.Line.{ScriptLine, command, bad, cd}
use Rattle.meaning_model.specs.Meaning.{script_tree}
use Rattle.user_calls.specs.declared.calls.Call.{Call}
use Rattle.user_calls.specs.declared.calls.Call.TheVariants.{Fork, Exec, Exit, Wait, MakePipe, Read, Write, OpenFile, Close, Dup}
use Rattle.user_progs.specs.State.{State}
use Rattle.user_progs.specs.Turn.{block}
use Rattle.user_progs.specs.View.{first_state}
use Rattle.tree_model.specs.Tame.{IsTame}
use Rattle.sh_machine.specs.Turn.{runs, execs_found, takes_first, call_mode}
use Rattle.tree_model.specs.Residual.{Running}
use Rattle.tree_model.specs.Begin.{begun_words}
use Rattle.process_model.specs.Seen.{Entry, reader, writer, file, View}
use Rattle.process_model.specs.Own.{Owned, own_files, own_fds}
use Rattle.process_model.specs.Phases.{Stage, closes_read, closes_write, waits_two, waits_one, leaves_pipe, Step, closes_old, dups_kept, drops_read, drops_write, has_forked, on_left, on_right, does}
use Rattle.process_model.specs.Shape.{Node, reaped, gone, starts, works, tells, leaves, reads_lines, in_line, in_list, pipe_made, pipe_half, pipe_both, left_child, right_child, opening, under_input, under_output, Has, same, occurs, stands_for}
use Rattle.process_model.proofs.Counts.{same_yes, none_or_some}
use Rattle.room_model.specs.Entries.{most_entries}
use Rattle.law_runs.proofs.room.Measure.{Measure, of_begun, IsMeasure, left}
use Rattle.law_runs.proofs.room.Marks.{entries_wanted}
use Rattle.law_runs.proofs.room.FilesHeld.{more_files, files_held, replied_few, resumed_few, held_of, begun_few}
use Rattle.law_runs.proofs.room.Processes.{call_in}

-- ---- the bound

abbrev pub entered : Measure
entered = record {
  ended = 0;
  of_run = files_held;
  of_tree = most_entries;
  under = λ a. 1 + a;
  sides = λ a b. 2 + a + b;
  after = λ a b. max a b;
}

begun_entered : (o : Option Running) → of_begun entered o ≡ held_of o
begun_entered None = refl
begun_entered (Some run) = refl

after_more : (a b c : ℕ) → a ≤ b → max a c ≤ max b c
after_more a b c few = max-le (omega (arith, le-max_left b c, few)) (le-max_right b c)

pub is_measure : IsMeasure entered
is_measure = record {
  small = λ tree. omega arith;
  begun = λ words. omega (arith, begun_entered (begun_words words), begun_few words);
  redir = λ mode name body. omega arith;
  pipe = λ l r. omega arith;
  list = λ l r. omega arith;
  under_more = λ a b few. omega (arith, few);
  under_all = λ a. omega arith;
  sides_more = λ a b c d few less. omega (arith, few, less);
  sides_ended = omega arith;
  after_more = after_more;
  after_ended = λ a. le-max_right 0 a;
  exits = λ run. omega arith;
  resumes = λ run reply passed. resumed_few run reply passed;
  replies = λ run F. replied_few run F;
  puts = λ run n. omega arith;
}

abbrev pub bound : Node → ℕ
bound t = left entered (stands_for t)

-- ---- the names of entries in a tree

abbrev pub owned_ends : List Owned → List Entry
owned_ends [] = []
owned_ends (o ∷ later) = file o.entry ∷ owned_ends later

abbrev pub ends : Node → List Entry
ends reaped = []
ends (gone p) = []
ends (starts p tree) = []
ends (works p turn put owns) = owned_ends owns
ends (tells p message) = []
ends (leaves p) = []
ends (reads_lines p lines) = []
ends (in_line p x lines) = ends x
ends (in_list p x later) = ends x
ends (pipe_made p i l r) = reader i ∷ writer i ∷ []
ends (pipe_half p i lost x bytes r) = reader i ∷ writer i ∷ ends x
ends (pipe_both p i stage lost x bytes y) = reader i ∷ writer i ∷ (ends x ++ ends y)
ends (left_child p step tree) = []
ends (right_child p step tree) = []
ends (opening p mode name body) = []
ends (under_input e name at x) = file e ∷ ends x
ends (under_output e mode name at x) = file e ∷ ends x

owned_length : (owns : List Owned) → length (owned_ends owns) ≡ length (own_files owns)
owned_length [] = refl
owned_length (o ∷ later) = omega (arith, owned_length later)

pub few : (t : Node) → length (ends t) ≤ bound t
few reaped = omega arith
few (gone p) = omega arith
few (starts p tree) = omega arith
few (works p turn put owns) = omega (arith, owned_length owns)
few (tells p message) = omega arith
few (leaves p) = omega arith
few (reads_lines p lines) = omega arith
few (in_line p x lines) = omega (arith, few x, le-max_left (bound x) (most_entries (script_tree (drop 1 lines))))
few (in_list p x later) = omega (arith, few x, le-max_left (bound x) (most_entries later))
few (pipe_made p i l r) = omega arith
few (pipe_half p i lost x bytes r) = omega (arith, few x)
few (pipe_both p i stage lost x bytes y) = omega (arith, few x, few y, length-append (ends x) (ends y))
few (left_child p step tree) = omega arith
few (right_child p step tree) = omega arith
few (opening p mode name body) = omega arith
few (under_input e name at x) = omega (arith, few x)
few (under_output e mode name at x) = omega (arith, few x)

-- ---- a call that wants some

found_none : (o : Option State) (name : Bytes) → entries_wanted (execs_found o name).call ≡ 0
found_none None name = refl
found_none (Some state) name = refl

first_wants : (tree : Tree) → entries_wanted (runs tree).call ≤ most_entries tree
first_wants (exec []) = omega arith
first_wants (exec (name ∷ arguments)) = omega (arith, found_none (first_state (name ∷ arguments)) name)
first_wants (redir mode name body) = omega arith
first_wants (pipe l r) = omega arith
first_wants (list l r) = omega arith
first_wants (back body) = omega arith

lines_none : (lines : List ScriptLine) → entries_wanted (takes_first lines).call ≡ 0
lines_none [] = refl
lines_none (command tree ∷ later) = refl
lines_none (bad fault text ∷ later) = refl
lines_none (cd text ∷ later) = refl

stage_none : (profile : Profile) (stage : Stage) (i : ℕ) → entries_wanted (does profile (has_forked stage i)).call ≡ 0
stage_none profile closes_read i = refl
stage_none profile closes_write i = refl
stage_none profile waits_two i = refl
stage_none profile waits_one i = refl
stage_none profile leaves_pipe i = refl

left_none : (profile : Profile) (step : Step) (tree : Tree) → entries_wanted (does profile (on_left step tree)).call ≡ 0
left_none profile closes_old tree = refl
left_none profile dups_kept tree = refl
left_none profile drops_read tree = refl
left_none profile drops_write tree = refl

right_none : (profile : Profile) (step : Step) (tree : Tree) → entries_wanted (does profile (on_right step tree)).call ≡ 0
right_none profile closes_old tree = refl
right_none profile dups_kept tree = refl
right_none profile drops_read tree = refl
right_none profile drops_write tree = refl

-- a program opens its files one by one
program_wants : (which : Program) (arguments : List Bytes) (fds : List ℕ) (call : Call) (state : State) → IsTame which arguments fds call → entries_wanted call ≤ more_files call state
program_wants which arguments fds Fork state tame = omega arith
program_wants which arguments fds (Exec found) state tame = omega arith
program_wants which arguments fds Exit state tame = omega arith
program_wants which arguments fds Wait state tame = omega arith
program_wants which arguments fds MakePipe state tame = absurd tame
program_wants which arguments fds (Read fd most) state tame = omega arith
program_wants which arguments fds (Write fd bytes) state tame = omega arith
program_wants which arguments fds (OpenFile name mode) state tame = omega arith
program_wants which arguments fds (Close fd) state tame = omega arith
program_wants which arguments fds (Dup fd) state tame = absurd tame

module _ (profile : Profile) (V : View) (p : ℕ) (call : Call) (makes : call_in (V.slots p) ≡ Some call) where
  -- it is the call of the process r
  it_is : (r : ℕ) (other : Call) → call_in (V.slots r) ≡ Some other → 1 ≤ same p r → entries_wanted call ≡ entries_wanted other
  it_is r other is some =
      let z : Some call ≡ Some other = sym makes ∙ (ap (λ q. call_in (V.slots q)) (same_yes p r some) ∙ is) in
      let same : call ≡ other = cc in
      ap entries_wanted same

  no_call : (r : ℕ) → call_in (V.slots r) ≡ None → 1 ≤ same p r → ⊥
  no_call r is some = let z : Some call ≡ None = sym makes ∙ (ap (λ q. call_in (V.slots q)) (same_yes p r some) ∙ is) in let w : ⊥ = cc in w

  -- r wants none, or it is inside what runs under r
  none_or : (r n held most : ℕ) (other : Call) → call_in (V.slots r) ≡ Some other → entries_wanted other ≡ 0 → held ≤ most → 1 ≤ same p r + n → (1 ≤ n → held + entries_wanted call ≤ most) → held + entries_wanted call ≤ most
  none_or r n held most other is none less some rest =
      elim (none_or_some (same p r)) [ inl here ↦ rest (omega (arith, here, some)) | inr one ↦ omega (arith, it_is r other is one, none, less) ]

  pub wants_fit : (a b old : Entry) (parent : ℕ) (t : Node) → Has profile V a b old parent t → 1 ≤ occurs p t → length (ends t) + entries_wanted call ≤ bound t
  wants_fit a b old parent reaped h some = absurd (omega (arith, some))
  wants_fit a b old parent (gone r) h some = absurd (no_call r (ap call_in h) some)
  wants_fit a b old parent (starts r tree) h some = omega (arith, it_is r (runs tree).call (ap call_in h) some, first_wants tree)
  wants_fit a b old parent (works r turn put owns) h some =
      omega (arith, it_is r turn.call (ap call_in h.slot) some, program_wants h.tame.which h.tame.arguments (own_fds owns) turn.call turn.next (h.tame.calls []), owned_length owns)
  wants_fit a b old parent (tells r message) h some = omega (arith, it_is r (Write 2 message) (ap call_in h.1) some)
  wants_fit a b old parent (leaves r) h some = omega (arith, it_is r Exit (ap call_in h.1) some)
  wants_fit a b old parent (reads_lines r lines) h some = omega (arith, it_is r (takes_first lines).call (ap call_in h) some, lines_none lines)
  wants_fit a b old parent (in_line r x lines) h some =
      none_or r (occurs p x) (length (ends x)) (bound (in_line r x lines)) Wait (ap call_in h.0) refl (few (in_line r x lines)) some
      (λ one. omega (arith, wants_fit a b old r x h.2 one, le-max_left (bound x) (most_entries (script_tree (drop 1 lines)))))
  wants_fit a b old parent (in_list r x later) h some =
      none_or r (occurs p x) (length (ends x)) (bound (in_list r x later)) Wait (ap call_in h.0) refl (few (in_list r x later)) some
      (λ one. omega (arith, wants_fit a b old r x h.2 one, le-max_left (bound x) (most_entries later)))
  wants_fit a b old parent (pipe_made r i l c) h some = omega (arith, it_is r Fork (ap call_in h.0) some)
  wants_fit a b old parent (pipe_half r i lost x bytes c) h some =
      none_or r (occurs p x) (length (ends (pipe_half r i lost x bytes c))) (bound (pipe_half r i lost x bytes c)) Fork (ap call_in h.0) refl (omega (arith, few x)) some
      (λ one. omega (arith, wants_fit a (writer i) b r x h.3 one))
  wants_fit a b old parent (pipe_both r i stage lost x bytes y) h some =
      let both = length-append (ends x) (ends y) in
      none_or r (occurs p x + occurs p y) (length (ends (pipe_both r i stage lost x bytes y))) (bound (pipe_both r i stage lost x bytes y)) (does profile (has_forked stage i)).call (ap call_in h.0) (stage_none profile stage i) (omega (arith, few x, few y, both)) (omega (arith, some))
      (λ one. elim (none_or_some (occurs p x)) [
        | inl none ↦ omega (arith, wants_fit (reader i) b a r y h.4 (omega (arith, one, none)), few x, both)
        | inr first ↦ omega (arith, wants_fit a (writer i) b r x h.3 first, few y, both)
      ])
  wants_fit a b old parent (left_child r step tree) h some = omega (arith, it_is r (does profile (on_left step tree)).call (ap call_in h) some, left_none profile step tree)
  wants_fit a b old parent (right_child r step tree) h some = omega (arith, it_is r (does profile (on_right step tree)).call (ap call_in h) some, right_none profile step tree)
  wants_fit a b old parent (opening r mode name body) h some = omega (arith, it_is r (OpenFile (block name) (call_mode profile mode)) (ap call_in h) some)
  wants_fit a b old parent (under_input e name at x) h some = omega (arith, wants_fit (file e) b old parent x h.2 some)
  wants_fit a b old parent (under_output e mode name at x) h some = omega (arith, wants_fit a (file e) old parent x h.2 some)
