-- How many processes a tree of them has: no more than its bound, and one fewer where one of them forks.
use Rattle.std.proofs.Common.{◌≡◌, inl, inr, ℕ, ◌+◌, ◌≤◌, List, [], ◌∷◌, Option, Some, None, drop, refl, sym, ap, ◌∙◌, subst, arith}
use Rattle.std.specs.Prelude.{max}
use Rattle.std.proofs.Math.Nat.{le-max_left, le-max_right, max-le}
use Rattle.sh_tree.specs.Tree.{Tree, exec, redir, pipe, list, back}
use Rattle.mem_files.specs.Name.{Bytes}
use Rattle.script_load.specs.declared.profile.Profile.{Profile}
use Rattle.script_load.specs.Line.{ScriptLine}
use Rattle.meaning_model.specs.Meaning.{line_tree, script_tree}
use Rattle.prog_parts.specs.declared.program.Program.{Program}
use Rattle.tree_model.specs.Tame.{IsTame}
use Rattle.user_calls.specs.declared.calls.Call.{Call}
use Rattle.user_calls.specs.declared.calls.Call.TheVariants.{Fork, Exec, Exit, Wait, MakePipe, Read, Write, OpenFile, Close, Dup}
use Rattle.user_progs.specs.State.{State}
use Rattle.user_progs.specs.View.{first_state}
use Rattle.user_progs.specs.Turn.{block}
use Rattle.sh_machine.specs.Turn.{runs, execs_found, takes_first, old_fd, call_mode}
use Rattle.tree_model.specs.Residual.{Running}
use Rattle.tree_model.specs.Begin.{begun_words}
use Rattle.process_model.specs.Seen.{Entry, reader, writer, file, Seen, free, zombie, live, View}
use Rattle.process_model.specs.Phases.{Stage, closes_read, closes_write, waits_two, waits_one, leaves_pipe, Step, closes_old, dups_kept, drops_read, drops_write, has_forked, on_left, on_right, does}
use Rattle.process_model.specs.Own.{own_fds}
use Rattle.process_model.specs.Shape.{Node, reaped, gone, starts, works, tells, leaves, reads_lines, in_line, in_list, pipe_made, pipe_half, pipe_both, left_child, right_child, opening, under_input, under_output, Has, same, occurs, stands_for}
use Rattle.process_model.proofs.Counts.{same_yes, none_or_some}
use Rattle.room_model.specs.Processes.{most_processes}
use Rattle.law_runs.proofs.room.Counting.{total, total_sum, total_none, met_once}
use Rattle.law_runs.proofs.room.Measure.{Measure, of_begun, IsMeasure, left}

-- ---- the bound

abbrev pub counted : Measure
counted = record {
  ended = 1;
  of_run = λ run. 1;
  of_tree = most_processes;
  under = λ a. a;
  sides = λ a b. 1 + a + b;
  after = λ a b. max (1 + a) b;
}

pub some_process : (tree : Tree) → 1 ≤ most_processes tree
some_process (exec words) = omega arith
some_process (redir mode name body) = some_process body
some_process (pipe l r) = omega arith
some_process (list l r) = omega (arith, le-max_left (1 + most_processes l) (most_processes r))
some_process (back body) = omega arith

begun_one : (o : Option Running) → of_begun counted o ≡ 1
begun_one None = refl
begun_one (Some run) = refl

after_more : (a b c : ℕ) → a ≤ b → max (1 + a) c ≤ max (1 + b) c
after_more a b c few = max-le (omega (arith, le-max_left (1 + b) c, few)) (le-max_right (1 + b) c)

pub is_measure : IsMeasure counted
is_measure = record {
  small = some_process;
  begun = λ words. omega (arith, begun_one (begun_words words));
  redir = λ mode name body. omega arith;
  pipe = λ l r. omega arith;
  list = λ l r. omega arith;
  under_more = λ a b few. few;
  under_all = λ a. omega arith;
  sides_more = λ a b c d few less. omega (arith, few, less);
  sides_ended = omega arith;
  after_more = after_more;
  after_ended = λ a. le-max_right 2 a;
  exits = λ run. omega arith;
  resumes = λ run reply passed. omega arith;
  replies = λ run F. omega arith;
  puts = λ run n. omega arith;
}

-- ---- a tree of processes

abbrev pub processes : Node → ℕ
processes reaped = 0
processes (gone p) = 1
processes (starts p tree) = 1
processes (works p turn put owns) = 1
processes (tells p message) = 1
processes (leaves p) = 1
processes (reads_lines p lines) = 1
processes (in_line p x lines) = 1 + processes x
processes (in_list p x later) = 1 + processes x
processes (pipe_made p i l r) = 1
processes (pipe_half p i lost x bytes r) = 1 + processes x
processes (pipe_both p i stage lost x bytes y) = 1 + processes x + processes y
processes (left_child p step tree) = 1
processes (right_child p step tree) = 1
processes (opening p mode name body) = 1
processes (under_input e name at x) = processes x
processes (under_output e mode name at x) = processes x

abbrev pub bound : Node → ℕ
bound t = left counted (stands_for t)

pub few : (t : Node) → processes t ≤ bound t
few reaped = omega arith
few (gone p) = omega arith
few (starts p tree) = some_process tree
few (works p turn put owns) = omega arith
few (tells p message) = omega arith
few (leaves p) = omega arith
few (reads_lines p lines) = some_process (script_tree lines)
few (in_line p x lines) = omega (arith, few x, le-max_left (1 + bound x) (most_processes (script_tree (drop 1 lines))))
few (in_list p x later) = omega (arith, few x, le-max_left (1 + bound x) (most_processes later))
few (pipe_made p i l r) = omega arith
few (pipe_half p i lost x bytes r) = omega (arith, few x)
few (pipe_both p i stage lost x bytes y) = omega (arith, few x, few y)
few (left_child p step tree) = some_process tree
few (right_child p step tree) = some_process tree
few (opening p mode name body) = some_process body
few (under_input e name at x) = few x
few (under_output e mode name at x) = few x

-- ---- one of them forks

-- the call that a slot's process makes next
abbrev pub call_in : Seen → Option Call
call_in free = None
call_in (zombie q) = None
call_in (live q act put d) = Some act.call

-- any call but fork
abbrev pub IsOther : Call → Type 0
IsOther Fork = ⊥
IsOther (Exec found) = Unit {0}
IsOther Exit = Unit {0}
IsOther Wait = Unit {0}
IsOther MakePipe = Unit {0}
IsOther (Read fd most) = Unit {0}
IsOther (Write fd bytes) = Unit {0}
IsOther (OpenFile name mode) = Unit {0}
IsOther (Close fd) = Unit {0}
IsOther (Dup fd) = Unit {0}

abbrev AreOther : Option Call → Type 0
AreOther None = Unit {0}
AreOther (Some call) = IsOther call

not_fork : (o : Option Call) (call : Call) → o ≡ Some call → IsOther call → o ≡ Some Fork → ⊥
not_fork o call is other fork = subst AreOther (sym is ∙ fork) other

-- no program forks
program_other : (which : Program) (arguments : List Bytes) (opened : List ℕ) (call : Call) → IsTame which arguments opened call → IsOther call
program_other which arguments opened Fork tame = tame
program_other which arguments opened (Exec found) tame = tt
program_other which arguments opened Exit tame = tt
program_other which arguments opened Wait tame = tt
program_other which arguments opened MakePipe tame = tt
program_other which arguments opened (Read fd most) tame = tt
program_other which arguments opened (Write fd bytes) tame = tt
program_other which arguments opened (OpenFile name mode) tame = tt
program_other which arguments opened (Close fd) tame = tt
program_other which arguments opened (Dup fd) tame = tt

-- the first call of a simple command, and those of a pipe's process and of its children
execs_other : (o : Option State) (name : Bytes) → IsOther (execs_found o name).call
execs_other None name = tt
execs_other (Some state) name = tt

stage_other : (profile : Profile) (stage : Stage) (id : ℕ) → IsOther (does profile (has_forked stage id)).call
stage_other profile closes_read id = tt
stage_other profile closes_write id = tt
stage_other profile waits_two id = tt
stage_other profile waits_one id = tt
stage_other profile leaves_pipe id = tt

left_other : (profile : Profile) (step : Step) (tree : Tree) → IsOther (does profile (on_left step tree)).call
left_other profile closes_old tree = tt
left_other profile dups_kept tree = tt
left_other profile drops_read tree = tt
left_other profile drops_write tree = tt

right_other : (profile : Profile) (step : Step) (tree : Tree) → IsOther (does profile (on_right step tree)).call
right_other profile closes_old tree = tt
right_other profile dups_kept tree = tt
right_other profile drops_read tree = tt
right_other profile drops_write tree = tt

module _ (profile : Profile) (V : View) (p : ℕ) (forks : call_in (V.slots p) ≡ Some Fork) where
  -- it isn't a process whose next call is another
  not_it : (r : ℕ) (call : Call) → call_in (V.slots r) ≡ Some call → IsOther call → 1 ≤ same p r → ⊥
  not_it r call is other some = not_fork (call_in (V.slots r)) call is other (sym (ap (λ q. call_in (V.slots q)) (same_yes p r some)) ∙ forks)

  -- nor one that has no call to make
  no_call : (r : ℕ) → call_in (V.slots r) ≡ None → 1 ≤ same p r → ⊥
  no_call r is some = let z : None ≡ Some Fork = sym is ∙ (sym (ap (λ q. call_in (V.slots q)) (same_yes p r some)) ∙ forks) in let w : ⊥ = cc in w

  -- so it is inside what runs under that one
  inside : (r n : ℕ) (call : Call) → call_in (V.slots r) ≡ Some call → IsOther call → 1 ≤ same p r + n → 1 ≤ n
  inside r n call is other some = elim (none_or_some (same p r)) [ inl none ↦ omega (arith, none, some) | inr one ↦ absurd (not_it r call is other one) ]

  first_fits : (r : ℕ) (tree : Tree) → call_in (V.slots r) ≡ Some (runs tree).call → 1 ≤ same p r → 2 ≤ most_processes tree
  first_fits r (exec []) is some = absurd (not_it r Exit is tt some)
  first_fits r (exec (name ∷ arguments)) is some = absurd (not_it r (execs_found (first_state (name ∷ arguments)) name).call is (execs_other (first_state (name ∷ arguments)) name) some)
  first_fits r (redir mode name body) is some = absurd (not_it r (Close (old_fd mode)) is tt some)
  first_fits r (pipe left right) is some = absurd (not_it r MakePipe is tt some)
  first_fits r (list left right) is some = omega (arith, some_process left, le-max_left (1 + most_processes left) (most_processes right))
  first_fits r (back body) is some = omega (arith, some_process body)

  lines_fit : (r : ℕ) (lines : List ScriptLine) → call_in (V.slots r) ≡ Some (takes_first lines).call → 1 ≤ same p r → 2 ≤ most_processes (script_tree lines)
  lines_fit r [] is some = absurd (not_it r Exit is tt some)
  lines_fit r (line ∷ later) is some = omega (arith, some_process (line_tree line), le-max_left (1 + most_processes (line_tree line)) (most_processes (script_tree later)))

  -- there is room for one more
  pub fork_fits : (a b old : Entry) (parent : ℕ) (t : Node) → Has profile V a b old parent t → 1 ≤ occurs p t → processes t + 1 ≤ bound t
  fork_fits a b old parent reaped h some = absurd (omega (arith, some))
  fork_fits a b old parent (gone r) h some = absurd (no_call r (ap call_in h) some)
  fork_fits a b old parent (starts r tree) h some = omega (arith, first_fits r tree (ap call_in h) some)
  fork_fits a b old parent (works r turn put owns) h some = absurd (not_it r turn.call (ap call_in h.slot) (program_other h.tame.which h.tame.arguments (own_fds owns) turn.call (h.tame.calls [])) some)
  fork_fits a b old parent (tells r message) h some = absurd (not_it r (Write 2 message) (ap call_in h.1) tt some)
  fork_fits a b old parent (leaves r) h some = absurd (not_it r Exit (ap call_in h.1) tt some)
  fork_fits a b old parent (reads_lines r lines) h some = omega (arith, lines_fit r lines (ap call_in h) some)
  fork_fits a b old parent (in_line r x lines) h some =
      omega (arith, fork_fits a b old r x h.2 (inside r (occurs p x) Wait (ap call_in h.0) tt some), le-max_left (1 + bound x) (most_processes (script_tree (drop 1 lines))))
  fork_fits a b old parent (in_list r x later) h some =
      omega (arith, fork_fits a b old r x h.2 (inside r (occurs p x) Wait (ap call_in h.0) tt some), le-max_left (1 + bound x) (most_processes later))
  fork_fits a b old parent (pipe_made r i left right) h some = omega (arith, some_process left, some_process right)
  fork_fits a b old parent (pipe_half r i lost x bytes right) h some = omega (arith, few x, some_process right)
  fork_fits a b old parent (pipe_both r i stage lost x bytes y) h some =
      let within : 1 ≤ occurs p x + occurs p y = inside r (occurs p x + occurs p y) (does profile (has_forked stage i)).call (ap call_in h.0) (stage_other profile stage i) (omega (arith, some)) in
      elim (none_or_some (occurs p x)) [
        | inl none ↦ omega (arith, few x, fork_fits (reader i) b a r y h.4 (omega (arith, within, none)))
        | inr one ↦ omega (arith, fork_fits a (writer i) b r x h.3 one, few y)
      ]
  fork_fits a b old parent (left_child r step tree) h some = absurd (not_it r (does profile (on_left step tree)).call (ap call_in h) (left_other profile step tree) some)
  fork_fits a b old parent (right_child r step tree) h some = absurd (not_it r (does profile (on_right step tree)).call (ap call_in h) (right_other profile step tree) some)
  fork_fits a b old parent (opening r mode name body) h some = absurd (not_it r (OpenFile (block name) (call_mode profile mode)) (ap call_in h) tt some)
  fork_fits a b old parent (under_input e name at x) h some = fork_fits (file e) b old parent x h.2 some
  fork_fits a b old parent (under_output e mode name at x) h some = fork_fits a (file e) old parent x h.2 some

-- ---- numbers of processes, of which each is in the tree

-- as many numbers as are in it are no more than its processes
pub met : (t : Node) (a n : ℕ) → total (λ q. occurs q t) a n ≤ processes t
met reaped a n = omega (arith, total_none a n)
met (gone p) a n = met_once p a n
met (starts p tree) a n = met_once p a n
met (works p turn put owns) a n = met_once p a n
met (tells p message) a n = met_once p a n
met (leaves p) a n = met_once p a n
met (reads_lines p lines) a n = met_once p a n
met (in_line p x lines) a n = omega (arith, met_once p a n, met x a n, total_sum (λ q. same q p) (λ q. occurs q x) a n)
met (in_list p x later) a n = omega (arith, met_once p a n, met x a n, total_sum (λ q. same q p) (λ q. occurs q x) a n)
met (pipe_made p i l r) a n = met_once p a n
met (pipe_half p i lost x bytes r) a n = omega (arith, met_once p a n, met x a n, total_sum (λ q. same q p) (λ q. occurs q x) a n)
met (pipe_both p i stage lost x bytes y) a n =
    omega (arith, met_once p a n, met x a n, met y a n, total_sum (λ q. same q p) (λ q. occurs q x) a n, total_sum (λ q. same q p + occurs q x) (λ q. occurs q y) a n)
met (left_child p step tree) a n = met_once p a n
met (right_child p step tree) a n = met_once p a n
met (opening p mode name body) a n = met_once p a n
met (under_input e name at x) a n = met x a n
met (under_output e mode name at x) a n = met x a n
