-- A number that the tree machine's steps don't make larger, taken of what is left by its tree.
use Rattle.std.proofs.Common.{◌≡◌, ℕ, ◌+◌, ◌≤◌, Bool, true, false, List, [], Option, Some, None, length, sym, ap, subst, arith}
use Rattle.sh_tree.specs.declared.tree.Mode.{Mode}
use Rattle.sh_tree.specs.declared.tree.Mode.TheVariants.{Input, Fresh, Over}
use Rattle.sh_tree.specs.Tree.{Tree, exec, redir, pipe, list, back}
use Rattle.mem_files.specs.Name.{Name, Bytes, is_openable}
use Rattle.mem_files.specs.Files.{FileMap}
use Rattle.user_calls.specs.declared.calls.Reply.{Reply}
use Rattle.user_calls.specs.declared.calls.Reply.TheVariants.{Done, Bytes as Bytes', Refused}
use Rattle.script_load.specs.declared.profile.Profile.{Profile}
use Rattle.meaning_model.specs.Inputs.{found}
use Rattle.tree_model.specs.Residual.{Running, Residual, done, todo, running, seq, piped, unopened, from, into}
use Rattle.tree_model.specs.Begin.{begun_words, run_left, unfolded, open_from, open_into, opens_file}
use Rattle.tree_model.specs.Answers.{Kind, leaves, reads_input, writes_output, asks, kind_of, resumed, replied, answer}
use Rattle.tree_model.specs.Rules.{Label, Steps, begins, opens, exits, calls, reads, reads_end, writes_all, writes_some, write_refused, seq_ends, pipe_ends, from_ends, into_ends, seq_steps, left_silent, left_takes, left_meets_end, left_puts, left_refused, right_silent, right_takes, right_meets_end, right_puts, right_refused, from_silent, from_takes, from_meets_end, from_puts, from_refused, into_silent, into_takes, into_meets_end, into_puts, into_refused}
use Rattle.tree_model.specs.Runs.{Stage, Reaches, reached, goes_on}

-- what is counted of what is done, of a program that runs, and of a command; and how the counts of parts are put together: under
-- a redirection, of the sides of a pipe, and of what runs and the command that comes after it
pub record Measure : Type 0 where
  pub ended : ℕ
  pub of_run : Running → ℕ
  pub of_tree : Tree → ℕ
  pub under : ℕ → ℕ
  pub sides : ℕ → ℕ → ℕ
  pub after : ℕ → ℕ → ℕ

abbrev pub of_begun : Measure → Option Running → ℕ
of_begun m None = m.ended
of_begun m (Some run) = m.of_run run

-- a call that the input or the output answers
abbrev pub IsPassed : Kind → Type 0
IsPassed leaves = ⊥
IsPassed (reads_input most) = Unit {0}
IsPassed (writes_output bytes) = Unit {0}
IsPassed asks = ⊥

-- no step makes it larger
pub record IsMeasure (m : Measure) : Type 0 where
  pub small : (tree : Tree) → m.ended ≤ m.of_tree tree
  pub begun : (words : List Bytes) → of_begun m (begun_words words) ≤ m.of_tree (exec words)
  pub redir : (mode : Mode) (name : Name) (body : Tree) → m.under (m.of_tree body) ≤ m.of_tree (redir mode name body)
  pub pipe : (left right : Tree) → m.sides (m.of_tree left) (m.of_tree right) ≤ m.of_tree (pipe left right)
  pub list : (left right : Tree) → m.after (m.of_tree left) (m.of_tree right) ≤ m.of_tree (list left right)
  pub under_more : (a b : ℕ) → a ≤ b → m.under a ≤ m.under b
  pub under_all : (a : ℕ) → a ≤ m.under a
  pub sides_more : (a b c d : ℕ) → a ≤ b → c ≤ d → m.sides a c ≤ m.sides b d
  pub sides_ended : m.ended ≤ m.sides m.ended m.ended
  pub after_more : (a b c : ℕ) → a ≤ b → m.after a c ≤ m.after b c
  pub after_ended : (a : ℕ) → a ≤ m.after m.ended a
  pub exits : (run : Running) → m.ended ≤ m.of_run run
  pub resumes : (run : Running) (reply : Reply) → IsPassed (kind_of run.turn.call) → m.of_run (resumed run reply) ≤ m.of_run run
  pub replies : (run : Running) (F : FileMap) → m.of_run (replied run (answer run F) F) ≤ m.of_run run
  pub puts : (run : Running) (n : ℕ) → m.of_run (record run { put = n }) ≤ m.of_run run

-- taken of what is left
abbrev pub left : Measure → Residual → ℕ
left m done = m.ended
left m (todo tree) = m.of_tree tree
left m (running run) = m.of_run run
left m (seq X later) = m.after (left m X) (m.of_tree later)
left m (piped lost X bytes Y) = m.sides (left m X) (left m Y)
left m (unopened mode name body) = m.under (m.of_tree body)
left m (from name at X) = m.under (left m X)
left m (into name at X) = m.under (left m X)

module _ (m : Measure) (is : IsMeasure m) where
  run_few : (o : Option Running) → left m (run_left o) ≤ of_begun m o
  run_few None = omega arith
  run_few (Some run) = omega arith

  unfolded_few : (tree : Tree) → left m (unfolded tree) ≤ m.of_tree tree
  unfolded_few (exec words) = omega (arith, run_few (begun_words words), is.begun words)
  unfolded_few (redir mode name body) = is.redir mode name body
  unfolded_few (pipe l r) = is.pipe l r
  unfolded_few (list l r) = is.list l r
  unfolded_few (back body) = omega arith

  fails_few : (body : Tree) → m.ended ≤ m.under (m.of_tree body)
  fails_few body = omega (arith, is.small body, is.under_all (m.of_tree body))

  from_few : (o : Option Bytes) (name : Name) (body : Tree) (F : FileMap) → left m (open_from o name body F).next ≤ m.under (m.of_tree body)
  from_few None name body F = fails_few body
  from_few (Some bytes) name body F = omega arith

  into_few : (profile : Profile) (b : Bool) (mode : Mode) (name : Name) (body : Tree) (F : FileMap) → left m (open_into profile b mode name body F).next ≤ m.under (m.of_tree body)
  into_few profile false mode name body F = fails_few body
  into_few profile true mode name body F = omega arith

  opened_few : (profile : Profile) (mode : Mode) (name : Name) (body : Tree) (F : FileMap) → left m (opens_file profile mode name body F).next ≤ m.under (m.of_tree body)
  opened_few profile Input name body F = from_few (found F name) name body F
  opened_few profile Fresh name body F = into_few profile (is_openable name) Fresh name body F
  opened_few profile Over name body F = into_few profile (is_openable name) Over name body F

  at_most : (X Y : Residual) (n : ℕ) → X ≡ Y → left m Y ≤ n → left m X ≤ n
  at_most X Y n same few = omega (arith, ap (left m) same, few)

  on_left : (X X' Y : Residual) → left m X' ≤ left m X → m.sides (left m X') (left m Y) ≤ m.sides (left m X) (left m Y)
  on_left X X' Y few = is.sides_more (left m X') (left m X) (left m Y) (left m Y) few (omega arith)

  on_right : (X Y Y' : Residual) → left m Y' ≤ left m Y → m.sides (left m X) (left m Y') ≤ m.sides (left m X) (left m Y)
  on_right X Y Y' few = is.sides_more (left m X) (left m X) (left m Y') (left m Y) (omega arith) few

  within : (X X' : Residual) → left m X' ≤ left m X → m.under (left m X') ≤ m.under (left m X)
  within X X' few = is.under_more (left m X') (left m X) few

  module _ (profile : Profile) where
    pub kept : {X Y : Residual} {F G : FileMap} {label : Label} → Steps profile X F label Y G → left m Y ≤ left m X
    kept (begins {tree = tree} {X = X} e) = at_most X (unfolded tree) (m.of_tree tree) e (unfolded_few tree)
    kept (opens {F = F} {mode = mode} {file = name} {body = body} {X = X} e h) = at_most X (opens_file profile mode name body F).next (m.under (m.of_tree body)) e (opened_few profile mode name body F)
    kept (exits {run = run} e) = is.exits run
    kept (calls {F = F} {run = run} {X = X} k e h) = at_most X (running (replied run (answer run F) F)) (m.of_run run) e (is.replies run F)
    kept (reads {run = run} {bytes = bytes} {X = X} most k some few e) = at_most X (running (resumed run (Bytes' bytes))) (m.of_run run) e (is.resumes run _ (subst IsPassed (sym k) tt))
    kept (reads_end {run = run} {X = X} most k e) = at_most X (running (resumed run (Bytes' []))) (m.of_run run) e (is.resumes run _ (subst IsPassed (sym k) tt))
    kept (writes_all {run = run} {X = X} bytes k now e) = at_most X (running (resumed run Done)) (m.of_run run) e (is.resumes run _ (subst IsPassed (sym k) tt))
    kept (writes_some {run = run} {now = now} {X = X} bytes later k cut some more e) = at_most X (running (record run { put = run.put + length now })) (m.of_run run) e (is.puts run _)
    kept (write_refused {run = run} {X = X} bytes k some e) = at_most X (running (resumed run Refused)) (m.of_run run) e (is.resumes run _ (subst IsPassed (sym k) tt))
    kept (seq_ends {later = later}) = is.after_ended (m.of_tree later)
    kept pipe_ends = is.sides_ended
    kept from_ends = is.under_all m.ended
    kept into_ends = is.under_all m.ended
    kept (seq_steps {X = X} {X' = X'} {later = later} s) = is.after_more (left m X') (left m X) (m.of_tree later) (kept s)
    kept (left_silent {X = X} {X' = X'} {Y = Y} s) = on_left X X' Y (kept s)
    kept (left_takes {X = X} {X' = X'} {Y = Y} s) = on_left X X' Y (kept s)
    kept (left_meets_end {X = X} {X' = X'} {Y = Y} s) = on_left X X' Y (kept s)
    kept (left_puts {X = X} {X' = X'} {Y = Y} s e room) = on_left X X' Y (kept s)
    kept (left_refused {X = X} {X' = X'} {Y = Y} s e) = on_left X X' Y (kept s)
    kept (right_silent {X = X} {Y = Y} {Y' = Y'} s) = on_right X Y Y' (kept s)
    kept (right_takes {X = X} {Y = Y} {Y' = Y'} s e) = on_right X Y Y' (kept s)
    kept (right_meets_end {X = X} {Y = Y} {Y' = Y'} s e h) = on_right X Y Y' (kept s)
    kept (right_puts {X = X} {Y = Y} {Y' = Y'} s) = on_right X Y Y' (kept s)
    kept (right_refused {X = X} {Y = Y} {Y' = Y'} s) = on_right X Y Y' (kept s)
    kept (from_silent {X = X} {X' = X'} s) = within X X' (kept s)
    kept (from_takes {X = X} {X' = X'} more s e h) = within X X' (kept s)
    kept (from_meets_end {X = X} {X' = X'} s e) = within X X' (kept s)
    kept (from_puts {X = X} {X' = X'} s) = within X X' (kept s)
    kept (from_refused {X = X} {X' = X'} s) = within X X' (kept s)
    kept (into_silent {X = X} {X' = X'} s) = within X X' (kept s)
    kept (into_takes {X = X} {X' = X'} s) = within X X' (kept s)
    kept (into_meets_end {X = X} {X' = X'} s) = within X X' (kept s)
    kept (into_puts {X = X} {X' = X'} s gap e h) = within X X' (kept s)
    kept (into_refused {X = X} {X' = X'} s gap) = within X X' (kept s)

    -- so it is never larger on the way
    pub kept_on : {x y : Stage} → Reaches profile x y → left m y.left ≤ left m x.left
    kept_on reached = omega arith
    kept_on (goes_on g r) = omega (arith, kept g.steps, kept_on r)
