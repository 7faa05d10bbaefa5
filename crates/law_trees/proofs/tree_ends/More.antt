-- With more input and larger files there is no less to write, and there are no fewer steps: of the files, those that are named
-- matter alone.
use Rattle.std.proofs.Common.{◌≡◌, ℕ, ◌+◌, ◌-◌, ◌*◌, ◌≤◌, Bool, true, false, length, Option, Some, None, arith}
use Rattle.std.specs.Str.{bytes_eq}
use Rattle.std.proofs.lemmas.Bool.{or_left, or_right}
use Rattle.std.proofs.Math.Nat.{mul-le-mul_right}
use Rattle.sh_tree.specs.declared.tree.Mode.{Mode}
use Rattle.sh_tree.specs.declared.tree.Mode.TheVariants.{Input, Fresh, Over}
use Rattle.sh_tree.specs.Tree.{Tree, exec, redir, pipe, list, back}
use Rattle.mem_files.specs.Name.{Name}
use Rattle.mem_files.specs.Files.{no_files}
use Rattle.conflict_check.specs.Names.{names}
use Rattle.tree_model.specs.Ahead.{still_uses}
use Rattle.tree_model.specs.Exits.{width}
use Rattle.tree_model.specs.FilesAhead.{Sizes}
use Rattle.law_trees.proofs.programs.FileReading.{ahead_more}
use Rattle.tree_model.specs.Residual.{Running, alone, Residual, done, todo, running, seq, piped, unopened, from, into, left_names}
use Rattle.tree_model.specs.Answers.{Kind, leaves, reads_input, writes_output, asks, kind_of}
use Rattle.tree_model.specs.Begin.{run_left, begun_words}
use Rattle.law_trees.proofs.trees.Bools.{back as back_to}
use Rattle.law_trees.proofs.trees.Parts.{named_self}
use Rattle.law_trees.proofs.trees.Running.{begin_names}
use Rattle.tree_model.specs.Bound.{input_ahead, reads_ahead, run_bytes, calls_after, calls_ahead, run_steps, begun_bytes, begun_steps, input_under, grown, tree_bytes, tree_steps, bytes_left, steps_left}
use Rattle.law_trees.proofs.tree_ends.TurnBytes.{later_more}

-- a program
input_more : (uses : Bool) (n m : ℕ) → n ≤ m → input_ahead uses n ≤ input_ahead uses m
input_more true n m few = few
input_more false n m few = omega arith

reads_more : (run : Running) (n m : ℕ) (L M : Sizes) → n ≤ m → ((f : Name) → left_names (running run) f ≡ true → L f ≤ M f) → reads_ahead run.turn.next run.own n L ≤ reads_ahead run.turn.next run.own m M
reads_more run n m L M few small = omega (arith, input_more (still_uses run.turn.next) n m few, ahead_more run.turn.next (alone run no_files) L M small)

run_bytes_more : (run : Running) (n m : ℕ) (L M : Sizes) → n ≤ m → ((f : Name) → left_names (running run) f ≡ true → L f ≤ M f) → run_bytes run n L ≤ run_bytes run m M
run_bytes_more run n m L M few small =
    omega (arith, later_more run.turn.next (reads_ahead run.turn.next run.own m M) (reads_ahead run.turn.next run.own n L) (reads_more run n m L M few small))

after_more : (kind : Kind) (c d : ℕ) → c ≤ d → calls_after kind c ≤ calls_after kind d
after_more leaves c d h = omega arith
after_more (reads_input most) c d h = h
after_more (writes_output bytes) c d h = h
after_more asks c d h = h

run_steps_more : (run : Running) (n m : ℕ) (L M : Sizes) → n ≤ m → ((f : Name) → left_names (running run) f ≡ true → L f ≤ M f) → run_steps run n L ≤ run_steps run m M
run_steps_more run n m L M few small =
    let r = reads_ahead run.turn.next run.own n L in
    let s = reads_ahead run.turn.next run.own m M in
    let paid : r * width run.turn.next ≤ s * width run.turn.next = mul-le-mul_right (width run.turn.next) (reads_more run n m L M few small) in
    omega (arith, run_bytes_more run n m L M few small, after_more (kind_of run.turn.call) (calls_ahead run.turn.next r) (calls_ahead run.turn.next s) (omega (arith, paid)))

-- a command
pub record Less (T : Tree) (n m : ℕ) (L M : Sizes) : Type 0 where
  pub bytes : tree_bytes T n L ≤ tree_bytes T m M
  pub steps : tree_steps T n L ≤ tree_steps T m M

begun_more : (o : Option Running) (n m : ℕ) (L M : Sizes) → n ≤ m → ((f : Name) → left_names (run_left o) f ≡ true → L f ≤ M f) → (begun_bytes o n L ≤ begun_bytes o m M) × (begun_steps o n L ≤ begun_steps o m M)
begun_more None n m L M few small = (omega arith, omega arith)
begun_more (Some run) n m L M few small = (run_bytes_more run n m L M few small, run_steps_more run n m L M few small)

under_more : (mode : Mode) (n m l k : ℕ) → n ≤ m → l ≤ k → input_under mode n l ≤ input_under mode m k
under_more Input n m l k h g = g
under_more Fresh n m l k h g = h
under_more Over n m l k h g = h

pub tree_more : (T : Tree) (n m : ℕ) (L M : Sizes) → n ≤ m → ((f : Name) → names T f ≡ true → L f ≤ M f) → Less T n m L M
tree_more (exec words) n m L M few small =
    let h = begun_more (begun_words words) n m L M few (λ f e. small f (back_to _ (names (exec words) f) (begin_names words f) e)) in
    record { bytes = h.0; steps = omega (arith, h.1) }
tree_more (redir mode name body) n m L M few small =
    let h = tree_more body (input_under mode n (L name)) (input_under mode m (M name)) L M (under_more mode n m (L name) (M name) few (small name (named_self name (names body name)))) (λ f e. small f (or_right (bytes_eq f name) (names body f) e)) in
    record { bytes = h.bytes; steps = omega (arith, h.steps) }
tree_more (pipe left right) n m L M few small =
    let h = tree_more left n m L M few (λ f e. small f (or_left (names left f) (names right f) e)) in
    let k = tree_more right (tree_bytes left n L) (tree_bytes left m M) L M h.bytes (λ f e. small f (or_right (names left f) (names right f) e)) in
    record { bytes = omega (arith, h.bytes, k.bytes); steps = omega (arith, h.steps, k.steps) }
tree_more (list left right) n m L M few small =
    let h = tree_more left n m L M few (λ f e. small f (or_left (names left f) (names right f) e)) in
    let k = tree_more right n m (grown L (tree_bytes left n L)) (grown M (tree_bytes left m M)) few (λ f e. let s = small f (or_right (names left f) (names right f) e) in omega (arith, s, h.bytes)) in
    record { bytes = omega (arith, h.bytes, k.bytes); steps = omega (arith, h.steps, k.steps) }
tree_more (back body) n m L M few small = record { bytes = omega arith; steps = omega arith }

-- what is left of one
pub record LessLeft (X : Residual) (n m : ℕ) (L M : Sizes) : Type 0 where
  pub bytes : bytes_left X n L ≤ bytes_left X m M
  pub steps : steps_left X n L ≤ steps_left X m M

pub left_more : (X : Residual) (n m : ℕ) (L M : Sizes) → n ≤ m → ((f : Name) → left_names X f ≡ true → L f ≤ M f) → LessLeft X n m L M
left_more done n m L M few small = record { bytes = omega arith; steps = omega arith }
left_more (todo T) n m L M few small = let h = tree_more T n m L M few small in record { bytes = h.bytes; steps = h.steps }
left_more (running run) n m L M few small = record { bytes = run_bytes_more run n m L M few small; steps = run_steps_more run n m L M few small }
left_more (seq X T) n m L M few small =
    let h = left_more X n m L M few (λ f e. small f (or_left (left_names X f) (names T f) e)) in
    let k = tree_more T n m (grown L (bytes_left X n L)) (grown M (bytes_left X m M)) few (λ f e. let s = small f (or_right (left_names X f) (names T f) e) in omega (arith, s, h.bytes)) in
    record { bytes = omega (arith, h.bytes, k.bytes); steps = omega (arith, h.steps, k.steps) }
left_more (piped lost X q Y) n m L M few small =
    let h = left_more X n m L M few (λ f e. small f (or_left (left_names X f) (left_names Y f) e)) in
    let k = left_more Y (length q + bytes_left X n L) (length q + bytes_left X m M) L M (omega (arith, h.bytes)) (λ f e. small f (or_right (left_names X f) (left_names Y f) e)) in
    record { bytes = omega (arith, h.bytes, k.bytes); steps = omega (arith, h.steps, k.steps) }
left_more (unopened mode name body) n m L M few small =
    let h = tree_more body (input_under mode n (L name)) (input_under mode m (M name)) L M (under_more mode n m (L name) (M name) few (small name (named_self name (names body name)))) (λ f e. small f (or_right (bytes_eq f name) (names body f) e)) in
    record { bytes = h.bytes; steps = omega (arith, h.steps) }
left_more (from name at X) n m L M few small =
    let s = small name (named_self name (left_names X name)) in
    let h = left_more X (L name - at) (M name - at) L M (omega (arith, s)) (λ f e. small f (or_right (bytes_eq f name) (left_names X f) e)) in
    record { bytes = h.bytes; steps = omega (arith, h.steps) }
left_more (into name at X) n m L M few small =
    let h = left_more X n m L M few (λ f e. small f (or_right (bytes_eq f name) (left_names X f) e)) in
    record { bytes = h.bytes; steps = omega (arith, h.steps) }
