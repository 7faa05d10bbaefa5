-- Each step by the rules makes less of the steps that are left and of the bytes still to be written.
use Rattle.std.proofs.Common.{◌≡◌, ℕ, suc, ◌+◌, ◌-◌, ◌≤◌, Bool, true, false, [], length, drop, Option, Some, None, refl, sym, ap, subst, arith}
use Rattle.std.proofs.lemmas.List.{length-append, length-drop}
use mathlib.Core.Path.{transport}
use Rattle.sh_tree.specs.declared.tree.Mode.{Mode}
use Rattle.sh_tree.specs.declared.tree.Mode.TheVariants.{Input, Fresh, Over}
use Rattle.sh_tree.specs.Tree.{Tree, exec, redir, pipe, list, back}
use Rattle.mem_files.specs.Name.{Name, Bytes, is_openable}
use Rattle.mem_files.specs.Files.{FileMap, bytes_of}
use Rattle.conflict_check.specs.Clear.{has_back}
use Rattle.script_load.specs.declared.profile.Profile.{Profile}
use Rattle.meaning_model.specs.Inputs.{found}
use Rattle.meaning_model.specs.Meaning.{opened}
use Rattle.tree_model.specs.FilesAhead.{sizes}
use Rattle.tree_model.specs.Residual.{Running, Residual, done, todo, running, seq, piped, unopened, from, into}
use Rattle.tree_model.specs.Begin.{run_left, begun_words, unfolded, start_at, open_from, open_into, opens_file}
use Rattle.tree_model.specs.Rules.{Label, silent, takes, meets_end, puts, refused, patched, taken, put_out, Steps}
use Rattle.tree_model.specs.Rules.Steps.{begins, opens, exits, calls, reads, reads_end, writes_all, writes_some, write_refused, seq_ends, pipe_ends, from_ends, into_ends, seq_steps, left_silent, left_takes, left_meets_end, left_puts, left_refused, right_silent, right_takes, right_meets_end, right_puts, right_refused, from_silent, from_takes, from_meets_end, from_puts, from_refused, into_silent, into_takes, into_meets_end, into_puts, into_refused}
use Rattle.tree_model.specs.Moving.{IsPlain}
use Rattle.tree_model.specs.Tidy.{IsTidy}
use Rattle.law_trees.proofs.trees.Progress.{after}
use Rattle.law_trees.proofs.trees.StepFrame.{named}
use Rattle.tree_model.specs.Bound.{begun_bytes, begun_steps, input_under, grown, tree_bytes, tree_steps, bytes_left, steps_left}
use Rattle.law_trees.proofs.tree_ends.More.{tree_more}
use Rattle.law_trees.proofs.tree_ends.PartFalls.{seq_falls, left_falls, right_falls, from_falls, into_falls, as_it_was, one_patched}
use Rattle.law_trees.proofs.tree_ends.Growing.{with_size}
use Rattle.law_trees.proofs.tree_ends.RunFalls.{Falls, asks_falls, read_falls, write_falls, refused_falls, part_falls}

-- a step that takes nothing of the input, and writes nothing to it or to files
pub even : (X X' : Residual) (F G : FileMap) (n : ℕ) → bytes_left X' n (sizes G) ≤ bytes_left X n (sizes F) → suc (steps_left X' n (sizes G)) ≤ steps_left X n (sizes F) → ((f : Name) → sizes G f ≤ sizes F f) → Falls X F n 0 0 X' G
even X X' F G n bytes steps small =
    let whole : n - 0 ≡ n = omega arith in
    let b = ap (λ m. bytes_left X' m (sizes G)) whole in
    let s = ap (λ m. steps_left X' m (sizes G)) whole in
    record { bytes = omega (arith, bytes, b); grow = λ f. let g = small f in omega (arith, bytes, b, g); steps = omega (arith, steps, s) }

-- a command is begun
begun_falls : (T : Tree) (F : FileMap) (n : ℕ) → has_back T ≡ false → Falls (todo T) F n 0 0 (unfolded T) F
begun_falls (exec words) F n plain = even (todo (exec words)) (run_left (begun_words words)) F F n (by_bytes (begun_words words)) (by_steps (begun_words words)) (λ f. omega arith)
  where
    by_bytes : (o : Option Running) → bytes_left (run_left o) n (sizes F) ≤ begun_bytes o n (sizes F)
    by_bytes None = omega arith
    by_bytes (Some run) = omega arith

    by_steps : (o : Option Running) → suc (steps_left (run_left o) n (sizes F)) ≤ 1 + begun_steps o n (sizes F)
    by_steps None = omega arith
    by_steps (Some run) = omega arith
begun_falls (redir m f T) F n plain = even (todo (redir m f T)) (unopened m f T) F F n (omega arith) (omega arith) (λ g. omega arith)
begun_falls (pipe A B) F n plain =
    let same : 0 + tree_bytes A n (sizes F) ≡ tree_bytes A n (sizes F) = omega arith in
    let b = ap (λ m. tree_bytes B m (sizes F)) same in
    let s = ap (λ m. tree_steps B m (sizes F)) same in
    even (todo (pipe A B)) (piped false (todo A) [] (todo B)) F F n (omega (arith, b)) (omega (arith, s)) (λ f. omega arith)
begun_falls (list A B) F n plain = even (todo (list A B)) (seq (todo A) B) F F n (omega arith) (omega arith) (λ f. omega arith)
begun_falls (back T) F n plain = cc

-- a redirection opens its file
open_from_falls : (o : Option Bytes) (f : Name) (T : Tree) (F : FileMap) (n : ℕ) → Falls (unopened Input f T) F n 0 0 (open_from o f T F).next (open_from o f T F).files
open_from_falls None f T F n = even (unopened Input f T) done F F n (omega arith) (omega arith) (λ g. omega arith)
open_from_falls (Some b) f T F n =
    let L = sizes F in
    let h = tree_more T (L f - 0) (L f) L L (omega arith) (λ g e. omega arith) in
    even (unopened Input f T) (from f 0 (todo T)) F F n h.bytes (omega (arith, h.steps)) (λ g. omega arith)

open_into_falls : (profile : Profile) (b : Bool) (m : Mode) (f : Name) (T : Tree) (F : FileMap) (n : ℕ) → input_under m n (sizes F f) ≡ n → ((g : Name) → sizes (opened m f F) g ≤ sizes F g) → Falls (unopened m f T) F n 0 0 (open_into profile b m f T F).next (open_into profile b m f T F).files
open_into_falls profile false m f T F n input small = even (unopened m f T) done F F n (omega arith) (omega arith) (λ g. omega arith)
open_into_falls profile true m f T F n input small =
    let h = tree_more T n (input_under m n (sizes F f)) (sizes (opened m f F)) (sizes F) (omega (arith, input)) (λ g e. small g) in
    even (unopened m f T) (into f (start_at profile m) (todo T)) F (opened m f F) n h.bytes (omega (arith, h.steps)) small

opens_falls : (profile : Profile) (m : Mode) (f : Name) (T : Tree) (F : FileMap) (n : ℕ) → Falls (unopened m f T) F n 0 0 (opens_file profile m f T F).next (opens_file profile m f T F).files
opens_falls profile Input f T F n = open_from_falls (found F f) f T F n
opens_falls profile Fresh f T F n = open_into_falls profile (is_openable f) Fresh f T F n refl (λ g. omega (arith, with_size F f g [] 0 (omega arith)))
opens_falls profile Over f T F n = open_into_falls profile (is_openable f) Over f T F n refl (λ g. omega (arith, with_size F f g (bytes_of (F f)) 0 (omega arith)))

exit_falls : (run : Running) (F : FileMap) (n : ℕ) → Falls (running run) F n 0 0 done F
exit_falls run F n = even (running run) done F F n (omega arith) (omega arith) (λ f. omega arith)

module _ (profile : Profile) where
  pub falls : {X X' : Residual} {F G : FileMap} {l : Label} (n : ℕ) → Steps profile X F l X' G → taken l ≤ n → IsTidy X F → IsPlain X → Falls X F n (taken l) (length (put_out l)) X' G
  falls n (begins {F = F} {tree = T} e) few tidy plain = subst (λ X. Falls (todo T) F n 0 0 X F) (sym e) (begun_falls T F n plain)
  falls n (opens {F = F} {mode = m} {file = f} {body = T} e g) few tidy plain = transport (λ z. Falls (unopened m f T) F n 0 0 (sym e z) (sym g z)) (opens_falls profile m f T F n)
  falls n (exits {F = F} {run = run} is) few tidy plain = exit_falls run F n
  falls n (calls {F = F} {run = run} is e g) few tidy plain = transport (λ z. Falls (running run) F n 0 0 (sym e z) (sym g z)) (asks_falls run F n tidy is)
  falls n (reads {F = F} {run = run} {bytes = b} most is some room e) few tidy plain = subst (λ X. Falls (running run) F n (length b) 0 X F) (sym e) (read_falls run F n tidy most b is room few)
  falls n (reads_end {F = F} {run = run} most is e) few tidy plain = subst (λ X. Falls (running run) F n 0 0 X F) (sym e) (read_falls run F n tidy most [] is (omega arith) (omega arith))
  falls n (writes_all {F = F} {run = run} {now = now} {X = X} bytes is all e) few tidy plain =
      subst (λ (w : Bytes). Falls (running run) F n 0 (length w) X F) (sym all) (subst (λ X. Falls (running run) F n 0 (length (drop run.put bytes)) X F) (sym e) (write_falls run F n tidy bytes is))
  falls n (writes_some {F = F} {run = run} {now = now} bytes later is cut some rest e) few tidy plain = subst (λ X. Falls (running run) F n 0 (length now) X F) (sym e) (part_falls run F n tidy bytes now later is cut some)
  falls n (write_refused {F = F} {run = run} bytes is some e) few tidy plain = subst (λ X. Falls (running run) F n 0 0 X F) (sym e) (refused_falls run F n tidy bytes is)
  falls n (seq_ends {F = F} {later = T}) few tidy plain =
      let h = tree_more T n n (sizes F) (grown (sizes F) 0) (omega arith) (λ f e. omega arith) in
      even (seq done T) (todo T) F F n (omega (arith, h.bytes)) (omega (arith, h.steps)) (λ f. omega arith)
  falls n (pipe_ends {F = F} {lost = lost} {bytes = q}) few tidy plain = even (piped lost done q done) done F F n (omega arith) (omega arith) (λ f. omega arith)
  falls n (from_ends {F = F} {file = f} {at = at}) few tidy plain = even (from f at done) done F F n (omega arith) (omega arith) (λ f. omega arith)
  falls n (into_ends {F = F} {file = f} {at = at}) few tidy plain = even (into f at done) done F F n (omega arith) (omega arith) (λ f. omega arith)
  falls n (seq_steps {F = F} {G = G} {X = X} {X' = X'} {later = T} {label = l} s) few tidy plain = seq_falls X X' T F G n (taken l) (length (put_out l)) (falls n s few tidy.0 plain.0)
  falls n (left_silent {F = F} {G = G} {X = X} {X' = X'} {Y = Y} {lost = lost} {q = q} s) few tidy plain =
      left_falls lost lost X X' Y q q F G n 0 0 tidy (after profile silent s tidy.0) (omega arith) (falls n s few tidy.0 plain.0)
  falls n (left_takes {F = F} {G = G} {X = X} {X' = X'} {Y = Y} {lost = lost} {q = q} {bytes = b} s) few tidy plain =
      left_falls lost lost X X' Y q q F G n (length b) 0 tidy (after profile (takes b) s tidy.0) (omega arith) (falls n s few tidy.0 plain.0)
  falls n (left_meets_end {F = F} {G = G} {X = X} {X' = X'} {Y = Y} {lost = lost} {q = q} s) few tidy plain =
      left_falls lost lost X X' Y q q F G n 0 0 tidy (after profile meets_end s tidy.0) (omega arith) (falls n s few tidy.0 plain.0)
  falls n (left_puts {F = F} {G = G} {X = X} {X' = X'} {Y = Y} {lost = lost} {q = q} {q' = q'} {bytes = b} s e room) few tidy plain =
      left_falls lost lost X X' Y q q' F G n 0 (length b) tidy (after profile (puts b) s tidy.0) (omega (arith, ap length e, length-append q b)) (falls n s few tidy.0 plain.0)
  falls n (left_refused {F = F} {G = G} {X = X} {X' = X'} {Y = Y} {lost = lost} {q = q} s closed) few tidy plain =
      left_falls lost true X X' Y q q F G n 0 0 tidy (after profile refused s tidy.0) (omega arith) (falls n s few tidy.0 plain.0)
  falls n (right_silent {F = F} {G = G} {X = X} {Y = Y} {Y' = Y'} {lost = lost} {q = q} s) few tidy plain =
      right_falls lost X Y Y' q q F G n 0 0 tidy (after profile silent s tidy.1) (omega arith) (falls (length q + bytes_left X n (sizes F)) s (omega arith) tidy.1 plain.1)
  falls n (right_takes {F = F} {G = G} {X = X} {Y = Y} {Y' = Y'} {lost = lost} {q = q} {q' = q'} {bytes = b} s e) few tidy plain =
      let size : length b + length q' ≡ length q = omega (arith, ap length e, length-append b q') in
      right_falls lost X Y Y' q q' F G n (length b) 0 tidy (after profile (takes b) s tidy.1) size (falls (length q + bytes_left X n (sizes F)) s (omega (arith, size)) tidy.1 plain.1)
  falls n (right_meets_end {F = F} {G = G} {X = X} {Y = Y} {Y' = Y'} {lost = lost} {q = q} s none closed) few tidy plain =
      right_falls lost X Y Y' q q F G n 0 0 tidy (after profile meets_end s tidy.1) (omega arith) (falls (length q + bytes_left X n (sizes F)) s (omega arith) tidy.1 plain.1)
  falls n (right_puts {F = F} {G = G} {X = X} {Y = Y} {Y' = Y'} {lost = lost} {q = q} {bytes = b} s) few tidy plain =
      right_falls lost X Y Y' q q F G n 0 (length b) tidy (after profile (puts b) s tidy.1) (omega arith) (falls (length q + bytes_left X n (sizes F)) s (omega arith) tidy.1 plain.1)
  falls n (right_refused {F = F} {G = G} {X = X} {Y = Y} {Y' = Y'} {lost = lost} {q = q} s) few tidy plain =
      right_falls lost X Y Y' q q F G n 0 0 tidy (after profile refused s tidy.1) (omega arith) (falls (length q + bytes_left X n (sizes F)) s (omega arith) tidy.1 plain.1)
  falls n (from_silent {F = F} {G = G} {X = X} {X' = X'} {file = f} {at = at} s) few tidy plain =
      from_falls X X' f at at F G n 0 0 tidy.1 (after profile silent s tidy.0) (omega arith) (falls (sizes F f - at) s (omega arith) tidy.0 plain)
  falls n (from_takes {F = F} {G = G} {X = X} {X' = X'} {file = f} {at = at} {at' = at'} {bytes = b} more s cut e) few tidy plain =
      let size : length b ≤ sizes F f - at = omega (arith, ap length cut, length-append b more, length-drop at (bytes_of (F f))) in
      from_falls X X' f at at' F G n (length b) 0 tidy.1 (after profile (takes b) s tidy.0) e (falls (sizes F f - at) s size tidy.0 plain)
  falls n (from_meets_end {F = F} {G = G} {X = X} {X' = X'} {file = f} {at = at} s none) few tidy plain =
      from_falls X X' f at at F G n 0 0 tidy.1 (after profile meets_end s tidy.0) (omega arith) (falls (sizes F f - at) s (omega arith) tidy.0 plain)
  falls n (from_puts {F = F} {G = G} {X = X} {X' = X'} {file = f} {at = at} {bytes = b} s) few tidy plain =
      from_falls X X' f at at F G n 0 (length b) tidy.1 (after profile (puts b) s tidy.0) (omega arith) (falls (sizes F f - at) s (omega arith) tidy.0 plain)
  falls n (from_refused {F = F} {G = G} {X = X} {X' = X'} {file = f} {at = at} s) few tidy plain =
      from_falls X X' f at at F G n 0 0 tidy.1 (after profile refused s tidy.0) (omega arith) (falls (sizes F f - at) s (omega arith) tidy.0 plain)
  falls n (into_silent {F = F} {G = G} {X = X} {X' = X'} {file = f} {at = at} s) few tidy plain = into_falls X X' f at at F G G n 0 0 (as_it_was X' F G) (falls n s few tidy.0 plain)
  falls n (into_takes {F = F} {G = G} {X = X} {X' = X'} {file = f} {at = at} {bytes = b} s) few tidy plain = into_falls X X' f at at F G G n (length b) 0 (as_it_was X' F G) (falls n s few tidy.0 plain)
  falls n (into_meets_end {F = F} {G = G} {X = X} {X' = X'} {file = f} {at = at} s) few tidy plain = into_falls X X' f at at F G G n 0 0 (as_it_was X' F G) (falls n s few tidy.0 plain)
  falls n (into_puts {F = F} {G = G} {X = X} {X' = X'} {file = f} {at = at} {at' = at'} {bytes = b} s within e h) few tidy plain =
      let a = after profile (puts b) s tidy.0 in
      subst (λ H. Falls (into f at X) F n 0 0 (into f at' X') H) (sym h)
      (into_falls X X' f at at' F G (patched G f at b) n 0 (length b) (one_patched X' f at b F G (a.names f tidy.1) (a.only f (named X f tidy.1))) (falls n s few tidy.0 plain))
  falls n (into_refused {F = F} {G = G} {X = X} {X' = X'} {file = f} {at = at} s gap) few tidy plain = into_falls X X' f at at F G G n 0 0 (as_it_was X' F G) (falls n s few tidy.0 plain)
