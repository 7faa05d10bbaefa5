-- A step depends on the files that what is left names, changes those that it may write, and takes nothing of an input that it
-- doesn't use.
use Rattle.std.proofs.Common.{◌≡◌, ℕ, zero, suc, ◌+◌, Bool, true, false, [], ◌++◌, Option, Some, None, length, drop, refl, sym, ap, ◌∙◌, subst}
use Rattle.std.specs.Prelude.{◌||◌, not}
use Rattle.std.specs.Str.{bytes_eq}
use Rattle.std.proofs.lemmas.Bool.{or_left, or_right, or_from}
use Rattle.sh_tree.specs.declared.tree.Mode.{Mode}
use Rattle.sh_tree.specs.declared.tree.Mode.TheVariants.{Input, Fresh, Over}
use Rattle.sh_tree.specs.Tree.{Tree, exec, redir, pipe, list, back}
use Rattle.mem_files.specs.Name.{Name, Bytes, is_openable}
use Rattle.mem_files.specs.Files.{FileMap, bytes_of, no_files}
use Rattle.conflict_check.specs.Names.{words_read, words_write, names, writes, uses_input}
use Rattle.script_load.specs.declared.profile.Profile.{Profile}
use Rattle.user_calls.specs.declared.calls.Call.{Call}
use Rattle.user_calls.specs.declared.calls.Call.TheVariants.{Fork, Exec, Exit, Wait, MakePipe, Read, Write, OpenFile, Close, Dup}
use Rattle.user_progs.specs.State.{State}
use Rattle.tree_model.specs.Alone.{World}
use Rattle.tree_model.specs.Calls.{MayCall}
use Rattle.meaning_model.specs.Inputs.{found}
use Rattle.law_trees.proofs.programs.Elsewhere.{elsewhere, depends_alike, changes_alike}
use Rattle.tree_model.specs.Residual.{alone, Residual, done, todo, running, seq, piped, unopened, from, into, moved_on, left_names, left_writes, left_uses, keeps_0, keeps_1}
use Rattle.tree_model.specs.Begin.{run_left, unfolded, start_at, open_from, open_into, opens_file}
use Rattle.tree_model.specs.Rules.{is_gap}
use Rattle.tree_model.specs.Step.{Move, quiet, open_move, Choice, here, on_left, on_right, seq_end, piped_end, from_end, into_end, from_move, into_move, step}
use Rattle.tree_model.specs.Tidy.{IsTidy}
use Rattle.tree_model.specs.AsksItsOwn.{AsksItsOwn}
use Rattle.law_trees.proofs.trees.Acting.{run_calls}
use Rattle.law_trees.proofs.trees.CallFrame.{act_frame}
use Rattle.law_trees.proofs.trees.Effects.{act_only, act_unused}
use Rattle.law_trees.proofs.trees.Parts.{agree_opened, agree_patched, named_self, found_same, patched_other, opened_other}
use Rattle.law_trees.proofs.trees.Running.{run_named}
use Rattle.law_trees.proofs.trees.Values.{Agree, AlikeMove}
use Rattle.meaning_model.proofs.Bools.{not_left, not_right}

-- what is written is named
pub tree_named : (T : Tree) (n : Name) → names T n ≡ false → writes T n ≡ false
tree_named (exec words) n e = not_right (words_read words n) (words_write words n) e
tree_named (back T) n e = tree_named T n e
tree_named (redir Input f T) n e = tree_named T n (not_right (bytes_eq n f) (names T n) e)
tree_named (redir Fresh f T) n e = or_from (bytes_eq n f) (writes T n) (not_left (bytes_eq n f) (names T n) e) (tree_named T n (not_right (bytes_eq n f) (names T n) e))
tree_named (redir Over f T) n e = or_from (bytes_eq n f) (writes T n) (not_left (bytes_eq n f) (names T n) e) (tree_named T n (not_right (bytes_eq n f) (names T n) e))
tree_named (list A B) n e = or_from (writes A n) (writes B n) (tree_named A n (not_left (names A n) (names B n) e)) (tree_named B n (not_right (names A n) (names B n) e))
tree_named (pipe A B) n e = or_from (writes A n) (writes B n) (tree_named A n (not_left (names A n) (names B n) e)) (tree_named B n (not_right (names A n) (names B n) e))

pub named : (X : Residual) (n : Name) → left_names X n ≡ false → left_writes X n ≡ false
named done n e = refl
named (todo T) n e = tree_named T n e
named (running run) n e = run_named run n e
named (seq X T) n e = or_from (left_writes X n) (writes T n) (named X n (not_left (left_names X n) (names T n) e)) (tree_named T n (not_right (left_names X n) (names T n) e))
named (piped b X q Y) n e = or_from (left_writes X n) (left_writes Y n) (named X n (not_left (left_names X n) (left_names Y n) e)) (named Y n (not_right (left_names X n) (left_names Y n) e))
named (unopened m f T) n e = tree_named (redir m f T) n e
named (from f at X) n e = named X n (not_right (bytes_eq n f) (left_names X n) e)
named (into f at X) n e = or_from (bytes_eq n f) (left_writes X n) (not_left (bytes_eq n f) (left_names X n) e) (named X n (not_right (bytes_eq n f) (left_names X n) e))

-- what a program may call follows from its state and its open files
pub may_elsewhere : (call : Call) (state : State) (w : World) (i : Bytes) (G : FileMap) → MayCall call state w → MayCall call state (elsewhere w i G)
may_elsewhere Fork state w i G may = may
may_elsewhere (Exec is_known) state w i G may = may
may_elsewhere Exit state w i G may = may
may_elsewhere Wait state w i G may = may
may_elsewhere MakePipe state w i G may = may
may_elsewhere (Read zero most) state w i G may = may
may_elsewhere (Read (suc fd) most) state w i G may =
    let own = may.2 in (may.0, may.1, record { own = own.own; held = own.held; mode = own.mode; named = depends_alike state w i G own.own.name ∙ own.named })
may_elsewhere (Write zero bytes) state w i G may = may
may_elsewhere (Write (suc zero) bytes) state w i G may = may
may_elsewhere (Write (suc (suc zero)) bytes) state w i G may = may
may_elsewhere (Write (suc (suc (suc fd))) bytes) state w i G may =
    record { own = may.own; held = may.held; mode = may.mode; named = changes_alike state w i G may.own.name ∙ may.named }
may_elsewhere (OpenFile name mode) state w i G may = may
may_elsewhere (Close fd) state w i G may = may
may_elsewhere (Dup fd) state w i G may = may

pub tidy_asks : (X : Residual) (F : FileMap) → IsTidy X F → AsksItsOwn X
tidy_asks done F d = tt
tidy_asks (todo T) F d = tt
tidy_asks (running run) F d = may_elsewhere run.turn.call run.turn.next (alone run F) [] no_files (run_calls run [] F d)
tidy_asks (seq X T) F d = tidy_asks X F d.0
tidy_asks (piped b X q Y) F d = (tidy_asks X F d.0, tidy_asks Y F d.1)
tidy_asks (unopened m f T) F d = tt
tidy_asks (from f at X) F d = tidy_asks X F d.0
tidy_asks (into f at X) F d = tidy_asks X F d.0

-- a step among other files that agree on the names
alike_stay : (N : Name → Type 0) (X : Residual) (F G : FileMap) → Agree N F G → AlikeMove N (quiet X F) (quiet X G)
alike_stay N X F G h = record { wrote = refl; refused = refl; took = refl; next = refl; files = h }

alike_from_move : (N : Name → Type 0) (f : Name) (at : ℕ) (m k : Move Residual) → AlikeMove N m k → AlikeMove N (from_move f at m) (from_move f at k)
alike_from_move N f at m k a = record { wrote = a.wrote; refused = a.refused; took = refl; next = λ t. from f (at + a.took t) (a.next t); files = a.files }

module _ (profile : Profile) where
  alike_from : (N : Name → Type 0) (o p : Option Bytes) (f : Name) (T : Tree) (F G : FileMap) → o ≡ p → Agree N F G → AlikeMove N (open_move (open_from o f T F)) (open_move (open_from p f T G))
  alike_from N o p f T F G e h = subst (λ x. AlikeMove N (open_move (open_from o f T F)) (open_move (open_from x f T G))) e (go o)
    where
      go : (o : Option Bytes) → AlikeMove N (open_move (open_from o f T F)) (open_move (open_from o f T G))
      go None = alike_stay N done F G h
      go (Some b) = alike_stay N (from f 0 (todo T)) F G h

  alike_into : (N : Name → Type 0) (t : Bool) (m : Mode) (f : Name) (T : Tree) (F G : FileMap) → N f → Agree N F G → AlikeMove N (open_move (open_into profile t m f T F)) (open_move (open_into profile t m f T G))
  alike_into N false m f T F G nf h = alike_stay N done F G h
  alike_into N true m f T F G nf h = record {
    wrote = refl;
    refused = refl;
    took = refl;
    next = λ t. into f (start_at profile m) (todo T);
    files = agree_opened N m F G f nf h;
  }

  pub alike_opens : (N : Name → Type 0) (m : Mode) (f : Name) (T : Tree) (F G : FileMap) → N f → Agree N F G → AlikeMove N (open_move (opens_file profile m f T F)) (open_move (opens_file profile m f T G))
  alike_opens N Input f T F G nf h = alike_from N (found F f) (found G f) f T F G (found_same f F G (h.at f nf)) h
  alike_opens N Fresh f T F G nf h = alike_into N (is_openable f) Fresh f T F G nf h
  alike_opens N Over f T F G nf h = alike_into N (is_openable f) Over f T F G nf h

  pub step_frame : (N : Name → Type 0) (X : Residual) (c : Choice) (cl en : Bool) (i : Bytes) (F G : FileMap) → IsTidy X F → ((n : Name) → left_names X n ≡ true → N n) → Agree N F G → AlikeMove N (step profile X c cl en i F) (step profile X c cl en i G)
  step_frame N done c cl en i F G d sub h = alike_stay N done F G h
  step_frame N (todo T) c cl en i F G d sub h = alike_stay N (unfolded T) F G h
  step_frame N (running run) (here k) cl en i F G d sub h =
      let a = act_frame N run k cl en i F G (run_calls run [] F d) (λ n e. sub n (depends_alike run.turn.next (alone run F) [] no_files n ∙ e)) h in
      record { wrote = a.wrote; refused = a.refused; took = a.took; next = ap run_left a.next; files = a.files }
  step_frame N (running run) (on_left c) cl en i F G d sub h = alike_stay N (running run) F G h
  step_frame N (running run) (on_right c) cl en i F G d sub h = alike_stay N (running run) F G h
  step_frame N (seq X T) (here k) cl en i F G d sub h = alike_stay N (seq_end X T) F G h
  step_frame N (seq X T) (on_left c) cl en i F G d sub h =
      let a = step_frame N X c cl en i F G d.0 (λ n e. sub n (or_left (left_names X n) (names T n) e)) h in
      record { wrote = a.wrote; refused = a.refused; took = a.took; next = ap (λ Y. seq Y T) a.next; files = a.files }
  step_frame N (seq X T) (on_right c) cl en i F G d sub h = alike_stay N (seq X T) F G h
  step_frame N (piped b X q Y) (here k) cl en i F G d sub h = alike_stay N (piped_end b X q Y) F G h
  step_frame N (piped b X q Y) (on_left c) cl en i F G d sub h =
      let a = step_frame N X c (not (keeps_0 Y)) en i F G d.0 (λ n e. sub n (or_left (left_names X n) (left_names Y n) e)) h in
      record { wrote = refl; refused = refl; took = a.took; next = λ t. piped (b || a.refused t) (a.next t) (q ++ a.wrote t) Y; files = a.files }
  step_frame N (piped b X q Y) (on_right c) cl en i F G d sub h =
      let a = step_frame N Y c cl (not (keeps_1 X)) q F G d.1 (λ n e. sub n (or_right (left_names X n) (left_names Y n) e)) h in
      record { wrote = a.wrote; refused = a.refused; took = refl; next = λ t. piped b X (drop (a.took t) q) (a.next t); files = a.files }
  step_frame N (unopened m f T) c cl en i F G d sub h = alike_opens N m f T F G (sub f (named_self f (names T f))) h
  step_frame N (from f at X) (here k) cl en i F G d sub h = alike_stay N (from_end f at X) F G h
  step_frame N (from f at X) (on_left c) cl en i F G d sub h =
      let e = h.at f (sub f (named_self f (left_names X f))) in
      let a = step_frame N X c cl true (drop at (bytes_of (F f))) F G d.0 (λ n g. sub n (or_right (bytes_eq n f) (left_names X n) g)) h in
      let R : Option Bytes → Type 0 = λ o. AlikeMove N (step profile X c cl true (drop at (bytes_of (F f))) F) (step profile X c cl true (drop at (bytes_of o)) G) in
      alike_from_move N f at _ _ (subst R e a)
  step_frame N (from f at X) (on_right c) cl en i F G d sub h = alike_stay N (from f at X) F G h
  step_frame N (into f at X) (here k) cl en i F G d sub h = alike_stay N (into_end f at X) F G h
  step_frame N (into f at X) (on_left c) cl en i F G d sub h =
      let e = h.at f (sub f (named_self f (left_names X f))) in
      let a = step_frame N X c (is_gap (F f) at) en i F G d.0 (λ n g. sub n (or_right (bytes_eq n f) (left_names X n) g)) h in
      subst (λ z. AlikeMove N (into_move f at (step profile X c (is_gap (F f) at) en i F)) (into_move f at (step profile X c z en i G))) (ap (λ b. is_gap b at) e)
      (record { wrote = refl; refused = refl; took = a.took; next = λ t. into f (moved_on at (length (a.wrote t))) (a.next t); files = agree_patched N _ _ f at _ _ a.files a.wrote })
  step_frame N (into f at X) (on_right c) cl en i F G d sub h = alike_stay N (into f at X) F G h

  -- the files that it changes
  from_only : (o : Option Bytes) (f : Name) (T : Tree) (F : FileMap) (n : Name) → (open_from o f T F).files n ≡ F n
  from_only None f T F n = refl
  from_only (Some b) f T F n = refl

  into_only : (t : Bool) (m : Mode) (f : Name) (T : Tree) (F : FileMap) (n : Name) → bytes_eq n f ≡ false → (open_into profile t m f T F).files n ≡ F n
  into_only false m f T F n e = refl
  into_only true m f T F n e = opened_other m F f n e

  opens_only : (m : Mode) (f : Name) (T : Tree) (F : FileMap) (n : Name) → writes (redir m f T) n ≡ false → (opens_file profile m f T F).files n ≡ F n
  opens_only Input f T F n e = from_only (found F f) f T F n
  opens_only Fresh f T F n e = into_only (is_openable f) Fresh f T F n (not_left (bytes_eq n f) (writes T n) e)
  opens_only Over f T F n e = into_only (is_openable f) Over f T F n (not_left (bytes_eq n f) (writes T n) e)

  pub own_only : (X : Residual) (c : Choice) (cl en : Bool) (i : Bytes) (F : FileMap) (n : Name) → AsksItsOwn X → left_writes X n ≡ false → (step profile X c cl en i F).files n ≡ F n
  own_only (running run) (here k) cl en i F n d e = act_only run k cl en i F n (may_elsewhere run.turn.call run.turn.next (alone run no_files) [] F d) (sym (changes_alike run.turn.next (alone run F) [] no_files n) ∙ e)
  own_only (seq X T) (on_left c) cl en i F n d e = own_only X c cl en i F n d (not_left (left_writes X n) (writes T n) e)
  own_only (piped b X q Y) (on_left c) cl en i F n d e = own_only X c (not (keeps_0 Y)) en i F n d.0 (not_left (left_writes X n) (left_writes Y n) e)
  own_only (piped b X q Y) (on_right c) cl en i F n d e = own_only Y c cl (not (keeps_1 X)) q F n d.1 (not_right (left_writes X n) (left_writes Y n) e)
  own_only (unopened m f T) c cl en i F n d e = opens_only m f T F n e
  own_only (from f at X) (on_left c) cl en i F n d e = own_only X c cl true (drop at (bytes_of (F f))) F n d e
  own_only (into f at X) (on_left c) cl en i F n d e =
      let m = step profile X c (is_gap (F f) at) en i F in
      patched_other m.files f n at m.wrote (not_left (bytes_eq n f) (left_writes X n) e) ∙ own_only X c (is_gap (F f) at) en i F n d (not_right (bytes_eq n f) (left_writes X n) e)
  own_only X c cl en i F n d e = refl

  pub step_only : (X : Residual) (c : Choice) (cl en : Bool) (i : Bytes) (F : FileMap) (n : Name) → IsTidy X F → left_writes X n ≡ false → (step profile X c cl en i F).files n ≡ F n
  step_only X c cl en i F n d e = own_only X c cl en i F n (tidy_asks X F d) e

  -- what it takes of the input
  pub step_unused : (X : Residual) (c : Choice) (cl en : Bool) (i : Bytes) (F : FileMap) → IsTidy X F → left_uses X ≡ false → (step profile X c cl en i F).took ≡ 0
  step_unused (running run) (here k) cl en i F d e = act_unused run k cl en i F (run_calls run [] F d) e
  step_unused (seq X T) (on_left c) cl en i F d e = step_unused X c cl en i F d.0 (not_left (left_uses X) (uses_input T) e)
  step_unused (piped b X q Y) (on_left c) cl en i F d e = step_unused X c (not (keeps_0 Y)) en i F d.0 e
  step_unused (unopened m f T) c cl en i F d e = refl
  step_unused (from f at X) (on_left c) cl en i F d e = refl
  step_unused (into f at X) (on_left c) cl en i F d e = step_unused X c (is_gap (F f) at) en i F d.0 e
  step_unused X c cl en i F d e = refl
