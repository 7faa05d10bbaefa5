-- What is left of a command depends on the files that it names alone, and it changes those that it writes alone; where it is
-- tidy with some files, it is so with others that agree on its names.
use Rattle.std.proofs.Common.{sym, ◌≡◌, Bool, true, false, [], ◌++◌, drop, refl, ◌∙◌, subst}
use Rattle.std.specs.Str.{bytes_eq}
use Rattle.std.proofs.lemmas.Bool.{or_left, or_right}
use Rattle.sh_tree.specs.Tree.{redir}
use Rattle.mem_files.specs.Name.{Name, Bytes}
use Rattle.mem_files.specs.Files.{FileMap, bytes_of, no_files}
use Rattle.conflict_check.specs.Names.{names, writes, uses_input}
use Rattle.script_load.specs.declared.profile.Profile.{Profile}
use Rattle.meaning_model.specs.Meaning.{meaning}
use Rattle.meaning_model.specs.Met.{met_names}
use Rattle.tree_model.specs.Ahead.{still_writes}
use Rattle.tree_model.specs.Frame.{depends_on, holds_to_write, may_change}
use Rattle.law_trees.proofs.programs.Elsewhere.{depends_alike, depends_first, waits_agree, fits_elsewhere}
use Rattle.tree_model.specs.Residual.{Running, alone, Residual, done, todo, running, seq, piped, unopened, from, into, left_names, left_writes, left_uses}
use Rattle.tree_model.specs.Final.{final, left_met}
use Rattle.tree_model.specs.Tidy.{IsThere, IsTidy}
use Rattle.law_trees.proofs.trees.Bools.{back}
use Rattle.law_trees.proofs.trees.Parts.{named_self, patched_other, pipe_files, alike_patch}
use Rattle.law_trees.proofs.trees.Running.{run_frame, run_only}
use Rattle.law_trees.proofs.trees.TreeFrame.{tree_frame, tree_only}
use Rattle.law_trees.proofs.trees.Values.{Agree, Alike, alike_nothing, alike_seq, alike_pipe, alike_from, alike_then}
use Rattle.meaning_model.proofs.Bools.{apart, not_left, not_right}

-- what is tidy with some files is so with others that agree on its names
held_depends : (run : Running) (F : FileMap) (n : Name) → holds_to_write run.turn.next (alone run F) n ≡ true → depends_on run.turn.next (alone run F) n ≡ true
held_depends run F n e =
    back (may_change run.turn.next (alone run F) n) (depends_on run.turn.next (alone run F) n) (depends_first run.turn.next (alone run F) n)
    (or_right (still_writes run.turn.next n) (holds_to_write run.turn.next (alone run F) n) e)

pub tidy_agree : (X : Residual) (F G : FileMap) → ((n : Name) → left_names X n ≡ true → F n ≡ G n) → IsTidy X F → IsTidy X G
tidy_agree done F G agree h = tt
tidy_agree (todo T) F G agree h = h
tidy_agree (running run) F G agree h =
    let named = λ (n : Name) (e : depends_on run.turn.next (alone run F) n ≡ true). agree n (depends_alike run.turn.next (alone run F) [] no_files n ∙ e) in
    (waits_agree run.turn.next run.turn.call (alone run F) [] G h.0 named, fits_elsewhere run.turn.next (alone run F) [] G h.1 (λ n e. named n (held_depends run F n e)))
tidy_agree (seq X B) F G agree h = (tidy_agree X F G (λ n e. agree n (or_left (left_names X n) (names B n) e)) h.0, h.1)
tidy_agree (piped l X q Y) F G agree h = (
  tidy_agree X F G (λ n e. agree n (or_left (left_names X n) (left_names Y n) e)) h.0,
  tidy_agree Y F G (λ n e. agree n (or_right (left_names X n) (left_names Y n) e)) h.1,
  h.2,
  h.3,
  h.4,
)
tidy_agree (unopened m f T) F G agree h = h
tidy_agree (from f at X) F G agree h = (tidy_agree X F G (λ n e. agree n (or_right (bytes_eq n f) (left_names X n) e)) h.0, h.1)
tidy_agree (into f at X) F G agree h =
    (tidy_agree X F G (λ n e. agree n (or_right (bytes_eq n f) (left_names X n) e)) h.0, h.1, subst (λ b. IsThere b at) (agree f (named_self f (left_names X f))) h.2)

module _ (profile : Profile) where
  pub only : (X : Residual) (i : Bytes) (F : FileMap) (n : Name) → IsTidy X F → left_writes X n ≡ false → (final profile X i F).files n ≡ F n
  only done i F n h e = refl
  only (todo T) i F n h e = tree_only profile T i F n h.1 e
  only (running run) i F n h e = run_only run i F n h e
  only (seq X B) i F n h e =
      let v = final profile X i F in
      tree_only profile B v.rest v.files n h.1.1 (not_right (left_writes X n) (writes B n) e) ∙ only X i F n h.0 (not_left (left_writes X n) (writes B n) e)
  only (piped c X q Y) i F n h e =
      let v = final profile X i F in
      let right = tidy_agree Y F v.files (λ m g. sym (only X i F m h.0 (apart (left_writes X m) (left_names Y m) (h.2 m) g))) h.1 in
      pipe_files c (left_writes X) (left_uses X) v (final profile Y (q ++ v.out) v.files) n ∙ only Y (q ++ v.out) v.files n right (not_right (left_writes X n) (left_writes Y n) e) ∙ only X i F n h.0 (not_left (left_writes X n) (left_writes Y n) e)
  only (unopened m f T) i F n h e = tree_only profile (redir m f T) i F n h.1 e
  only (from f at X) i F n h e = only X (drop at (bytes_of (F f))) F n h.0 e
  only (into f at X) i F n h e =
      patched_other (final profile X i F).files f n at (final profile X i F).out (not_left (bytes_eq n f) (left_writes X n) e) ∙ only X i F n h.0 (not_right (bytes_eq n f) (left_writes X n) e)

  pub right_tidy : (c : Bool) (X : Residual) (q : Bytes) (Y : Residual) (i : Bytes) (F : FileMap) → IsTidy (piped c X q Y) F → IsTidy Y (final profile X i F).files
  right_tidy c X q Y i F h = tidy_agree Y F (final profile X i F).files (λ m g. sym (only X i F m h.0 (apart (left_writes X m) (left_names Y m) (h.2 m) g))) h.1

  pub frame : (N : Name → Type 0) (X : Residual) (i : Bytes) (F G : FileMap) → IsTidy X F → ((n : Name) → left_names X n ≡ true → N n) → Agree N F G → Alike N (final profile X i F) (final profile X i G) (left_met profile X i F) (left_met profile X i G)
  frame N done i F G h sub a = alike_nothing N i F G a
  frame N (todo T) i F G h sub a = tree_frame profile N T i F G h.1 sub a
  frame N (running run) i F G h sub a = run_frame N run i F G h sub a
  frame N (seq X B) i F G h sub g =
      let a = frame N X i F G h.0 (λ n e. sub n (or_left (left_names X n) (names B n) e)) g in
      let v = final profile X i F in
      let w = final profile X i G in
      let b = tree_frame profile N B v.rest v.files w.files h.1.1 (λ n e. sub n (or_right (left_names X n) (names B n) e)) a.files in
      alike_seq N (names B) (uses_input B) v w _ _ a (alike_then N (meaning profile B) (met_names profile B) v.rest w.rest v.files w.files a.rest b)
  frame N (piped c X q Y) i F G h sub g =
      let a = frame N X i F G h.0 (λ n e. sub n (or_left (left_names X n) (left_names Y n) e)) g in
      let v = final profile X i F in
      let w = final profile X i G in
      let b = frame N Y (q ++ v.out) v.files w.files (right_tidy c X q Y i F h) (λ n e. sub n (or_right (left_names X n) (left_names Y n) e)) a.files in
      alike_pipe N c (left_writes X) (left_uses X) v w _ _ a (alike_then N (λ o. final profile Y (q ++ o)) (λ o. left_met profile Y (q ++ o)) v.out w.out v.files w.files a.out b)
  frame N (unopened m f T) i F G h sub a = tree_frame profile N (redir m f T) i F G h.1 sub a
  frame N (from f at X) i F G h sub g =
      let e = g.at f (sub f (named_self f (left_names X f))) in
      let a = frame N X (drop at (bytes_of (F f))) F G h.0 (λ n e. sub n (or_right (bytes_eq n f) (left_names X n) e)) g in
      alike_from N i _ _ (alike_then N (λ o. final profile X (drop at (bytes_of o))) (λ o. left_met profile X (drop at (bytes_of o))) (F f) (G f) F G e a)
  frame N (into f at X) i F G h sub g =
      let a = frame N X i F G h.0 (λ n e. sub n (or_right (bytes_eq n f) (left_names X n) e)) g in
      alike_patch N f at (final profile X i F) (final profile X i G) a
