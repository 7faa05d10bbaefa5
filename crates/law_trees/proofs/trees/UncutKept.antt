-- Where no pipe is cut, each step leaves it so, and no write is refused to the left side of a pipe.
use Rattle.std.proofs.Common.{◌≡◌, ◌∙◌, ℕ, ◌+◌, Bool, true, false, [], ◌++◌, drop, Option, Some, None, refl, sym, ap, subst, append_assoc, append-nil, drop-drop}
use Rattle.std.specs.Prelude.{◌||◌, not, IfSome}
use Rattle.std.specs.Str.{bytes_eq}
use Rattle.std.proofs.lemmas.Slice.Eq.{bytes_eq-Decides}
use mathlib.Core.Path.{fun_ext, transport}
use Rattle.std.proofs.lemmas.Bool.{or_from, false_from_ne_true, not-true, not-false}
use Rattle.sh_tree.specs.declared.tree.Mode.{Mode}
use Rattle.sh_tree.specs.declared.tree.Mode.TheVariants.{Input, Fresh, Over}
use Rattle.sh_tree.specs.Tree.{Tree, exec, redir, pipe, list, back}
use Rattle.mem_files.specs.Name.{Name, Bytes, is_openable}
use Rattle.mem_files.specs.Files.{FileMap, bytes_of}
use Rattle.prog_parts.specs.Program.{is_empty}
use Rattle.script_load.specs.declared.profile.Profile.{Profile}
use Rattle.meaning_model.specs.Inputs.{found}
use Rattle.meaning_model.specs.Meaning.{opened}
use Rattle.meaning_model.specs.Value.{is_cut}
use Rattle.law_trees.proofs.programs.Keeps.{found_is}
use Rattle.tree_model.specs.Residual.{Running, Residual, done, todo, running, seq, piped, unopened, from, into, Position, left_names, left_writes, keeps_0, keeps_1}
use Rattle.tree_model.specs.Begin.{run_left, begun_words, unfolded, open_from, open_into, opens_file}
use Rattle.tree_model.specs.Rules.{patched, is_gap}
use Rattle.tree_model.specs.Step.{Choice, here, on_left, on_right, acts, seq_end, piped_end, from_end, into_end, step}
use Rattle.tree_model.specs.Final.{final}
use Rattle.tree_model.specs.Tidy.{IsTidy}
use Rattle.tree_model.specs.Uncut.{IsUncut, has_lost}
use Rattle.law_trees.proofs.trees.Bools.{not_both}
use Rattle.law_trees.proofs.trees.Frame.{right_tidy}
use Rattle.law_trees.proofs.trees.Joins.{less_cut}
use Rattle.law_trees.proofs.trees.Keep.{keeps, no_gap_there}
use Rattle.law_trees.proofs.trees.Parts.{patched_other}
use Rattle.law_trees.proofs.trees.PipeKept.{beside, refused_out, right_alike, right_files, some_behind}
use Rattle.law_trees.proofs.trees.Smaller.{smaller, refused_closed}
use Rattle.law_trees.proofs.trees.StepFrame.{step_only}
use Rattle.law_trees.proofs.trees.StepTidy.{step_tidy}
use Rattle.law_trees.proofs.trees.Unused.{closed_0, closed_1}
use Rattle.law_trees.proofs.trees.UncutFrame.{IsUncutLeft, left_firm, left_uncut}
use Rattle.meaning_model.proofs.Bools.{apart, not_left}

run_uncut : (profile : Profile) (o : Option Running) (i : Bytes) (F : FileMap) → IsUncutLeft profile (run_left o) i F
run_uncut profile None i F = tt
run_uncut profile (Some run) i F = tt

module _ (profile : Profile) where
  unfolded_uncut : (T : Tree) (i : Bytes) (F : FileMap) → IsUncut profile T i F → IsUncutLeft profile (unfolded T) i F
  unfolded_uncut (exec words) i F h = run_uncut profile (begun_words words) i F
  unfolded_uncut (redir m f T) i F h = h
  unfolded_uncut (pipe A B) i F h = (refl, h.0, h.1, h.2)
  unfolded_uncut (list A B) i F h = h
  unfolded_uncut (back T) i F h = h

  opens_uncut : (m : Mode) (f : Name) (T : Tree) (i : Bytes) (F : FileMap) → IsUncut profile (redir m f T) i F → IsUncutLeft profile (opens_file profile m f T F).next i (opens_file profile m f T F).files
  opens_uncut Input f T i F h = go (found F f) refl h
    where
      go : (o : Option Bytes) → found F f ≡ o → IfSome o (λ b. IsUncut profile T b F) → IsUncutLeft profile (open_from o f T F).next i (open_from o f T F).files
      go None e h = tt
      go (Some b) e h = subst (λ z. IsUncut profile T (drop 0 z) F) (sym (ap bytes_of (found_is F f b e))) h
  opens_uncut Fresh f T i F h = go (is_openable f) h
    where
      go : (b : Bool) → (b ≡ true → IsUncut profile T i (opened Fresh f F)) → IsUncutLeft profile (open_into profile b Fresh f T F).next i (open_into profile b Fresh f T F).files
      go false h = tt
      go true h = h refl
  opens_uncut Over f T i F h = go (is_openable f) h
    where
      go : (b : Bool) → (b ≡ true → IsUncut profile T i (opened Over f F)) → IsUncutLeft profile (open_into profile b Over f T F).next i (open_into profile b Over f T F).files
      go false h = tt
      go true h = h refl

  -- a write that could be refused would leave its bytes unread, and cut the pipe
  none_refused : (l : Bool) (X : Residual) (q : Bytes) (Y : Residual) (c : Choice) (en : Bool) (i t : Bytes) (F : FileMap) → IsTidy (piped l X q Y) F → IsUncutLeft profile (piped l X q Y) (i ++ t) F → (step profile X c (not (keeps_0 Y)) en i F).refused ≡ false
  none_refused l X q Y c en i t F d h =
      let v = final profile X (i ++ t) F in
      let j = q ++ v.out in
      let y = final profile Y j v.files in
      false_from_ne_true (step profile X c (not (keeps_0 Y)) en i F).refused
      (λ e.
      let closed = not-true (keeps_0 Y) (refused_closed profile X c (not (keeps_0 Y)) en i F e) in
      let rest : y.rest ≡ j = ap (λ x. x.rest) (closed_0 profile Y j j v.files closed).same in
      let some = some_behind q v.out (refused_out profile X c (not (keeps_0 Y)) en i t F d.0 e) in
      not_both (is_empty y.rest) (not-false (is_empty y.rest) (not_left (not (is_empty y.rest)) y.loose h.3)) (ap is_empty rest ∙ some))

  seq_end_uncut : (X : Residual) (T : Tree) (i : Bytes) (F : FileMap) → IsUncutLeft profile (seq X T) i F → IsUncutLeft profile (seq_end X T) i F
  seq_end_uncut done T i F h = h.1
  seq_end_uncut X T i F h = h

  piped_end_uncut : (l : Bool) (X : Residual) (q : Bytes) (Y : Residual) (i : Bytes) (F : FileMap) → IsUncutLeft profile (piped l X q Y) i F → IsUncutLeft profile (piped_end l X q Y) i F
  piped_end_uncut l done q done i F h = tt
  piped_end_uncut l X q Y i F h = h

  from_end_uncut : (f : Name) (at : ℕ) (X : Residual) (i : Bytes) (F : FileMap) → IsUncutLeft profile (from f at X) i F → IsUncutLeft profile (from_end f at X) i F
  from_end_uncut f at done i F h = tt
  from_end_uncut f at X i F h = h

  into_end_uncut : (f : Name) (at : Position) (X : Residual) (i : Bytes) (F : FileMap) → IsUncutLeft profile (into f at X) i F → IsUncutLeft profile (into_end f at X) i F
  into_end_uncut f at done i F h = tt
  into_end_uncut f at X i F h = h

  pub step_uncut : (X : Residual) (c : Choice) (cl en : Bool) (i t : Bytes) (F : FileMap) → IsTidy X F → (en ≡ true → t ≡ []) → (step profile X c cl en i F).refused ≡ false → IsUncutLeft profile X (i ++ t) F →
      IsUncutLeft profile (step profile X c cl en i F).next (drop (step profile X c cl en i F).took i ++ t) (step profile X c cl en i F).files
  step_uncut done c cl en i t F d he r h = tt
  step_uncut (todo T) c cl en i t F d he r h = unfolded_uncut T (i ++ t) F h
  step_uncut (running run) (here k) cl en i t F d he r h = run_uncut profile (acts run k cl en i F).next _ _
  step_uncut (running run) (on_left c) cl en i t F d he r h = tt
  step_uncut (running run) (on_right c) cl en i t F d he r h = tt
  step_uncut (seq X T) (here k) cl en i t F d he r h = seq_end_uncut X T (i ++ t) F h
  step_uncut (seq X T) (on_left c) cl en i t F d he r h =
      let m = step profile X c cl en i F in
      let v = final profile X (i ++ t) F in
      let firm = left_firm profile X (i ++ t) F h.0 in
      let k = keeps profile X c cl en i t F d.0 he firm.met r in
      let files : v.files ≡ (final profile m.next (drop m.took i ++ t) m.files).files = fun_ext (λ n. k.files.at n (firm.soft n)) in
      (step_uncut X c cl en i t F d.0 he r h.0, transport (λ z. IsUncut profile T (k.rest firm.loose z) (files z)) h.1)
  step_uncut (seq X T) (on_right c) cl en i t F d he r h = h
  step_uncut (piped l X q Y) (here k) cl en i t F d he r h = piped_end_uncut l X q Y (i ++ t) F h
  step_uncut (piped l X q Y) (on_left c) cl en i t F d he r h =
      let z = not (keeps_0 Y) in
      let m = step profile X c z en i F in
      let v = final profile X (i ++ t) F in
      let v' = final profile m.next (drop m.took i ++ t) m.files in
      let none = none_refused l X q Y c en i t F d h in
      let firm = left_firm profile X (i ++ t) F h.1 in
      let k = keeps profile X c z en i t F d.0 he firm.met none in
      let files : v.files ≡ v'.files = fun_ext (λ n. k.files.at n (firm.soft n)) in
      let out : q ++ v.out ≡ (q ++ m.wrote) ++ v'.out = ap (λ x. q ++ x) k.out ∙ sym (append_assoc q m.wrote v'.out) in (
        or_from l m.refused h.0 none,
        step_uncut X c z en i t F d.0 he none h.1,
        transport (λ z. IsUncutLeft profile Y (out z) (files z)) h.2,
        transport (λ z. is_cut (final profile Y (out z) (files z)) ≡ false) h.3,
      )
  step_uncut (piped l X q Y) (on_right c) cl en i t F d he r h =
      let z = not (keeps_1 X) in
      let m = step profile Y c cl z q F in
      let v = final profile X (i ++ t) F in
      let m1 = step profile Y c cl z q v.files in
      let dy = right_tidy profile l X q Y (i ++ t) F d in
      let bs = beside profile l X Y q c cl (i ++ t) F d in
      let a = right_alike profile l X q Y c cl (i ++ t) F d in
      let fs = right_files profile l X q Y c cl (i ++ t) F d in
      let ends = λ (e : z ≡ true). closed_1 profile X (i ++ t) F (not-true (keeps_1 X) e) in
      let k = keeps profile Y c cl z q v.out v.files dy ends ((left_firm profile Y (q ++ v.out) v.files h.2).met) (sym bs.refused ∙ r) in
      let u = step_uncut Y c cl z q v.out v.files dy ends (sym bs.refused ∙ r) h.2 in
      let cut = less_cut (final profile Y (q ++ v.out) v.files) (final profile m1.next (drop m1.took q ++ v.out) m1.files) m1.wrote k h.3 in
      let nx = sym bs.next in
      let tk = sym bs.took in (
        h.0,
        left_uncut profile (λ n. left_writes Y n ≡ false) X (i ++ t) F m.files d.0 (λ n e. apart (left_writes Y n) (left_names X n) (d.3 n) e) (record { at = λ n e. sym (step_only profile Y c cl z q F n d.1 e) }) h.1,
        transport (λ z. IsUncutLeft profile (nx z) (drop (tk z) q ++ a.out z) (fs z)) u,
        transport (λ z. is_cut (final profile (nx z) (drop (tk z) q ++ a.out z) (fs z)) ≡ false) cut,
      )
  step_uncut (unopened m f T) c cl en i t F d he r h = opens_uncut m f T (i ++ t) F h
  step_uncut (from f at X) (here k) cl en i t F d he r h = from_end_uncut f at X (i ++ t) F h
  step_uncut (from f at X) (on_left c) cl en i t F d he r h =
      let b = drop at (bytes_of (F f)) in
      let m = step profile X c cl true b F in
      let e1 : b ++ [] ≡ b = append-nil b in
      let e2 : drop m.took b ++ [] ≡ drop (at + m.took) (bytes_of (m.files f)) =
      append-nil (drop m.took b) ∙ drop-drop m.took at (bytes_of (F f)) ∙ ap (λ o. drop (at + m.took) (bytes_of o)) (sym (step_only profile X c cl true b F f d.0 d.1)) in
      subst (λ j. IsUncutLeft profile m.next j m.files) e2 (step_uncut X c cl true b [] F d.0 (λ e. refl) r (subst (λ j. IsUncutLeft profile X j F) (sym e1) h))
  step_uncut (from f at X) (on_right c) cl en i t F d he r h = h
  step_uncut (into f at X) (here k) cl en i t F d he r h = into_end_uncut f at X (i ++ t) F h
  step_uncut (into f at X) (on_left c) cl en i t F d he r h =
      let z = is_gap (F f) at in
      let m = step profile X c z en i F in
      let none = false_from_ne_true m.refused (λ e. not_both z (refused_closed profile X c z en i F e) (no_gap_there (F f) at d.2)) in
      let nf = (smaller profile X c z en i F d.0).names f d.1 in
      left_uncut profile (λ n. bytes_eq n f ≡ false) m.next (drop m.took i ++ t) m.files (patched m.files f at m.wrote) (step_tidy profile X c z en i F d.0)
      (λ n e. unnamed m.next n e nf) (record { at = λ n e. sym (patched_other m.files f n at m.wrote e) }) (step_uncut X c z en i t F d.0 he none h)
    where
      unnamed : (Z : Residual) (n : Name) → left_names Z n ≡ true → left_names Z f ≡ false → bytes_eq n f ≡ false
      unnamed Z n e nf = false_from_ne_true (bytes_eq n f) (λ g. not_both (left_names Z n) e (subst (λ x. left_names Z x ≡ false) (sym ((bytes_eq-Decides n f).0 g)) nf))
  step_uncut (into f at X) (on_right c) cl en i t F d he r h = h

  pub uncut_lost : (X : Residual) (i : Bytes) (F : FileMap) → IsUncutLeft profile X i F → has_lost X ≡ false
  uncut_lost done i F h = refl
  uncut_lost (todo T) i F h = refl
  uncut_lost (running run) i F h = refl
  uncut_lost (seq X T) i F h = uncut_lost X i F h.0
  uncut_lost (piped l X q Y) i F h =
      let v = final profile X i F in
      or_from (l || has_lost X) (has_lost Y) (or_from l (has_lost X) h.0 (uncut_lost X i F h.1)) (uncut_lost Y (q ++ v.out) v.files h.2)
  uncut_lost (unopened m f T) i F h = refl
  uncut_lost (from f at X) i F h = uncut_lost X (drop at (bytes_of (F f))) F h
  uncut_lost (into f at X) i F h = uncut_lost X i F h
