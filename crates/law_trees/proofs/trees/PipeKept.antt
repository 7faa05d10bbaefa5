-- A step of one side of a pipe keeps the final value of the pipe, a refused write of the left side too.
use Rattle.std.proofs.Common.{◌≡◌, Bool, true, false, [], ◌∷◌, ◌++◌, drop, refl, sym, ap, ◌∙◌, subst, append_assoc, append-nil}
use Rattle.std.specs.Prelude.{not}
use mathlib.Core.Path.{fun_ext, transport}
use Rattle.std.proofs.lemmas.Bool.{or_left, not-true}
use Rattle.prog_parts.specs.Program.{is_empty}
use Rattle.meaning_model.specs.Meaning.{meaning}
use Rattle.tree_model.specs.Alone.{to_out}
use Rattle.tree_model.specs.Residual.{Residual, running, seq, piped, from, left_names, left_writes, left_uses, keeps_0, keeps_1}
use Rattle.tree_model.specs.Step.{Move, Choice, here, on_left, on_right, left_move, step}
use Rattle.tree_model.specs.Final.{piped_value, final, pipe_met, left_met}
use Rattle.tree_model.specs.Tidy.{IsTidy}
use Rattle.law_trees.proofs.trees.Bools.{back as back_to}
use Rattle.law_trees.proofs.trees.Effects.{act_lost}
use Rattle.law_trees.proofs.trees.Frame.{tidy_agree, only, right_tidy, frame}
use Rattle.law_trees.proofs.trees.Joins.{keeps_left, keeps_lost, keeps_right}
use Rattle.law_trees.proofs.trees.Smaller.{smaller, refused_closed}
use Rattle.law_trees.proofs.trees.StepFrame.{named, step_frame, step_only, step_unused}
use Rattle.law_trees.proofs.trees.StepTidy.{step_tidy}
use Rattle.law_trees.proofs.trees.Unused.{closed_0, free, soft}
use Rattle.law_trees.proofs.trees.Values.{Agree, Alike, AlikeMove, Keeps, KeepsLeft, alike_then}
use Rattle.mem_files.specs.Name.{Name, Bytes}
use Rattle.mem_files.specs.Files.{FileMap, bytes_of}
use Rattle.prog_parts.specs.NameSets.{Names, both}
use Rattle.script_load.specs.declared.profile.Profile.{Profile}
use Rattle.meaning_model.specs.Value.{Value}
use Rattle.meaning_model.proofs.Bools.{apart, not_right}

some_append : (a b : Bytes) → is_empty a ≡ false → is_empty (a ++ b) ≡ false
some_append [] b e = cc
some_append (x ∷ a) b e = refl

pub some_behind : (a b : Bytes) → is_empty b ≡ false → is_empty (a ++ b) ≡ false
some_behind [] b e = e
some_behind (x ∷ a) b e = refl

pipe_out : (b : Bool) (ws : Names) (us : Bool) (v w : Value) → (piped_value b ws us v w).out ≡ w.out
pipe_out false ws us v w = refl
pipe_out true ws us v w = refl

pub right_unmet : (b : Bool) (m k : Names) → ((n : Name) → pipe_met b m k n ≡ false) → (n : Name) → k n ≡ false
right_unmet false m k e n = not_right (m n) (k n) (e n)
right_unmet true m k e n = e n

same_files : (X Y : Residual) (V V2 M1 : FileMap) (n : Name) → (left_writes X n ≡ true → left_names Y n ≡ false) → (left_writes Y n ≡ false → M1 n ≡ V n) → (left_writes Y n ≡ false → V n ≡ V2 n) → (left_writes X n ≡ false → M1 n ≡ V2 n) → M1 n ≡ V2 n
same_files X Y V V2 M1 n h f g k = go (left_writes X n) refl
  where
    go : (b : Bool) → left_writes X n ≡ b → M1 n ≡ V2 n
    go false e = k e
    go true e = let u = named Y n (h e) in f u ∙ g u

module _ (profile : Profile) where
  pub beside : (b : Bool) (X Y : Residual) (q : Bytes) (c : Choice) (cl : Bool) (i : Bytes) (F : FileMap) → IsTidy (piped b X q Y) F → AlikeMove (λ n. left_writes X n ≡ false) (step profile Y c cl (not (keeps_1 X)) q F) (step profile Y c cl (not (keeps_1 X)) q (final profile X i F).files)
  beside b X Y q c cl i F h =
      step_frame profile _ Y c cl (not (keeps_1 X)) q F (final profile X i F).files h.1 (λ n e. apart (left_writes X n) (left_names Y n) (h.2 n) e) (record { at = λ n e. sym (only profile X i F n h.0 e) })

  pub refused_out : (X : Residual) (c : Choice) (cl en : Bool) (i t : Bytes) (F : FileMap) → IsTidy X F → (step profile X c cl en i F).refused ≡ true → is_empty (final profile X (i ++ t) F).out ≡ false
  refused_out (running run) (here k) cl en i t F h e =
      let l = act_lost run k cl en i F e in
      some_append (drop run.put (to_out run.turn.call)) _ (ap (λ x. is_empty (drop run.put (to_out x))) l.is ∙ l.some)
  refused_out (seq X T) (on_left c) cl en i t F h e =
      let v = final profile X (i ++ t) F in
      some_append v.out (meaning profile T v.rest v.files).out (refused_out X c cl en i t F h.0 e)
  refused_out (piped b X q Y) (on_right c) cl en i t F h e =
      let v = final profile X (i ++ t) F in
      let a = beside b X Y q c cl (i ++ t) F h in
      ap is_empty (pipe_out b (left_writes X) (left_uses X) v (final profile Y (q ++ v.out) v.files)) ∙ refused_out Y c cl (not (keeps_1 X)) q v.out v.files (right_tidy profile b X q Y (i ++ t) F h) (sym a.refused ∙ e)
  refused_out (from f at X) (on_left c) cl en i t F h e =
      let d = drop at (bytes_of (F f)) in
      ap (λ x. is_empty (final profile X x F).out) (sym (append-nil d)) ∙ refused_out X c cl true d [] F h.0 e
  refused_out X (here k) cl en i t F h e = cc
  refused_out X (on_left c) cl en i t F h e = cc
  refused_out X (on_right c) cl en i t F h e = cc

  left_kept : (X Y : Residual) (q : Bytes) (w : Bytes) (v v' : Value) (X' : Residual) {m' : Names} → IsTidy Y v.files → Keeps w v v' m' → ((n : Name) → v.soft n ≡ true → left_names Y n ≡ false) → ((n : Name) → left_met profile Y (q ++ v.out) v.files n ≡ false) → ((n : Name) → left_writes X n ≡ false → left_writes X' n ≡ false) → (left_uses X ≡ false → left_uses X' ≡ false) → Keeps [] (piped_value false (left_writes X) (left_uses X) v (final profile Y (q ++ v.out) v.files)) (piped_value false (left_writes X') (left_uses X') v' (final profile Y ((q ++ w) ++ v'.out) v'.files)) (both m' (left_met profile Y ((q ++ w) ++ v'.out) v'.files))
  left_kept X Y q w v v' X' d k sn b lw lu =
      let a = frame profile (λ n. v.soft n ≡ false) Y (q ++ v.out) v.files v'.files d (λ n e. apart (v.soft n) (left_names Y n) (sn n) e) k.files in
      let e : q ++ v.out ≡ (q ++ w) ++ v'.out = ap (λ x. q ++ x) k.out ∙ sym (append_assoc q w v'.out) in
      keeps_left (left_writes X) (left_writes X') (left_uses X) (left_uses X') w v v' _ _ k b lw lu (alike_then (λ n. v.soft n ≡ false) (final profile Y) (left_met profile Y) (q ++ v.out) ((q ++ w) ++ v'.out) v.files v'.files e a)

  pub lost_kept : (b : Bool) (X X' Y : Residual) (q q' : Bytes) (v v' : Value) → IsTidy Y v.files → keeps_0 Y ≡ false → ((n : Name) → left_writes X n ≡ true → left_names Y n ≡ false) → ((n : Name) → left_met profile Y (q ++ v.out) v.files n ≡ false) → ((n : Name) → left_writes X n ≡ false → left_writes X' n ≡ false) → (left_uses X ≡ false → left_uses X' ≡ false) → (b ≡ false → is_empty v.out ≡ false) → (left_uses X ≡ false → v.rest ≡ v'.rest) → Agree (λ n. left_writes X n ≡ false) v.files v'.files → Keeps [] (piped_value b (left_writes X) (left_uses X) v (final profile Y (q ++ v.out) v.files)) (piped_value true (left_writes X') (left_uses X') v' (final profile Y (q' ++ v'.out) v'.files)) (left_met profile Y (q' ++ v'.out) v'.files)
  lost_kept b X X' Y q q' v v' d c h bad lw lu out rest files =
      let j = q ++ v.out in
      let a = frame profile (λ n. left_writes X n ≡ false) Y j v.files v'.files d (λ n e. apart (left_writes X n) (left_names Y n) (h n) e) files in
      let g = closed_0 profile Y j (q' ++ v'.out) v'.files c in
      let p = g.same in
      let r : (final profile Y j v.files).rest ≡ j = ap (λ x. x.rest) (closed_0 profile Y j j v.files c).same in
      keeps_lost b (left_writes X) (left_writes X') (left_uses X) (left_uses X') v v' (final profile Y j v.files) (final profile Y (q' ++ v'.out) v'.files) bad lw lu
      (λ e. or_left (not (is_empty (final profile Y j v.files).rest)) (final profile Y j v.files).loose (ap (λ z. not (is_empty z)) r ∙ ap not (some_behind q v.out (out e)))) rest
      (a.out ∙ ap (λ x. x.out) p) (record { at = λ n e. a.files.at n e ∙ ap (λ x. x.files n) p }) (a.soft ∙ ap (λ x. x.soft) p) (a.met ∙ g.met)

  pub rest_kept : (X : Residual) (c : Choice) (cl en : Bool) (i t : Bytes) (F : FileMap) → IsTidy X F → left_uses X ≡ false → (final profile X (i ++ t) F).rest ≡ (final profile (step profile X c cl en i F).next (drop (step profile X c cl en i F).took i ++ t) (step profile X c cl en i F).files).rest
  rest_kept X c cl en i t F d e =
      let m = step profile X c cl en i F in
      let s = smaller profile X c cl en i F d in
      ap (λ v. v.rest) (free profile X (i ++ t) (i ++ t) F d e).same ∙ ap (λ k. drop k i ++ t) (sym (step_unused profile X c cl en i F d e)) ∙ sym (ap (λ v. v.rest) (free profile m.next (drop m.took i ++ t) (drop m.took i ++ t) m.files (step_tidy profile X c cl en i F d) (s.uses e)).same)

  pub files_kept : (X : Residual) (c : Choice) (cl en : Bool) (i j k : Bytes) (F : FileMap) → IsTidy X F → Agree (λ n. left_writes X n ≡ false) (final profile X j F).files (final profile (step profile X c cl en i F).next k (step profile X c cl en i F).files).files
  files_kept X c cl en i j k F d = record {
    at = λ n e.
        only profile X j F n d e ∙ sym (step_only profile X c cl en i F n d e) ∙ sym (only profile (step profile X c cl en i F).next k (step profile X c cl en i F).files n (step_tidy profile X c cl en i F d) ((smaller profile X c cl en i F d).writes n e));
  }

  pub left_step : (X : Residual) (q : Bytes) (Y : Residual) (c : Choice) (en : Bool) (i t : Bytes) (F : FileMap) → IsTidy (piped false X q Y) F → ((n : Name) → left_met profile Y (q ++ (final profile X (i ++ t) F).out) (final profile X (i ++ t) F).files n ≡ false) → ((step profile X c (not (keeps_0 Y)) en i F).refused ≡ false → KeepsLeft profile (step profile X c (not (keeps_0 Y)) en i F).wrote X (i ++ t) F (step profile X c (not (keeps_0 Y)) en i F).next (drop (step profile X c (not (keeps_0 Y)) en i F).took i ++ t) (step profile X c (not (keeps_0 Y)) en i F).files) → KeepsLeft profile [] (piped false X q Y) (i ++ t) F (left_move false q Y (step profile X c (not (keeps_0 Y)) en i F)).next (drop (step profile X c (not (keeps_0 Y)) en i F).took i ++ t) (step profile X c (not (keeps_0 Y)) en i F).files
  left_step X q Y c en i t F h b k = go m.refused refl
    where
      m : Move Residual
      m = step profile X c (not (keeps_0 Y)) en i F

      v : Value
      v = final profile X (i ++ t) F

      v' : Value
      v' = final profile m.next (drop m.took i ++ t) m.files

      d : IsTidy Y v.files
      d = right_tidy profile false X q Y (i ++ t) F h

      Goal : Bool → Type 0
      Goal r = Keeps [] (final profile (piped false X q Y) (i ++ t) F) (piped_value r (left_writes m.next) (left_uses m.next) v' (final profile Y ((q ++ m.wrote) ++ v'.out) v'.files)) (pipe_met r (left_met profile m.next (drop m.took i ++ t) m.files) (left_met profile Y ((q ++ m.wrote) ++ v'.out) v'.files))

      go : (r : Bool) → m.refused ≡ r → Goal m.refused
      go false e =
          let s = smaller profile X c (not (keeps_0 Y)) en i F h.0 in
          subst Goal (sym e) (left_kept X Y q m.wrote v v' m.next d (k e) (λ n g. h.2 n (back_to _ (left_writes X n) (soft profile X (i ++ t) F n) g)) b s.writes s.uses)
      go true e =
          let z = not (keeps_0 Y) in
          let s = smaller profile X c z en i F h.0 in
          subst Goal (sym e) (lost_kept false X m.next Y q (q ++ m.wrote) v v' d (not-true (keeps_0 Y) (refused_closed profile X c z en i F e)) h.2 b s.writes s.uses (λ g. refused_out X c z en i t F h.0 e) (rest_kept X c z en i t F h.0) (files_kept X c z en i (i ++ t) (drop m.took i ++ t) F h.0))

  -- what the left side gives after a step of the right side, and what this step makes of the files that the left side leaves
  pub right_alike : (l : Bool) (X : Residual) (q : Bytes) (Y : Residual) (c : Choice) (cl : Bool) (j : Bytes) (F : FileMap) → IsTidy (piped l X q Y) F → Alike (λ n. left_writes Y n ≡ false) (final profile X j F) (final profile X j (step profile Y c cl (not (keeps_1 X)) q F).files) (left_met profile X j F) (left_met profile X j (step profile Y c cl (not (keeps_1 X)) q F).files)
  right_alike l X q Y c cl j F h =
      frame profile (λ n. left_writes Y n ≡ false) X j F (step profile Y c cl (not (keeps_1 X)) q F).files h.0 (λ n e. apart (left_writes Y n) (left_names X n) (h.3 n) e) (record { at = λ n e. sym (step_only profile Y c cl (not (keeps_1 X)) q F n h.1 e) })

  pub right_files : (l : Bool) (X : Residual) (q : Bytes) (Y : Residual) (c : Choice) (cl : Bool) (j : Bytes) (F : FileMap) → IsTidy (piped l X q Y) F → (step profile Y c cl (not (keeps_1 X)) q (final profile X j F).files).files ≡ (final profile X j (step profile Y c cl (not (keeps_1 X)) q F).files).files
  right_files l X q Y c cl j F h =
      let z = not (keeps_1 X) in
      let m = step profile Y c cl z q F in
      let v = final profile X j F in
      let m1 = step profile Y c cl z q v.files in
      let dx = tidy_agree X F m.files (λ n e. sym (step_only profile Y c cl z q F n h.1 (apart (left_writes Y n) (left_names X n) (h.3 n) e))) h.0 in
      let bs = beside l X Y q c cl j F h in
      let quiet = λ (n : Name) (e : left_writes X n ≡ false). sym (bs.files.at n e) ∙ sym (only profile X j m.files n dx e) in
      fun_ext (λ n. same_files X Y v.files (final profile X j m.files).files m1.files n (h.2 n) (λ e. step_only profile Y c cl z q v.files n (right_tidy profile l X q Y j F h) e) ((right_alike l X q Y c cl j F h).files.at n) (quiet n))

  pub right_step : (l : Bool) (X : Residual) (q : Bytes) (Y : Residual) (c : Choice) (cl : Bool) (i t : Bytes) (F : FileMap) → IsTidy (piped l X q Y) F → ((n : Name) → left_met profile (piped l X q Y) (i ++ t) F n ≡ false) → KeepsLeft profile (step profile Y c cl (not (keeps_1 X)) q (final profile X (i ++ t) F).files).wrote Y (q ++ (final profile X (i ++ t) F).out) (final profile X (i ++ t) F).files (step profile Y c cl (not (keeps_1 X)) q (final profile X (i ++ t) F).files).next (drop (step profile Y c cl (not (keeps_1 X)) q (final profile X (i ++ t) F).files).took q ++ (final profile X (i ++ t) F).out) (step profile Y c cl (not (keeps_1 X)) q (final profile X (i ++ t) F).files).files → KeepsLeft profile (step profile Y c cl (not (keeps_1 X)) q F).wrote (piped l X q Y) (i ++ t) F (piped l X (drop (step profile Y c cl (not (keeps_1 X)) q F).took q) (step profile Y c cl (not (keeps_1 X)) q F).next) (i ++ t) (step profile Y c cl (not (keeps_1 X)) q F).files
  right_step l X q Y c cl i t F h b k =
      let z = not (keeps_1 X) in
      let m = step profile Y c cl z q F in
      let v = final profile X (i ++ t) F in
      let v2 = final profile X (i ++ t) m.files in
      let bs = beside l X Y q c cl (i ++ t) F h in
      let a = right_alike l X q Y c cl (i ++ t) F h in
      let fs = right_files l X q Y c cl (i ++ t) F h in
      let w = sym bs.wrote in
      let nx = sym bs.next in
      let tk = sym bs.took in
      let k2 : KeepsLeft profile m.wrote Y (q ++ v.out) v.files m.next (drop m.took q ++ v2.out) v2.files =
      transport (λ z. KeepsLeft profile (w z) Y (q ++ v.out) v.files (nx z) (drop (tk z) q ++ a.out z) (fs z)) k in
      keeps_right l (left_writes X) (left_uses X) m.wrote v v2 (final profile Y (q ++ v.out) v.files) (final profile m.next (drop m.took q ++ v2.out) v2.files) _ (left_met profile Y (q ++ v.out) v.files) b a k2
