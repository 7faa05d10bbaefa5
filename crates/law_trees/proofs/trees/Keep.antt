-- Each step keeps the final value: what was to be written is what it writes and what is written after it, and the files that
-- were not soft and the rest that was not loose are the same.
use Rattle.std.proofs.Common.{◌≡◌, ◌+◌, Bool, true, false, [], ◌++◌, Option, Some, None, drop, refl, sym, ap, ◌∙◌, append-nil, drop-drop, arith}
use Rattle.std.specs.Prelude.{◌&&◌, not}
use Rattle.std.proofs.lemmas.Bool.Decides.{nat_tests}
use mathlib.Core.Path.{transport}
use Rattle.std.proofs.lemmas.Bool.{false_from_ne_true, not-true}
use Rattle.sh_tree.specs.Tree.{Tree, exec, redir, pipe, list, back}
use Rattle.conflict_check.specs.Names.{names, uses_input}
use Rattle.prog_parts.specs.NameSets.{Names}
use Rattle.meaning_model.specs.Met.{seq_met, met_names}
use Rattle.meaning_model.specs.Meaning.{meaning}
use Rattle.tree_model.specs.Residual.{Residual, done, todo, running, seq, piped, unopened, from, into, Position, at_byte, at_file_end, keeps_0, keeps_1}
use Rattle.tree_model.specs.Rules.{is_gap}
use Rattle.tree_model.specs.Step.{Choice, here, on_left, on_right, seq_end, piped_end, step}
use Rattle.tree_model.specs.Final.{final, left_met}
use Rattle.tree_model.specs.Tidy.{HasShortCommands, IsThere, IsTidy}
use Rattle.law_trees.proofs.trees.Bools.{not_both, and_first, and_second, None4, none4}
use Rattle.law_trees.proofs.trees.Frame.{right_tidy}
use Rattle.law_trees.proofs.trees.Joins.{Follow, keeps_refl, keeps_seq, keeps_from}
use Rattle.law_trees.proofs.trees.PipeKept.{right_unmet, beside, lost_kept, rest_kept, files_kept, left_step, right_step}
use Rattle.law_trees.proofs.trees.RedirKept.{into_kept, from_ends, into_ends, opens_kept}
use Rattle.law_trees.proofs.trees.RunKept.{act_kept}
use Rattle.law_trees.proofs.trees.Running.{begin_left}
use Rattle.law_trees.proofs.trees.Smaller.{smaller, refused_closed}
use Rattle.law_trees.proofs.trees.StepFrame.{step_only}
use Rattle.law_trees.proofs.trees.StepTidy.{step_tidy}
use Rattle.law_trees.proofs.trees.TreeFrame.{tree_frame}
use Rattle.law_trees.proofs.trees.Unused.{tree_free, closed_1}
use Rattle.law_trees.proofs.trees.Values.{Alike, Keeps, KeepsLeft, alike_then}
use Rattle.mem_files.specs.Name.{Name, Bytes}
use Rattle.mem_files.specs.Files.{FileMap, bytes_of}
use Rattle.script_load.specs.declared.profile.Profile.{Profile}
use Rattle.meaning_model.specs.Value.{Value}
use Rattle.meaning_model.proofs.Bools.{not_left}

pub no_gap_there : (x : Option Bytes) (at : Position) → IsThere x at → is_gap x at ≡ false
no_gap_there None at h = absurd h
no_gap_there (Some b) (at_byte n) h = grind (arith, nat_tests)
no_gap_there (Some b) at_file_end h = refl

module _ (profile : Profile) where
  -- what follows, as a list or a script goes on
  follows : (T : Tree) (w : Bytes) (v v' : Value) (m : Names) {m' : Names} → HasShortCommands T → Keeps w v v' m' → ((n : Name) → seq_met (names T) (uses_input T) v m (met_names profile T v.rest v.files) n ≡ false) → Follow v (meaning profile T v.rest v.files) (meaning profile T v'.rest v'.files) (met_names profile T v.rest v.files) (met_names profile T v'.rest v'.files)
  follows T w v v' m s k b = go v.loose refl
    where
      parts : (n : Name) → None4 (m n) (met_names profile T v.rest v.files n) (v.soft n && names T n) (v.loose && uses_input T)
      parts n = none4 (m n) (met_names profile T v.rest v.files n) (v.soft n && names T n) (v.loose && uses_input T) (b n)

      a : Alike (λ n. v.soft n ≡ false) (meaning profile T v.rest v.files) (meaning profile T v.rest v'.files) (met_names profile T v.rest v.files) (met_names profile T v.rest v'.files)
      a = tree_frame profile _ T v.rest v.files v'.files s (λ n e. and_second (v.soft n) (names T n) (parts n).three e) k.files

      go : (l : Bool) → v.loose ≡ l → Follow v (meaning profile T v.rest v.files) (meaning profile T v'.rest v'.files) (met_names profile T v.rest v.files) (met_names profile T v'.rest v'.files)
      go false e =
          let c = alike_then _ (meaning profile T) (met_names profile T) v.rest v'.rest v.files v'.files (k.rest e) a in
          record { out = c.out; files = c.files; rest = λ h. c.rest; loose = c.loose; soft = c.soft; met = c.met }
      go true e =
          let un : uses_input T ≡ false = and_first v.loose (uses_input T) e (parts []).four in
          let g = tree_free profile T v.rest v'.rest v'.files s un in
          let p = g.same in
          record { out = a.out ∙ ap (λ x. x.out) p; files = record { at = λ n h. a.files.at n h ∙ ap (λ x. x.files n) p }; rest = λ h. not_both v.loose e h; loose = a.loose ∙ ap (λ x. x.loose) p; soft = a.soft ∙ ap (λ x. x.soft) p; met = a.met ∙ g.met }

  pipe_ends : (l : Bool) (X : Residual) (q : Bytes) (Y : Residual) (i : Bytes) (F : FileMap) → ((n : Name) → left_met profile (piped l X q Y) i F n ≡ false) → KeepsLeft profile [] (piped l X q Y) i F (piped_end l X q Y) i F
  pipe_ends true done q done i F b = record { out = refl; files = record { at = λ n e. refl }; rest = λ e. refl; loose = λ e. refl; soft = λ n e. refl; met = λ n. refl }
  pipe_ends false done q done i F b = record { out = refl; files = record { at = λ n e. refl }; rest = λ e. refl; loose = λ e. refl; soft = λ n e. refl; met = λ n. refl }
  pipe_ends l X q Y i F b = keeps_refl _ b

  pub keeps : (X : Residual) (c : Choice) (cl en : Bool) (i t : Bytes) (F : FileMap) → IsTidy X F → (en ≡ true → t ≡ []) → ((n : Name) → left_met profile X (i ++ t) F n ≡ false) → (step profile X c cl en i F).refused ≡ false → KeepsLeft profile (step profile X c cl en i F).wrote X (i ++ t) F (step profile X c cl en i F).next (drop (step profile X c cl en i F).took i ++ t) (step profile X c cl en i F).files
  keeps done c cl en i t F h he b r = keeps_refl _ b
  keeps (todo (exec words)) c cl en i t F h he b r = begin_left profile words (i ++ t) F (Keeps [] (meaning profile (exec words) (i ++ t) F)) (keeps_refl _ b)
  keeps (todo (back T)) c cl en i t F h he b r = keeps_refl _ b
  keeps (todo (redir m f T)) c cl en i t F h he b r = keeps_refl _ b
  keeps (todo (list A B)) c cl en i t F h he b r = keeps_refl _ b
  keeps (todo (pipe A B)) c cl en i t F h he b r = keeps_refl _ b
  keeps (running run) (here k) cl en i t F h he b r =
      act_kept profile run F h k cl en i t he r
  keeps (running run) (on_left c) cl en i t F h he b r = keeps_refl _ b
  keeps (running run) (on_right c) cl en i t F h he b r = keeps_refl _ b
  keeps (seq X T) (here k) cl en i t F h he b r = go X b
    where
      go : (X : Residual) → ((n : Name) → left_met profile (seq X T) (i ++ t) F n ≡ false) → KeepsLeft profile [] (seq X T) (i ++ t) F (seq_end X T) (i ++ t) F
      go done b =
          record { out = refl; files = record { at = λ n e. refl }; rest = λ e. refl; loose = λ e. e; soft = λ n e. e; met = λ n. (none4 false (met_names profile T (i ++ t) F n) (false && names T n) (false && uses_input T) (b n)).two }
      go X b = keeps_refl _ b
  keeps (seq X T) (on_left c) cl en i t F h he b r =
      let m = step profile X c cl en i F in
      let v = final profile X (i ++ t) F in
      let v' = final profile m.next (drop m.took i ++ t) m.files in
      let mv = left_met profile X (i ++ t) F in
      let mx = met_names profile T v.rest v.files in
      let k = keeps X c cl en i t F h.0 he (λ n. (none4 (mv n) (mx n) (v.soft n && names T n) (v.loose && uses_input T) (b n)).one) r in
      keeps_seq (names T) (uses_input T) m.wrote v v' (meaning profile T v.rest v.files) (meaning profile T v'.rest v'.files) mv mx k b (follows T m.wrote v v' mv h.1.1 k b)
  keeps (seq X T) (on_right c) cl en i t F h he b r = keeps_refl _ b
  keeps (piped l X q Y) (here k) cl en i t F h he b r = pipe_ends l X q Y (i ++ t) F b
  keeps (piped true X q Y) (on_left c) cl en i t F h he b r =
      let z = not (keeps_0 Y) in
      let m = step profile X c z en i F in
      let v = final profile X (i ++ t) F in
      let v' = final profile m.next (drop m.took i ++ t) m.files in
      let s = smaller profile X c z en i F h.0 in
      lost_kept profile true X m.next Y q (q ++ m.wrote) v v' (right_tidy profile true X q Y (i ++ t) F h) (h.4 refl) h.2 (right_unmet true (left_met profile X (i ++ t) F) _ b) s.writes s.uses (λ e. cc) (rest_kept profile X c z en i t F h.0) (files_kept profile X c z en i (i ++ t) (drop m.took i ++ t) F h.0)
  keeps (piped false X q Y) (on_left c) cl en i t F h he b r =
      left_step profile X q Y c en i t F h (right_unmet false (left_met profile X (i ++ t) F) _ b) (λ r'. keeps X c (not (keeps_0 Y)) en i t F h.0 he (λ n. not_left (left_met profile X (i ++ t) F n) _ (b n)) r')
  keeps (piped l X q Y) (on_right c) cl en i t F h he b r =
      let v = final profile X (i ++ t) F in
      let bs = beside profile l X Y q c cl (i ++ t) F h in
      right_step profile l X q Y c cl i t F h b (keeps Y c cl (not (keeps_1 X)) q v.out v.files (right_tidy profile l X q Y (i ++ t) F h) (λ e. closed_1 profile X (i ++ t) F (not-true (keeps_1 X) e)) (right_unmet l (left_met profile X (i ++ t) F) _ b) (sym bs.refused ∙ r))
  keeps (unopened m f T) c cl en i t F h he b r = opens_kept profile m f T (i ++ t) F h b
  keeps (from f at X) (here k) cl en i t F h he b r = from_ends profile f at X (i ++ t) F b
  keeps (from f at X) (on_left c) cl en i t F h he b r =
      let d = drop at (bytes_of (F f)) in
      let m = step profile X c cl true d F in
      let e1 : d ++ [] ≡ d = append-nil d in
      let e2 : drop m.took d ++ [] ≡ drop (at + m.took) (bytes_of (m.files f)) = append-nil (drop m.took d) ∙ drop-drop m.took at (bytes_of (F f)) ∙ ap (λ o. drop (at + m.took) (bytes_of o)) (sym (step_only profile X c cl true d F f h.0 h.1)) in
      let k = keeps X c cl true d [] F h.0 (λ e. refl) (λ n. ap (λ x. left_met profile X x F n) e1 ∙ b n) r in
      keeps_from (i ++ t) m.wrote _ _ (transport (λ z. KeepsLeft profile m.wrote X (e1 z) F m.next (e2 z) m.files) k)
  keeps (from f at X) (on_right c) cl en i t F h he b r = keeps_refl _ b
  keeps (into f at X) (here k) cl en i t F h he b r = into_ends profile f at X (i ++ t) F b
  keeps (into f at X) (on_left c) cl en i t F h he b r =
      let m = step profile X c (is_gap (F f) at) en i F in
      into_kept profile X f at m.wrote (i ++ t) (drop m.took i ++ t) F m.files m.next h.0 (step_tidy profile X c (is_gap (F f) at) en i F h.0) h.1 ((smaller profile X c (is_gap (F f) at) en i F h.0).names f h.1) (λ n e. step_only profile X c (is_gap (F f) at) en i F n h.0 e)
      (keeps X c (is_gap (F f) at) en i t F h.0 he b (false_from_ne_true m.refused (λ e. not_both (is_gap (F f) at) (refused_closed profile X c (is_gap (F f) at) en i F e) (no_gap_there (F f) at h.2))))
  keeps (into f at X) (on_right c) cl en i t F h he b r = keeps_refl _ b
