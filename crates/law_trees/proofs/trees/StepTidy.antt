-- What is tidy is tidy after a step.
use Rattle.std.proofs.Common.{◌≡◌, ℕ, ◌≤◌, Bool, true, false, [], Option, Some, None, length, drop, refl, sym, ap, subst, arith}
use Rattle.std.specs.Prelude.{◌||◌, not, if◌then◌else◌}
use Rattle.std.specs.Str.{bytes_eq}
use Rattle.std.proofs.lemmas.Slice.Eq.{bytes_eq-Decides}
use Rattle.std.proofs.lemmas.Bool.{false_from_ne_true, not-true}
use Rattle.sh_tree.specs.declared.tree.Mode.{Mode}
use Rattle.sh_tree.specs.declared.tree.Mode.TheVariants.{Input, Fresh, Over}
use Rattle.sh_tree.specs.Tree.{Tree, exec, redir, pipe, list, back}
use Rattle.mem_files.specs.Name.{Name, Bytes, is_openable}
use Rattle.mem_files.specs.Files.{FileMap, with_file, bytes_of}
use Rattle.mem_files.proofs.Overlays.{length-written}
use Rattle.conflict_check.specs.Names.{names}
use Rattle.script_load.specs.declared.profile.Profile.{Profile}
use Rattle.script_load.specs.declared.profile.Profile.TheVariants.{Xv6, Append}
use Rattle.meaning_model.specs.Inputs.{found}
use Rattle.meaning_model.specs.Meaning.{opened}
use Rattle.law_trees.proofs.programs.Framing.{itself}
use Rattle.tree_model.specs.Residual.{Residual, done, todo, running, seq, piped, unopened, from, into, Position, at_byte, at_file_end, byte_in, moved_on, left_names, left_writes, keeps_0, keeps_1}
use Rattle.tree_model.specs.Begin.{unfolded, over_start, start_at, open_from, open_into, opens_file}
use Rattle.tree_model.specs.Rules.{patch, patched, is_gap}
use Rattle.tree_model.specs.Step.{Choice, here, on_left, on_right, seq_end, piped_end, from_end, into_end, step}
use Rattle.tree_model.specs.Tidy.{IsTidyTree, IsThere, IsTidy}
use Rattle.law_trees.proofs.trees.Acting.{act_tidy}
use Rattle.law_trees.proofs.trees.Bools.{not_both, back as back_to}
use Rattle.law_trees.proofs.trees.Frame.{tidy_agree}
use Rattle.law_trees.proofs.trees.Parts.{patched_other}
use Rattle.law_trees.proofs.trees.Running.{begin_tidy}
use Rattle.law_trees.proofs.trees.Smaller.{smaller, refused_closed}
use Rattle.law_trees.proofs.trees.StepFrame.{named, step_only}
use Rattle.meaning_model.proofs.Bools.{apart}

tidy_seq_end : (X : Residual) (T : Tree) (F : FileMap) → IsTidy (seq X T) F → IsTidy (seq_end X T) F
tidy_seq_end done T F h = h.1
tidy_seq_end X T F h = h

tidy_piped_end : (b : Bool) (X : Residual) (q : Bytes) (Y : Residual) (F : FileMap) → IsTidy (piped b X q Y) F → IsTidy (piped_end b X q Y) F
tidy_piped_end b done q done F h = tt
tidy_piped_end b X q Y F h = h

tidy_from_end : (f : Name) (at : ℕ) (X : Residual) (F : FileMap) → IsTidy (from f at X) F → IsTidy (from_end f at X) F
tidy_from_end f at done F h = tt
tidy_from_end f at X F h = h

tidy_into_end : (f : Name) (at : Position) (X : Residual) (F : FileMap) → IsTidy (into f at X) F → IsTidy (into_end f at X) F
tidy_into_end f at done F h = tt
tidy_into_end f at X F h = h

tidy_tree : (T : Tree) (F : FileMap) → IsTidyTree T → IsTidy (unfolded T) F
tidy_tree (exec words) F h = begin_tidy words F h.1
tidy_tree (back T) F h = h
tidy_tree (redir m f T) F h = h
tidy_tree (list A B) F h = ((h.0.0, h.1.0), (h.0.1, h.1.1))
tidy_tree (pipe A B) F h = ((h.0.1, h.1.0), (h.0.2, h.1.1), h.0.0.0, h.0.0.1, λ e. cc)

tidy_open_from : (o : Option Bytes) (f : Name) (T : Tree) (F : FileMap) → IsTidyTree (redir Input f T) → IsTidy (open_from o f T F).next (open_from o f T F).files
tidy_open_from None f T F h = tt
tidy_open_from (Some b) f T F h = ((h.0.1, h.1), h.0.0)

lost_before : (b r : Bool) (K : Type 0) → (b ≡ true → K) → (r ≡ true → K) → (b || r) ≡ true → K
lost_before true r K f g e = f refl
lost_before false r K f g e = g e

-- a file that was opened to be written is there, and a write that goes on within it or at its end leaves it so
there_with : (F : FileMap) (f : Name) (held : Bytes) (at : Position) → byte_in at held ≤ length held → IsThere (with_file F f held f) at
there_with F f held at few = subst (λ (b : Bool). IsThere (if b then Some held else F f) at) (sym (itself f)) few

start_in : (profile : Profile) (held : Bytes) → byte_in (over_start profile) held ≤ length held
start_in Xv6 held = omega arith
start_in Append held = omega arith

patch_there : (x : Option Bytes) (at : Position) (bytes : Bytes) → IsThere x at → IsThere (patch x at bytes) (moved_on at (length bytes))
patch_there None at bytes h = h
patch_there (Some b) (at_byte n) bytes h = omega (arith, length-written b n bytes h)
patch_there (Some b) at_file_end bytes h = omega arith

module _ (profile : Profile) where
  tidy_open_into : (t : Bool) (m : Mode) (f : Name) (T : Tree) (F : FileMap) → IsTidyTree T → names T f ≡ false → IsThere (opened m f F f) (start_at profile m) → IsTidy (open_into profile t m f T F).next (open_into profile t m f T F).files
  tidy_open_into false m f T F h g there = tt
  tidy_open_into true m f T F h g there = (h, g, there)

  tidy_opens : (m : Mode) (f : Name) (T : Tree) (F : FileMap) → IsTidyTree (redir m f T) → IsTidy (opens_file profile m f T F).next (opens_file profile m f T F).files
  tidy_opens Input f T F h = tidy_open_from (found F f) f T F h
  tidy_opens Fresh f T F h = tidy_open_into (is_openable f) Fresh f T F (h.0.1, h.1) h.0.0 (there_with F f [] (at_byte 0) (omega arith))
  tidy_opens Over f T F h = tidy_open_into (is_openable f) Over f T F (h.0.1, h.1) h.0.0 (there_with F f (bytes_of (F f)) (over_start profile) (start_in profile (bytes_of (F f))))

  pub step_tidy : (X : Residual) (c : Choice) (cl en : Bool) (i : Bytes) (F : FileMap) → IsTidy X F → IsTidy (step profile X c cl en i F).next (step profile X c cl en i F).files
  step_tidy (todo T) c cl en i F h = tidy_tree T F h
  step_tidy (running run) (here k) cl en i F h = act_tidy run k cl en i F h
  step_tidy (seq X T) (here k) cl en i F h = tidy_seq_end X T F h
  step_tidy (seq X T) (on_left c) cl en i F h = (step_tidy X c cl en i F h.0, h.1)
  step_tidy (piped b X q Y) (here k) cl en i F h = tidy_piped_end b X q Y F h
  step_tidy (piped b X q Y) (on_left c) cl en i F h =
      let m = step profile X c (not (keeps_0 Y)) en i F in
      let s = smaller profile X c (not (keeps_0 Y)) en i F h.0 in (
        step_tidy X c (not (keeps_0 Y)) en i F h.0,
        tidy_agree Y F m.files (λ n e. sym (step_only profile X c (not (keeps_0 Y)) en i F n h.0 (apart (left_writes X n) (left_names Y n) (h.2 n) e))) h.1,
        λ n e. h.2 n (back_to _ (left_writes X n) (s.writes n) e),
        λ n e. s.names n (h.3 n e),
        lost_before b _ (keeps_0 Y ≡ false) h.4 (λ e. not-true (keeps_0 Y) (refused_closed profile X c (not (keeps_0 Y)) en i F e)),
      )
  step_tidy (piped b X q Y) (on_right c) cl en i F h =
      let m = step profile Y c cl (not (keeps_1 X)) q F in
      let s = smaller profile Y c cl (not (keeps_1 X)) q F h.1 in (
        tidy_agree X F m.files (λ n e. sym (step_only profile Y c cl (not (keeps_1 X)) q F n h.1 (apart (left_writes Y n) (left_names X n) (h.3 n) e))) h.0,
        step_tidy Y c cl (not (keeps_1 X)) q F h.1,
        λ n e. s.names n (h.2 n e),
        λ n e. h.3 n (back_to _ (left_writes Y n) (s.writes n) e),
        λ e. s.keeps_0 (h.4 e),
      )
  step_tidy (unopened m f T) c cl en i F h = tidy_opens m f T F h
  step_tidy (from f at X) (here k) cl en i F h = tidy_from_end f at X F h
  step_tidy (from f at X) (on_left c) cl en i F h =
      (step_tidy X c cl true (drop at (bytes_of (F f))) F h.0, (smaller profile X c cl true (drop at (bytes_of (F f))) F h.0).writes f h.1)
  step_tidy (into f at X) (here k) cl en i F h = tidy_into_end f at X F h
  step_tidy (into f at X) (on_left c) cl en i F h =
      let cl' = is_gap (F f) at in
      let m = step profile X c cl' en i F in
      let nf = (smaller profile X c cl' en i F h.0).names f h.1 in
      let same : m.files f ≡ F f = step_only profile X c cl' en i F f h.0 (named X f h.1) in (
        tidy_agree m.next m.files (patched m.files f at m.wrote) (λ n e. sym (patched_other m.files f n at m.wrote (unnamed m.next n e nf))) (step_tidy X c cl' en i F h.0),
        nf,
        subst (λ x. IsThere x (moved_on at (length m.wrote))) (sym (ap (λ (b : Bool). if b then patch (m.files f) at m.wrote else m.files f) (itself f)))
            (patch_there (m.files f) at m.wrote (subst (λ x. IsThere x at) (sym same) h.2)),
      )
    where
      unnamed : (Y : Residual) (n : Name) → left_names Y n ≡ true → left_names Y f ≡ false → bytes_eq n f ≡ false
      unnamed Y n e nf = false_from_ne_true (bytes_eq n f) (λ g. not_both (left_names Y n) e (subst (λ x. left_names Y x ≡ false) (sym ((bytes_eq-Decides n f).0 g)) nf))
  step_tidy X c cl en i F h = h
