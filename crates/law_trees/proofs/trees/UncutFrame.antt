-- What is left of a command in which no pipe is cut: it gives nothing soft or loose, and is so among other files that agree.
use Rattle.std.proofs.Common.{◌≡◌, ◌∙◌, true, false, ◌++◌, drop, Option, Some, None, refl, sym, subst}
use Rattle.std.specs.Prelude.{◌||◌, not, IfSome}
use Rattle.std.specs.Str.{bytes_eq}
use Rattle.std.proofs.lemmas.Bool.{or_left, or_right}
use Rattle.sh_tree.specs.declared.tree.Mode.TheVariants.{Input, Fresh, Over}
use Rattle.sh_tree.specs.Tree.{Tree, exec, redir, pipe, list, back}
use Rattle.mem_files.specs.Name.{Name, Bytes}
use Rattle.mem_files.specs.Files.{FileMap, bytes_of}
use Rattle.prog_parts.specs.Program.{is_empty}
use Rattle.conflict_check.specs.Names.{names, uses_input}
use Rattle.script_load.specs.declared.profile.Profile.{Profile}
use Rattle.prog_parts.specs.NameSets.{Names}
use Rattle.meaning_model.specs.Met.{met_names}
use Rattle.meaning_model.specs.Inputs.{found}
use Rattle.meaning_model.specs.Meaning.{meaning, opened}
use Rattle.meaning_model.specs.Value.{Value, is_cut}
use Rattle.tree_model.specs.Residual.{Residual, done, todo, running, seq, piped, unopened, from, into, left_names, left_writes, left_uses}
use Rattle.tree_model.specs.Final.{final, left_met}
use Rattle.tree_model.specs.Tidy.{HasShortCommands, IsTidy}
use Rattle.tree_model.specs.Uncut.{IsUncut}
use Rattle.law_trees.proofs.trees.Frame.{right_tidy, frame}
use Rattle.law_trees.proofs.trees.Parts.{agree_opened, found_same, named_self}
use Rattle.law_trees.proofs.trees.Running.{run_firm}
use Rattle.law_trees.proofs.trees.TreeFrame.{tree_frame}
use Rattle.law_trees.proofs.trees.Uncut.{StandsFirm, of_firm, firm_nothing, firm_seq, firm_pipe, uncut_firm}
use Rattle.law_trees.proofs.trees.Values.{Agree, Alike, alike_then}

-- no pipe of what is left lost a write, and none will be cut
abbrev pub IsUncutLeft : Profile → Residual → Bytes → FileMap → Type 0
IsUncutLeft profile done input F = Unit {0}
IsUncutLeft profile (todo tree) input F = IsUncut profile tree input F
IsUncutLeft profile (running run) input F = Unit {0}
IsUncutLeft profile (seq X later) input F = IsUncutLeft profile X input F × IsUncut profile later (final profile X input F).rest (final profile X input F).files
IsUncutLeft profile (piped lost X bytes Y) input F =
    (lost ≡ false)
    × IsUncutLeft profile X input F
    × IsUncutLeft profile Y (bytes ++ (final profile X input F).out) (final profile X input F).files
    × (is_cut (final profile Y (bytes ++ (final profile X input F).out) (final profile X input F).files) ≡ false)
IsUncutLeft profile (unopened mode file body) input F = IsUncut profile (redir mode file body) input F
IsUncutLeft profile (from file at X) input F = IsUncutLeft profile X (drop at (bytes_of (F file))) F
IsUncutLeft profile (into file at X) input F = IsUncutLeft profile X input F

cut_same : (N : Name → Type 0) (v w : Value) {m k : Names} → Alike N v w m k → is_cut v ≡ false → is_cut w ≡ false
cut_same N v w a e = sym (λ t. not (is_empty (a.rest t)) || a.loose t) ∙ e

module _ (profile : Profile) where
  pub left_firm : (X : Residual) (i : Bytes) (F : FileMap) → IsUncutLeft profile X i F → StandsFirm (final profile X i F) (left_met profile X i F)
  left_firm done i F h = firm_nothing i F
  left_firm (todo T) i F h = uncut_firm profile T i F h
  left_firm (running run) i F h = of_firm _ (run_firm run i F)
  left_firm (seq X T) i F h =
      let v = final profile X i F in
      firm_seq (names T) (uses_input T) v (meaning profile T v.rest v.files) _ _ (left_firm X i F h.0) (uncut_firm profile T v.rest v.files h.1)
  left_firm (piped false X q Y) i F h =
      let v = final profile X i F in
      firm_pipe (left_writes X) (left_uses X) v (final profile Y (q ++ v.out) v.files) _ _ h.3 (left_firm X i F h.1) (left_firm Y (q ++ v.out) v.files h.2)
  left_firm (piped true X q Y) i F h = let never : true ≡ false = h.0 in cc
  left_firm (unopened m f T) i F h = uncut_firm profile (redir m f T) i F h
  left_firm (from f at X) i F h = let g = left_firm X (drop at (bytes_of (F f))) F h in record { loose = refl; soft = g.soft; met = g.met }
  left_firm (into f at X) i F h = let g = left_firm X i F h in record { loose = g.loose; soft = g.soft; met = g.met }

  -- among other files
  input_uncut : (o p : Option Bytes) (T : Tree) (F G : FileMap) → o ≡ p → ((b : Bytes) → IsUncut profile T b F → IsUncut profile T b G) → IfSome o (λ b. IsUncut profile T b F) → IfSome p (λ b. IsUncut profile T b G)
  input_uncut o p T F G e each h = subst (λ x. IfSome x (λ b. IsUncut profile T b G)) e (go o h)
    where
      go : (o : Option Bytes) → IfSome o (λ b. IsUncut profile T b F) → IfSome o (λ b. IsUncut profile T b G)
      go None h = h
      go (Some b) h = each b h

  pub tree_uncut : (N : Name → Type 0) (T : Tree) (i : Bytes) (F G : FileMap) → HasShortCommands T → ((n : Name) → names T n ≡ true → N n) → Agree N F G → IsUncut profile T i F → IsUncut profile T i G
  tree_uncut N (exec words) i F G s sub g h = tt
  tree_uncut N (back T) i F G s sub g h = tree_uncut N T i F G s sub g h
  tree_uncut N (redir Input f T) i F G s sub g h =
      input_uncut (found F f) (found G f) T F G (found_same f F G (g.at f (sub f (named_self f (names T f))))) (λ b u. tree_uncut N T b F G s (λ n e. sub n (or_right (bytes_eq n f) (names T n) e)) g u) h
  tree_uncut N (redir Fresh f T) i F G s sub g h =
      λ e. tree_uncut N T i (opened Fresh f F) (opened Fresh f G) s (λ n e. sub n (or_right (bytes_eq n f) (names T n) e)) (agree_opened N Fresh F G f (sub f (named_self f (names T f))) g) (h e)
  tree_uncut N (redir Over f T) i F G s sub g h =
      λ e. tree_uncut N T i (opened Over f F) (opened Over f G) s (λ n e. sub n (or_right (bytes_eq n f) (names T n) e)) (agree_opened N Over F G f (sub f (named_self f (names T f))) g) (h e)
  tree_uncut N (list A B) i F G s sub g h =
      let a = tree_frame profile N A i F G s.0 (λ n e. sub n (or_left (names A n) (names B n) e)) g in
      let v = meaning profile A i F in
      let w = meaning profile A i G in (
        tree_uncut N A i F G s.0 (λ n e. sub n (or_left (names A n) (names B n) e)) g h.0,
        subst (λ j. IsUncut profile B j w.files) a.rest (tree_uncut N B v.rest v.files w.files s.1 (λ n e. sub n (or_right (names A n) (names B n) e)) a.files h.1),
      )
  tree_uncut N (pipe A B) i F G s sub g h =
      let a = tree_frame profile N A i F G s.0 (λ n e. sub n (or_left (names A n) (names B n) e)) g in
      let v = meaning profile A i F in
      let w = meaning profile A i G in
      let b = tree_frame profile N B v.out v.files w.files s.1 (λ n e. sub n (or_right (names A n) (names B n) e)) a.files in (
        tree_uncut N A i F G s.0 (λ n e. sub n (or_left (names A n) (names B n) e)) g h.0,
        subst (λ j. IsUncut profile B j w.files) a.out (tree_uncut N B v.out v.files w.files s.1 (λ n e. sub n (or_right (names A n) (names B n) e)) a.files h.1),
        cut_same N _ _ (alike_then N (meaning profile B) (met_names profile B) v.out w.out v.files w.files a.out b) h.2,
      )

  pub left_uncut : (N : Name → Type 0) (X : Residual) (i : Bytes) (F G : FileMap) → IsTidy X F → ((n : Name) → left_names X n ≡ true → N n) → Agree N F G → IsUncutLeft profile X i F → IsUncutLeft profile X i G
  left_uncut N done i F G d sub g h = tt
  left_uncut N (todo T) i F G d sub g h = tree_uncut N T i F G d.1 sub g h
  left_uncut N (running run) i F G d sub g h = tt
  left_uncut N (seq X B) i F G d sub g h =
      let a = frame profile N X i F G d.0 (λ n e. sub n (or_left (left_names X n) (names B n) e)) g in
      let v = final profile X i F in
      let w = final profile X i G in (
        left_uncut N X i F G d.0 (λ n e. sub n (or_left (left_names X n) (names B n) e)) g h.0,
        subst (λ j. IsUncut profile B j w.files) a.rest (tree_uncut N B v.rest v.files w.files d.1.1 (λ n e. sub n (or_right (left_names X n) (names B n) e)) a.files h.1),
      )
  left_uncut N (piped l X q Y) i F G d sub g h =
      let a = frame profile N X i F G d.0 (λ n e. sub n (or_left (left_names X n) (left_names Y n) e)) g in
      let v = final profile X i F in
      let w = final profile X i G in
      let dy = right_tidy profile l X q Y i F d in
      let subY = λ (n : Name) (e : left_names Y n ≡ true). sub n (or_right (left_names X n) (left_names Y n) e) in
      let b = frame profile N Y (q ++ v.out) v.files w.files dy subY a.files in (
        h.0,
        left_uncut N X i F G d.0 (λ n e. sub n (or_left (left_names X n) (left_names Y n) e)) g h.1,
        subst (λ o. IsUncutLeft profile Y (q ++ o) w.files) a.out (left_uncut N Y (q ++ v.out) v.files w.files dy subY a.files h.2),
        cut_same N _ _ (alike_then N (λ o. final profile Y (q ++ o)) (λ o. left_met profile Y (q ++ o)) v.out w.out v.files w.files a.out b) h.3,
      )
  left_uncut N (unopened m f T) i F G d sub g h = tree_uncut N (redir m f T) i F G d.1 sub g h
  left_uncut N (from f at X) i F G d sub g h =
      let e = g.at f (sub f (named_self f (left_names X f))) in
      subst (λ o. IsUncutLeft profile X (drop at (bytes_of o)) G) e (left_uncut N X (drop at (bytes_of (F f))) F G d.0 (λ n e. sub n (or_right (bytes_eq n f) (left_names X n) e)) g h)
  left_uncut N (into f at X) i F G d sub g h = left_uncut N X i F G d.0 (λ n e. sub n (or_right (bytes_eq n f) (left_names X n) e)) g h
