-- A command that doesn't use its input leaves it, and gives the same on any; so does what no longer holds descriptor 0. What
-- no longer holds descriptor 1 writes nothing. Soft names are written.
use Rattle.std.proofs.Common.{◌≡◌, Bool, true, false, [], ◌++◌, Option, Some, None, drop, refl, sym, ap, ◌∙◌, subst}
use Rattle.std.specs.Prelude.{◌&&◌, if◌then◌else◌}
use Rattle.std.specs.Str.{bytes_eq}
use Rattle.std.proofs.lemmas.Bool.{or_from, and_right}
use Rattle.sh_tree.specs.declared.tree.Mode.{Mode}
use Rattle.sh_tree.specs.declared.tree.Mode.TheVariants.{Input, Fresh, Over}
use Rattle.sh_tree.specs.Tree.{Tree, exec, redir, pipe, list, back}
use Rattle.mem_files.specs.Name.{Name, Bytes, is_openable}
use Rattle.mem_files.specs.Files.{FileMap, bytes_of}
use Rattle.prog_parts.specs.NameSets.{Names, no_names, both}
use Rattle.conflict_check.specs.Names.{names, writes, uses_input}
use Rattle.script_load.specs.declared.profile.Profile.{Profile}
use Rattle.meaning_model.specs.Inputs.{found}
use Rattle.meaning_model.specs.Met.{seq_met, input_met, met_names}
use Rattle.meaning_model.specs.Value.{Value, seq_value, is_cut}
use Rattle.meaning_model.specs.Meaning.{input_value, output_value, opened, written_value, meaning}
use Rattle.meaning_model.proofs.Firm.{firm_words}
use Rattle.tree_model.specs.Residual.{Residual, done, todo, running, seq, piped, unopened, from, into, Position, left_writes, left_uses, keeps_0, keeps_1}
use Rattle.tree_model.specs.Final.{piped_value, patch_value, final, pipe_met, left_met}
use Rattle.tree_model.specs.Tidy.{HasShortCommands, IsTidy}
use Rattle.law_trees.proofs.trees.Bools.{all3}
use Rattle.law_trees.proofs.trees.Running.{words_unused, run_firm, run_unused}
use Rattle.law_trees.proofs.trees.TreeFrame.{out_value}
use Rattle.meaning_model.proofs.Bools.{not_left, not_right}

abbrev pub with_rest : Bytes → Value → Value
with_rest i v = record v { rest = i }

-- the rest is the input, and all else is as on another input, as are the names that are met
pub record Free (v w : Value) (m k : Names) (i : Bytes) : Type 0 where
  pub same : v ≡ with_rest i w
  pub met : m ≡ k
  pub tight : v.loose ≡ false

-- soft names are written
soft_input : (b : Option Bytes) (i : Bytes) (F : FileMap) (k : Bytes → Value) (n : Name) → ((x : Bytes) → (k x).soft n ≡ false) → (input_value b i F k).soft n ≡ false
soft_input None i F k n a = refl
soft_input (Some b) i F k n a = a b

soft_pipe : (c : Bool) (ws : Names) (u : Bool) (v w : Value) (n : Name) → ws n ≡ false → v.soft n ≡ false → w.soft n ≡ false → (piped_value c ws u v w).soft n ≡ false
soft_pipe false ws u v w n e a b = all3 (v.soft n) (w.soft n) (is_cut w && ws n) a b (ap (λ t. is_cut w && t) e ∙ and_right (is_cut w) false refl)
soft_pipe true ws u v w n e a b = or_from (w.soft n) (ws n) b e

-- unused input
free_input : (b : Option Bytes) (i j : Bytes) (F : FileMap) (k : Bytes → Value) (m : Bytes → Names) → Free (input_value b i F k) (input_value b j F k) (input_met b m) (input_met b m) i
free_input None i j F k m = record { same = refl; met = refl; tight = refl }
free_input (Some b) i j F k m = record { same = refl; met = refl; tight = refl }

free_seq : (ns : Names) (u : Bool) (v v' w w' : Value) (i : Bytes) {m m' k k' : Names} → Free v v' m m' i → Free w w' k k' i → Free (seq_value v w) (seq_value v' w') (seq_met ns u v m k) (seq_met ns u v' m' k') i
free_seq ns u v v' w w' i a b =
    record { same = λ t. seq_value (a.same t) (b.same t); met = λ t. seq_met ns u (a.same t) (a.met t) (b.met t); tight = or_from v.loose w.loose a.tight b.tight }

free_pipe : (c : Bool) (ws : Names) (u : Bool) (v v' w w' : Value) (i : Bytes) {m m' k k' : Names} → u ≡ false → Free v v' m m' i → w ≡ w' → k ≡ k' → Free (piped_value c ws u v w) (piped_value c ws u v' w') (pipe_met c m k) (pipe_met c m' k') i
free_pipe false ws u v v' w w' i e a b l =
    record { same = λ t. piped_value false ws u (a.same t) (b t); met = λ t. both (a.met t) (l t); tight = or_from v.loose _ a.tight (ap (λ x. is_cut w && x) e ∙ and_right (is_cut w) false refl) }
free_pipe true ws u v v' w w' i e a b l =
    record { same = λ t. piped_value true ws u (a.same t) (b t); met = l; tight = e }

free_patch : (f : Name) (at : Position) (v w : Value) (i : Bytes) {m k : Names} → Free v w m k i → Free (patch_value f at v) (patch_value f at w) m k i
free_patch f at v w i a = record { same = ap (patch_value f at) a.same; met = a.met; tight = a.tight }

-- what comes after, on what is left, of something free
free_then : (k : Bytes → FileMap → Value) (m : Bytes → FileMap → Names) (v w : Value) (i : Bytes) → v ≡ with_rest i w → ((j : Bytes) (F : FileMap) → Free (k i F) (k j F) (m i F) (m j F) i) → Free (k v.rest v.files) (k w.rest w.files) (m v.rest v.files) (m w.rest w.files) i
free_then k m v w i same h = subst (λ x. Free (k x.rest x.files) (k w.rest w.files) (m x.rest x.files) (m w.rest w.files) i) (sym same) (h w.rest w.files)

module _ (profile : Profile) where
  soft_out : (m : Mode) (f : Name) (i : Bytes) (F : FileMap) (v : Value) (n : Name) → v.soft n ≡ false → (out_value profile m f i F v).soft n ≡ false
  soft_out m f i F v n a = go (is_openable f)
    where
      go : (t : Bool) → (output_value t i F (written_value profile m f F v)).soft n ≡ false
      go false = refl
      go true = a

  pub tree_soft : (T : Tree) (i : Bytes) (F : FileMap) (n : Name) → writes T n ≡ false → (meaning profile T i F).soft n ≡ false
  tree_soft (exec words) i F n e = (firm_words words i F).soft n
  tree_soft (back T) i F n e = tree_soft T i F n e
  tree_soft (redir Input f T) i F n e = soft_input (found F f) i F (λ b. meaning profile T b F) n (λ b. tree_soft T b F n e)
  tree_soft (redir Fresh f T) i F n e = soft_out Fresh f i F (meaning profile T i (opened Fresh f F)) n (tree_soft T i (opened Fresh f F) n (not_right (bytes_eq n f) (writes T n) e))
  tree_soft (redir Over f T) i F n e = soft_out Over f i F (meaning profile T i (opened Over f F)) n (tree_soft T i (opened Over f F) n (not_right (bytes_eq n f) (writes T n) e))
  tree_soft (list A B) i F n e =
      let v = meaning profile A i F in
      or_from (v.soft n) ((meaning profile B v.rest v.files).soft n) (tree_soft A i F n (not_left (writes A n) (writes B n) e)) (tree_soft B v.rest v.files n (not_right (writes A n) (writes B n) e))
  tree_soft (pipe A B) i F n e =
      let v = meaning profile A i F in
      let ea = not_left (writes A n) (writes B n) e in
      soft_pipe false (writes A) (uses_input A) v (meaning profile B v.out v.files) n ea (tree_soft A i F n ea) (tree_soft B v.out v.files n (not_right (writes A n) (writes B n) e))

  pub soft : (X : Residual) (i : Bytes) (F : FileMap) (n : Name) → left_writes X n ≡ false → (final profile X i F).soft n ≡ false
  soft done i F n e = refl
  soft (todo T) i F n e = tree_soft T i F n e
  soft (running run) i F n e = (run_firm run i F).soft n
  soft (seq X B) i F n e =
      let v = final profile X i F in
      or_from (v.soft n) ((meaning profile B v.rest v.files).soft n) (soft X i F n (not_left (left_writes X n) (writes B n) e)) (tree_soft B v.rest v.files n (not_right (left_writes X n) (writes B n) e))
  soft (piped c X q Y) i F n e =
      let v = final profile X i F in
      let ea = not_left (left_writes X n) (left_writes Y n) e in
      soft_pipe c (left_writes X) (left_uses X) v (final profile Y (q ++ v.out) v.files) n ea (soft X i F n ea) (soft Y (q ++ v.out) v.files n (not_right (left_writes X n) (left_writes Y n) e))
  soft (unopened m f T) i F n e = tree_soft (redir m f T) i F n e
  soft (from f at X) i F n e = soft X (drop at (bytes_of (F f))) F n e
  soft (into f at X) i F n e = soft X i F n (not_right (bytes_eq n f) (left_writes X n) e)

  free_out : (m : Mode) (f : Name) (i j : Bytes) (F : FileMap) (v w : Value) {ns ks : Names} → Free v w ns ks i → Free (out_value profile m f i F v) (out_value profile m f j F w) (if is_openable f then ns else no_names) (if is_openable f then ks else no_names) i
  free_out m f i j F v w {ns = ns} {ks = ks} a = go (is_openable f)
    where
      go : (t : Bool) → Free (output_value t i F (written_value profile m f F v)) (output_value t j F (written_value profile m f F w)) (if t then ns else no_names) (if t then ks else no_names) i
      go false = record { same = refl; met = refl; tight = refl }
      go true = record { same = ap (λ x. written_value profile m f F x) a.same; met = a.met; tight = a.tight }

  pub tree_free : (T : Tree) (i j : Bytes) (F : FileMap) → HasShortCommands T → uses_input T ≡ false → Free (meaning profile T i F) (meaning profile T j F) (met_names profile T i F) (met_names profile T j F) i
  tree_free (exec words) i j F s e = record { same = words_unused words i j F s e; met = refl; tight = (firm_words words i F).loose }
  tree_free (back T) i j F s e = tree_free T i j F s e
  tree_free (redir Input f T) i j F s e = free_input (found F f) i j F (λ b. meaning profile T b F) (λ b. met_names profile T b F)
  tree_free (redir Fresh f T) i j F s e = free_out Fresh f i j F _ _ (tree_free T i j (opened Fresh f F) s e)
  tree_free (redir Over f T) i j F s e = free_out Over f i j F _ _ (tree_free T i j (opened Over f F) s e)
  tree_free (list A B) i j F s e =
      let v = meaning profile A i F in
      let w = meaning profile A j F in
      let a = tree_free A i j F s.0 (not_left (uses_input A) (uses_input B) e) in
      free_seq (names B) (uses_input B) v w _ _ i a (free_then (meaning profile B) (met_names profile B) v w i a.same (λ j' G. tree_free B i j' G s.1 (not_right (uses_input A) (uses_input B) e)))
  tree_free (pipe A B) i j F s e =
      let v = meaning profile A i F in
      let w = meaning profile A j F in
      let a = tree_free A i j F s.0 e in
      free_pipe false (writes A) (uses_input A) v w _ _ i e a (ap (λ x. meaning profile B x.out x.files) a.same) (ap (λ x. met_names profile B x.out x.files) a.same)

  pub free : (X : Residual) (i j : Bytes) (F : FileMap) → IsTidy X F → left_uses X ≡ false → Free (final profile X i F) (final profile X j F) (left_met profile X i F) (left_met profile X j F) i
  free done i j F h e = record { same = refl; met = refl; tight = refl }
  free (todo T) i j F h e = tree_free T i j F h.1 e
  free (running run) i j F h e = record { same = run_unused run i j F h e; met = refl; tight = (run_firm run i F).loose }
  free (seq X B) i j F h e =
      let v = final profile X i F in
      let w = final profile X j F in
      let a = free X i j F h.0 (not_left (left_uses X) (uses_input B) e) in
      free_seq (names B) (uses_input B) v w _ _ i a (free_then (meaning profile B) (met_names profile B) v w i a.same (λ j' G. tree_free B i j' G h.1.1 (not_right (left_uses X) (uses_input B) e)))
  free (piped c X q Y) i j F h e =
      let v = final profile X i F in
      let w = final profile X j F in
      let a = free X i j F h.0 e in
      free_pipe c (left_writes X) (left_uses X) v w _ _ i e a (ap (λ x. final profile Y (q ++ x.out) x.files) a.same) (ap (λ x. left_met profile Y (q ++ x.out) x.files) a.same)
  free (unopened m f T) i j F h e = tree_free (redir m f T) i j F h.1 e
  free (from f at X) i j F h e = record { same = refl; met = refl; tight = refl }
  free (into f at X) i j F h e = free_patch f at (final profile X i F) (final profile X j F) i (free X i j F h.0 e)

  -- what doesn't keep descriptor 0
  pub closed_0 : (X : Residual) (i j : Bytes) (F : FileMap) → keeps_0 X ≡ false → Free (final profile X i F) (final profile X j F) (left_met profile X i F) (left_met profile X j F) i
  closed_0 done i j F e = record { same = refl; met = refl; tight = refl }
  closed_0 (todo T) i j F e = cc
  closed_0 (running run) i j F e = cc
  closed_0 (seq X B) i j F e = cc
  closed_0 (piped c X q Y) i j F e = cc
  closed_0 (unopened Input f T) i j F e = free_input (found F f) i j F (λ b. meaning profile T b F) (λ b. met_names profile T b F)
  closed_0 (unopened Fresh f T) i j F e = cc
  closed_0 (unopened Over f T) i j F e = cc
  closed_0 (from f at X) i j F e = record { same = refl; met = refl; tight = refl }
  closed_0 (into f at X) i j F e = free_patch f at (final profile X i F) (final profile X j F) i (closed_0 X i j F e)

  out_none : (m : Mode) (f : Name) (i : Bytes) (F : FileMap) (v : Value) → (out_value profile m f i F v).out ≡ []
  out_none m f i F v = go (is_openable f)
    where
      go : (t : Bool) → (output_value t i F (written_value profile m f F v)).out ≡ []
      go false = refl
      go true = refl

  -- what doesn't keep descriptor 1
  pub closed_1 : (X : Residual) (i : Bytes) (F : FileMap) → keeps_1 X ≡ false → (final profile X i F).out ≡ []
  closed_1 done i F e = refl
  closed_1 (todo T) i F e = cc
  closed_1 (running run) i F e = cc
  closed_1 (seq X B) i F e = cc
  closed_1 (piped c X q Y) i F e = cc
  closed_1 (unopened Input f T) i F e = cc
  closed_1 (unopened Fresh f T) i F e = out_none Fresh f i F (meaning profile T i (opened Fresh f F))
  closed_1 (unopened Over f T) i F e = out_none Over f i F (meaning profile T i (opened Over f F))
  closed_1 (from f at X) i F e = closed_1 X (drop at (bytes_of (F f))) F e
  closed_1 (into f at X) i F e = refl
