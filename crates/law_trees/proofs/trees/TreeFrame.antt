-- What a command gives depends on the files that it names alone, and it changes those that it writes alone.
use Rattle.std.proofs.Common.{◌≡◌, ◌∙◌, true, false, ap}
use Rattle.std.specs.Prelude.{if◌then◌else◌}
use Rattle.std.specs.Str.{bytes_eq}
use Rattle.std.proofs.lemmas.Bool.{or_left, or_right}
use Rattle.sh_tree.specs.declared.tree.Mode.{Mode}
use Rattle.sh_tree.specs.declared.tree.Mode.TheVariants.{Input, Fresh, Over}
use Rattle.sh_tree.specs.Tree.{Tree, exec, redir, pipe, list, back}
use Rattle.mem_files.specs.Name.{Name, Bytes, is_openable}
use Rattle.mem_files.specs.Files.{FileMap, bytes_of}
use Rattle.prog_parts.specs.NameSets.{Names, no_names}
use Rattle.conflict_check.specs.Names.{names, writes, uses_input}
use Rattle.script_load.specs.declared.profile.Profile.{Profile}
use Rattle.meaning_model.specs.Inputs.{found}
use Rattle.meaning_model.specs.Met.{met_names}
use Rattle.meaning_model.specs.Value.{Value}
use Rattle.meaning_model.specs.Meaning.{output_value, opened, at_end, written_value, meaning}
use Rattle.tree_model.specs.Tidy.{HasShortCommands}
use Rattle.law_trees.proofs.trees.Parts.{agree_opened, alike_into, found_same, alike_input, alike_output, named_self, with_other, opened_other, input_only, output_only}
use Rattle.law_trees.proofs.trees.Running.{words_frame, words_only}
use Rattle.law_trees.proofs.trees.Values.{Agree, Alike, alike_seq, alike_pipe, alike_then}
use Rattle.meaning_model.proofs.Bools.{not_left, not_right}

module _ (profile : Profile) where
  pub at_end-ap : (m : Mode) (w w' o o' : Bytes) → w ≡ w' → o ≡ o' → at_end profile m w o ≡ at_end profile m w' o'
  at_end-ap m w w' o o' e f = λ t. at_end profile m (e t) (f t)

  abbrev pub out_value : Mode → Name → Bytes → FileMap → Value → Value
  out_value m f i F v = output_value (is_openable f) i F (written_value profile m f F v)

  alike_out : (N : Name → Type 0) (m : Mode) (f : Name) (i : Bytes) (F G : FileMap) (v w : Value) {ns ks : Names} → N f → Agree N F G → Alike N v w ns ks → Alike N (out_value m f i F v) (out_value m f i G w) (if is_openable f then ns else no_names) (if is_openable f then ks else no_names)
  alike_out N m f i F G v w nf h a = alike_output N (is_openable f) i F G _ _ h (alike_into N f _ _ v w (at_end-ap m _ _ _ _ (ap bytes_of (h.at f nf)) a.out) a)

  out_only : (m : Mode) (f : Name) (i : Bytes) (F : FileMap) (v : Value) (n : Name) → bytes_eq n f ≡ false → v.files n ≡ opened m f F n → (out_value m f i F v).files n ≡ F n
  out_only m f i F v n other a = output_only (is_openable f) i F _ n (with_other v.files f n _ other ∙ a ∙ opened_other m F f n other)

  pub tree_frame : (N : Name → Type 0) (T : Tree) (i : Bytes) (F G : FileMap) → HasShortCommands T → ((n : Name) → names T n ≡ true → N n) → Agree N F G → Alike N (meaning profile T i F) (meaning profile T i G) (met_names profile T i F) (met_names profile T i G)
  tree_frame N (exec words) i F G s sub h = words_frame N words i F G s sub h
  tree_frame N (back T) i F G s sub h = tree_frame N T i F G s sub h
  tree_frame N (redir Input f T) i F G s sub h =
      alike_input N (found F f) (found G f) i F G (λ b. meaning profile T b F) (λ b. meaning profile T b G) (λ b. met_names profile T b F) (λ b. met_names profile T b G) (found_same f F G (h.at f (sub f (named_self f (names T f))))) h
      (λ b. tree_frame N T b F G s (λ n e. sub n (or_right (bytes_eq n f) (names T n) e)) h)
  tree_frame N (redir Fresh f T) i F G s sub h =
      let nf = sub f (named_self f (names T f)) in
      alike_out N Fresh f i F G _ _ nf h (tree_frame N T i (opened Fresh f F) (opened Fresh f G) s (λ n e. sub n (or_right (bytes_eq n f) (names T n) e)) (agree_opened N Fresh F G f nf h))
  tree_frame N (redir Over f T) i F G s sub h =
      let nf = sub f (named_self f (names T f)) in
      alike_out N Over f i F G _ _ nf h (tree_frame N T i (opened Over f F) (opened Over f G) s (λ n e. sub n (or_right (bytes_eq n f) (names T n) e)) (agree_opened N Over F G f nf h))
  tree_frame N (list A B) i F G s sub h =
      let a = tree_frame N A i F G s.0 (λ n e. sub n (or_left (names A n) (names B n) e)) h in
      let v = meaning profile A i F in
      let w = meaning profile A i G in
      let b = tree_frame N B v.rest v.files w.files s.1 (λ n e. sub n (or_right (names A n) (names B n) e)) a.files in
      alike_seq N (names B) (uses_input B) v w _ _ a (alike_then N (meaning profile B) (met_names profile B) v.rest w.rest v.files w.files a.rest b)
  tree_frame N (pipe A B) i F G s sub h =
      let a = tree_frame N A i F G s.0 (λ n e. sub n (or_left (names A n) (names B n) e)) h in
      let v = meaning profile A i F in
      let w = meaning profile A i G in
      let b = tree_frame N B v.out v.files w.files s.1 (λ n e. sub n (or_right (names A n) (names B n) e)) a.files in
      alike_pipe N false (writes A) (uses_input A) v w _ _ a (alike_then N (meaning profile B) (met_names profile B) v.out w.out v.files w.files a.out b)

  pub tree_only : (T : Tree) (i : Bytes) (F : FileMap) (n : Name) → HasShortCommands T → writes T n ≡ false → (meaning profile T i F).files n ≡ F n
  tree_only (exec words) i F n s e = words_only words i F n s e
  tree_only (back T) i F n s e = tree_only T i F n s e
  tree_only (redir Input f T) i F n s e = input_only (found F f) i F (λ b. meaning profile T b F) n (λ b. tree_only T b F n s e)
  tree_only (redir Fresh f T) i F n s e =
      out_only Fresh f i F _ n (not_left (bytes_eq n f) (writes T n) e) (tree_only T i (opened Fresh f F) n s (not_right (bytes_eq n f) (writes T n) e))
  tree_only (redir Over f T) i F n s e =
      out_only Over f i F _ n (not_left (bytes_eq n f) (writes T n) e) (tree_only T i (opened Over f F) n s (not_right (bytes_eq n f) (writes T n) e))
  tree_only (list A B) i F n s e =
      let v = meaning profile A i F in
      tree_only B v.rest v.files n s.1 (not_right (writes A n) (writes B n) e) ∙ tree_only A i F n s.0 (not_left (writes A n) (writes B n) e)
  tree_only (pipe A B) i F n s e =
      let v = meaning profile A i F in
      tree_only B v.out v.files n s.1 (not_right (writes A n) (writes B n) e) ∙ tree_only A i F n s.0 (not_left (writes A n) (writes B n) e)
