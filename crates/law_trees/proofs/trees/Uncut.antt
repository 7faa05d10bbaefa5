-- Where no pipe is cut nothing is soft or loose, and no name is met; so such a tree is settled.
use Rattle.std.proofs.Common.{◌≡◌, Bool, true, false, Option, Some, None, refl}
use Rattle.std.specs.Prelude.{◌&&◌, if◌then◌else◌, IfSome}
use Rattle.std.proofs.lemmas.Bool.{or_from, and_left}
use Rattle.sh_tree.specs.declared.tree.Mode.{Mode}
use Rattle.sh_tree.specs.declared.tree.Mode.TheVariants.{Input, Fresh, Over}
use Rattle.sh_tree.specs.Tree.{Tree, exec, redir, pipe, list, back}
use Rattle.mem_files.specs.Name.{Name, Bytes, is_openable}
use Rattle.mem_files.specs.Files.{FileMap}
use Rattle.prog_parts.specs.NameSets.{Names, no_names, both}
use Rattle.conflict_check.specs.Names.{names, writes, uses_input}
use Rattle.script_load.specs.declared.profile.Profile.{Profile}
use Rattle.meaning_model.specs.Firm.{IsFirm}
use Rattle.meaning_model.specs.Inputs.{found}
use Rattle.meaning_model.specs.Meaning.{input_value, output_value, opened, written_value, meaning}
use Rattle.meaning_model.specs.Met.{seq_met, input_met, met_names}
use Rattle.meaning_model.specs.Settled.{with_name, IsSettled}
use Rattle.meaning_model.specs.Value.{Value, nothing, seq_value, pipe_value, is_cut}
use Rattle.meaning_model.proofs.Firm.{firm_words}
use Rattle.tree_model.specs.Uncut.{IsUncut}
use Rattle.law_trees.proofs.trees.Bools.{not_both, all4}

-- nothing of a value depends on the order, and none of these names is met
pub record StandsFirm (v : Value) (names : Names) : Type 0 where
  pub loose : v.loose ≡ false
  pub soft : (n : Name) → v.soft n ≡ false
  pub met : (n : Name) → names n ≡ false

pub of_firm : (v : Value) → IsFirm v → StandsFirm v no_names
of_firm v h = record { loose = h.loose; soft = h.soft; met = λ n. refl }

pub firm_nothing : (i : Bytes) (F : FileMap) → StandsFirm (nothing i F) no_names
firm_nothing i F = record { loose = refl; soft = λ n. refl; met = λ n. refl }

pub firm_seq : (ns : Names) (u : Bool) (v w : Value) (m k : Names) → StandsFirm v m → StandsFirm w k → StandsFirm (seq_value v w) (seq_met ns u v m k)
firm_seq ns u v w m k a b = record {
  loose = or_from v.loose w.loose a.loose b.loose;
  soft = λ n. or_from (v.soft n) (w.soft n) (a.soft n) (b.soft n);
  met = λ n. all4 (m n) (k n) (v.soft n && ns n) (v.loose && u) (a.met n) (b.met n) (and_left (v.soft n) (ns n) (a.soft n)) (and_left v.loose u a.loose);
}

pub firm_pipe : (ws : Names) (u : Bool) (v w : Value) (m k : Names) → is_cut w ≡ false → StandsFirm v m → StandsFirm w k → StandsFirm (pipe_value ws u v w) (both m k)
firm_pipe ws u v w m k c a b = record {
  loose = or_from v.loose (is_cut w && u) a.loose (and_left (is_cut w) u c);
  soft = λ n. or_from (either n) (is_cut w && ws n) (or_from (v.soft n) (w.soft n) (a.soft n) (b.soft n)) (and_left (is_cut w) (ws n) c);
  met = λ n. or_from (m n) (k n) (a.met n) (b.met n);
}
  where
    either : Name → Bool
    either n = both v.soft w.soft n

module _ (profile : Profile) where
  firm_input : (o : Option Bytes) (i : Bytes) (F : FileMap) (T : Tree) → ((b : Bytes) → IsUncut profile T b F → StandsFirm (meaning profile T b F) (met_names profile T b F)) → IfSome o (λ b. IsUncut profile T b F) → StandsFirm (input_value o i F (λ b. meaning profile T b F)) (input_met o (λ b. met_names profile T b F))
  firm_input None i F T each h = firm_nothing i F
  firm_input (Some b) i F T each h = let g = each b h in record { loose = refl; soft = g.soft; met = g.met }

  firm_output : (m : Mode) (f : Name) (i : Bytes) (F : FileMap) (v : Value) (ns : Names) → (is_openable f ≡ true → StandsFirm v ns) → StandsFirm (output_value (is_openable f) i F (written_value profile m f F v)) (if is_openable f then ns else no_names)
  firm_output m f i F v ns h = go (is_openable f) h
    where
      go : (t : Bool) → (t ≡ true → StandsFirm v ns) → StandsFirm (output_value t i F (written_value profile m f F v)) (if t then ns else no_names)
      go false h = firm_nothing i F
      go true h = let g = h refl in record { loose = g.loose; soft = g.soft; met = g.met }

  pub uncut_firm : (T : Tree) (i : Bytes) (F : FileMap) → IsUncut profile T i F → StandsFirm (meaning profile T i F) (met_names profile T i F)
  uncut_firm (exec words) i F h = of_firm _ (firm_words words i F)
  uncut_firm (back T) i F h = uncut_firm T i F h
  uncut_firm (redir Input f T) i F h = firm_input (found F f) i F T (λ b g. uncut_firm T b F g) h
  uncut_firm (redir Fresh f T) i F h = firm_output Fresh f i F _ _ (λ e. uncut_firm T i (opened Fresh f F) (h e))
  uncut_firm (redir Over f T) i F h = firm_output Over f i F _ _ (λ e. uncut_firm T i (opened Over f F) (h e))
  uncut_firm (list A B) i F h =
      let v = meaning profile A i F in
      firm_seq (names B) (uses_input B) v (meaning profile B v.rest v.files) _ _ (uncut_firm A i F h.0) (uncut_firm B v.rest v.files h.1)
  uncut_firm (pipe A B) i F h =
      let v = meaning profile A i F in
      firm_pipe (writes A) (uses_input A) v (meaning profile B v.out v.files) _ _ h.2 (uncut_firm A i F h.0) (uncut_firm B v.out v.files h.1)

  -- so such a tree is settled, whatever stands outside it
  settled_input : (o : Option Bytes) (T : Tree) (outside : Names) (F : FileMap) → ((b : Bytes) → IsUncut profile T b F → IsSettled profile T outside b F) → IfSome o (λ b. IsUncut profile T b F) → IfSome o (λ b. IsSettled profile T outside b F)
  settled_input None T outside F each h = h
  settled_input (Some b) T outside F each h = each b h

  pub uncut_settled : (T : Tree) (outside : Names) (i : Bytes) (F : FileMap) → IsUncut profile T i F → IsSettled profile T outside i F
  uncut_settled (exec words) outside i F h = tt
  uncut_settled (back T) outside i F h = uncut_settled T outside i F h
  uncut_settled (redir Input f T) outside i F h = settled_input (found F f) T (with_name f outside) F (λ b g. uncut_settled T (with_name f outside) b F g) h
  uncut_settled (redir Fresh f T) outside i F h = λ e. uncut_settled T (with_name f outside) i (opened Fresh f F) (h e)
  uncut_settled (redir Over f T) outside i F h = λ e. uncut_settled T (with_name f outside) i (opened Over f F) (h e)
  uncut_settled (list A B) outside i F h =
      let v = meaning profile A i F in (
        uncut_settled A (both (names B) outside) i F h.0,
        uncut_settled B (both (names A) outside) v.rest v.files h.1,
        λ loose. not_both v.loose loose ((uncut_firm A i F h.0).loose),
      )
  uncut_settled (pipe A B) outside i F h =
      let v = meaning profile A i F in (
        uncut_settled A (both (names B) outside) i F h.0,
        uncut_settled B (both (names A) outside) v.out v.files h.1,
        λ cut. not_both (is_cut (meaning profile B v.out v.files)) cut h.2,
      )
