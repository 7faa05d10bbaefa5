-- In a settled tree no command meets a soft file or a loose input, and what is soft is named nowhere outside it.
use Rattle.std.proofs.Common.{◌≡◌, Bool, true, false, Option, Some, None, refl, sym, ◌∙◌, ap}
use Rattle.std.specs.Prelude.{◌&&◌, if◌then◌else◌, IfSome}
use Rattle.std.specs.Str.{bytes_eq}
use Rattle.std.proofs.lemmas.Bool.{or_from, or_left, or_parts, or_right}
use Rattle.sh_tree.specs.declared.tree.Mode.{Mode}
use Rattle.sh_tree.specs.declared.tree.Mode.TheVariants.{Input, Fresh, Over}
use Rattle.sh_tree.specs.Tree.{Tree, exec, redir, pipe, list, back}
use Rattle.mem_files.specs.Name.{Name, Bytes, is_openable}
use Rattle.mem_files.specs.Files.{FileMap}
use Rattle.prog_parts.specs.NameSets.{Names, no_names, both}
use Rattle.conflict_check.specs.Names.{names, writes, uses_input}
use Rattle.script_load.specs.declared.profile.Profile.{Profile}
use Rattle.meaning_model.specs.Inputs.{found}
use Rattle.meaning_model.specs.Meaning.{input_value, output_value, opened, written_value, meaning}
use Rattle.meaning_model.specs.Met.{seq_met, input_met, met_names}
use Rattle.meaning_model.specs.Settled.{AreNoneOf, with_name, IsSettled}
use Rattle.meaning_model.specs.Value.{Value, nothing, seq_value, pipe_value, is_cut}
use Rattle.meaning_model.proofs.Bools.{and_if_left, and_if_right, apart}
use Rattle.meaning_model.proofs.Firm.{firm_words}

-- no name is met, and what is soft is named nowhere outside
pub record MeetsNothing (outside : Names) (v : Value) (names : Names) : Type 0 where
  pub met : (n : Name) → names n ≡ false
  pub soft : (n : Name) → outside n ≡ true → v.soft n ≡ false

of_nothing : (outside : Names) (input : Bytes) (F : FileMap) → MeetsNothing outside (nothing input F) no_names
of_nothing outside input F = record { met = λ n. refl; soft = λ n e. refl }

of_seq : (outside firsts seconds : Names) (uses : Bool) (v w : Value) (m k : Names) → MeetsNothing (both seconds outside) v m → MeetsNothing (both firsts outside) w k → (v.loose ≡ true → uses ≡ false) → MeetsNothing outside (seq_value v w) (seq_met seconds uses v m k)
of_seq outside firsts seconds uses v w m k g h unused = record {
  met = λ n.
      or_from _ (v.loose && uses)
      (or_from _ (v.soft n && seconds n) (or_from (m n) (k n) (g.met n) (h.met n)) (and_if_right (v.soft n) (seconds n) (λ e. g.soft n (or_left (seconds n) (outside n) e))))
      (and_if_left v.loose uses unused);
  soft = λ n e. or_from (v.soft n) (w.soft n) (g.soft n (or_right (seconds n) (outside n) e)) (h.soft n (or_right (firsts n) (outside n) e));
}

of_pipe : (outside lefts rights written : Names) (uses : Bool) (v w : Value) (m k : Names) → MeetsNothing (both rights outside) v m → MeetsNothing (both lefts outside) w k → (is_cut w ≡ true → AreNoneOf written (both rights outside)) → MeetsNothing outside (pipe_value written uses v w) (both m k)
of_pipe outside lefts rights written uses v w m k g h own = record {
  met = λ n. or_from (m n) (k n) (g.met n) (h.met n);
  soft = λ n e.
      or_from _ (is_cut w && written n)
      (or_from (v.soft n) (w.soft n) (g.soft n (or_right (rights n) (outside n) e)) (h.soft n (or_right (lefts n) (outside n) e)))
      (and_if_left (is_cut w) (written n) (λ c. apart (written n) (outside n) (λ x. (or_parts (rights n) (outside n) (own c n x)).1) e));
}

-- a body that was run under a redirection to or from a file of this name
of_body : (outside : Names) (file : Name) (v w : Value) (m : Names) → (v.soft ≡ w.soft) → MeetsNothing (with_name file outside) v m → MeetsNothing outside w m
of_body outside file v w m same_soft g = record {
  met = g.met;
  soft = λ n e. ap (λ names. names n) (sym same_soft) ∙ g.soft n (or_right (bytes_eq n file) (outside n) e);
}

of_input : (outside : Names) (file : Name) (bytes : Option Bytes) (input : Bytes) (F : FileMap) (body : Bytes → Value) (m : Bytes → Names) (IsGood : Bytes → Type 0) → ((read : Bytes) → IsGood read → MeetsNothing (with_name file outside) (body read) (m read)) → IfSome bytes IsGood → MeetsNothing outside (input_value bytes input F body) (input_met bytes m)
of_input outside file None input F body m IsGood each good = of_nothing outside input F
of_input outside file (Some bytes) input F body m IsGood each good = of_body outside file (body bytes) _ (m bytes) refl (each bytes good)

of_output : (profile : Profile) (outside : Names) (mode : Mode) (file : Name) (input : Bytes) (F : FileMap) (v : Value) (m : Names) → (is_openable file ≡ true → MeetsNothing (with_name file outside) v m) → MeetsNothing outside (output_value (is_openable file) input F (written_value profile mode file F v)) (if is_openable file then m else no_names)
of_output profile outside mode file input F v m body = go (is_openable file) body
  where
    go : (opens : Bool) → (opens ≡ true → MeetsNothing (with_name file outside) v m) → MeetsNothing outside (output_value opens input F (written_value profile mode file F v)) (if opens then m else no_names)
    go false body = of_nothing outside input F
    go true body = of_body outside file v _ m refl (body refl)

pub meets_nothing : (profile : Profile) (tree : Tree) (outside : Names) (input : Bytes) (F : FileMap) → IsSettled profile tree outside input F → MeetsNothing outside (meaning profile tree input F) (met_names profile tree input F)
meets_nothing profile (exec words) outside input F settled = record { met = λ n. refl; soft = λ n e. (firm_words words input F).soft n }
meets_nothing profile (back body) outside input F settled = meets_nothing profile body outside input F settled
meets_nothing profile (redir Input file body) outside input F settled =
    of_input outside file (found F file) input F (λ bytes. meaning profile body bytes F) (λ bytes. met_names profile body bytes F) (λ bytes. IsSettled profile body (with_name file outside) bytes F)
    (λ bytes good. meets_nothing profile body (with_name file outside) bytes F good) settled
meets_nothing profile (redir Fresh file body) outside input F settled = of_output profile outside Fresh file input F _ _ (λ opens. meets_nothing profile body (with_name file outside) input (opened Fresh file F) (settled opens))
meets_nothing profile (redir Over file body) outside input F settled = of_output profile outside Over file input F _ _ (λ opens. meets_nothing profile body (with_name file outside) input (opened Over file F) (settled opens))
meets_nothing profile (list left right) outside input F settled =
    let v = meaning profile left input F in
    of_seq outside (names left) (names right) (uses_input right) v (meaning profile right v.rest v.files) _ _
    (meets_nothing profile left (both (names right) outside) input F settled.0) (meets_nothing profile right (both (names left) outside) v.rest v.files settled.1) settled.2
meets_nothing profile (pipe left right) outside input F settled =
    let v = meaning profile left input F in
    of_pipe outside (names left) (names right) (writes left) (uses_input left) v (meaning profile right v.out v.files) _ _
    (meets_nothing profile left (both (names right) outside) input F settled.0) (meets_nothing profile right (both (names left) outside) v.out v.files settled.1) settled.2
