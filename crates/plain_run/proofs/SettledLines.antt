-- Lines one after the other: whether they are settled so far, and the lines that are left are, says whether the whole is.
use Rattle.std.proofs.Common.{◌≡◌, ◌↔◌, IsTrue, ℕ, ◌+◌, ◌<◌, Bool, true, false, not, ◌||◌, ◌&&◌, List, [], ◌∷◌, ◌++◌, length, take, get_or, refl, sym, ap, subst, ◌∙◌}
use Rattle.std.specs.Prelude.{map}
use Rattle.std.specs.List.{list_any}
use Rattle.std.proofs.lemmas.Bool.{false≢true, or_parts, or_from, or_left, or_right, and_from, and_parts}
use Rattle.std.proofs.lemmas.List.{take_more}
use Rattle.mem_files.specs.Name.{Name, Bytes}
use Rattle.mem_files.specs.Files.{FileMap}
use Rattle.conflict_check.specs.Clear.{has_back, IsClear}
use Rattle.prog_parts.specs.NameSets.{Names, no_names, among, both}
use Rattle.conflict_check.specs.Names.{names, uses_input}
use Rattle.script_load.specs.declared.line.Line.{Line}
use Rattle.script_load.specs.Line.{ScriptLine, line_of}
use Rattle.script_load.specs.declared.profile.Profile.{Profile}
use Rattle.meaning_model.specs.Meaning.{meaning, line_tree, script_tree}
use Rattle.meaning_model.specs.Settled.{AreNoneOf, IsSettled}
use Rattle.plain_run.specs.Gives.{Gives}
use Rattle.plain_run.specs.Spans.{all_names}
use Rattle.plain_run.specs.Tells.{Tells}
use Rattle.plain_run.proofs.NameSets.{exchanged}
use Rattle.plain_run.proofs.Settling.{soft_inside, settled_among, settled_alone, none_of_these, these_pass, not_true, not_both, never_both, either}

not_false : (b : Bool) → b ≡ false → not b ≡ true
not_false true e = sym e
not_false false e = refl

names_push : {B : _} (lines : List (Line B)) (line : Line B) (name : Name) → all_names (lines ++ line ∷ []) name ≡ (names (line_tree (line_of line)) name || all_names lines name)
names_push [] line name = refl
names_push (first ∷ lines) line name = ap (λ b. names (line_tree (line_of first)) name || b) (names_push lines line name) ∙ exchanged (names (line_tree (line_of first)) name) (names (line_tree (line_of line)) name) (all_names lines name)

-- the whole is settled just where the lines so far are and the lines that are left, among those before them, are
pub record IsSettledTo (profile : Profile) (whole : List ScriptLine) (input : Bytes) (F : FileMap) (before : Names) (lines : List ScriptLine) (rest : Bytes) (G : FileMap) (is_settled is_loose : Bool) : Type 0 where
  pub to : IsSettled profile (script_tree whole) no_names input F → IsTrue is_settled × IsSettled profile (script_tree lines) before rest G × (is_loose ≡ true → uses_input (script_tree lines) ≡ false)
  pub from : IsTrue is_settled → IsSettled profile (script_tree lines) before rest G → (is_loose ≡ true → uses_input (script_tree lines) ≡ false) → IsSettled profile (script_tree whole) no_names input F

not_so : (b : Bool) (P : Type 0) → b ≡ false → b ≡ true → P
not_so true P first second = absurd (false≢true (sym first))
not_so false P first second = absurd (false≢true second)

pub settled_none : (profile : Profile) (lines : List ScriptLine) (input : Bytes) (F : FileMap) (is_settled is_loose : Bool) → is_settled ≡ true → is_loose ≡ false → IsSettledTo profile lines input F no_names lines input F is_settled is_loose
settled_none profile lines input F is_settled is_loose s l = record {
  to = λ settled. (s, settled, λ is. not_so is_loose (uses_input (script_tree lines) ≡ false) l is);
  from = λ _ settled _. settled;
}

pub settled_all : (profile : Profile) (whole : List ScriptLine) (input : Bytes) (F : FileMap) (before : Names) (lines : List ScriptLine) (rest : Bytes) (G : FileMap) (is_settled is_loose : Bool) → lines ≡ [] → IsSettledTo profile whole input F before lines rest G is_settled is_loose → IsTrue is_settled ↔ IsSettled profile (script_tree whole) no_names input F
settled_all profile whole input F before lines rest G is_settled is_loose none so_far =
    let end = subst (λ ls. IsSettledTo profile whole input F before ls rest G is_settled is_loose) none so_far in
    (λ is. end.from is tt (λ _. refl), λ settled. (end.to settled).0)

-- one more line
pub settled_one : (profile : Profile) (whole : List ScriptLine) (input : Bytes) (F : FileMap) (before later : Names) (line : ScriptLine) (lines : List ScriptLine) (rest now new left : Bytes) (G H : FileMap) (s own all loose one both' meets : Bool) (words : List Name)
    → IsSettledTo profile whole input F before (line ∷ lines) rest G s loose
    → Gives (meaning profile (line_tree line) rest G) now new left H → Tells (meaning profile (line_tree line) rest G) one words
    → IsTrue own ↔ IsSettled profile (line_tree line) no_names rest G
    → (meets ≡ false → AreNoneOf (among words) (both (names (script_tree lines)) before)) → (AreNoneOf (among words) (both (names (script_tree lines)) before) → meets ≡ false)
    → ((name : Name) → later name ≡ (names (line_tree line) name || before name))
    → all ≡ (s && own && not meets && not (loose && uses_input (line_tree line))) → both' ≡ (loose || one)
    → IsSettledTo profile whole input F later lines left H all both'
settled_one profile whole input F before later line lines rest now new left G H s own all loose one both' meets words so_far gives told alone apart meet same e l =
    let T = line_tree line in
    let A = script_tree lines in
    let V = meaning profile T rest G in
    let W = meaning profile A V.rest V.files in
    let there : IsSettled profile A later V.rest V.files → IsSettled profile A later left H = λ h. subst (λ K. IsSettled profile A later left K) (sym gives.files) (subst (λ i. IsSettled profile A later i V.files) (sym gives.rest) h) in
    let back' : IsSettled profile A later left H → IsSettled profile A later V.rest V.files = λ h. subst (λ K. IsSettled profile A later V.rest K) gives.files (subst (λ i. IsSettled profile A later i H) gives.rest h) in
    record {
      to = λ settled.
          let p = so_far.to settled in
          let inside = soft_inside profile T (both (names A) before) rest G p.1.0 in
          let a = soft_inside profile A (both (names T) before) V.rest V.files p.1.1 in (
            e ∙ and_from (s && own && not meets) (not (loose && uses_input T))
                (and_from (s && own) (not meets) (and_from s own p.0 (alone.1 (settled_alone profile T (both (names A) before) rest G p.1.0))) (not_false meets (meet (λ name is. inside name (sym (told.soft name) ∙ is)))))
                (never_both loose (uses_input T) (λ is. (or_parts (uses_input T) (uses_input A) (p.2 is)).0)),
            there (settled_among profile A (both (names T) before) later V.rest V.files p.1.1 (λ name is. same name ∙ a name is)),
            λ is. either loose one (sym l ∙ is) (λ was. (or_parts (uses_input T) (uses_input A) (p.2 was)).1) (λ its. p.1.2 (sym told.loose ∙ its)),
          );
      from = λ is settled uses.
          let holds = sym e ∙ is in
          let p = and_parts (s && own && not meets) (not (loose && uses_input T)) holds in
          let q = and_parts (s && own) (not meets) p.0 in
          let r = and_parts s own q.0 in
          let none = apart (not_true meets q.1) in
          let inner = back' settled in
          let a = soft_inside profile A later V.rest V.files inner in
          so_far.from r.0 (
            settled_among profile T no_names (both (names A) before) rest G (alone.0 r.1) (λ name soft. none name (told.soft name ∙ soft)),
            settled_among profile A later (both (names T) before) V.rest V.files inner (λ name soft. sym (same name) ∙ a name soft),
            λ its. uses (l ∙ or_right loose one (told.loose ∙ its)),
          )
          (λ was. or_from (uses_input T) (uses_input A) (not_both loose (uses_input T) p.1 was) (uses (l ∙ or_left loose one was)));
    }

-- no word is among these names just where a search finds none
pub apart_words : (words : List Name) (P : Names) (meets : Bool) → meets ≡ list_any P words → meets ≡ false → AreNoneOf (among words) P
apart_words words P meets is e = none_of_these words (among words) P (λ name. refl) (not_false (list_any P words) (sym is ∙ e))

pub meet_words : (words : List Name) (P : Names) (meets : Bool) → meets ≡ list_any P words → AreNoneOf (among words) P → meets ≡ false
meet_words words P meets is none = is ∙ not_true (list_any P words) (these_pass words (among words) P (λ name. refl) none)

pub more_names : {B : _} (lines : List (Line B)) (i : ℕ) (d : Line B) → i < length lines → (name : Name) → names (script_tree (map line_of (take (i + 1) lines))) name ≡ (names (line_tree (line_of (get_or lines i d))) name || names (script_tree (map line_of (take i lines))) name)
more_names lines i d inside name = ap (λ ls. all_names ls name) (take_more lines i d inside) ∙ names_push (take i lines) (get_or lines i d) name

-- no line runs a command behind &, and each is clear
abbrev pub AreClearLines : List ScriptLine → Type 0
AreClearLines lines = (has_back (script_tree lines) ≡ false) × IsClear (script_tree lines)

pub clear_more : (whole : List ScriptLine) (line : ScriptLine) (lines : List ScriptLine) → AreClearLines whole ↔ AreClearLines (line ∷ lines) → (has_back (line_tree line) ≡ false) × IsClear (line_tree line) → AreClearLines whole ↔ AreClearLines lines
clear_more whole line lines so_far (back', clear) = (
  λ w. let p = so_far.0 w in ((or_parts (has_back (line_tree line)) (has_back (script_tree lines)) p.0).1, p.1.1),
  λ rest. so_far.1 (or_from (has_back (line_tree line)) (has_back (script_tree lines)) back' rest.0, (clear, rest.1)),
)
