-- When a command is settled among others: no soft name of it is one of theirs.
use Rattle.std.proofs.Common.{◌≡◌, not, Bool, true, false, ◌||◌, ◌&&◌, List, [], ◌∷◌, Option, Some, None, refl, sym, ap, ◌∙◌}
use Rattle.std.specs.Prelude.{IfSome}
use Rattle.std.specs.List.{list_any}
use Rattle.std.proofs.lemmas.Slice.Eq.{bytes_eq-Decides}
use Rattle.std.specs.Str.{bytes_eq}
use Rattle.std.proofs.lemmas.Bool.{false≢true, or_parts, or_from, or_left, or_right, and_from, and_parts}
use Rattle.sh_tree.specs.declared.tree.Mode.TheVariants.{Input, Fresh, Over}
use Rattle.sh_tree.specs.Tree.{Tree, exec, redir, pipe, list, back}
use Rattle.mem_files.specs.Name.{Name, Bytes, is_openable}
use Rattle.mem_files.specs.Files.{FileMap}
use Rattle.prog_parts.specs.NameSets.{Names, no_names, among, both}
use Rattle.conflict_check.specs.Names.{names, writes}
use Rattle.conflict_check.proofs.Sharing.{none_pass}
use Rattle.script_load.specs.declared.profile.Profile.{Profile}
use Rattle.meaning_model.specs.Inputs.{found}
use Rattle.meaning_model.specs.Meaning.{meaning, opened, input_value, output_value, written_value}
use Rattle.meaning_model.specs.Settled.{AreNoneOf, with_name, IsSettled}
use Rattle.meaning_model.specs.Value.{Value, is_cut}
use Rattle.meaning_model.proofs.Firm.{firm_words}

pub either : {P : Type 0} (a b : Bool) → (a || b) ≡ true → (a ≡ true → P) → (b ≡ true → P) → P
either true b e first second = first refl
either false b e first second = second e

pub both_none : (these those : Names) (name : Name) → these name ≡ false → those name ≡ false → both these those name ≡ false
both_none these those name first second = or_from (these name) (those name) first second

input_none : (o : Option Bytes) (input : Bytes) (F : FileMap) (body : Bytes → Value) (P : Bytes → Type 0) (O : Names) → IfSome o P → ((bytes : Bytes) → P bytes → AreNoneOf (body bytes).soft O) → AreNoneOf (input_value o input F body).soft O
input_none None input F body P O settled each name is = absurd (false≢true is)
input_none (Some bytes) input F body P O settled each name is = each bytes settled name is

output_none : (b : Bool) (input : Bytes) (F : FileMap) (done : Value) (O : Names) → (b ≡ true → AreNoneOf done.soft O) → AreNoneOf (output_value b input F done).soft O
output_none true input F done O each name is = each refl name is
output_none false input F done O each name is = absurd (false≢true is)

-- no soft name of a settled command is outside
pub soft_inside : (profile : Profile) (T : Tree) (O : Names) (input : Bytes) (F : FileMap) → IsSettled profile T O input F → AreNoneOf (meaning profile T input F).soft O
soft_inside profile (exec words) O input F settled name is = absurd (false≢true (sym ((firm_words words input F).soft name) ∙ is))
soft_inside profile (redir Input file body) O input F settled name is =
    input_none (found F file) input F (λ bytes. meaning profile body bytes F) (λ bytes. IsSettled profile body (with_name file O) bytes F) O settled
    (λ bytes inner other soft. (or_parts (bytes_eq other file) (O other) (soft_inside profile body (with_name file O) bytes F inner other soft)).1) name is
soft_inside profile (redir Fresh file body) O input F settled name is =
    output_none (is_openable file) input F (written_value profile Fresh file F (meaning profile body input (opened Fresh file F))) O
    (λ good other soft. (or_parts (bytes_eq other file) (O other) (soft_inside profile body (with_name file O) input (opened Fresh file F) (settled good) other soft)).1) name is
soft_inside profile (redir Over file body) O input F settled name is =
    output_none (is_openable file) input F (written_value profile Over file F (meaning profile body input (opened Over file F))) O
    (λ good other soft. (or_parts (bytes_eq other file) (O other) (soft_inside profile body (with_name file O) input (opened Over file F) (settled good) other soft)).1) name is
soft_inside profile (pipe left right) O input F settled name is =
    either _ _ is
    (λ earlier. either _ _ earlier
    (λ first. (or_parts (names right name) (O name) (soft_inside profile left (both (names right) O) input F settled.0 name first)).1)
    (λ second. (or_parts (names left name) (O name) (soft_inside profile right (both (names left) O) (meaning profile left input F).out (meaning profile left input F).files settled.1 name second)).1))
    (λ lost. let p = and_parts _ _ lost in (or_parts (names right name) (O name) (settled.2 p.0 name p.1)).1)
soft_inside profile (list left right) O input F settled name is =
    either _ _ is
    (λ first. (or_parts (names right name) (O name) (soft_inside profile left (both (names right) O) input F settled.0 name first)).1)
    (λ second. (or_parts (names left name) (O name) (soft_inside profile right (both (names left) O) (meaning profile left input F).rest (meaning profile left input F).files settled.1 name second)).1)
soft_inside profile (back body) O input F settled name is = soft_inside profile body O input F settled name is

none_input : (o : Option Bytes) (input : Bytes) (F : FileMap) (body : Bytes → Value) (P Q : Bytes → Type 0) (O : Names) → IfSome o P → AreNoneOf (input_value o input F body).soft O → ((bytes : Bytes) → P bytes → AreNoneOf (body bytes).soft O → Q bytes) → IfSome o Q
none_input None input F body P Q O settled none each = tt
none_input (Some bytes) input F body P Q O settled none each = each bytes settled none

none_output : (b : Bool) (input : Bytes) (F : FileMap) (done : Value) (O : Names) → b ≡ true → AreNoneOf (output_value b input F done).soft O → AreNoneOf done.soft O
none_output true input F done O good none = none
none_output false input F done O good none = absurd (false≢true good)

-- a redirection's own name and those outside, where the body's soft names are none of either
outer_name : (file : Name) (O P soft : Names) → AreNoneOf soft (with_name file O) → AreNoneOf soft P → AreNoneOf soft (with_name file P)
outer_name file O P soft inner none name is =
    or_from (bytes_eq name file) (P name) (or_parts (bytes_eq name file) (O name) (inner name is)).0 (none name is)

outer_side : (side O P soft : Names) → AreNoneOf soft (both side O) → AreNoneOf soft P → AreNoneOf soft (both side P)
outer_side side O P soft inner none name is =
    or_from (side name) (P name) (or_parts (side name) (O name) (inner name is)).0 (none name is)

-- a settled command is so among any others that have none of its soft names
pub settled_among : (profile : Profile) (T : Tree) (O P : Names) (input : Bytes) (F : FileMap) → IsSettled profile T O input F → AreNoneOf (meaning profile T input F).soft P → IsSettled profile T P input F
settled_among profile (exec words) O P input F settled none = tt
settled_among profile (redir Input file body) O P input F settled none =
    none_input (found F file) input F (λ bytes. meaning profile body bytes F) (λ bytes. IsSettled profile body (with_name file O) bytes F) (λ bytes. IsSettled profile body (with_name file P) bytes F) P settled none
    (λ bytes inner below. settled_among profile body (with_name file O) (with_name file P) bytes F inner (outer_name file O P (meaning profile body bytes F).soft (soft_inside profile body (with_name file O) bytes F inner) below))
settled_among profile (redir Fresh file body) O P input F settled none = λ good.
    let below = none_output (is_openable file) input F (written_value profile Fresh file F (meaning profile body input (opened Fresh file F))) P good none in
    settled_among profile body (with_name file O) (with_name file P) input (opened Fresh file F) (settled good) (outer_name file O P (meaning profile body input (opened Fresh file F)).soft (soft_inside profile body (with_name file O) input (opened Fresh file F) (settled good)) below)
settled_among profile (redir Over file body) O P input F settled none = λ good.
    let below = none_output (is_openable file) input F (written_value profile Over file F (meaning profile body input (opened Over file F))) P good none in
    settled_among profile body (with_name file O) (with_name file P) input (opened Over file F) (settled good) (outer_name file O P (meaning profile body input (opened Over file F)).soft (soft_inside profile body (with_name file O) input (opened Over file F) (settled good)) below)
settled_among profile (pipe left right) O P input F settled none =
    let V = meaning profile left input F in
    let W = meaning profile right V.out V.files in (
      settled_among profile left (both (names right) O) (both (names right) P) input F settled.0
          (outer_side (names right) O P V.soft (soft_inside profile left (both (names right) O) input F settled.0) (λ name is. none name (or_left (V.soft name || W.soft name) (is_cut W && writes left name) (or_left (V.soft name) (W.soft name) is)))),
      settled_among profile right (both (names left) O) (both (names left) P) V.out V.files settled.1
          (outer_side (names left) O P W.soft (soft_inside profile right (both (names left) O) V.out V.files settled.1) (λ name is. none name (or_left (V.soft name || W.soft name) (is_cut W && writes left name) (or_right (V.soft name) (W.soft name) is)))),
      λ cut. outer_side (names right) O P (writes left) (settled.2 cut)
          (λ name is. none name (or_right (V.soft name || W.soft name) (is_cut W && writes left name) (and_from (is_cut W) (writes left name) cut is))),
    )
settled_among profile (list left right) O P input F settled none =
    let V = meaning profile left input F in
    let W = meaning profile right V.rest V.files in (
      settled_among profile left (both (names right) O) (both (names right) P) input F settled.0
          (outer_side (names right) O P V.soft (soft_inside profile left (both (names right) O) input F settled.0) (λ name is. none name (or_left (V.soft name) (W.soft name) is))),
      settled_among profile right (both (names left) O) (both (names left) P) V.rest V.files settled.1
          (outer_side (names left) O P W.soft (soft_inside profile right (both (names left) O) V.rest V.files settled.1) (λ name is. none name (or_right (V.soft name) (W.soft name) is))),
      settled.2,
    )
settled_among profile (back body) O P input F settled none = settled_among profile body O P input F settled none

pub settled_alone : (profile : Profile) (T : Tree) (O : Names) (input : Bytes) (F : FileMap) → IsSettled profile T O input F → IsSettled profile T no_names input F
settled_alone profile T O input F settled = settled_among profile T O no_names input F settled (λ name is. refl)

pub not_true : (b : Bool) → not b ≡ true → b ≡ false
not_true true e = sym e
not_true false e = refl

pub not_both : (a b : Bool) → not (a && b) ≡ true → a ≡ true → b ≡ false
not_both true true e is = sym e
not_both true false e is = refl
not_both false b e is = absurd (false≢true is)

pub never_both : (a b : Bool) → (a ≡ true → b ≡ false) → not (a && b) ≡ true
never_both true true each = sym (each refl)
never_both true false each = refl
never_both false b each = refl

or_false : (a b : Bool) → a ≡ false → b ≡ false → (a || b) ≡ false
or_false a b first second = or_from a b first second

none_listed : (words : List Name) (those : Names) → AreNoneOf (among words) those → not (list_any those words) ≡ true
none_listed words those none = ap not (each words none) where
  each : (ws : List Name) → AreNoneOf (among ws) those → list_any those ws ≡ false
  each [] n = refl
  each (w ∷ ws) n = or_from (those w) (list_any those ws) (n w (or_left (bytes_eq w w) (among ws w) ((bytes_eq-Decides w w).1 refl))) (each ws (λ name is. n name (or_right (bytes_eq name w) (among ws name) is)))

-- the words pass by none of these names, where they are those of a set
pub none_of_these : (words : List Name) (soft those : Names) → ((name : Name) → among words name ≡ soft name) → not (list_any those words) ≡ true → AreNoneOf soft those
none_of_these words soft those same passed name is = none_pass those words name (not_true (list_any those words) passed) (same name ∙ is)

-- and the other way round
pub these_pass : (words : List Name) (soft those : Names) → ((name : Name) → among words name ≡ soft name) → AreNoneOf soft those → not (list_any those words) ≡ true
these_pass words soft those same none = none_listed words those (λ name is. none name (sym (same name) ∙ is))
