-- A tree is settled just where no name of a cut pipe is named again and no input is used again.
use Rattle.std.proofs.Common.{◌≡◌, Bool, true, false, ◌||◌, ◌&&◌, Option, Some, None, [], refl, sym, ap, ap₂, ◌∙◌}
use Rattle.std.specs.Prelude.{IfSome}
use Rattle.std.specs.Str.{bytes_eq}
use Rattle.std.proofs.lemmas.Bool.{false≢true, or_parts, or_from, and_from}
use Rattle.sh_tree.specs.declared.tree.Mode.TheVariants.{Input, Fresh, Over}
use Rattle.sh_tree.specs.Tree.{Tree, exec, redir, pipe, list, back}
use Rattle.mem_files.specs.Name.{Name, Bytes, is_openable}
use Rattle.mem_files.specs.Files.{FileMap, with_file, bytes_of}
use Rattle.prog_parts.specs.NameSets.{Names, no_names, both}
use Rattle.conflict_check.specs.Names.{names, writes, uses_input}
use Rattle.script_load.specs.declared.profile.Profile.{Profile}
use Rattle.meaning_model.specs.Inputs.{found}
use Rattle.meaning_model.specs.Meaning.{meaning, input_value, output_value, written_value}
use Rattle.meaning_model.specs.Settled.{with_name, IsSettled}
use Rattle.meaning_model.specs.Value.{Value, is_cut}
use Rattle.meaning_model.proofs.Firm.{firm_words}
use Rattle.plain_run.specs.Again.{if_found, named_again, reuses_input}

-- of names outside a part and inside the whole, and of others outside both
side : (a s n o p q : Bool) → p ≡ (a || (s && (n || o))) → q ≡ (a || (s && (n || false))) → p ≡ (q || (s && o))
side true s n o p q is inner = is ∙ ap (λ b. b || (s && o)) (sym inner)
side false true true o p q is inner = is ∙ ap (λ b. b || o) (sym inner)
side false true false o p q is inner = is ∙ ap (λ b. b || o) (sym inner)
side false false n o p q is inner = is ∙ ap (λ b. b || false) (sym inner)

-- two parts
parts : (p q r s t u o : Bool) → p ≡ (q || (r && o)) → s ≡ (t || (u && o)) → (p || s) ≡ ((q || t) || ((r || u) && o))
parts p true r s t u o first second = ap (λ b. b || s) first
parts p false true s true u true first second = ap₂ ◌||◌ first second
parts p false true s true u false first second = ap₂ ◌||◌ first second
parts p false true s false true true first second = ap₂ ◌||◌ first second
parts p false true s false true false first second = ap₂ ◌||◌ first second
parts p false true s false false true first second = ap₂ ◌||◌ first second
parts p false true s false false false first second = ap₂ ◌||◌ first second
parts p false false s t u o first second = ap₂ ◌||◌ first second

-- what a side writes, where its pipe is cut
lost : (c w n o : Bool) → ((c && w) && (n || o)) ≡ (((c && w) && (n || false)) || ((c && w) && o))
lost true true true o = refl
lost true true false o = refl
lost true false n o = refl
lost false w n o = refl

found_outside : (o : Option Bytes) (input : Bytes) (F : FileMap) (body : Bytes → Value) (name : Name) (p q : Bytes → Bool) (O : Bool) → ((bytes : Bytes) → p bytes ≡ (q bytes || ((body bytes).soft name && O))) → if_found o p ≡ (if_found o q || ((input_value o input F body).soft name && O))
found_outside None input F body name p q O each = refl
found_outside (Some bytes) input F body name p q O each = each bytes

opened_outside : (b : Bool) (input : Bytes) (F : FileMap) (done : Value) (name : Name) (p q O : Bool) → p ≡ (q || (done.soft name && O)) → (b && p) ≡ ((b && q) || ((output_value b input F done).soft name && O))
opened_outside true input F done name p q O is = is
opened_outside false input F done name p q O is = refl

-- what is named again among others is so alone, or it is soft and named outside
pub again_outside : (profile : Profile) (T : Tree) (O : Names) (input : Bytes) (F : FileMap) (name : Name) → named_again profile T O input F name ≡ (named_again profile T no_names input F name || ((meaning profile T input F).soft name && O name))
again_outside profile (exec words) O input F name = sym (ap (λ b. b && O name) ((firm_words words input F).soft name))
again_outside profile (redir Input file body) O input F name =
    found_outside (found F file) input F (λ bytes. meaning profile body bytes F) name
    (λ bytes. named_again profile body (with_name file O) bytes F name) (λ bytes. named_again profile body (with_name file no_names) bytes F name) (O name)
    (λ bytes. side (named_again profile body no_names bytes F name) ((meaning profile body bytes F).soft name) (bytes_eq name file) (O name) _ _ (again_outside profile body (with_name file O) bytes F name) (again_outside profile body (with_name file no_names) bytes F name))
again_outside profile (redir Fresh file body) O input F name =
    let G = with_file F file [] in
    opened_outside (is_openable file) input F (written_value profile Fresh file F (meaning profile body input G)) name
    (named_again profile body (with_name file O) input G name) (named_again profile body (with_name file no_names) input G name) (O name)
    (side (named_again profile body no_names input G name) ((meaning profile body input G).soft name) (bytes_eq name file) (O name) _ _ (again_outside profile body (with_name file O) input G name) (again_outside profile body (with_name file no_names) input G name))
again_outside profile (redir Over file body) O input F name =
    let G = with_file F file (bytes_of (F file)) in
    opened_outside (is_openable file) input F (written_value profile Over file F (meaning profile body input G)) name
    (named_again profile body (with_name file O) input G name) (named_again profile body (with_name file no_names) input G name) (O name)
    (side (named_again profile body no_names input G name) ((meaning profile body input G).soft name) (bytes_eq name file) (O name) _ _ (again_outside profile body (with_name file O) input G name) (again_outside profile body (with_name file no_names) input G name))
again_outside profile (pipe left right) O input F name =
    let V = meaning profile left input F in
    let W = meaning profile right V.out V.files in
    parts _ _ (V.soft name || W.soft name) _ _ (is_cut W && writes left name) (O name)
    (parts _ _ (V.soft name) _ _ (W.soft name) (O name)
    (side (named_again profile left no_names input F name) (V.soft name) (names right name) (O name) _ _ (again_outside profile left (both (names right) O) input F name) (again_outside profile left (both (names right) no_names) input F name))
    (side (named_again profile right no_names V.out V.files name) (W.soft name) (names left name) (O name) _ _ (again_outside profile right (both (names left) O) V.out V.files name) (again_outside profile right (both (names left) no_names) V.out V.files name)))
    (lost (is_cut W) (writes left name) (names right name) (O name))
again_outside profile (list left right) O input F name =
    let V = meaning profile left input F in
    let W = meaning profile right V.rest V.files in
    parts _ _ (V.soft name) _ _ (W.soft name) (O name)
    (side (named_again profile left no_names input F name) (V.soft name) (names right name) (O name) _ _ (again_outside profile left (both (names right) O) input F name) (again_outside profile left (both (names right) no_names) input F name))
    (side (named_again profile right no_names V.rest V.files name) (W.soft name) (names left name) (O name) _ _ (again_outside profile right (both (names left) O) V.rest V.files name) (again_outside profile right (both (names left) no_names) V.rest V.files name))
again_outside profile (back body) O input F name = again_outside profile body O input F name

-- no name is named again, and no input used again
pub record IsQuiet (profile : Profile) (T : Tree) (O : Names) (input : Bytes) (F : FileMap) : Type 0 where
  pub named : (name : Name) → named_again profile T O input F name ≡ false
  pub reused : reuses_input profile T input F ≡ false

absent : (a b : Bool) → (a && b) ≡ false → a ≡ true → b ≡ false
absent true b none is = none
absent false b none is = absurd (false≢true is)

never : (a b : Bool) → (a ≡ true → b ≡ false) → (a && b) ≡ false
never true b each = each refl
never false b each = refl

quiet_found : (o : Option Bytes) (P : Bytes → Type 0) (p : Bytes → Name → Bool) (r : Bytes → Bool) → ((bytes : Bytes) → ((name : Name) → p bytes name ≡ false) → r bytes ≡ false → P bytes) → ((name : Name) → if_found o (λ bytes. p bytes name) ≡ false) → if_found o r ≡ false → IfSome o P
quiet_found None P p r each named reused = tt
quiet_found (Some bytes) P p r each named reused = each bytes named reused

found_named : (o : Option Bytes) (P : Bytes → Type 0) (p : Bytes → Bool) → ((bytes : Bytes) → P bytes → p bytes ≡ false) → IfSome o P → if_found o p ≡ false
found_named None P p each settled = refl
found_named (Some bytes) P p each settled = each bytes settled

pub quiet_settled : (profile : Profile) (T : Tree) (O : Names) (input : Bytes) (F : FileMap) → ((name : Name) → named_again profile T O input F name ≡ false) → reuses_input profile T input F ≡ false → IsSettled profile T O input F
quiet_settled profile (exec words) O input F named reused = tt
quiet_settled profile (redir Input file body) O input F named reused =
    quiet_found (found F file) (λ bytes. IsSettled profile body (with_name file O) bytes F) (λ bytes. named_again profile body (with_name file O) bytes F) (λ bytes. reuses_input profile body bytes F)
    (λ bytes. quiet_settled profile body (with_name file O) bytes F) named reused
quiet_settled profile (redir Fresh file body) O input F named reused = λ good.
    let G = with_file F file [] in
    quiet_settled profile body (with_name file O) input G (λ name. absent (is_openable file) (named_again profile body (with_name file O) input G name) (named name) good) (absent (is_openable file) (reuses_input profile body input G) reused good)
quiet_settled profile (redir Over file body) O input F named reused = λ good.
    let G = with_file F file (bytes_of (F file)) in
    quiet_settled profile body (with_name file O) input G (λ name. absent (is_openable file) (named_again profile body (with_name file O) input G name) (named name) good) (absent (is_openable file) (reuses_input profile body input G) reused good)
quiet_settled profile (pipe left right) O input F named reused =
    let V = meaning profile left input F in
    let W = meaning profile right V.out V.files in
    let one : (name : Name) → Bool = λ name. named_again profile left (both (names right) O) input F name in
    let two : (name : Name) → Bool = λ name. named_again profile right (both (names left) O) V.out V.files name in
    let cut : (name : Name) → Bool = λ name. (is_cut W && writes left name) && both (names right) O name in
    let r = or_parts (reuses_input profile left input F) (reuses_input profile right V.out V.files) reused in (
      quiet_settled profile left (both (names right) O) input F (λ name. (or_parts (one name) (two name) (or_parts (one name || two name) (cut name) (named name)).0).0) r.0,
      quiet_settled profile right (both (names left) O) V.out V.files (λ name. (or_parts (one name) (two name) (or_parts (one name || two name) (cut name) (named name)).0).1) r.1,
      λ is name w. absent (is_cut W && writes left name) (both (names right) O name) (or_parts (one name || two name) (cut name) (named name)).1 (and_from (is_cut W) (writes left name) is w),
    )
quiet_settled profile (list left right) O input F named reused =
    let V = meaning profile left input F in
    let one : (name : Name) → Bool = λ name. named_again profile left (both (names right) O) input F name in
    let two : (name : Name) → Bool = λ name. named_again profile right (both (names left) O) V.rest V.files name in
    let r = or_parts (reuses_input profile left input F || reuses_input profile right V.rest V.files) (V.loose && uses_input right) reused in
    let q = or_parts (reuses_input profile left input F) (reuses_input profile right V.rest V.files) r.0 in (
      quiet_settled profile left (both (names right) O) input F (λ name. (or_parts (one name) (two name) (named name)).0) q.0,
      quiet_settled profile right (both (names left) O) V.rest V.files (λ name. (or_parts (one name) (two name) (named name)).1) q.1,
      λ is. absent V.loose (uses_input right) r.1 is,
    )
quiet_settled profile (back body) O input F named reused = quiet_settled profile body O input F named reused

either : {P : Type 0} (a : Bool) → (a ≡ true → P) → (a ≡ false → P) → P
either true first second = first refl
either false first second = second refl

never_three : (c w x : Bool) → (c ≡ true → w ≡ true → x ≡ false) → ((c && w) && x) ≡ false
never_three true true x each = each refl refl
never_three true false x each = refl
never_three false w x each = refl

pub settled_named : (profile : Profile) (T : Tree) (O : Names) (input : Bytes) (F : FileMap) → IsSettled profile T O input F → (name : Name) → named_again profile T O input F name ≡ false
settled_named profile (exec words) O input F settled name = refl
settled_named profile (redir Input file body) O input F settled name =
    found_named (found F file) (λ bytes. IsSettled profile body (with_name file O) bytes F) (λ bytes. named_again profile body (with_name file O) bytes F name) (λ bytes inner. settled_named profile body (with_name file O) bytes F inner name) settled
settled_named profile (redir Fresh file body) O input F settled name =
    never (is_openable file) (named_again profile body (with_name file O) input (with_file F file []) name) (λ good. settled_named profile body (with_name file O) input (with_file F file []) (settled good) name)
settled_named profile (redir Over file body) O input F settled name =
    never (is_openable file) (named_again profile body (with_name file O) input (with_file F file (bytes_of (F file))) name) (λ good. settled_named profile body (with_name file O) input (with_file F file (bytes_of (F file))) (settled good) name)
settled_named profile (pipe left right) O input F settled name =
    let V = meaning profile left input F in
    let W = meaning profile right V.out V.files in
    or_from _ _ (or_from _ _ (settled_named profile left (both (names right) O) input F settled.0 name) (settled_named profile right (both (names left) O) V.out V.files settled.1 name))
    (never_three (is_cut W) (writes left name) (both (names right) O name) (λ is w. settled.2 is name w))
settled_named profile (list left right) O input F settled name =
    let V = meaning profile left input F in
    or_from _ _ (settled_named profile left (both (names right) O) input F settled.0 name) (settled_named profile right (both (names left) O) V.rest V.files settled.1 name)
settled_named profile (back body) O input F settled name = settled_named profile body O input F settled name

pub settled_reused : (profile : Profile) (T : Tree) (O : Names) (input : Bytes) (F : FileMap) → IsSettled profile T O input F → reuses_input profile T input F ≡ false
settled_reused profile (exec words) O input F settled = refl
settled_reused profile (redir Input file body) O input F settled =
    found_named (found F file) (λ bytes. IsSettled profile body (with_name file O) bytes F) (λ bytes. reuses_input profile body bytes F) (λ bytes inner. settled_reused profile body (with_name file O) bytes F inner) settled
settled_reused profile (redir Fresh file body) O input F settled =
    never (is_openable file) (reuses_input profile body input (with_file F file [])) (λ good. settled_reused profile body (with_name file O) input (with_file F file []) (settled good))
settled_reused profile (redir Over file body) O input F settled =
    never (is_openable file) (reuses_input profile body input (with_file F file (bytes_of (F file)))) (λ good. settled_reused profile body (with_name file O) input (with_file F file (bytes_of (F file))) (settled good))
settled_reused profile (pipe left right) O input F settled =
    let V = meaning profile left input F in
    or_from _ _ (settled_reused profile left (both (names right) O) input F settled.0) (settled_reused profile right (both (names left) O) V.out V.files settled.1)
settled_reused profile (list left right) O input F settled =
    let V = meaning profile left input F in
    or_from _ _ (or_from _ _ (settled_reused profile left (both (names right) O) input F settled.0) (settled_reused profile right (both (names left) O) V.rest V.files settled.1))
    (never V.loose (uses_input right) settled.2)
settled_reused profile (back body) O input F settled = settled_reused profile body O input F settled
