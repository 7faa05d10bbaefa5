-- A tree without >> has one meaning under both profiles, and its commands meet the same names.
use Rattle.std.proofs.Common.{◌≡◌, true, false, if◌then◌else◌, Option, Some, None, refl, ◌∙◌, ap}
use Rattle.std.proofs.lemmas.Bool.{or_parts}
use Rattle.sh_tree.specs.declared.tree.Mode.TheVariants.{Input, Fresh, Over}
use Rattle.sh_tree.specs.Tree.{Tree, exec, redir, pipe, list, back}
use Rattle.mem_files.specs.Name.{Bytes, is_openable}
use Rattle.mem_files.specs.Files.{FileMap}
use Rattle.prog_parts.specs.NameSets.{Names, no_names, both}
use Rattle.conflict_check.specs.Names.{names, writes, uses_input}
use Rattle.script_load.specs.declared.profile.Profile.TheVariants.{Xv6, Append}
use Rattle.meaning_model.specs.Inputs.{found}
use Rattle.meaning_model.specs.Meaning.{input_value, opened, output_value, written_value, meaning}
use Rattle.meaning_model.specs.Met.{seq_met, input_met, met_names}
use Rattle.meaning_model.specs.Over.{has_over}
use Rattle.meaning_model.specs.Value.{Value, from_value, pipe_value, seq_value}

of_input : (bytes : Option Bytes) (input : Bytes) (F : FileMap) (body other : Bytes → Value) → ((read : Bytes) → body read ≡ other read) → input_value bytes input F body ≡ input_value bytes input F other
of_input None input F body other same = refl
of_input (Some bytes) input F body other same = ap (from_value input) (same bytes)

pub one_meaning : (tree : Tree) (input : Bytes) (F : FileMap) → has_over tree ≡ false → meaning Xv6 tree input F ≡ meaning Append tree input F
one_meaning (exec words) input F none = refl
one_meaning (redir Input name body) input F none =
    of_input (found F name) input F (λ bytes. meaning Xv6 body bytes F) (λ bytes. meaning Append body bytes F) (λ bytes. one_meaning body bytes F none)
one_meaning (redir Fresh name body) input F none =
    ap (λ v. output_value (is_openable name) input F (written_value Append Fresh name F v)) (one_meaning body input (opened Fresh name F) none)
one_meaning (redir Over name body) input F none = let never : true ≡ false = none in cc
one_meaning (pipe left right) input F none =
    let first = one_meaning left input F (or_parts (has_over left) (has_over right) none).0 in
    let second = λ (v : Value). one_meaning right v.out v.files (or_parts (has_over left) (has_over right) none).1 in
    ap (λ v. pipe_value (writes left) (uses_input left) v (meaning Xv6 right v.out v.files)) first
    ∙ ap (λ w. pipe_value (writes left) (uses_input left) (meaning Append left input F) w) (second (meaning Append left input F))
one_meaning (list left right) input F none =
    let first = one_meaning left input F (or_parts (has_over left) (has_over right) none).0 in
    let second = λ (v : Value). one_meaning right v.rest v.files (or_parts (has_over left) (has_over right) none).1 in
    ap (λ v. seq_value v (meaning Xv6 right v.rest v.files)) first
    ∙ ap (λ w. seq_value (meaning Append left input F) w) (second (meaning Append left input F))
one_meaning (back body) input F none = one_meaning body input F none

input_met_same : (bytes : Option Bytes) (body other : Bytes → Names) → ((read : Bytes) → body read ≡ other read) → input_met bytes body ≡ input_met bytes other
input_met_same None body other same = refl
input_met_same (Some bytes) body other same = same bytes

pub one_met : (tree : Tree) (input : Bytes) (F : FileMap) → has_over tree ≡ false → met_names Xv6 tree input F ≡ met_names Append tree input F
one_met (exec words) input F none = refl
one_met (redir Input name body) input F none =
    input_met_same (found F name) (λ bytes. met_names Xv6 body bytes F) (λ bytes. met_names Append body bytes F) (λ bytes. one_met body bytes F none)
one_met (redir Fresh name body) input F none = ap (λ met. if is_openable name then met else no_names) (one_met body input (opened Fresh name F) none)
one_met (redir Over name body) input F none = let never : true ≡ false = none in cc
one_met (pipe left right) input F none =
    let parts = or_parts (has_over left) (has_over right) none in
    let second = λ (v : Value). one_met right v.out v.files parts.1 in
    ap (λ met. both met (met_names Xv6 right (meaning Xv6 left input F).out (meaning Xv6 left input F).files)) (one_met left input F parts.0)
    ∙ ap (λ v. both (met_names Append left input F) (met_names Xv6 right v.out v.files)) (one_meaning left input F parts.0)
    ∙ ap (both (met_names Append left input F)) (second (meaning Append left input F))
one_met (list left right) input F none =
    let parts = or_parts (has_over left) (has_over right) none in
    let second = λ (v : Value). one_met right v.rest v.files parts.1 in
    let after = seq_met (names right) (uses_input right) in
    ap (λ met. after (meaning Xv6 left input F) met (met_names Xv6 right (meaning Xv6 left input F).rest (meaning Xv6 left input F).files)) (one_met left input F parts.0)
    ∙ ap (λ v. after v (met_names Append left input F) (met_names Xv6 right v.rest v.files)) (one_meaning left input F parts.0)
    ∙ ap (after (meaning Append left input F) (met_names Append left input F)) (second (meaning Append left input F))
one_met (back body) input F none = one_met body input F none
