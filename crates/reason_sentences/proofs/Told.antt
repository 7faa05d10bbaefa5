-- The sentence of a reason is one.
use Rattle.std.proofs.Common.{◌≡◌, ◌↔◌, IsTrue, Bool, true, false, refl, arith, List, [], ◌∷◌}
use Rattle.std.specs.Prelude.{All, map}
use Rattle.std.proofs.lemmas.List.Elements.{All-map, All-weaker}
use Rattle.mem_files.specs.Name.{Bytes}
use Rattle.mem_files.specs.Files.{FileMap}
use Rattle.script_load.specs.declared.profile.Profile.{Profile}
use Rattle.script_load.specs.Line.{ScriptLine}
use Rattle.meaning_model.specs.Settled.{IsSettledScript}
use Rattle.plain_run.specs.declared.reason.Reason.{Reason}
use Rattle.plain_run.specs.Reasons.{IsReason, named_within, named_beside, used_within, used_later, runs_behind, clashes}
use Rattle.reason_sentences.specs.Sentences.{first_text, reason_text}
use Rattle.reason_sentences.specs.Whys.{AreReasonTexts, IsReasonText, IsWhy, told_behind, told_clash, told_within, told_beside, told_reused, told_later}

pub told : {A : _} (profile : Profile) (lines : List ScriptLine) (input : Bytes) (F : FileMap) (reason : Reason A) → IsReason profile lines input F reason → IsReasonText profile lines input F (reason_text reason)
told profile lines input F reason (runs_behind {k = k} here is) = told_behind k here is
told profile lines input F reason (clashes {k = k} {kind = kind} {name = name} here is) = told_clash k kind name here is
told profile lines input F reason (named_within {k = k} {name = name} here is) = told_within k name here is
told profile lines input F reason (named_beside {k = k} {other = other} {name = name} here there apart is names) = told_beside k other name here there apart is names
told profile lines input F reason (used_within {k = k} here is) = told_reused k here is
told profile lines input F reason (used_later {k = k} {user = user} later there is uses) = told_later k user later there is uses

pub nothing_left : {X Y : Type 0} (f : X → Y) (xs : List X) → map f xs ≡ [] → xs ≡ []
nothing_left f [] none = refl
nothing_left f (x ∷ xs) none = cc

pub none_mapped : {X Y : Type 0} (f : X → Y) (xs : List X) → xs ≡ [] → map f xs ≡ []
none_mapped f [] none = refl
none_mapped f (x ∷ xs) none = cc

-- those of all reasons are
pub all_told : {A : _} (profile : Profile) (lines : List ScriptLine) (input : Bytes) (F : FileMap) (reasons : List (Reason A)) → All (IsReason profile lines input F) reasons → (reasons ≡ []) ↔ IsSettledScript profile lines input F → AreReasonTexts profile lines input F (map reason_text reasons)
all_told {A = A} profile lines input F reasons each none = record {
  each = All-map (IsReasonText profile lines input F) (reason_text {A = A}) reasons (All-weaker (IsReason {A = A} profile lines input F) (λ reason. IsReasonText profile lines input F (reason_text {A = A} reason)) (told {A = A} profile lines input F) reasons each);
  none = (λ is. none.0 (nothing_left reason_text reasons is), λ settled. none_mapped reason_text reasons (none.1 settled));
}

-- and the first is, where it is to be reported
pub first_told : (profile : Profile) (lines : List ScriptLine) (input : Bytes) (F : FileMap) (is_settled : Bool) (texts : List Bytes) → IsTrue is_settled ↔ IsSettledScript profile lines input F → AreReasonTexts profile lines input F texts → IsWhy profile lines input F true is_settled (first_text texts)
first_told profile lines input F true [] settled are = refl
first_told profile lines input F true (text ∷ texts) settled are =
    let none : text ∷ texts ≡ [] = are.none.1 (settled.0 refl) in
    cc
first_told profile lines input F false [] settled are =
    let is : false ≡ true = settled.1 (are.none.0 refl) in
    cc
first_told profile lines input F false (text ∷ texts) settled are = are.each 0 text (omega arith)
