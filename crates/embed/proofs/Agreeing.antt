-- Two ways to say which files are soft, and why a call fails.
use Rattle.std.proofs.Common.{◌≡◌, refl, true, false, Bool, List, [], ◌∷◌, sym, ◌∙◌, ap}
use Rattle.std.specs.Prelude.{◌↔◌, Contains, Result, Ok, Err, IfErr}
use Rattle.prog_parts.specs.NameSets.{Names, among}
use Rattle.plain_run.proofs.NameSets.{contained, contains}
use Rattle.mem_files.specs.Name.{Name, Bytes}
use Rattle.embed.specs.Packing.{sizes_of_one, sizes_of}

same_bool : (a b : Bool) → (a ≡ true → b ≡ true) → (b ≡ true → a ≡ true) → a ≡ b
same_bool true b to from = sym (to refl)
same_bool false true to from = from refl
same_bool false false to from = refl

-- sets of the same names mark the same files
sizes_agree : (A B : Names) → ((name : Name) → A name ≡ B name) → (list : List (Name × Bytes)) → sizes_of A list ≡ sizes_of B list
sizes_agree A B same [] = refl
sizes_agree A B same (file ∷ files) =
    ap (λ b. sizes_of_one b file.0 file.1 ∷ sizes_of A files) (same file.0) ∙ ap (λ t. sizes_of_one (B file.0) file.0 file.1 ∷ t) (sizes_agree A B same files)

pub soft_sizes : (words : List Name) (soft : Names) (list : List (Name × Bytes)) → ((name : Name) → Contains words name ↔ (soft name ≡ true)) → sizes_of (among words) list ≡ sizes_of soft list
soft_sizes words soft list each =
    sizes_agree (among words) soft (λ name. same_bool (among words name) (soft name) (λ is. (each name).0 (contains words name is)) (λ is. contained words name ((each name).1 is))) list

-- the fault of a call is one of the caller, where each of its faults is
pub of_fault : {T E : Type 0} (result : Result T E) (P Q : E → Type 0) → ((fault : E) → P fault → Q fault) → IfErr result P → IfErr result Q
of_fault (Ok _) P Q each is = tt
of_fault (Err fault) P Q each is = each fault is
