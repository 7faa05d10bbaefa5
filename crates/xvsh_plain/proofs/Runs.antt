-- The text of a run by meaning.
use Rattle.std.proofs.Common.{◌≡◌, refl, true, false, Bool, ℕ, List, [], ◌∷◌, ◌++◌, sym, ◌∙◌, ap}
use Rattle.std.specs.Prelude.{◌↔◌, Contains}
use Rattle.std.proofs.lemmas.Bool.{false≢true}
use Rattle.std.proofs.lemmas.List.{append-nil}
use Rattle.prog_parts.specs.NameSets.{Names, among}
use Rattle.plain_run.proofs.NameSets.{contained, contains}
use Rattle.mem_files.specs.Name.{Name, Bytes}
use Rattle.mem_files.specs.Files.{files as files_of}
use Rattle.mem_files.specs.Listing.{AreFiles}
use Rattle.meaning_model.specs.Value.{Value}
use Rattle.xvsh_read.specs.Listing.{file_text, list_text}
use Rattle.xvsh_plain.specs.Running.{IsRunText}

same_bool : (a b : Bool) → (a ≡ true → b ≡ true) → (b ≡ true → a ≡ true) → a ≡ b
same_bool true b to from = sym (to refl)
same_bool false true to from = from refl
same_bool false false to from = refl

-- words that are the soft names mark the files that these do
list_agree : (A B : Names) → ((name : Name) → A name ≡ B name) → (list : List (Name × Bytes)) → list_text A list ≡ list_text B list
list_agree A B same [] = refl
list_agree A B same (file ∷ files) =
    ap (λ b. file_text b file.0 file.1 ++ list_text A files) (same file.0) ∙ ap (λ t. file_text (B file.0) file.0 file.1 ++ t) (list_agree A B same files)

pub soft_list : (words : List Name) (soft : Names) (list : List (Name × Bytes)) → ((name : Name) → Contains words name ↔ (soft name ≡ true)) → list_text (among words) list ≡ list_text soft list
soft_list words soft list each =
    list_agree (among words) soft
    (λ name. same_bool (among words name) (soft name) (λ is. (each name).0 (contains words name is)) (λ is. contained words name ((each name).1 is))) list

module _ (value : Value) (out files events : List ℕ) (is : out ≡ value.out) (no_events : events ≡ []) where
  both : out ++ (files ++ events) ≡ value.out ++ files
  both = ap (λ t. t ++ (files ++ events)) is ∙ ap (λ t. value.out ++ t) (ap (λ t. files ++ t) no_events ∙ append-nil files)

  -- the output and then the list
  pub gives_list : (lists : Bool) (list : List (Name × Bytes)) → lists ≡ true → AreFiles list → ((name : Name) → files_of list name ≡ value.files name) → files ≡ list_text value.soft list → IsRunText lists value (out ++ (files ++ events))
  gives_list false list asked kept same is_list = absurd (false≢true asked)
  gives_list true list asked kept same is_list = (list, kept, same, both ∙ ap (λ t. value.out ++ t) is_list)

  -- the output and then nothing
  pub gives_output : (lists : Bool) → lists ≡ false → files ≡ [] → IsRunText lists value (out ++ (files ++ events))
  gives_output true asked is_empty = absurd (false≢true (sym asked))
  gives_output false asked is_empty = both ∙ ap (λ t. value.out ++ t) is_empty ∙ append-nil value.out
