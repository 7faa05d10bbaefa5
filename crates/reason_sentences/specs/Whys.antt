-- Why a script isn't settled, as sentences: of which reasons there are, with what each says of the script's lines, the input and
-- the files.
use Rattle.std.specs.Prelude.{◌≡◌, ◌≢◌, ◌<◌, ◌↔◌, ℕ, ◌+◌, Bool, true, false, List, [], All, length}
use Rattle.mem_files.specs.Name.{Name, Bytes}
use Rattle.mem_files.specs.Files.{FileMap}
use Rattle.prog_parts.specs.NameSets.{no_names}
use Rattle.conflict_check.specs.declared.conflict.ClashKind.{ClashKind}
use Rattle.conflict_check.specs.Clash.{IsFirstClash}
use Rattle.conflict_check.specs.Clear.{has_back}
use Rattle.conflict_check.specs.Names.{names, uses_input}
use Rattle.script_load.specs.declared.profile.Profile.{Profile}
use Rattle.script_load.specs.Line.{ScriptLine}
use Rattle.meaning_model.specs.Settled.{IsSettledScript}
use Rattle.plain_run.specs.Again.{named_again, reuses_input}
use Rattle.plain_run.specs.Reasons.{tree_at, value_before, value_at}
use Rattle.reason_sentences.specs.Sentences.{background_text, clash_text, cut_text, loose_text}

-- what follows is of a script's lines under a profile, on this input and these files
module _ (profile : Profile) (lines : List ScriptLine) (input : Bytes) (F : FileMap) where
  -- the text is the sentence of a reason. The number of a line at k is k + 1
  pub data IsReasonText : Bytes → Type 0 where
    -- a command of the line runs behind &
    told_behind : (k : ℕ) → k < length lines → has_back (tree_at lines k) ≡ true → IsReasonText (background_text (k + 1))
    -- the line's first clash
    told_clash : (k : ℕ) (kind : ClashKind) (name : Name) → k < length lines → IsFirstClash (tree_at lines k) kind name → IsReasonText (clash_text (k + 1) kind name)
    -- a cut pipe's left side writes the name, and the line names it beside that left side
    told_within : (k : ℕ) (name : Name) → k < length lines → named_again profile (tree_at lines k) no_names (value_before profile lines input F k).rest (value_before profile lines input F k).files name ≡ true → IsReasonText (cut_text (k + 1) name (k + 1))
    -- a cut pipe's left side writes the name, and another line names it
    told_beside : (k other : ℕ) (name : Name) → k < length lines → other < length lines → other ≢ k → (value_at profile lines input F k).soft name ≡ true → names (tree_at lines other) name ≡ true → IsReasonText (cut_text (k + 1) name (other + 1))
    -- after a loose command of the line another command of it uses the input
    told_reused : (k : ℕ) → k < length lines → reuses_input profile (tree_at lines k) (value_before profile lines input F k).rest (value_before profile lines input F k).files ≡ true → IsReasonText (loose_text (k + 1) (k + 1))
    -- after a loose line another line uses the input
    told_later : (k user : ℕ) → k < user → user < length lines → (value_at profile lines input F k).loose ≡ true → uses_input (tree_at lines user) ≡ true → IsReasonText (loose_text (k + 1) (user + 1))

  -- the texts are sentences of reasons, and there is none just where the script is settled
  pub record AreReasonTexts (texts : List Bytes) : Type 0 where
    pub each : All IsReasonText texts
    pub none : (texts ≡ []) ↔ IsSettledScript profile lines input F

  -- what is said of a verdict, where it is to be: of a script that isn't settled the sentence of a reason, else nothing
  abbrev pub IsWhy : Bool → Bool → Bytes → Type 0
  IsWhy false is_settled text = text ≡ []
  IsWhy true true text = text ≡ []
  IsWhy true false text = IsReasonText text
