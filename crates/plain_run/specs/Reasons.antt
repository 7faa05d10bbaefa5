-- Why a script isn't settled: what each reason is, as a property of the script's lines, the input and the files.
use Rattle.std.specs.Prelude.{◌≡◌, ◌≢◌, ◌<◌, ◌↔◌, ℕ, ◌+◌, true, List, [], All, take, get_or, length}
use Rattle.sh_tree.specs.Tree.{Tree}
use Rattle.mem_files.specs.Name.{Name, Bytes}
use Rattle.mem_files.specs.Files.{FileMap}
use Rattle.prog_parts.specs.NameSets.{no_names}
use Rattle.conflict_check.specs.declared.conflict.ClashKind.{ClashKind}
use Rattle.conflict_check.specs.Clash.{IsFirstClash}
use Rattle.conflict_check.specs.Clear.{has_back}
use Rattle.conflict_check.specs.Names.{names, uses_input}
use Rattle.script_load.specs.declared.profile.Profile.{Profile}
use Rattle.script_load.specs.Line.{ScriptLine, cd}
use Rattle.meaning_model.specs.Meaning.{meaning, line_tree, script_meaning}
use Rattle.meaning_model.specs.Settled.{IsSettledScript}
use Rattle.meaning_model.specs.Value.{Value}
use Rattle.plain_run.specs.Again.{named_again, reuses_input}
use Rattle.plain_run.specs.declared.reason.Reason.{Reason}
use Rattle.plain_run.specs.declared.reason.Reason.TheVariants.{Background, Clash, CutPipe, LooseInput}

-- the line at this place, counted from 0, as a command
abbrev pub tree_at : List ScriptLine → ℕ → Tree
tree_at lines k = line_tree (get_or lines k (cd []))

-- the value of the lines before it, and its own after these
abbrev pub value_before : Profile → List ScriptLine → Bytes → FileMap → ℕ → Value
value_before profile lines input F k = script_meaning profile (take k lines) input F

abbrev pub value_at : Profile → List ScriptLine → Bytes → FileMap → ℕ → Value
value_at profile lines input F k = meaning profile (tree_at lines k) (value_before profile lines input F k).rest (value_before profile lines input F k).files

-- this is a reason. The number of a line at k is k + 1
pub data IsReason {A : _} (profile : Profile) (lines : List ScriptLine) (input : Bytes) (F : FileMap) : Reason A → Type 0 where
  -- a command of the line runs behind &
  runs_behind : {k : ℕ} → k < length lines → has_back (tree_at lines k) ≡ true → IsReason profile lines input F (Background (k + 1))
  -- the line's first clash
  clashes : {k : ℕ} {kind : ClashKind} {name : Name} → k < length lines → IsFirstClash (tree_at lines k) kind name → IsReason profile lines input F (Clash (k + 1) kind name)
  -- a cut pipe's left side writes the name, and the line names it beside that left side
  named_within : {k : ℕ} {name : Name} → k < length lines → named_again profile (tree_at lines k) no_names (value_before profile lines input F k).rest (value_before profile lines input F k).files name ≡ true → IsReason profile lines input F (CutPipe (k + 1) name (k + 1))
  -- a cut pipe's left side writes the name, and another line names it
  named_beside : {k other : ℕ} {name : Name} → k < length lines → other < length lines → other ≢ k → (value_at profile lines input F k).soft name ≡ true → names (tree_at lines other) name ≡ true → IsReason profile lines input F (CutPipe (k + 1) name (other + 1))
  -- after a loose command of the line another command of it uses the input
  used_within : {k : ℕ} → k < length lines → reuses_input profile (tree_at lines k) (value_before profile lines input F k).rest (value_before profile lines input F k).files ≡ true → IsReason profile lines input F (LooseInput (k + 1) (k + 1))
  -- after a loose line another line uses the input
  used_later : {k user : ℕ} → k < user → user < length lines → (value_at profile lines input F k).loose ≡ true → uses_input (tree_at lines user) ≡ true → IsReason profile lines input F (LooseInput (k + 1) (user + 1))

-- these are why a script isn't settled: each is a reason, and there is none just where the script is settled
pub record AreReasons {A : _} (profile : Profile) (lines : List ScriptLine) (input : Bytes) (F : FileMap) (reasons : List (Reason A)) : Type 0 where
  pub each : All (IsReason profile lines input F) reasons
  pub none : (reasons ≡ []) ↔ IsSettledScript profile lines input F

-- the line of a reason
abbrev pub line_at : {A : _} → Reason A → ℕ
line_at (Background line) = line
line_at (Clash line kind name) = line
line_at (CutPipe line name again) = line
line_at (LooseInput line user) = line
