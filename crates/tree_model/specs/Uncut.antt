-- The plain case: each right side of a pipe reads its input to the end, so that no pipe is cut.
use Rattle.std.specs.Prelude.{◌≡◌, Bool, true, false, ◌||◌, List, [], IfSome}
use Rattle.sh_tree.specs.declared.tree.Mode.TheVariants.{Input, Fresh, Over}
use Rattle.sh_tree.specs.Tree.{Tree, exec, redir, pipe, list, back}
use Rattle.mem_files.specs.Name.{Name, Bytes, is_openable}
use Rattle.mem_files.specs.Files.{FileMap, with_file, bytes_of}
use Rattle.conflict_check.specs.Clear.{has_back, IsClear}
use Rattle.script_load.specs.declared.profile.Profile.{Profile}
use Rattle.script_load.specs.Line.{ScriptLine}
use Rattle.meaning_model.specs.Inputs.{found}
use Rattle.meaning_model.specs.Meaning.{meaning, script_tree}
use Rattle.meaning_model.specs.Value.{Value, is_cut}
use Rattle.tree_model.specs.Residual.{Residual, done, todo, running, seq, piped, unopened, from, into}
use Rattle.tree_model.specs.Runs.{Stage}

abbrev pub IsUncut : Profile → Tree → Bytes → FileMap → Type 0
IsUncut profile (exec words) input F = Unit {0}
IsUncut profile (redir Input name body) input F = IfSome (found F name) (λ bytes. IsUncut profile body bytes F)
IsUncut profile (redir Fresh name body) input F = is_openable name ≡ true → IsUncut profile body input (with_file F name [])
IsUncut profile (redir Over name body) input F = is_openable name ≡ true → IsUncut profile body input (with_file F name (bytes_of (F name)))
IsUncut profile (pipe left right) input F =
    IsUncut profile left input F ×
    IsUncut profile right (meaning profile left input F).out (meaning profile left input F).files ×
    (is_cut (meaning profile right (meaning profile left input F).out (meaning profile left input F).files) ≡ false)
IsUncut profile (list left right) input F =
    IsUncut profile left input F ×
    IsUncut profile right (meaning profile left input F).rest (meaning profile left input F).files
IsUncut profile (back body) input F = IsUncut profile body input F

-- a clear script without & in which no pipe is cut
abbrev pub IsUncutScript : Profile → List ScriptLine → Bytes → FileMap → Type 0
IsUncutScript profile lines input F =
    (has_back (script_tree lines) ≡ false) ×
    IsClear (script_tree lines) ×
    IsUncut profile (script_tree lines) input F

-- the output, every file and the rest of the input of a value
pub record AgreesWholly (stage : Stage) (value : Value) : Type 0 where
  pub out : stage.out ≡ value.out
  pub files : (name : Name) → stage.files name ≡ value.files name
  pub rest : stage.input ≡ value.rest

-- whether a write was refused to the left side of some pipe
abbrev pub has_lost : Residual → Bool
has_lost done = false
has_lost (todo tree) = false
has_lost (running run) = false
has_lost (seq first later) = has_lost first
has_lost (piped lost left bytes right) = lost || has_lost left || has_lost right
has_lost (unopened mode file body) = false
has_lost (from file at body) = has_lost body
has_lost (into file at body) = has_lost body
