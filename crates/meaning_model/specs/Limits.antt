-- Where a command's meaning goes past the limits on files.
use Rattle.std.specs.Prelude.{◌≡◌, ◌≢◌, ◌<◌, ◌≤◌, Bool, true, false, List, [], ◌∷◌, length, All, AllPairs, Option, Some, None, ◌⊎◌}
use Rattle.sh_tree.specs.declared.tree.Mode.TheVariants.{Input, Fresh, Over}
use Rattle.sh_tree.specs.Tree.{Tree, exec, redir, pipe, list, back}
use Rattle.mem_files.specs.Name.{Name, Bytes, is_openable}
use Rattle.mem_files.specs.Files.{FileMap, with_file, bytes_of}
use Rattle.mem_files.specs.Listing.{max_files, max_size}
use Rattle.prog_parts.specs.declared.program.Program.{Program}
use Rattle.prog_parts.specs.declared.program.Program.TheVariants.{Cat, Echo, Grep, Head, Tee, Wc}
use Rattle.prog_parts.specs.Program.{program_of}
use Rattle.script_load.specs.declared.profile.Profile.{Profile}
use Rattle.meaning_model.specs.Inputs.{found}
use Rattle.meaning_model.specs.Tee.{tee_bytes}
use Rattle.meaning_model.specs.Meaning.{over_end, meaning}

-- as many different names have files as there can be files
pub record AreAllFiles (F : FileMap) : Type 0 where
  pub names : List Name
  pub different : AllPairs (λ name other. name ≢ other) names
  pub each : All (λ name. F name ≢ None) names
  pub many : max_files ≤ length names

-- there is no room for a file of this name: it is new, and there are as many files as there can be
abbrev pub HasNoRoom : FileMap → Name → Type 0
HasNoRoom F name = (F name ≡ None) × AreAllFiles F

-- the body outgrows the limits on the bytes that were found
abbrev pub OnFound : Option Bytes → (Bytes → Type 0) → Type 0
OnFound None P = ⊥
OnFound (Some bytes) P = P bytes

-- its file would be one too many, or its body outgrows the limits, or the file would be too large
abbrev pub OnOpened : Bool → Type 0 → Type 0 → Type 0 → Type 0
OnOpened false full body large = ⊥
OnOpened true full body large = full ⊎ (body ⊎ large)

-- in giving each file these bytes, up to the first that can't be opened, one would be too many or too large
abbrev pub FillOutgrows : List Name → Bytes → FileMap → Type 0
FillOutgrows [] bytes F = ⊥
FillOutgrows (name ∷ names) bytes F =
    OnOpened (is_openable name) (HasNoRoom F name) (FillOutgrows names bytes (with_file F name bytes)) (max_size < length bytes)

-- of the programs, tee alone makes files
abbrev pub ProgramOutgrows : Option Program → List Bytes → Bytes → FileMap → Type 0
ProgramOutgrows None arguments input F = ⊥
ProgramOutgrows (Some Cat) arguments input F = ⊥
ProgramOutgrows (Some Echo) arguments input F = ⊥
ProgramOutgrows (Some Grep) arguments input F = ⊥
ProgramOutgrows (Some Head) arguments input F = ⊥
ProgramOutgrows (Some Tee) arguments input F = FillOutgrows arguments (tee_bytes arguments input) F
ProgramOutgrows (Some Wc) arguments input F = ⊥

abbrev pub WordsOutgrow : List Bytes → Bytes → FileMap → Type 0
WordsOutgrow [] input F = ⊥
WordsOutgrow (word ∷ arguments) input F = ProgramOutgrows (program_of word) arguments input F

-- on the way of its meaning, the command would make one file too many, or one that is too large
abbrev pub Outgrows : Profile → Tree → Bytes → FileMap → Type 0
Outgrows profile (exec words) input F = WordsOutgrow words input F
Outgrows profile (redir Input name body) input F = OnFound (found F name) (λ bytes. Outgrows profile body bytes F)
Outgrows profile (redir Fresh name body) input F =
    OnOpened (is_openable name) (HasNoRoom F name) (Outgrows profile body input (with_file F name []))
    (max_size < length (meaning profile body input (with_file F name [])).out)
Outgrows profile (redir Over name body) input F =
    OnOpened (is_openable name) (HasNoRoom F name) (Outgrows profile body input (with_file F name (bytes_of (F name))))
    (max_size < length (over_end profile (bytes_of (F name)) (meaning profile body input (with_file F name (bytes_of (F name)))).out))
Outgrows profile (pipe left right) input F =
    Outgrows profile left input F ⊎ Outgrows profile right (meaning profile left input F).out (meaning profile left input F).files
Outgrows profile (list left right) input F =
    Outgrows profile left input F ⊎ Outgrows profile right (meaning profile left input F).rest (meaning profile left input F).files
Outgrows profile (back body) input F = Outgrows profile body input F
