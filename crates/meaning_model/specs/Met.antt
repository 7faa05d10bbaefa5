-- Which names a command of a tree meets of what may depend on the order in which processes run. Of a settled tree there are none
-- (a law says so), which a proof along the steps of a run can keep.
use Rattle.std.specs.Prelude.{Bool, ◌||◌, ◌&&◌, [], Option, Some, None, if◌then◌else◌}
use Rattle.sh_tree.specs.declared.tree.Mode.TheVariants.{Input, Fresh, Over}
use Rattle.sh_tree.specs.Tree.{Tree, exec, redir, pipe, list, back}
use Rattle.mem_files.specs.Name.{Bytes, is_openable}
use Rattle.mem_files.specs.Files.{FileMap, with_file, bytes_of}
use Rattle.prog_parts.specs.NameSets.{Names, no_names, both}
use Rattle.conflict_check.specs.Names.{names, uses_input}
use Rattle.script_load.specs.declared.profile.Profile.{Profile}
use Rattle.meaning_model.specs.Inputs.{found}
use Rattle.meaning_model.specs.Meaning.{meaning}
use Rattle.meaning_model.specs.Value.{Value}

-- where a command of this value is followed by one that has these names and so uses its input, beside what each of them meets:
-- the names of the soft files, and every name if the input is loose
abbrev pub seq_met : Names → Bool → Value → Names → Names → Names
seq_met names uses first before after = λ name. before name || after name || (first.soft name && names name) || (first.loose && uses)

-- under <, where this was found of the file
abbrev pub input_met : Option Bytes → (Bytes → Names) → Names
input_met None body = no_names
input_met (Some bytes) body = body bytes

-- a simple command meets none; the left side of a pipe is not before its right side
abbrev pub met_names : Profile → Tree → Bytes → FileMap → Names
met_names profile (exec words) input F = no_names
met_names profile (redir Input name body) input F = input_met (found F name) (λ bytes. met_names profile body bytes F)
met_names profile (redir Fresh name body) input F = if is_openable name then met_names profile body input (with_file F name []) else no_names
met_names profile (redir Over name body) input F = if is_openable name then met_names profile body input (with_file F name (bytes_of (F name))) else no_names
met_names profile (pipe left right) input F =
    both (met_names profile left input F) (met_names profile right (meaning profile left input F).out (meaning profile left input F).files)
met_names profile (list left right) input F =
    seq_met (names right) (uses_input right) (meaning profile left input F) (met_names profile left input F)
    (met_names profile right (meaning profile left input F).rest (meaning profile left input F).files)
met_names profile (back body) input F = met_names profile body input F
