-- When the order in which processes run changes nothing that a script gives, but for soft names.
use Rattle.std.specs.Prelude.{◌≡◌, true, false, ◌||◌, List, [], IfSome}
use Rattle.std.specs.Str.{bytes_eq}
use Rattle.sh_tree.specs.declared.tree.Mode.TheVariants.{Input, Fresh, Over}
use Rattle.sh_tree.specs.Tree.{Tree, exec, redir, pipe, list, back}
use Rattle.mem_files.specs.Name.{Name, Bytes, is_openable}
use Rattle.mem_files.specs.Files.{FileMap, with_file, bytes_of}
use Rattle.conflict_check.specs.Clear.{has_back, IsClear}
use Rattle.prog_parts.specs.NameSets.{Names, no_names, both}
use Rattle.conflict_check.specs.Names.{names, writes, uses_input}
use Rattle.script_load.specs.declared.profile.Profile.{Profile}
use Rattle.meaning_model.specs.Inputs.{found}
use Rattle.script_load.specs.Line.{ScriptLine}
use Rattle.meaning_model.specs.Meaning.{meaning, script_tree}
use Rattle.meaning_model.specs.Value.{is_cut}

-- no name of the one set is in the other
abbrev pub AreNoneOf : Names → Names → Type 0
AreNoneOf these those = (name : Name) → these name ≡ true → those name ≡ false

-- a name, and those of a set
abbrev pub with_name : Name → Names → Names
with_name name others other = bytes_eq other name || others other

-- a settled tree of a script that has these names outside it. The body of a redirection is settled where its file can be
-- opened; at each pipe that is cut, what the left
-- side writes is named nowhere else, and after a command that is loose none uses the input
abbrev pub IsSettled : Profile → Tree → Names → Bytes → FileMap → Type 0
IsSettled profile (exec words) outside input F = Unit {0}
IsSettled profile (redir Input name body) outside input F = IfSome (found F name) (λ bytes. IsSettled profile body (with_name name outside) bytes F)
IsSettled profile (redir Fresh name body) outside input F = is_openable name ≡ true → IsSettled profile body (with_name name outside) input (with_file F name [])
IsSettled profile (redir Over name body) outside input F =
    is_openable name ≡ true → IsSettled profile body (with_name name outside) input (with_file F name (bytes_of (F name)))
IsSettled profile (pipe left right) outside input F =
    IsSettled profile left (both (names right) outside) input F ×
    IsSettled profile right (both (names left) outside) (meaning profile left input F).out (meaning profile left input F).files ×
    (is_cut (meaning profile right (meaning profile left input F).out (meaning profile left input F).files) ≡ true → AreNoneOf (writes left) (both (names right) outside))
IsSettled profile (list left right) outside input F =
    IsSettled profile left (both (names right) outside) input F ×
    IsSettled profile right (both (names left) outside) (meaning profile left input F).rest (meaning profile left input F).files ×
    ((meaning profile left input F).loose ≡ true → uses_input right ≡ false)
IsSettled profile (back body) outside input F = IsSettled profile body outside input F

-- a settled script: no command of it runs behind &, its commands can't come upon each other at a file,
-- and all of it is settled, with nothing outside
abbrev pub IsSettledScript : Profile → List ScriptLine → Bytes → FileMap → Type 0
IsSettledScript profile lines input F =
    (has_back (script_tree lines) ≡ false) ×
    IsClear (script_tree lines) ×
    IsSettled profile (script_tree lines) no_names input F
