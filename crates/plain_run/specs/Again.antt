-- What keeps a tree from being settled: names that a cut pipe's left side writes and that are named again, and an input that is
-- used after a command that is loose.
use Rattle.std.specs.Prelude.{◌≡◌, Bool, false, ◌||◌, ◌&&◌, List, [], Option, Some, None}
use Rattle.sh_tree.specs.declared.tree.Mode.TheVariants.{Input, Fresh, Over}
use Rattle.sh_tree.specs.Tree.{Tree, exec, redir, pipe, list, back}
use Rattle.mem_files.specs.Name.{Name, Bytes, is_openable}
use Rattle.mem_files.specs.Files.{FileMap, with_file, bytes_of}
use Rattle.prog_parts.specs.NameSets.{Names, no_names, among, both}
use Rattle.conflict_check.specs.Names.{names, writes, uses_input}
use Rattle.script_load.specs.declared.profile.Profile.{Profile}
use Rattle.meaning_model.specs.Inputs.{found}
use Rattle.meaning_model.specs.Meaning.{meaning}
use Rattle.meaning_model.specs.Settled.{with_name}
use Rattle.meaning_model.specs.Value.{is_cut}

-- a test of what was found of a file
abbrev pub if_found : Option Bytes → (Bytes → Bool) → Bool
if_found None test = false
if_found (Some bytes) test = test bytes

-- the names that the left side of a cut pipe of the tree writes and that are named again: beside that left side, or outside
-- the tree, by these names
abbrev pub named_again : Profile → Tree → Names → Bytes → FileMap → Names
named_again profile (exec words) outside input F name = false
named_again profile (redir Input file body) outside input F name =
    if_found (found F file) (λ bytes. named_again profile body (with_name file outside) bytes F name)
named_again profile (redir Fresh file body) outside input F name =
    is_openable file && named_again profile body (with_name file outside) input (with_file F file []) name
named_again profile (redir Over file body) outside input F name =
    is_openable file && named_again profile body (with_name file outside) input (with_file F file (bytes_of (F file))) name
named_again profile (pipe left right) outside input F name =
    (named_again profile left (both (names right) outside) input F name ||
    named_again profile right (both (names left) outside) (meaning profile left input F).out (meaning profile left input F).files name) ||
    ((is_cut (meaning profile right (meaning profile left input F).out (meaning profile left input F).files) && writes left name) && both (names right) outside name)
named_again profile (list left right) outside input F name =
    named_again profile left (both (names right) outside) input F name ||
    named_again profile right (both (names left) outside) (meaning profile left input F).rest (meaning profile left input F).files name
named_again profile (back body) outside input F name = named_again profile body outside input F name

-- after a command of the tree that is loose another one uses the same input
abbrev pub reuses_input : Profile → Tree → Bytes → FileMap → Bool
reuses_input profile (exec words) input F = false
reuses_input profile (redir Input file body) input F = if_found (found F file) (λ bytes. reuses_input profile body bytes F)
reuses_input profile (redir Fresh file body) input F = is_openable file && reuses_input profile body input (with_file F file [])
reuses_input profile (redir Over file body) input F = is_openable file && reuses_input profile body input (with_file F file (bytes_of (F file)))
reuses_input profile (pipe left right) input F =
    reuses_input profile left input F ||
    reuses_input profile right (meaning profile left input F).out (meaning profile left input F).files
reuses_input profile (list left right) input F =
    (reuses_input profile left input F ||
    reuses_input profile right (meaning profile left input F).rest (meaning profile left input F).files) ||
    ((meaning profile left input F).loose && uses_input right)
reuses_input profile (back body) input F = reuses_input profile body input F

-- these are the names that are named again in a command alone, and this is whether an input is used again
pub record TellsAgain (profile : Profile) (tree : Tree) (input : Bytes) (F : FileMap) (again : List Name) (reuses : Bool) : Type 0 where
  pub named : (name : Name) → among again name ≡ named_again profile tree no_names input F name
  pub reused : reuses ≡ reuses_input profile tree input F
