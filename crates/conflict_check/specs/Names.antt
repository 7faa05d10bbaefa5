-- The names that a tree reads and writes, and whether it uses its standard input: all by its text (own).
use Rattle.std.specs.Prelude.{ℕ, Bool, false, ◌||◌, List}
use Rattle.std.specs.Str.{bytes_eq}
use Rattle.sh_tree.specs.declared.tree.Mode.{Mode}
use Rattle.sh_tree.specs.declared.tree.Mode.TheVariants.{Input, Fresh, Over}
use Rattle.sh_tree.specs.Tree.{Tree, exec, redir, pipe, list, back}
use Rattle.prog_parts.specs.NameSets.{Names, among}
use Rattle.prog_parts.specs.Words.{words_files_read, words_files_written, words_use_input}

-- the names that a simple command reads, and those that it writes
abbrev pub words_read : List (List ℕ) → Names
words_read words name = among (words_files_read words) name

abbrev pub words_write : List (List ℕ) → Names
words_write words name = among (words_files_written words) name

-- the name of a redirection is read under <, and written under > and >>
abbrev pub mode_reads : Mode → Bool → Bool
mode_reads Input is_name = is_name
mode_reads Fresh is_name = false
mode_reads Over is_name = false

abbrev pub mode_writes : Mode → Bool → Bool
mode_writes Input is_name = false
mode_writes Fresh is_name = is_name
mode_writes Over is_name = is_name

-- what a tree reads by name: the names under <, and the file words of cat, grep, head and wc
abbrev pub reads : Tree → Names
reads (exec words) name = words_read words name
reads (redir mode file body) name = mode_reads mode (bytes_eq name file) || reads body name
reads (pipe left right) name = reads left name || reads right name
reads (list left right) name = reads left name || reads right name
reads (back body) name = reads body name

-- what a tree writes by name: the names under > and >>, and the file words of tee
abbrev pub writes : Tree → Names
writes (exec words) name = words_write words name
writes (redir mode file body) name = mode_writes mode (bytes_eq name file) || writes body name
writes (pipe left right) name = writes left name || writes right name
writes (list left right) name = writes left name || writes right name
writes (back body) name = writes body name

-- what a tree names: all that it reads and all that it writes
abbrev pub names : Tree → Names
names (exec words) name = words_read words name || words_write words name
names (redir mode file body) name = bytes_eq name file || names body name
names (pipe left right) name = names left name || names right name
names (list left right) name = names left name || names right name
names (back body) name = names body name

-- whether some program of a tree reads the tree's own standard input: not under <, and not on the right of a pipe
abbrev pub input_use_under : Mode → Bool → Bool
input_use_under Input uses = false
input_use_under Fresh uses = uses
input_use_under Over uses = uses

abbrev pub uses_input : Tree → Bool
uses_input (exec words) = words_use_input words
uses_input (redir mode file body) = input_use_under mode (uses_input body)
uses_input (pipe left right) = uses_input left
uses_input (list left right) = uses_input left || uses_input right
uses_input (back body) = uses_input body
