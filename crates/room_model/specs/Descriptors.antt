-- How many descriptors a process of a script has open at once at most. Of its own each has three; the shell has five where it
-- makes a pipe (user/sh.c), and a program one more for each file that it holds open.
use Rattle.std.specs.Prelude.{ℕ, ◌+◌, max, List, [], ◌∷◌, length, Option, Some, None}
use Rattle.sh_tree.specs.Tree.{Tree, exec, redir, pipe, list, back}
use Rattle.mem_files.specs.Name.{Bytes}
use Rattle.prog_parts.specs.declared.program.Program.{Program}
use Rattle.prog_parts.specs.declared.program.Program.TheVariants.{Cat, Echo, Grep, Head, Tee, Wc}
use Rattle.prog_parts.specs.Program.{program_of, file_words}
use Rattle.script_load.specs.Line.{ScriptLine}
use Rattle.meaning_model.specs.Meaning.{script_tree}

-- one, where there is anything
abbrev pub one_if_any : {X : Type 0} → List X → ℕ
one_if_any [] = 0
one_if_any (x ∷ xs) = 1

-- how many files a program with these arguments has open at once: tee all, and any other program one after the other
abbrev pub files_at_once : Program → List Bytes → ℕ
files_at_once Cat arguments = one_if_any (file_words Cat arguments)
files_at_once Echo arguments = 0
files_at_once Grep arguments = one_if_any (file_words Grep arguments)
files_at_once Head arguments = one_if_any (file_words Head arguments)
files_at_once Tee arguments = length arguments
files_at_once Wc arguments = one_if_any (file_words Wc arguments)

abbrev pub files_of_program : Option Program → List Bytes → ℕ
files_of_program None arguments = 0
files_of_program (Some program) arguments = files_at_once program arguments

-- a simple command
abbrev pub files_of_words : List Bytes → ℕ
files_of_words [] = 0
files_of_words (word ∷ arguments) = files_of_program (program_of word) arguments

abbrev pub most_descriptors : Tree → ℕ
most_descriptors (exec words) = 3 + files_of_words words
most_descriptors (redir mode name body) = most_descriptors body
most_descriptors (pipe left right) = max 5 (max (most_descriptors left) (most_descriptors right))
most_descriptors (list left right) = max (most_descriptors left) (most_descriptors right)
most_descriptors (back body) = most_descriptors body

-- of a script
abbrev pub script_descriptors : List ScriptLine → ℕ
script_descriptors lines = most_descriptors (script_tree lines)
