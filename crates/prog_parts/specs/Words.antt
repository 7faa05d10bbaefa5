-- The words of a simple command that name files, and whether it reads standard input: by its first word, and by the text alone (own).
use Rattle.std.specs.Prelude.{ℕ, Bool, false, List, [], ◌∷◌, Option, Some, None}
use Rattle.prog_parts.specs.declared.program.Program.{Program}
use Rattle.prog_parts.specs.declared.program.Program.TheVariants.{Tee}
use Rattle.prog_parts.specs.Program.{program_of, file_words, program_uses_input}

-- the arguments that a program reads by name: its file words, but tee's
abbrev pub files_read : Program → List (List ℕ) → List (List ℕ)
files_read Tee arguments = []
files_read program arguments = file_words program arguments

-- the arguments that it writes by name: tee's
abbrev pub files_written : Program → List (List ℕ) → List (List ℕ)
files_written Tee arguments = arguments
files_written program arguments = []

-- the value of a command whose first word names this program, if it names one
abbrev pub by_program : {X : Type 0} → (Program → List (List ℕ) → X) → X → Option Program → List (List ℕ) → X
by_program said otherwise None arguments = otherwise
by_program said otherwise (Some program) arguments = said program arguments

-- the value of a simple command by its program; a command without words has no program
abbrev pub by_words : {X : Type 0} → (Program → List (List ℕ) → X) → X → List (List ℕ) → X
by_words said otherwise [] = otherwise
by_words said otherwise (word ∷ arguments) = by_program said otherwise (program_of word) arguments

-- the words that name files; those of them that are read; those that are written
abbrev pub words_files : List (List ℕ) → List (List ℕ)
words_files words = by_words file_words [] words

abbrev pub words_files_read : List (List ℕ) → List (List ℕ)
words_files_read words = by_words files_read [] words

abbrev pub words_files_written : List (List ℕ) → List (List ℕ)
words_files_written words = by_words files_written [] words

-- whether it reads standard input
abbrev pub words_use_input : List (List ℕ) → Bool
words_use_input words = by_words program_uses_input false words
