-- The six programs, which of their arguments name files, and whether they read standard input.
use Rattle.std.specs.Prelude.{ℕ, Bool, true, false, ◌&&◌, not, ◌==◌, List, [], ◌∷◌, length, drop, Option, Some, None, if◌then◌else◌, codes}
use Rattle.std.specs.Str.{bytes_eq}
use Rattle.prog_parts.specs.declared.program.Program.{Program}
use Rattle.prog_parts.specs.declared.program.Program.TheVariants.{Cat, Echo, Grep, Head, Tee, Wc}
use Rattle.prog_parts.specs.Head.{has_wrong_option, head_files}

-- the program of this name
abbrev pub program_of : List ℕ → Option Program
program_of name =
    if bytes_eq name (codes "cat") then Some Cat
    else (if bytes_eq name (codes "echo") then Some Echo
    else (if bytes_eq name (codes "grep") then Some Grep
    else (if bytes_eq name (codes "head") then Some Head
    else (if bytes_eq name (codes "tee") then Some Tee
    else (if bytes_eq name (codes "wc") then Some Wc
    else None)))))

-- the arguments that name files
abbrev pub file_words : Program → List (List ℕ) → List (List ℕ)
file_words Cat arguments = arguments
file_words Echo arguments = []
file_words Grep arguments = drop 1 arguments
file_words Head arguments = head_files arguments
file_words Tee arguments = arguments
file_words Wc arguments = arguments

abbrev pub is_empty : {X : Type 0} → List X → Bool
is_empty [] = true
is_empty (x ∷ xs) = false

-- the program reads its standard input
abbrev pub program_uses_input : Program → List (List ℕ) → Bool
program_uses_input Cat arguments = is_empty arguments
program_uses_input Echo arguments = false
program_uses_input Grep arguments = length arguments == 1
program_uses_input Head arguments = is_empty (head_files arguments) && not (has_wrong_option arguments)
program_uses_input Tee arguments = true
program_uses_input Wc arguments = is_empty arguments
