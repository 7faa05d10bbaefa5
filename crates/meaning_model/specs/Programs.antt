-- The program functions: what a program does with its arguments, its input and the files, on whole byte strings.
use Rattle.std.specs.Prelude.{List, [], ◌∷◌, ◌++◌, Option, Some, None, if◌then◌else◌}
use Rattle.mem_files.specs.Name.{Bytes}
use Rattle.mem_files.specs.Files.{FileMap}
use Rattle.prog_parts.specs.declared.program.Program.{Program}
use Rattle.prog_parts.specs.declared.program.Program.TheVariants.{Cat, Echo, Grep, Head, Tee, Wc}
use Rattle.prog_parts.specs.Program.{program_of}
use Rattle.prog_parts.specs.Head.{head_files, has_wrong_option}
use Rattle.meaning_model.specs.Value.{Value, fixed, nothing}
use Rattle.meaning_model.specs.Inputs.{filter_value}
use Rattle.prog_parts.specs.Grep.{grep_out, grep_left}
use Rattle.prog_parts.specs.Head.{first_lines, after_lines, line_count}
use Rattle.meaning_model.specs.Tee.{tee_value}
use Rattle.prog_parts.specs.Wc.{wc_line}

-- echo (user/echo.c): the arguments with single spaces between them, and LF; nothing without arguments
abbrev pub echo_out : List Bytes → Bytes
echo_out [] = []
echo_out (argument ∷ []) = argument ++ 10 ∷ []
echo_out (argument ∷ next ∷ later) = argument ++ 32 ∷ echo_out (next ∷ later)

-- cat (user/cat.c): all of each input
abbrev pub cat_value : List Bytes → Bytes → FileMap → Value
cat_value arguments input F = filter_value (λ name bytes. bytes) (λ bytes. []) arguments input F

-- wc (user/wc.c): the counts of each input, all of which is read
abbrev pub wc_value : List Bytes → Bytes → FileMap → Value
wc_value arguments input F = filter_value wc_line (λ bytes. []) arguments input F

-- grep (user/grep.c): the matching lines of each input; without a pattern it is used wrongly and does nothing
abbrev pub grep_value : List Bytes → Bytes → FileMap → Value
grep_value [] input F = nothing input F
grep_value (pattern ∷ arguments) input F = filter_value (λ name. grep_out pattern) grep_left arguments input F

-- head (own): the first lines of each input; with a first argument that begins with `-` and is no count
-- it is used wrongly and does nothing
abbrev pub head_value : List Bytes → Bytes → FileMap → Value
head_value arguments input F =
    if has_wrong_option arguments then nothing input F
    else filter_value (λ name. first_lines (line_count arguments)) (after_lines (line_count arguments)) (head_files arguments) input F

-- a program of an unknown name does nothing
abbrev pub program_value : Option Program → List Bytes → Bytes → FileMap → Value
program_value None arguments input F = nothing input F
program_value (Some Cat) arguments input F = cat_value arguments input F
program_value (Some Echo) arguments input F = fixed (echo_out arguments) input F
program_value (Some Grep) arguments input F = grep_value arguments input F
program_value (Some Head) arguments input F = head_value arguments input F
program_value (Some Tee) arguments input F = tee_value arguments input F
program_value (Some Wc) arguments input F = wc_value arguments input F

-- a simple command; one without words does nothing
abbrev pub words_value : List Bytes → Bytes → FileMap → Value
words_value [] input F = nothing input F
words_value (word ∷ arguments) input F = program_value (program_of word) arguments input F
