-- What a simple command gives doesn't depend on the order in which processes run.
use Rattle.std.proofs.Common.{Bool, true, false, List, [], ◌∷◌, Option, Some, None, refl}
use Rattle.std.specs.Prelude.{if◌then◌else◌}
use Rattle.mem_files.specs.Name.{Name, Bytes}
use Rattle.mem_files.specs.Files.{FileMap}
use Rattle.prog_parts.specs.declared.program.Program.{Program}
use Rattle.prog_parts.specs.declared.program.Program.TheVariants.{Cat, Echo, Grep, Head, Tee, Wc}
use Rattle.prog_parts.specs.Grep.{grep_out, grep_left}
use Rattle.prog_parts.specs.Head.{after_lines, first_lines, has_wrong_option, head_files, line_count}
use Rattle.prog_parts.specs.Program.{program_of}
use Rattle.prog_parts.specs.Wc.{wc_line}
use Rattle.meaning_model.specs.Firm.{IsFirm}
use Rattle.meaning_model.specs.Inputs.{filter_value}
use Rattle.meaning_model.specs.Programs.{program_value, words_value}
use Rattle.meaning_model.specs.Tee.{are_openable}
use Rattle.meaning_model.specs.Value.{Value, fixed}

pub is_firm : (out rest : Bytes) (F : FileMap) → IsFirm (fixed out rest F)
is_firm out rest F = record { loose = refl; soft = λ n. refl }

pub firm_if : (b : Bool) (v w : Value) → IsFirm v → IsFirm w → IsFirm (if b then v else w)
firm_if true v w h g = h
firm_if false v w h g = g

firm_filter : (write : Name → Bytes → Bytes) (left : Bytes → Bytes) (names : List Name) (input : Bytes) (F : FileMap) → IsFirm (filter_value write left names input F)
firm_filter write left [] input F = is_firm _ _ F
firm_filter write left (name ∷ names) input F = is_firm _ _ F

pub firm_program : (program : Option Program) (arguments : List Bytes) (input : Bytes) (F : FileMap) → IsFirm (program_value program arguments input F)
firm_program None arguments input F = is_firm [] input F
firm_program (Some Cat) arguments input F = firm_filter (λ name bytes. bytes) (λ bytes. []) arguments input F
firm_program (Some Echo) arguments input F = is_firm _ input F
firm_program (Some Grep) [] input F = is_firm [] input F
firm_program (Some Grep) (pattern ∷ arguments) input F = firm_filter (λ name. grep_out pattern) grep_left arguments input F
firm_program (Some Head) arguments input F =
    firm_if (has_wrong_option arguments) _ _ (is_firm [] input F)
    (firm_filter (λ name. first_lines (line_count arguments)) (after_lines (line_count arguments)) (head_files arguments) input F)
firm_program (Some Tee) arguments input F = firm_if (are_openable arguments) _ _ (is_firm _ _ _) (is_firm _ _ _)
firm_program (Some Wc) arguments input F = firm_filter wc_line (λ bytes. []) arguments input F

pub firm_words : (words : List Bytes) (input : Bytes) (F : FileMap) → IsFirm (words_value words input F)
firm_words [] input F = is_firm [] input F
firm_words (word ∷ arguments) input F = firm_program (program_of word) arguments input F
