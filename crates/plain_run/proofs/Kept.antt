-- No command takes a file away.
use Rattle.std.proofs.Common.{◌≢◌, Bool, true, false, cond, List, [], ◌∷◌, Option, Some, None, sym, ◌∙◌}
use Rattle.std.specs.Str.{bytes_eq}
use Rattle.sh_tree.specs.declared.tree.Mode.{Mode}
use Rattle.sh_tree.specs.declared.tree.Mode.TheVariants.{Input, Fresh, Over}
use Rattle.sh_tree.specs.Tree.{Tree, exec, redir, pipe, list, back}
use Rattle.mem_files.specs.Name.{Name, Bytes, is_openable}
use Rattle.mem_files.specs.Files.{FileMap, with_file}
use Rattle.mem_files.proofs.Kept.{at_name}
use Rattle.prog_parts.specs.declared.program.Program.{Program}
use Rattle.prog_parts.specs.declared.program.Program.TheVariants.{Cat, Echo, Grep, Head, Tee, Wc}
use Rattle.prog_parts.specs.Program.{program_of}
use Rattle.prog_parts.specs.Head.{head_files, has_wrong_option}
use Rattle.meaning_model.specs.Meaning.{meaning, opened, input_value, output_value}
use Rattle.prog_parts.specs.Grep.{grep_out, grep_left}
use Rattle.prog_parts.specs.Head.{first_lines, after_lines, line_count}
use Rattle.meaning_model.specs.Inputs.{found, filter_value}
use Rattle.meaning_model.specs.Programs.{program_value, words_value}
use Rattle.meaning_model.specs.Tee.{are_openable, filled}
use Rattle.meaning_model.specs.Value.{Value, fixed, nothing}
use Rattle.prog_parts.specs.Wc.{wc_line}
use Rattle.script_load.specs.declared.profile.Profile.{Profile}

-- a name with a file keeps one
abbrev pub Keeps : FileMap → FileMap → Type 0
Keeps F G = (name : Name) → F name ≢ None → G name ≢ None

some_none : (bytes : Bytes) → Some bytes ≢ None
some_none bytes e = cc

with_file_keeps : (F : FileMap) (name : Name) (bytes : Bytes) → Keeps F (with_file F name bytes)
with_file_keeps F name bytes other has =
    elim (bytes_eq other name) as (λ b. cond b (Some bytes) (F other) ≢ None) [ true ↦ some_none bytes | false ↦ has ]

filter_keeps : (write : Name → Bytes → Bytes) (left : Bytes → Bytes) (names : List Name) (input : Bytes) (F : FileMap) → Keeps F (filter_value write left names input F).files
filter_keeps write left [] input F name has = has
filter_keeps write left (n ∷ ns) input F name has = has

filled_keeps : (names : List Name) (bytes : Bytes) (F : FileMap) → Keeps F (filled names bytes F)
filled_keeps [] bytes F name has = has
filled_keeps (n ∷ ns) bytes F name has =
    elim (is_openable n) as (λ b. cond b (filled ns bytes (with_file F n bytes)) F name ≢ None)
    [ true ↦ filled_keeps ns bytes (with_file F n bytes) name (with_file_keeps F n bytes name has) | false ↦ has ]

tee_keeps : (b : Bool) (names : List Name) (input : Bytes) (F : FileMap) → Keeps F (cond b (fixed input [] (filled names input F)) (fixed [] input (filled names [] F))).files
tee_keeps true names input F name has = filled_keeps names input F name has
tee_keeps false names input F name has = filled_keeps names [] F name has

head_keeps : (b : Bool) (write : Name → Bytes → Bytes) (left : Bytes → Bytes) (names : List Name) (input : Bytes) (F : FileMap) → Keeps F (cond b (nothing input F) (filter_value write left names input F)).files
head_keeps true write left names input F name has = has
head_keeps false write left names input F name has = filter_keeps write left names input F name has

program_keeps : (p : Option Program) (arguments : List Bytes) (input : Bytes) (F : FileMap) → Keeps F (program_value p arguments input F).files
program_keeps None arguments input F name has = has
program_keeps (Some Cat) arguments input F name has = filter_keeps (λ n bytes. bytes) (λ bytes. []) arguments input F name has
program_keeps (Some Echo) arguments input F name has = has
program_keeps (Some Grep) [] input F name has = has
program_keeps (Some Grep) (pattern ∷ names) input F name has = filter_keeps (λ n. grep_out pattern) grep_left names input F name has
program_keeps (Some Head) arguments input F name has =
    head_keeps (has_wrong_option arguments) (λ n. first_lines (line_count arguments)) (after_lines (line_count arguments)) (head_files arguments) input F name has
program_keeps (Some Tee) arguments input F name has = tee_keeps (are_openable arguments) arguments input F name has
program_keeps (Some Wc) arguments input F name has = filter_keeps wc_line (λ bytes. []) arguments input F name has

words_keeps : (words : List Bytes) (input : Bytes) (F : FileMap) → Keeps F (words_value words input F).files
words_keeps [] input F name has = has
words_keeps (word ∷ arguments) input F name has = program_keeps (program_of word) arguments input F name has

input_keeps : (o : Option Bytes) (input : Bytes) (F : FileMap) (body : Bytes → Value) → ((bytes : Bytes) → Keeps F (body bytes).files) → Keeps F (input_value o input F body).files
input_keeps None input F body each name has = has
input_keeps (Some bytes) input F body each name has = each bytes name has

output_keeps : (b : Bool) (input : Bytes) (F : FileMap) (done : Value) → Keeps F done.files → Keeps F (output_value b input F done).files
output_keeps true input F done each name has = each name has
output_keeps false input F done each name has = has

pub meaning_keeps : (profile : Profile) (T : Tree) (input : Bytes) (F : FileMap) → Keeps F (meaning profile T input F).files
meaning_keeps profile (exec words) input F name has = words_keeps words input F name has
meaning_keeps profile (redir Input file body) input F name has =
    input_keeps (found F file) input F (λ bytes. meaning profile body bytes F) (λ bytes. meaning_keeps profile body bytes F) name has
meaning_keeps profile (redir Fresh file body) input F name has =
    output_keeps (is_openable file) input F _
    (λ other had. with_file_keeps (meaning profile body input (opened Fresh file F)).files file _ other (meaning_keeps profile body input (opened Fresh file F) other (with_file_keeps F file _ other had))) name has
meaning_keeps profile (redir Over file body) input F name has =
    output_keeps (is_openable file) input F _
    (λ other had. with_file_keeps (meaning profile body input (opened Over file F)).files file _ other (meaning_keeps profile body input (opened Over file F) other (with_file_keeps F file _ other had))) name has
meaning_keeps profile (pipe left right) input F name has =
    meaning_keeps profile right (meaning profile left input F).out (meaning profile left input F).files name (meaning_keeps profile left input F name has)
meaning_keeps profile (list left right) input F name has =
    meaning_keeps profile right (meaning profile left input F).rest (meaning profile left input F).files name (meaning_keeps profile left input F name has)
meaning_keeps profile (back body) input F name has = meaning_keeps profile body input F name has

-- a file that was opened for writing is there
pub opened_is_there : (mode : Mode) (file : Name) (F : FileMap) → mode ≢ Input → opened mode file F file ≢ None
opened_is_there Input file F writes is = writes (λ _. Input)
opened_is_there Fresh file F writes is = some_none _ (sym (at_name F file _) ∙ is)
opened_is_there Over file F writes is = some_none _ (sym (at_name F file _) ∙ is)
