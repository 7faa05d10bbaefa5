-- A program that runs alone exits in time, by the bytes that its program function reads.
use Rattle.std.proofs.Common.{◌≡◌, ◌+◌, ◌-◌, ◌*◌, ◌≤◌, Bool, true, false, List, [], ◌∷◌, length, take, Some, refl, arith}
use Rattle.std.specs.Prelude.{◌&&◌, not, if◌then◌else◌}
use Rattle.std.proofs.lemmas.Bool.{eqb-true}
use Rattle.std.proofs.Math.Nat.{add-mul, mul-le-mul_right}
use Rattle.mem_files.specs.Name.{Name, Bytes}
use Rattle.mem_files.specs.Files.{FileMap}
use Rattle.prog_parts.specs.declared.program.Program.{Program}
use Rattle.prog_parts.specs.declared.program.Program.TheVariants.{Cat, Echo, Grep, Head, Tee as Tee', Wc}
use Rattle.prog_parts.specs.Program.{program_uses_input, is_empty}
use Rattle.prog_parts.specs.Head.{head_files, has_wrong_option, first_lines, after_lines, line_count}
use Rattle.user_calls.specs.declared.calls.Call.TheVariants.{Exit}
use Rattle.user_calls.specs.declared.calls.Reply.{Reply}
use Rattle.meaning_model.specs.Value.{fixed, nothing}
use Rattle.meaning_model.specs.Inputs.{filter_value}
use Rattle.prog_parts.specs.Wc.{wc_line}
use Rattle.meaning_model.specs.Tee.{are_openable, filled}
use Rattle.meaning_model.specs.Programs.{program_value}
use Rattle.user_progs.specs.State.{Filter, copying, counting, heading, begins}
use Rattle.tree_model.specs.Waits.{BeginsShort}
use Rattle.tree_model.specs.Tame.{Among}
use Rattle.tree_model.specs.Exits.{calls_on, bytes_read, calls_for}
use Rattle.tree_model.specs.Reads.{unread, taken_of_inputs, bytes_of_function}
use Rattle.tree_model.specs.ProgramRuns.{first_process, MayBeRefused}
use Rattle.law_trees.proofs.programs.Exiting.{exits_within}
use Rattle.law_trees.proofs.programs.Reading.{reads_within}

pub reads_few : (program : Program) (arguments : List Bytes) (input : Bytes) (F : FileMap) (replies : List Reply) → BeginsShort program arguments → MayBeRefused (first_process program arguments input F) replies →
    bytes_read replies ≤ bytes_of_function program arguments input F
reads_few program arguments input F replies short may = reads_within (first_process program arguments input F) replies (refl, short) may

pub exits_alone : (program : Program) (arguments : List Bytes) (input : Bytes) (F : FileMap) (replies : List Reply) → BeginsShort program arguments → MayBeRefused (first_process program arguments input F) replies →
    calls_for (bytes_of_function program arguments input F) arguments ≤ length replies → Among Exit (take (calls_for (bytes_of_function program arguments input F) arguments) (calls_on (begins program arguments) replies))
exits_alone program arguments input F replies short may long =
    let n = bytes_of_function program arguments input F in
    let words = length arguments + 2 in
    let few : bytes_read replies * words ≤ n * words = mul-le-mul_right words (reads_few program arguments input F replies short may) in
    exits_within words replies (begins program arguments) (calls_for n arguments) (omega arith) (omega (arith, few, add-mul n 4 words)) long

-- of standard input it reads what its function doesn't leave

filter_input : (filter : Filter) (write : Name → Bytes → Bytes) (names : List Name) (input : Bytes) (F : FileMap) → is_empty names ≡ true →
    taken_of_inputs filter names input F ≡ length input - length (filter_value write (unread filter) names input F).rest
filter_input filter write [] input F none = refl
filter_input filter write (name ∷ names) input F none = cc

head_input : (arguments : List Bytes) (input : Bytes) (F : FileMap) → program_uses_input Head arguments ≡ true →
    bytes_of_function Head arguments input F ≡ length input - length (program_value (Some Head) arguments input F).rest
head_input arguments input F = go (has_wrong_option arguments) (is_empty (head_files arguments)) (filter_input (heading (line_count arguments)) (λ name. first_lines (line_count arguments)) (head_files arguments) input F)
  where
    go : (wrong none : Bool) →
        (none ≡ true → taken_of_inputs (heading (line_count arguments)) (head_files arguments) input F
        ≡ length input - length (filter_value (λ name. first_lines (line_count arguments)) (after_lines (line_count arguments)) (head_files arguments) input F).rest) →
        (none && not wrong) ≡ true →
        (if wrong then 0 else taken_of_inputs (heading (line_count arguments)) (head_files arguments) input F)
        ≡ length input - length (if wrong then nothing input F else filter_value (λ name. first_lines (line_count arguments)) (after_lines (line_count arguments)) (head_files arguments) input F).rest
    go wrong false so uses = cc
    go true true so uses = cc
    go false true so uses = so refl

pub reads_input : (program : Program) (arguments : List Bytes) (input : Bytes) (F : FileMap) → program_uses_input program arguments ≡ true →
    bytes_of_function program arguments input F ≡ length input - length (program_value (Some program) arguments input F).rest
reads_input Cat arguments input F uses = filter_input copying (λ name bytes. bytes) arguments input F uses
reads_input Echo arguments input F uses = cc
reads_input Grep [] input F uses = omega arith
reads_input Grep (pattern ∷ []) input F uses = refl
reads_input Grep (pattern ∷ name ∷ names) input F uses = absurd (omega (arith, eqb-true (length (pattern ∷ name ∷ names)) 1 uses))
reads_input Head arguments input F uses = head_input arguments input F uses
reads_input Tee' arguments input F uses = go (are_openable arguments)
  where
    go : (all : Bool) → (if all then length input else 0) ≡ length input - length (if all then fixed input [] (filled arguments input F) else fixed [] input (filled arguments [] F)).rest
    go true = omega arith
    go false = omega arith
reads_input Wc arguments input F uses = filter_input counting wc_line arguments input F uses
