use Rattle.std.proofs.Common.{◌≡◌, ◌+◌, ◌∷◌, ◌∙◌, Some, None, sym, ap, subst}
use Rattle.prog_parts.specs.Program.{program_of}
use Rattle.prog_parts.specs.Words.{words_files, words_use_input}
use Rattle.tree_model.specs.FilesAhead.{all_sizes}
use Rattle.sh_tree.specs.Tree.{exec}
use Rattle.tree_model.specs.Bound.{input_ahead}
use Rattle.tree_model.specs.ProgramBytes.{begin_bytes}
use Rattle.step_bounds.specs.Cost.{IsCapped, IsGrownBy, sizes_grown}
use Rattle.step_bounds.proofs.Exec.{reads}
use Rattle.step_bounds.proofs.Grown.{exec_too_much, exec_grown}
use Rattle.step_bounds.proofs.bytes.exec_grown.Goals as goal

pub returns-in-Some-bytes_of_reads : goal.returns-in-Some-bytes_of_reads
returns-in-Some-bytes_of_reads g c =
    let a = c.args in
    let word = c.in-Some.name.now in
    let arguments = c.in-Some.arguments.now in
    let split : a.words.now ≡ word ∷ arguments = c.in-Some.ensures.cases.0 in
    let named : program_of word ≡ Some c.in-Some-named.program = ap program_of (sym c.as_slice.ensures) ∙ sym c.named.ensures ∙ c.in-Some-named.is in
    let read = subst (λ words. IsCapped (input_ahead (words_use_input words) a.input + all_sizes (words_files words) (sizes_grown a.files.now a.grown)) c.reads_ahead-reads.result) split c.reads_ahead-reads.ensures in
    let bytes = subst (IsCapped (begin_bytes c.in-Some-named.program arguments (reads word arguments a.input (sizes_grown a.files.now a.grown)))) c.in-Some-bytes_of_reads.is (c.bytes_of_reads.ensures _ read) in
    subst (λ words. IsGrownBy (exec words) a.input a.files.now a.grown c.plus.result) (sym split)
    (exec_grown a.files.now a.input a.grown word arguments c.in-Some-named.program named c.in-Some-bytes_of_reads.bytes c.plus.result bytes c.plus.ensures)

pub returns-in-None : goal.returns-in-None
returns-in-None g c =
    let a = c.args in
    let word = c.in-Some.name.now in
    let arguments = c.in-Some.arguments.now in
    let split : a.words.now ≡ word ∷ arguments = c.in-Some.ensures.cases.0 in
    let named : program_of word ≡ Some c.in-Some-named.program = ap program_of (sym c.as_slice.ensures) ∙ sym c.named.ensures ∙ c.in-Some-named.is in
    let read = subst (λ words. IsCapped (input_ahead (words_use_input words) a.input + all_sizes (words_files words) (sizes_grown a.files.now a.grown)) c.reads_ahead-reads.result) split c.reads_ahead-reads.ensures in
    let bytes = subst (IsCapped (begin_bytes c.in-Some-named.program arguments (reads word arguments a.input (sizes_grown a.files.now a.grown)))) c.in-None.is (c.bytes_of_reads.ensures _ read) in
    subst (λ words. IsGrownBy (exec words) a.input a.files.now a.grown None) (sym split)
    (exec_too_much a.files.now a.input a.grown word arguments c.in-Some-named.program named bytes)
