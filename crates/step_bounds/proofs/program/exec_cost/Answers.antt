use Rattle.std.proofs.Common.{◌≡◌, ◌+◌, ◌∷◌, ◌∙◌, Some, sym, ap, subst}
use Rattle.prog_parts.specs.Program.{program_of}
use Rattle.prog_parts.specs.Words.{words_files, words_use_input}
use Rattle.tree_model.specs.FilesAhead.{all_sizes}
use Rattle.sh_tree.specs.Tree.{exec}
use Rattle.tree_model.specs.Bound.{input_ahead}
use Rattle.step_bounds.specs.Cost.{IsCostOf, sizes_grown}
use Rattle.step_bounds.proofs.Costs.{exec_cost}
use Rattle.step_bounds.proofs.program.exec_cost.Goals as goal

pub returns-in-Some-reads_ahead : goal.returns-in-Some-reads_ahead
returns-in-Some-reads_ahead g c =
    let a = c.args in
    let word = c.in-Some.name.now in
    let arguments = c.in-Some.arguments.now in
    let split : a.words.now ≡ word ∷ arguments = c.in-Some.ensures.cases.0 in
    let named : program_of word ≡ Some c.in-Some-named.program = ap program_of (sym c.as_slice.ensures) ∙ sym c.named.ensures ∙ c.in-Some-named.is in
    let reads = c.in-Some-reads_ahead.ensures.0 ∙ ap (λ words. input_ahead (words_use_input words) a.input + all_sizes (words_files words) (sizes_grown a.files.now a.grown)) split in
    subst (λ words. IsCostOf (exec words) a.input a.files.now a.grown c.program_cost.result) (sym split)
    (exec_cost a.files.now a.input a.grown word arguments c.in-Some-reads_ahead.reads c.in-Some-named.program c.program_cost.result named reads c.program_cost.ensures)
