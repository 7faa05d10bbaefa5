-- What a simple command costs, in its program's numbers.
use Rattle.std.proofs.Common.{◌≡◌, ℕ, ◌+◌, ◌*◌, List, [], ◌∷◌, false, Some, length, sym, ap, arith}
use Rattle.mem_files.specs.Name.{Bytes}
use Rattle.sh_tree.specs.Tree.{exec}
use Rattle.prog_parts.specs.declared.program.Program.{Program}
use Rattle.prog_parts.specs.Program.{program_of, file_words, program_uses_input}
use Rattle.prog_parts.specs.Words.{by_program, words_files, words_use_input}
use Rattle.tree_model.specs.FilesAhead.{Sizes, all_sizes}
use Rattle.tree_model.specs.Begin.{begun}
use Rattle.tree_model.specs.Bound.{begun_bytes, begun_steps, input_ahead, tree_bytes, tree_steps}
use Rattle.tree_model.specs.ProgramBytes.{begin_bytes}

module _ (word : Bytes) (arguments : List Bytes) (n : ℕ) (L : Sizes) where
  -- what it reads at most
  abbrev pub reads : ℕ
  reads = input_ahead (words_use_input (word ∷ arguments)) n + all_sizes (words_files (word ∷ arguments)) L

  module _ (program : Program) (named : program_of word ≡ Some program) where
    reads_own : input_ahead (program_uses_input program arguments) n + all_sizes (file_words program arguments) L ≡ reads
    reads_own = ap (λ o. input_ahead (by_program program_uses_input false o arguments) n + all_sizes (by_program file_words [] o arguments) L) (sym named)

    pub bytes_are : tree_bytes (exec (word ∷ arguments)) n L ≡ begin_bytes program arguments reads
    bytes_are = omega (arith, ap (λ o. begun_bytes (begun o arguments) n L) named, ap (begin_bytes program arguments) reads_own)

    pub steps_are : tree_steps (exec (word ∷ arguments)) n L ≡ 10 + 4 * length arguments + reads * (length arguments + 2) + begin_bytes program arguments reads
    steps_are = omega (arith, ap (λ o. begun_steps (begun o arguments) n L) named, ap (λ r. r * (length arguments + 2) + begin_bytes program arguments r) reads_own)
