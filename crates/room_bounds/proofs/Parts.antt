-- What a command writes, by what its parts do.
use Rattle.std.proofs.Common.{◌≡◌, ℕ, ◌+◌, List, [], ◌∷◌, ◌++◌, Some, refl, ap, arith}
use Rattle.mem_files.specs.Name.{Bytes}
use Rattle.sh_tree.specs.Tree.{exec}
use Rattle.prog_parts.specs.declared.program.Program.{Program}
use Rattle.prog_parts.specs.Program.{program_of, program_uses_input}
use Rattle.prog_parts.specs.Words.{files_read, words_files_read, words_use_input, by_program}
use Rattle.prog_parts.specs.NameSets.{Names}
use Rattle.std.specs.Prelude.{Bool, true, false}
use Rattle.script_load.specs.Line.{ScriptLine}
use Rattle.meaning_model.specs.Meaning.{line_tree, script_tree}
use Rattle.tree_model.specs.FilesAhead.{Sizes, all_sizes}
use Rattle.tree_model.specs.Bound.{input_ahead}
use Rattle.tree_model.specs.ProgramBytes.{begin_bytes}
use Rattle.room_model.specs.Place.{program_bytes, words_bytes, to_place}

-- a simple command with a program
module _ (word : Bytes) (arguments : List Bytes) (n : ℕ) (L : Sizes) where
  abbrev pub reads : ℕ
  reads = input_ahead (words_use_input (word ∷ arguments)) n + all_sizes (words_files_read (word ∷ arguments)) L

  pub bytes_are : (program : Program) → program_of word ≡ Some program → begin_bytes program arguments reads ≡ words_bytes (word ∷ arguments) n L
  bytes_are program named =
      let own : reads ≡ input_ahead (program_uses_input program arguments) n + all_sizes (files_read program arguments) L =
      ap (λ o. input_ahead (by_program program_uses_input false o arguments) n + all_sizes (by_program files_read [] o arguments) L) named in
      omega (arith, ap (begin_bytes program arguments) own, ap (λ o. program_bytes o arguments n L) named)

-- one line more
pub with_line : (line : ScriptLine) (named : Names) (out : Bool) (n : ℕ) (L : Sizes) (lines : List ScriptLine) → to_place named out (script_tree lines) n L + to_place named out (line_tree line) n L ≡ to_place named out (script_tree (lines ++ line ∷ [])) n L
with_line line named out n L [] = omega (arith, nothing named out n L)
  where
    nothing : (named : Names) (out : Bool) (n : ℕ) (L : Sizes) → to_place named out (exec []) n L ≡ 0
    nothing named true n L = refl
    nothing named false n L = refl
with_line line named out n L (l ∷ lines) = omega (arith, with_line line named out n L lines)
