-- What a command writes at most to files, to its output and to both, as far as it is reported.
use Rattle.std.specs.Prelude.{ℕ, true, false}
use Rattle.sh_tree.specs.Tree.{Tree}
use Rattle.prog_parts.specs.NameSets.{no_names}
use Rattle.tree_model.specs.FilesAhead.{Sizes}
use Rattle.room_model.specs.Place.{to_place}
use Rattle.room_bounds.specs.CappedGrowth.{IsCapped}
use Rattle.room_bounds.specs.Growth.{every_name}
use Rattle.room_bounds.specs.declared.written.Written.{Written}

-- on n bytes of input, with files of these sizes
pub record AreWritten (tree : Tree) (n : ℕ) (L : Sizes) (written : Written) : Type 0 where
  pub to_files : IsCapped (to_place every_name false tree n L) written.to_files
  pub to_output : IsCapped (to_place no_names true tree n L) written.to_output
  pub to_both : IsCapped (to_place every_name true tree n L) written.to_both
