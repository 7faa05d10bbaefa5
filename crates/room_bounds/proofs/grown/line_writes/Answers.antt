use Rattle.std.proofs.Common.{◌∙◌, sym, ap}
use Rattle.script_load.specs.Line.{line_of}
use Rattle.meaning_model.specs.Meaning.{line_tree}
use Rattle.prog_parts.specs.NameSets.{among}
use Rattle.room_model.specs.Files.{names_written}
use Rattle.sh_tree.specs.Tree.{tree_of}
use Rattle.room_bounds.proofs.Names.{writes_are}
use Rattle.room_bounds.proofs.grown.line_writes.Goals as goal

pub returns-in-Tree : goal.returns-in-Tree
returns-in-Tree g c = c.writes_it.ensures ∙ writes_are (tree_of c.in-Tree.tree) c.args.name.now ∙ ap (λ l. among (names_written (line_tree (line_of l))) c.args.name.now) (sym c.in-Tree.is)
