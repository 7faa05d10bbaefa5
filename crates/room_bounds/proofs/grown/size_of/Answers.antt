use Rattle.std.proofs.Common.{subst}
use Rattle.std.specs.Prelude.{map}
use Rattle.mem_files.specs.Files.{files}
use Rattle.script_load.specs.Line.{line_of}
use Rattle.tree_model.specs.FilesAhead.{sizes}
use Rattle.room_model.specs.Place.{counted_if}
use Rattle.room_bounds.specs.Growth.{is_written}
use Rattle.room_bounds.specs.CappedGrowth.{IsCapped}
use Rattle.room_bounds.proofs.grown.size_of.Goals as goal

pub returns : goal.returns
returns g c =
    let grown = c.args.grown.now in
    let name = c.args.name.now in
    c.sum.ensures (sizes (files grown.files.now) name) (counted_if (is_written (map line_of grown.lines.now) name) grown.more) (subst (λ n. IsCapped n c.capped.result) c.size_now.ensures c.capped.ensures) (subst (λ n. IsCapped n c.capped-2.result) c.more_of.ensures c.capped-2.ensures)
