use Rattle.std.proofs.Common.{sym, subst}
use Rattle.std.specs.Prelude.{map}
use Rattle.mem_files.specs.Files.{files}
use Rattle.script_load.specs.Line.{line_of}
use Rattle.tree_model.specs.FilesAhead.{all_sizes}
use Rattle.room_bounds.specs.CappedGrowth.{IsCapped}
use Rattle.room_bounds.specs.Growth.{grown_where}
use Rattle.room_bounds.proofs.grown.+sizes_of.Goals as goal

pub returns : goal.returns
returns g t c =
    let grown = c.args.grown.now in
    let L = grown_where (map line_of grown.lines.now) (files grown.files.now) grown.more in
    let first = subst (λ name. IsCapped (L name) c.size_of.result) c.as_slice.ensures c.size_of.ensures in
    subst (λ names. IsCapped (all_sizes names L) c.sum.result) (sym c.in-Some.ensures.cases.0) (c.sum.ensures (L c.in-Some.name.now) (all_sizes c.in-Some.later.now L) first c.sizes_of.ensures)
