use Rattle.std.proofs.Common.{◌+◌, sym, ap, ◌∙◌, subst}
use Rattle.std.specs.List.{slice_get}
use Rattle.mem_files.specs.Files.{files}
use Rattle.tree_model.specs.FilesAhead.{sizes}
use Rattle.room_bounds.specs.Given.{IsLargestTo}
use Rattle.room_bounds.proofs.Largest.{named, not_named, one_more, none_more}
use Rattle.room_bounds.proofs.given.larger_with.Goals as goal

pub returns-in-Some : goal.returns-in-Some
returns-in-Some g c so_far =
    let list = c.args.given.now in
    let n = named (slice_get list c.args.i) c.in-Some.name.now c.in-Some.ensures in
    subst (IsLargestTo list (c.args.i + 1)) (sym c.max.ensures) (one_more list c.args.i c.args.most so_far n.0 c.size_of.result n.1 (c.size_of.ensures ∙ ap (sizes (files list)) (sym n.2)))

pub returns-in-None : goal.returns-in-None
returns-in-None g c so_far =
    none_more c.args.given.now c.args.i c.args.most so_far (not_named (slice_get c.args.given.now c.args.i) c.in-None.ensures)
