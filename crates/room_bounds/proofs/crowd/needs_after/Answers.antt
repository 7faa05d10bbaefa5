use Rattle.script_load.specs.Line.{line_of}
use Rattle.meaning_model.specs.Meaning.{line_tree, script_tree}
use Rattle.room_bounds.proofs.Beginnings.{needs_with}
use Rattle.room_bounds.proofs.crowd.needs_after.Goals as goal

pub returns : goal.returns
returns g c lines before =
    let line = line_of c.args.line.now in
    needs_with line lines c.of_list.result (c.of_list.ensures (line_tree line) (script_tree lines) c.line_needs.ensures before)
