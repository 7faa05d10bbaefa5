use Rattle.std.proofs.Common.{ℕ, take, false}
use Rattle.std.specs.Prelude.{map}
use Rattle.mem_files.specs.Files.{files}
use Rattle.script_load.specs.Line.{line_of}
use Rattle.meaning_model.specs.Meaning.{script_tree}
use Rattle.room_model.specs.Place.{to_place}
use Rattle.room_bounds.specs.CappedGrowth.{IsCapped}
use Rattle.room_bounds.specs.Growth.{every_name, grown_where}
use Rattle.room_bounds.proofs.growth.lines_to_files.Given as goal

abbrev pub invariant-loop-line : goal.invariant-loop-line
invariant-loop-line g l =
    let lines = map line_of l.grown.lines.now in
    (n : ℕ) → IsCapped n l.input → IsCapped (to_place every_name false (script_tree (take l.line-index lines)) n (grown_where lines (files l.grown.files.now) l.grown.more)) l.so_far
