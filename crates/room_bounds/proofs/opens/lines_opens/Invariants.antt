use Rattle.std.proofs.Common.{take}
use Rattle.std.specs.Prelude.{map}
use Rattle.script_load.specs.Line.{line_of}
use Rattle.meaning_model.specs.Meaning.{script_tree}
use Rattle.room_model.specs.Opens.{most_opens}
use Rattle.room_bounds.specs.Capped.{IsCapped}
use Rattle.room_bounds.proofs.opens.lines_opens.Given as goal

abbrev pub invariant-loop-line : goal.invariant-loop-line
invariant-loop-line g l = IsCapped (most_opens (script_tree (take l.line-index (map line_of l.lines)))) l.so_far
