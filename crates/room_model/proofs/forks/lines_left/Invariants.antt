use Rattle.std.proofs.Common.{take}
use Rattle.std.specs.Prelude.{map}
use Rattle.script_load.specs.Line.{line_of}
use Rattle.meaning_model.specs.Meaning.{script_tree}
use Rattle.room_model.specs.declared.forks.TheConstants.{MOST_FORKS}
use Rattle.room_model.specs.Forks.{most_forks}
use Rattle.room_model.specs.Left.{IsLeft}
use Rattle.room_model.proofs.forks.lines_left.Given as goal

abbrev pub invariant-loop-line : goal.invariant-loop-line
invariant-loop-line g l = IsLeft MOST_FORKS (most_forks (script_tree (take l.line-index (map line_of l.lines)))) l.so_far
