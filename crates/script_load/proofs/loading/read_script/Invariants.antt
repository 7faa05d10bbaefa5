use Rattle.std.proofs.Common.{length}
use Rattle.std.specs.Prelude.{map}
use Rattle.script_load.specs.Line.{line_of}
use Rattle.script_load.proofs.Reading.{IsReadTo}
use Rattle.script_load.proofs.loading.read_script.Given as goal

-- the lines so far are the first of the script
abbrev pub invariant-loop-text : goal.invariant-loop-text
invariant-loop-text g l = IsReadTo l.bytes l.rest (map line_of l.lines.items)

abbrev pub decreases-loop-text : goal.decreases-loop-text
decreases-loop-text g l = length l.rest
