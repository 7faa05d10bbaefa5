use Rattle.std.proofs.Common.{◌≡◌, true, take}
use Rattle.std.specs.Prelude.{map}
use Rattle.script_load.specs.Limits.{are_small}
use Rattle.script_load.specs.Line.{line_of}
use Rattle.script_load.proofs.script.first_large.Given as goal

abbrev pub invariant-loop-i : goal.invariant-loop-i
invariant-loop-i g l = are_small (take l.i (map line_of l.lines)) ≡ true
