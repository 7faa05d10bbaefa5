use Rattle.std.proofs.Common.{◌≡◌, length}
use Rattle.script_notes.specs.Habits.{behind}
use Rattle.script_notes.proofs.habits.behind.Given as goal

-- what is left is what stands behind the byte, or has it
abbrev pub invariant-loop-first : goal.invariant-loop-first
invariant-loop-first l = behind l.byte l.rest ≡ behind l.byte l.bytes

abbrev pub decreases-loop-first : goal.decreases-loop-first
decreases-loop-first l = length l.rest
