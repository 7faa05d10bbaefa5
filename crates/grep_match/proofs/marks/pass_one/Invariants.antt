use Rattle.std.proofs.Common.{◌≡◌, ◌++◌, take, drop}
use Rattle.grep_match.specs.Places.{before_byte}
use Rattle.grep_match.proofs.marks.pass_one.Given as goal

-- what is done, and then what passing the rest gives, is what passing all gives
abbrev pub invariant-loop-place : goal.invariant-loop-place
invariant-loop-place l =
    take l.place l.marks ++ before_byte l.byte (drop l.place l.marks) (drop l.place l.text) ≡ before_byte l.byte l.fn.marks l.text
