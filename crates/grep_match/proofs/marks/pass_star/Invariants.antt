use Rattle.std.proofs.Common.{◌≡◌, ◌++◌, take, drop, false}
use Rattle.grep_match.specs.Places.{behind_bytes}
use Rattle.grep_match.proofs.marks.pass_star.Given as goal

-- what is done, and then what passing the rest gives, is what passing all gives
abbrev pub invariant-loop-place : goal.invariant-loop-place
invariant-loop-place l =
    take l.place l.marks ++ behind_bytes l.byte l.carried (drop l.place l.marks) (drop l.place l.text) ≡ behind_bytes l.byte false l.fn.marks l.text
