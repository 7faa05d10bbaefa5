use Rattle.std.proofs.Common.{◌≡◌, ◌++◌, take}
use Rattle.shown.specs.Shown.{shown}
use Rattle.shown.proofs.bytes.add_shown.Given as goal

-- the bytes so far stand behind what was there
abbrev pub invariant-loop-byte : goal.invariant-loop-byte
invariant-loop-byte l = l.text.items ≡ l.fn.text.items ++ shown (take l.byte-index l.bytes)
