use Rattle.std.proofs.Common.{◌≡◌, ◌++◌, take}
use Rattle.shown.specs.Shown.{shown_name}
use Rattle.shown.proofs.bytes.add_name.Given as goal

-- the bytes so far stand behind what was there
abbrev pub invariant-loop-byte : goal.invariant-loop-byte
invariant-loop-byte l = l.text.items ≡ l.fn.text.items ++ shown_name (take l.byte-index l.name)
