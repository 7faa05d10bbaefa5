-- Bytes written over others.
use Rattle.std.specs.Prelude.{ℕ, ◌+◌, nat_le, ◌++◌, length, take, drop, if◌then◌else◌}
use Rattle.mem_files.specs.Name.{Bytes}

-- the bytes w laid over the front of b
abbrev pub overlay : Bytes → Bytes → Bytes
overlay w b = w ++ drop (length w) b

-- b after a write of w that begins at `at`; a write that would leave a gap writes nothing
abbrev pub written : Bytes → ℕ → Bytes → Bytes
written b at w = if nat_le at (length b) then take at b ++ (w ++ drop (at + length w) b) else b
