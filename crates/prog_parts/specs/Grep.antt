-- What grep tests and writes (user/grep.c, whose buffer of 1,024 bytes holds at most 1,023).
use Rattle.std.specs.Prelude.{ℕ, nat_le, Bool, not, ◌&&◌, ◌==◌, List, [], ◌∷◌, ◌++◌, length, drop, filter, take_while, if◌then◌else◌}
use Rattle.std.specs.List.{list_any}
use Rattle.grep_match.specs.Match.{matches}
use Rattle.mem_files.specs.Name.{Bytes}

-- the first line goes on from this byte
abbrev pub longer : ℕ → List Bytes → List Bytes
longer byte [] = []
longer byte (line ∷ lines) = (byte ∷ line) ∷ lines

-- the lines that end in LF, each without it
abbrev pub ended_lines : Bytes → List Bytes
ended_lines [] = []
ended_lines (byte ∷ bytes) = if byte == 10 then [] ∷ ended_lines bytes else longer byte (ended_lines bytes)

-- a line that fits the buffer with its LF, and holds no byte 0
abbrev pub is_whole : Bytes → Bool
is_whole line = nat_le (length line) 1022 && not (list_any (λ byte. byte == 0) line)

-- the lines before the first that is not so
abbrev pub tested : Bytes → List Bytes
tested bytes = take_while is_whole (ended_lines bytes)

-- lines, each with its LF
abbrev pub with_ends : List Bytes → Bytes
with_ends [] = []
with_ends (line ∷ lines) = line ++ 10 ∷ with_ends lines

-- the tested lines that match
abbrev pub grep_out : Bytes → Bytes → Bytes
grep_out pattern bytes = with_ends (filter (matches pattern) (tested bytes))

-- what follows the tested lines
abbrev pub untested : Bytes → Bytes
untested bytes = drop (length (with_ends (tested bytes))) bytes

-- of it, one buffer is read
abbrev pub grep_left : Bytes → Bytes
grep_left bytes = drop 1023 (untested bytes)
