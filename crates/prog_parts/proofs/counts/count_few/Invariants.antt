use Rattle.std.proofs.Common.{◌≡◌, ◌≤◌, ◌+◌, drop}
use Rattle.prog_parts.specs.Wc.{line_ends, words_after, ends_inside}
use Rattle.prog_parts.proofs.counts.count_few.Given as goal

-- the counts of the bytes that are left complete those so far, which are no more than the bytes passed
abbrev pub invariant-loop-byte : goal.invariant-loop-byte
invariant-loop-byte l =
    (l.lines + line_ends (drop l.byte-index l.bytes) ≡ line_ends l.bytes)
    × (l.words + words_after l.inside (drop l.byte-index l.bytes) ≡ words_after l.is_inside l.bytes)
    × (ends_inside l.inside (drop l.byte-index l.bytes) ≡ ends_inside l.is_inside l.bytes)
    × (l.lines ≤ l.byte-index)
    × (l.words ≤ l.byte-index)
