use Rattle.std.proofs.Common.{◌≡◌, ◌≤◌, ◌+◌, length}
use Rattle.prog_parts.specs.Wc.{line_ends, words_after, ends_inside}
use Rattle.prog_parts.proofs.counts.count.Given as goal

-- the counts of the bytes that are left complete those so far, which are no more than the bytes passed
abbrev pub invariant-loop-left : goal.invariant-loop-left
invariant-loop-left l = record {
  lines : l.counted.lines + line_ends l.left ≡ line_ends l.bytes;
  words : l.counted.words + words_after l.counted.is_inside l.left ≡ words_after l.is_inside l.bytes;
  inside : ends_inside l.counted.is_inside l.left ≡ ends_inside l.is_inside l.bytes;
  few_lines : l.counted.lines + length l.left ≤ length l.bytes;
  few_words : l.counted.words + length l.left ≤ length l.bytes;
}

abbrev pub decreases-loop-left : goal.decreases-loop-left
decreases-loop-left l = length l.left
