use Rattle.std.proofs.Common.{◌≡◌, ◌+◌, ◌++◌, length, take, drop}
use Rattle.grep_match.specs.Pattern.{items_of}
use Rattle.grep_match.specs.Literal.{is_literal, ones}
use Rattle.grep_match.proofs.literal.literal_len.Given as goal

-- the bytes passed are literal, and the items are those of the bytes passed and of the rest
abbrev pub invariant-loop-byte : goal.invariant-loop-byte
invariant-loop-byte l = record {
  passed : l.count + length l.left ≡ length l.items;
  rest : l.left ≡ drop l.count l.items;
  split : items_of l.items ≡ ones (take l.count l.items) ++ items_of l.left;
  literal : is_literal (take l.count l.items);
}

abbrev pub decreases-loop-byte : goal.decreases-loop-byte
decreases-loop-byte l = length l.left
