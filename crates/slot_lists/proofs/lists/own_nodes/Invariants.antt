-- So many nodes are their own.
use Rattle.std.proofs.Common.{◌≡◌, ℕ, ◌<◌, length, get_or}
use Rattle.slot_lists.proofs.lists.own_nodes.Given as goal

abbrev pub invariant-loop-i : goal.invariant-loop-i
invariant-loop-i l = record {
  all : length l.nodes ≡ 136;
  own : (k : ℕ) → k < l.i → get_or l.nodes k 0 ≡ k;
}
