-- Reading two arrays into which a slot was linked.
use Rattle.std.proofs.Common.{◌≡◌, ◌≢◌, ℕ, ◌<◌, List, length, get_or, ◌∙◌, arith, get_or-set_other, get_or-set_same}
use Rattle.std.proofs.Math.ListN.{set, length-set}

-- entry k is the slot, and the slot's is v
abbrev pub linked_in : List ℕ → ℕ → ℕ → ℕ → List ℕ
linked_in a k slot v = set (set a k slot) slot v

pub length-linked_in : (a : List ℕ) (k slot v : ℕ) → length (linked_in a k slot v) ≡ length a
length-linked_in a k slot v = length-set (set a k slot) slot v ∙ length-set a k slot

pub at_slot : (a : List ℕ) (k slot v : ℕ) → slot < length a → get_or (linked_in a k slot v) slot 0 ≡ v
at_slot a k slot v lt = get_or-set_same (set a k slot) slot v 0 (omega (arith, length-set a k slot))

pub at_entry : (a : List ℕ) (k slot v : ℕ) → k < length a → k ≢ slot → get_or (linked_in a k slot v) k 0 ≡ slot
at_entry a k slot v lt ne = get_or-set_other (set a k slot) slot k v 0 ne ∙ get_or-set_same a k slot 0 lt

pub at_others : (a : List ℕ) (k slot v i : ℕ) → i ≢ k → i ≢ slot → get_or (linked_in a k slot v) i 0 ≡ get_or a i 0
at_others a k slot v i ne apart = get_or-set_other (set a k slot) slot i v 0 apart ∙ get_or-set_other a k i slot 0 ne
