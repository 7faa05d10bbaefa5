-- Lists of slots that are linked by an array: entry i is the node after i. Nodes below 64 are slots, the others the ends of lists.
use Rattle.std.specs.Prelude.{◌≡◌, ℕ, zero, suc, ◌+◌, ◌<◌, ◌==◌, Bool, List, [], ◌∷◌, length, nat_lt, slice_index, slice_index_or, if◌then◌else◌}
use Rattle.std.specs.List.{list_any}

-- the slots that a walk from node i passes before it reaches an end, at most n
unfoldable pub walk : ℕ → List ℕ → ℕ → List ℕ
walk zero next i = []
walk (suc n) next i = if nat_lt i 64 then i ∷ walk n next (slice_index next i) else []

-- where it then is
unfoldable pub end_of : ℕ → List ℕ → ℕ → ℕ
end_of zero next i = i
end_of (suc n) next i = if nat_lt i 64 then end_of n next (slice_index next i) else i

-- a walk from node i passes exactly these slots and then reaches e
abbrev pub Path : List ℕ → ℕ → List ℕ → ℕ → Type 0
Path next i [] e = i ≡ e
Path next i (x ∷ xs) e = (i ≡ x) × (x < 64) × Path next (slice_index next x) xs e

-- the slots of list h, first the one that was pushed first
unfoldable pub list_of : List ℕ → ℕ → List ℕ
list_of next h = walk 64 next (slice_index next (64 + h))

-- the lists from number h on, n of them
unfoldable pub lists_from : ℕ → ℕ → List ℕ → List (List ℕ)
lists_from zero h next = []
lists_from (suc n) h next = list_of next h ∷ lists_from n (h + 1) next

-- all lists
unfoldable pub all_lists : List ℕ → List (List ℕ)
all_lists next = lists_from 72 0 next

-- the slots of the list of this number
abbrev pub slots_of : List (List ℕ) → ℕ → List ℕ
slots_of all list = slice_index_or all list []

-- the slot is one of these
abbrev pub has : List ℕ → ℕ → Bool
has xs slot = list_any (λ x. slot == x) xs

-- the others than the slot
abbrev pub without : ℕ → List ℕ → List ℕ
without slot [] = []
without slot (x ∷ xs) = if x == slot then without slot xs else x ∷ without slot xs

-- a node that is an end, or a slot that stands in a list
abbrev pub Linked : List ℕ → ℕ → Type 0
Linked owner i = (i < 136) × (i < 64 → slice_index owner i < 72)

-- what holds of the links: each linked node has one after it and one before it, each walk from an end comes back to it,
-- and a slot's owner is the list that it stands in, or none
pub record AreLists (next prev owner : List ℕ) : Type 0 where
  pub nexts : length next ≡ 136
  pub prevs : length prev ≡ 136
  pub owners : length owner ≡ 64
  pub next_linked : (i : ℕ) → Linked owner i → Linked owner (slice_index next i)
  pub prev_linked : (i : ℕ) → Linked owner i → Linked owner (slice_index prev i)
  pub prev_next : (i : ℕ) → Linked owner i → slice_index prev (slice_index next i) ≡ i
  pub next_prev : (i : ℕ) → Linked owner i → slice_index next (slice_index prev i) ≡ i
  pub ends : (h : ℕ) → h < 72 → end_of 64 next (slice_index next (64 + h)) ≡ 64 + h
  pub owned : (h slot : ℕ) → h < 72 → slot < 64 → has (list_of next h) slot ≡ (slice_index owner slot == h)
