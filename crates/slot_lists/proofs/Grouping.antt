-- A slot that is taken out of the set of the key that it had, and put into that of another, has the other key.
use Rattle.std.proofs.Common.{◌≡◌, ◌⊎◌, inl, inr, ℕ, zero, suc, ◌<◌, ◌≤◌, List, [], ◌∷◌, Bool, true, false, Option, Some, None, length, get_or, refl, sym, ap, subst, ◌∙◌, arith, get_or-set_other, get_or-set_same, set-set}
use Rattle.std.proofs.Math.ListN.{set, length-set}
use Rattle.std.proofs.lemmas.Bool.{cases_eq, eq-eqb, ne_eqb}
use Rattle.std.proofs.lemmas.List.{get_or_default, length-map, map-set, set-get_or}
use Rattle.std.specs.Prelude.{◌==◌, map, if◌then◌else◌}
use Rattle.slot_lists.specs.Sets.{AreGrouped, HasFlags, IsMarked, is_key}

-- of a set that is read with another default
pub flags_there : (sets : List ℕ) (group d : ℕ) (flags : List Bool) → group < length sets → HasFlags (get_or sets group 0) flags → HasFlags (get_or sets group d) flags
flags_there sets group d flags lt has = subst (λ (n : ℕ). HasFlags n flags) (get_or_default sets group 0 d lt) has

-- the set of the key was changed
pub marked_here : (groups : ℕ) (old : List ℕ) (key slot now d : ℕ) (is_in : Bool) → length old ≡ groups → key < groups
    → ((flags : List Bool) → HasFlags (get_or old key d) flags → HasFlags now (set flags slot is_in)) → IsMarked groups (Some key) slot is_in old (set old key now)
unfolding IsMarked
marked_here groups old key slot now d is_in all lt done = λ group flags below has. by group flags below has (cases_eq group key) where
  by : (group : ℕ) (flags : List Bool) → group < groups → HasFlags (get_or old group 0) flags → (group ≡ key) ⊎ (group ≡ key → ⊥) → HasFlags (get_or (set old key now) group 0) (if group == key then set flags slot is_in else flags)
  by group flags below has (inl same) =
      let there : get_or (set old key now) group 0 ≡ now = ap (λ (k : ℕ). get_or (set old key now) k 0) same ∙ get_or-set_same old key now 0 (omega arith) in
      let flagged : (if group == key then set flags slot is_in else flags) ≡ set flags slot is_in = ap (λ (b : Bool). if b then set flags slot is_in else flags) (eq-eqb group key same) in
      subst (λ (n : ℕ). HasFlags n (if group == key then set flags slot is_in else flags)) (sym there)
      (subst (λ (fs : List Bool). HasFlags now fs) (sym flagged) (done flags (flags_there old key d flags (omega arith) (subst (λ (k : ℕ). HasFlags (get_or old k 0) flags) same has))))
  by group flags below has (inr apart) =
      let there : get_or (set old key now) group 0 ≡ get_or old group 0 = get_or-set_other old key group now 0 apart in
      let kept : (if group == key then set flags slot is_in else flags) ≡ flags = ap (λ (b : Bool). if b then set flags slot is_in else flags) (ne_eqb group key apart) in
      subst (λ (n : ℕ). HasFlags n (if group == key then set flags slot is_in else flags)) (sym there) (subst (λ (fs : List Bool). HasFlags (get_or old group 0) fs) (sym kept) has)

-- there is no set of such a key
pub marked_nowhere : (groups : ℕ) (old : List ℕ) (key slot : ℕ) (is_in : Bool) → groups ≤ key → IsMarked groups (Some key) slot is_in old old
unfolding IsMarked
marked_nowhere groups old key slot is_in far = λ group flags below has.
    subst (λ (fs : List Bool). HasFlags (get_or old group 0) fs) (sym (ap (λ (b : Bool). if b then set flags slot is_in else flags) (ne_eqb group key (λ same. omega arith)))) has

pub marked_none : (groups : ℕ) (old : List ℕ) (slot : ℕ) (is_in : Bool) → IsMarked groups None slot is_in old old
unfolding IsMarked
marked_none groups old slot is_in = λ group flags below has. has

-- the flag of a slot says whether it has the key
pub flag_there : (group : ℕ) (keys : List (Option ℕ)) (slot : ℕ) → get_or (map (is_key group) keys) slot false ≡ is_key group (get_or keys slot None)
flag_there group [] slot = refl
flag_there group (key ∷ keys) zero = refl
flag_there group (key ∷ keys) (suc slot) = flag_there group keys slot

-- the flags of a slot that left one set, or not, and came into it, or not
moved : (flags : List Bool) (slot : ℕ) (was is : Bool) → slot < length flags → get_or flags slot false ≡ was
    → (if is then set (if was then set flags slot false else flags) slot true else (if was then set flags slot false else flags)) ≡ set flags slot is
moved flags slot true true lt here = set-set flags slot false true
moved flags slot true false lt here = refl
moved flags slot false true lt here = refl
moved flags slot false false lt here = sym (ap (set flags slot) (sym here) ∙ set-get_or flags slot false)

pub put_grouped : (groups : ℕ) (keys : List (Option ℕ)) (old between new : List ℕ) (slot : ℕ) (from to : Option ℕ) → slot < 64
    → IsMarked groups from slot false old between → IsMarked groups to slot true between new
    → AreGrouped groups keys old → get_or keys slot None ≡ from → AreGrouped groups (set keys slot to) new
unfolding IsMarked
put_grouped groups keys old between new slot from to small out into grouped was = record {
  all = length-set keys slot to ∙ grouped.all;
  theirs = λ group lt.
      let flags : List Bool = map (is_key group) keys in
      let had : get_or (map (is_key group) keys) slot false ≡ is_key group from = flag_there group keys slot ∙ ap (is_key group) was in
      let is : _ ≡ map (is_key group) (set keys slot to) =
      moved (map (is_key group) keys) slot (is_key group from) (is_key group to) (omega (arith, length-map keys (is_key group), grouped.all)) had ∙ sym (map-set (is_key group) keys slot to) in
      subst (λ (fs : List Bool). HasFlags (get_or new group 0) fs) is (into group _ lt (out group (map (is_key group) keys) lt (grouped.theirs group lt)));
}
