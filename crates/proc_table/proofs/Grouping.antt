-- The slots are grouped by what their heads are: a head that is put into a slot goes with it, and a test of heads is a key.
use Rattle.std.proofs.Common.{◌≡◌, ◌⊎◌, inl, inr, ℕ, zero, suc, ◌+◌, ◌<◌, ◌≤◌, List, [], ◌∷◌, Bool, false, Option, Some, None, length, get_or, refl, sym, ap, subst, ◌∙◌, arith}
use Rattle.std.proofs.Math.ListN.{set}
use Rattle.std.proofs.lemmas.Bool.{cases_lt, le-ltb, ne_eqb}
use Rattle.std.proofs.lemmas.List.{get_or_default, get_or_past, length-map, map-set}
use Rattle.std.specs.Prelude.{All, ◌==◌, ◌&&◌, cond, map, count_by, not, position}
use Rattle.std.specs.List.{position_or_len}
use Rattle.slot_lists.specs.Sets.{AreGrouped, both_of, is_key}
use Rattle.slot_lists.proofs.Found.{counted_by, found_by}
use Rattle.proc_table.specs.declared.heads.Head.{Head}
use Rattle.proc_table.specs.declared.states.Status.{Status}
use Rattle.proc_table.specs.declared.states.Status.TheVariants.{Runnable, Running, Asleep, Zombie}
use Rattle.proc_table.specs.Slots.{is_number, is_running_on_status, is_zombie_status}
use Rattle.proc_table.specs.Heads.{IsOnHart, hart_by, hart_key, head_at, head_has, head_is_child_of, head_is_free, head_is_zombie_child_of, parent_key, state_key, state_number}
use Rattle.proc_table.proofs.Kept.{none_passes}

key_there : (key : Option Head → Option ℕ) (heads : List (Option Head)) (slot : ℕ) → slot < length heads → get_or (map key heads) slot None ≡ key (head_at heads slot)
key_there key [] slot lt = absurd (omega arith)
key_there key (head ∷ heads) zero lt = refl
key_there key (head ∷ heads) (suc slot) lt = key_there key heads slot (omega arith)

-- a slot gets another head, and is put into the group of that one's key
pub put_group : (groups : ℕ) (key : Option Head → Option ℕ) (heads : List (Option Head)) (old new : List ℕ) (slot : ℕ) (was head : Option Head) (from to : Option ℕ)
    → ((keys : List (Option ℕ)) → AreGrouped groups keys old → get_or keys slot None ≡ from → AreGrouped groups (set keys slot to) new)
    → AreGrouped groups (map key heads) old → slot < 64 → was ≡ head_at heads slot → from ≡ key was → to ≡ key head → AreGrouped groups (map key (set heads slot head)) new
put_group groups key heads old new slot was head from to done grouped lt was_is from_is to_is =
    let long : slot < length heads = omega (arith, grouped.all, length-map heads key) in
    subst (λ (keys : List (Option ℕ)). AreGrouped groups keys new)
    (ap (set (map key heads) slot) to_is ∙ sym (map-set key heads slot head))
    (done (map key heads) grouped (key_there key heads slot long ∙ sym (ap key was_is) ∙ sym from_is))

-- ---- a test of heads is a key

free_key : (head : Option Head) → is_key 0 (state_key head) ≡ head_is_free head
free_key None = refl
free_key (Some head) = by head.status where
  by : (status : Status) → (0 == state_number status) ≡ false
  by Runnable = refl
  by (Running h) = refl
  by (Asleep c) = refl
  by Zombie = refl

zombie_key : (head : Option Head) → is_key 4 (state_key head) ≡ head_has is_zombie_status head
zombie_key None = refl
zombie_key (Some head) = by head.status where
  by : (status : Status) → (4 == state_number status) ≡ is_zombie_status status
  by Runnable = refl
  by (Running h) = refl
  by (Asleep c) = refl
  by Zombie = refl

running_on_key : (hart : ℕ) (head : Option Head) → is_key hart (hart_key head) ≡ head_has (is_running_on_status hart) head
running_on_key hart None = refl
running_on_key hart (Some head) = by head.status where
  by : (status : Status) → is_key hart (hart_by status) ≡ is_running_on_status hart status
  by Runnable = refl
  by (Running h) = refl
  by (Asleep c) = refl
  by Zombie = refl

child_key : (pid : ℕ) (head : Option Head) → is_key pid (parent_key head) ≡ head_is_child_of pid head
child_key pid None = refl
child_key pid (Some head) = by head.parent where
  by : (parent : Option ℕ) → is_key pid parent ≡ is_number pid parent
  by None = refl
  by (Some p) = refl

pub first_free : (heads : List (Option Head)) → position (is_key 0) (map state_key heads) ≡ position head_is_free heads
first_free heads = found_by state_key (is_key 0) head_is_free free_key heads

pub first_child : (pid : ℕ) (heads : List (Option Head)) → position (is_key pid) (map parent_key heads) ≡ position (head_is_child_of pid) heads
first_child pid heads = found_by parent_key (is_key pid) (head_is_child_of pid) (child_key pid) heads

pub first_on : (hart : ℕ) (heads : List (Option Head)) → position (is_key hart) (map hart_key heads) ≡ position (head_has (is_running_on_status hart)) heads
first_on hart heads = found_by hart_key (is_key hart) (head_has (is_running_on_status hart)) (running_on_key hart) heads

pub count_free : (heads : List (Option Head)) → count_by (is_key 0) (map state_key heads) ≡ count_by head_is_free heads
count_free heads = counted_by state_key (is_key 0) head_is_free free_key heads

-- what has both keys
both : (pid : ℕ) (heads : List (Option Head)) → both_of (map (is_key pid) (map parent_key heads)) (map (is_key 4) (map state_key heads)) ≡ map (head_is_zombie_child_of pid) heads
both pid [] = refl
both pid (head ∷ heads) = λ i. (child_key pid head i && zombie_key head i) ∷ both pid heads i

pub first_zombie_child : (pid : ℕ) (heads : List (Option Head)) → position (λ flag. flag) (both_of (map (is_key pid) (map parent_key heads)) (map (is_key 4) (map state_key heads))) ≡ position (head_is_zombie_child_of pid) heads
first_zombie_child pid heads = ap (position (λ flag. flag)) (both pid heads) ∙ found_by (head_is_zombie_child_of pid) (λ flag. flag) (head_is_zombie_child_of pid) (λ head. refl) heads

-- ---- nothing passes a test

far : (p : Option Head → Bool) (heads : List (Option Head)) → ((slot : ℕ) → p (head_at heads slot) ≡ false) → position_or_len p heads ≡ length heads
far p [] none = refl
far p (head ∷ heads) none =
    ap (λ (b : Bool). cond (not b) (1 + position_or_len p heads) 0) (none 0) ∙ ap (λ (n : ℕ). 1 + n) (far p heads (λ slot. none (suc slot))) ∙ one_more (length heads) where
      one_more : (n : ℕ) → 1 + n ≡ suc n
      one_more n = omega arith

pub none_found : (p : Option Head → Bool) (heads : List (Option Head)) → ((slot : ℕ) → p (head_at heads slot) ≡ false) → position p heads ≡ None
none_found p heads none =
    let at_end = far p heads none in
    ap (λ (b : Bool). cond b (Some (position_or_len p heads)) None) (le-ltb (position_or_len p heads) (length heads) (omega arith))

pub none_there : (p : Option Head → Bool) → p None ≡ false → (heads : List (Option Head)) → position p heads ≡ None → All (λ head. p head ≡ false) heads
none_there p off heads none = λ k d lt.
    ap p (get_or_default heads k d None lt) ∙ none_passes p heads None off none k

pub none_of_all : (p : Option Head → Bool) → p None ≡ false → (heads : List (Option Head)) → All (λ head. p head ≡ false) heads → position p heads ≡ None
none_of_all p off heads all = none_found p heads (λ slot. by slot (cases_lt slot (length heads))) where
  by : (slot : ℕ) → (slot < length heads) ⊎ (length heads ≤ slot) → p (head_at heads slot) ≡ false
  by slot (inl lt) = all slot None lt
  by slot (inr past) = ap p (get_or_past heads slot None past) ∙ off

-- a hart that there isn't
pub not_on : (hart : ℕ) (head : Option Head) → IsOnHart head → 8 ≤ hart → head_has (is_running_on_status hart) head ≡ false
not_on hart None on no_hart = refl
not_on hart (Some head) on no_hart = by head.status on where
  by : (status : Status) → ((h : ℕ) → hart_by status ≡ Some h → h < 8) → is_running_on_status hart status ≡ false
  by Runnable on = refl
  by (Running h) on = ne_eqb hart h (λ same. omega (arith, on h refl, same))
  by (Asleep c) on = refl
  by Zombie on = refl
