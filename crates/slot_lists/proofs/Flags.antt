-- A number whose bits are a list of flags: what a bit more or less, the bits of two, the lowest and the count are.
use Rattle.std.proofs.Common.{◌≡◌, ◌≢◌, ◌⊎◌, inl, inr, ℕ, zero, suc, ◌+◌, ◌-◌, ◌^◌, ◌<◌, ◌≤◌, List, [], ◌∷◌, Bool, true, false, cond, Some, None, length, get_or, refl, sym, ap, subst, ◌∙◌, arith, w64, bit_and, bit_or, min, max, ◌%◌, get_or-set_other, get_or-set_same}
use Rattle.std.proofs.Math.ListN.{set}
use Rattle.std.proofs.lemmas.Bool.{cases_eq, cases_lt, lt-ltb, le-ltb}
use Rattle.std.proofs.lemmas.Nat.Bits.{bit_at_and, bit_at_or, bit_at_xor, bit_at-pow_same, bit_at-pow_other, bit_at_ones, bit_at_above, bit_at-lt, bit_at-trailing_zeros, same_from_bits}
use Rattle.std.proofs.lemmas.Simd.{bit_mask_l, leading_from_mask_l, mask_l-lt, ones-mask_l, trailing_mask_l}
use Rattle.std.proofs.lemmas.List.{map-id}
use Rattle.std.specs.Int.{bit_at}
use Rattle.std.specs.Int.Count.{count_trailing_zeros}
use Rattle.std.specs.Int.Bits.{bit_xor}
use Rattle.std.specs.List.{position_or_len}
use Rattle.std.specs.Prelude.{map, count_by, count_ones, position, ◌&&◌}
use Rattle.std.specs.Simd.Lanes.{mask_l}
use Rattle.slot_lists.specs.Sets.{both_of}

abbrev bit : Bool → ℕ
bit b = cond b 1 0

set_here : (flags : List Bool) (slot i : ℕ) (b : Bool) → slot < length flags → i ≡ slot → bit_at (mask_l (set flags slot b)) i ≡ bit b
set_here flags slot i b lt same =
    bit_mask_l (set flags slot b) i ∙ ap (λ (k : ℕ). bit (get_or (set flags slot b) k false)) same ∙ ap (λ (x : Bool). bit x) (get_or-set_same flags slot b false lt)

set_there : (flags : List Bool) (slot i : ℕ) (b : Bool) → i ≢ slot → bit_at (mask_l (set flags slot b)) i ≡ bit_at (mask_l flags) i
set_there flags slot i b ne = bit_mask_l (set flags slot b) i ∙ ap (λ (x : Bool). bit x) (get_or-set_other flags slot i b false ne) ∙ sym (bit_mask_l flags i)

or_one : (a b : ℕ) → a < 2 → b ≡ 1 → max a b ≡ 1
or_one a b lt one = omega arith

or_zero : (a b : ℕ) → b ≡ 0 → max a b ≡ a
or_zero a b zero_is = omega arith

-- with the bits of all ones and of one bit
and_kept : (a ones one : ℕ) → a < 2 → ones ≡ 1 → one ≡ 0 → min a ((ones + one) % 2) ≡ a
and_kept a ones one lt top off = omega arith

and_lost : (a ones one : ℕ) → ones ≡ 1 → one ≡ 1 → min a ((ones + one) % 2) ≡ 0
and_lost a ones one top on = omega arith

and_none : (a b : ℕ) → a ≡ 0 → min a b ≡ a
and_none a b zero_is = omega arith

at_same : (slot i : ℕ) → i ≡ slot → bit_at (2 ^ slot) i ≡ 1
at_same slot i same = ap (bit_at (2 ^ slot)) same ∙ bit_at-pow_same slot

pub with_true : (flags : List Bool) (slot : ℕ) → slot < length flags → bit_or (mask_l flags) (2 ^ slot) ≡ mask_l (set flags slot true)
with_true flags slot lt = same_from_bits (bit_or (mask_l flags) (2 ^ slot)) (mask_l (set flags slot true)) (λ i. by i (cases_eq i slot)) where
  by : (i : ℕ) → (i ≡ slot) ⊎ (i ≡ slot → ⊥) → bit_at (bit_or (mask_l flags) (2 ^ slot)) i ≡ bit_at (mask_l (set flags slot true)) i
  by i (inl same) =
      bit_at_or (mask_l flags) (2 ^ slot) i ∙ or_one (bit_at (mask_l flags) i) (bit_at (2 ^ slot) i) (bit_at-lt (mask_l flags) i) (at_same slot i same)
      ∙ sym (set_here flags slot i true lt same)
  by i (inr ne) =
      bit_at_or (mask_l flags) (2 ^ slot) i ∙ or_zero (bit_at (mask_l flags) i) (bit_at (2 ^ slot) i) (bit_at-pow_other slot i ne) ∙ sym (set_there flags slot i true ne)

pub with_false : (flags : List Bool) (slot : ℕ) → length flags ≡ 64 → slot < length flags → bit_and (mask_l flags) (bit_xor (2 ^ 64 - 1) (2 ^ slot)) ≡ mask_l (set flags slot false)
with_false flags slot all lt = same_from_bits (bit_and (mask_l flags) (bit_xor (2 ^ 64 - 1) (2 ^ slot))) (mask_l (set flags slot false)) (λ i. by i (cases_eq i slot) (cases_lt i 64)) where
  split : (i : ℕ) → bit_at (bit_and (mask_l flags) (bit_xor (2 ^ 64 - 1) (2 ^ slot))) i ≡ min (bit_at (mask_l flags) i) ((bit_at (2 ^ 64 - 1) i + bit_at (2 ^ slot) i) % 2)
  split i = bit_at_and (mask_l flags) (bit_xor (2 ^ 64 - 1) (2 ^ slot)) i ∙ ap (λ (n : ℕ). min (bit_at (mask_l flags) i) n) (bit_at_xor (2 ^ 64 - 1) (2 ^ slot) i)

  by : (i : ℕ) → (i ≡ slot) ⊎ (i ≡ slot → ⊥) → (i < 64) ⊎ (64 ≤ i) → bit_at (bit_and (mask_l flags) (bit_xor (2 ^ 64 - 1) (2 ^ slot))) i ≡ bit_at (mask_l (set flags slot false)) i
  by i (inl same) low =
      split i ∙ and_lost (bit_at (mask_l flags) i) (bit_at (2 ^ 64 - 1) i) (bit_at (2 ^ slot) i) (bit_at_ones 64 i (omega (arith, same, lt, all))) (at_same slot i same)
      ∙ sym (set_here flags slot i false lt same)
  by i (inr ne) (inl low) =
      split i ∙ and_kept (bit_at (mask_l flags) i) (bit_at (2 ^ 64 - 1) i) (bit_at (2 ^ slot) i) (bit_at-lt (mask_l flags) i) (bit_at_ones 64 i low) (bit_at-pow_other slot i ne)
      ∙ sym (set_there flags slot i false ne)
  by i (inr ne) (inr high) =
      split i ∙ and_none (bit_at (mask_l flags) i) ((bit_at (2 ^ 64 - 1) i + bit_at (2 ^ slot) i) % 2) (bit_at_above (mask_l flags) (length flags) i (mask_l-lt flags) (omega arith))
      ∙ sym (set_there flags slot i false ne)

both_at : (flags others : List Bool) (i : ℕ) → length flags ≡ length others → get_or (both_of flags others) i false ≡ (get_or flags i false && get_or others i false)
both_at [] others i same = refl
both_at (flag ∷ flags) [] i same = absurd (omega arith)
both_at (flag ∷ flags) (other ∷ others) zero same = refl
both_at (flag ∷ flags) (other ∷ others) (suc i) same = both_at flags others i (omega arith)

pub length-both : (flags others : List Bool) → length flags ≡ length others → length (both_of flags others) ≡ length flags
length-both [] others same = refl
length-both (flag ∷ flags) [] same = absurd (omega arith)
length-both (flag ∷ flags) (other ∷ others) same = ap suc (length-both flags others (omega arith))

lower : (a b : Bool) → min (bit a) (bit b) ≡ bit (a && b)
lower true true = omega arith
lower true false = omega arith
lower false true = omega arith
lower false false = omega arith

pub both_bits : (flags others : List Bool) → length flags ≡ length others → bit_and (mask_l flags) (mask_l others) ≡ mask_l (both_of flags others)
both_bits flags others same = same_from_bits (bit_and (mask_l flags) (mask_l others)) (mask_l (both_of flags others)) (λ i.
    bit_at_and (mask_l flags) (mask_l others) i
    ∙ (λ j. min (bit_mask_l flags i j) (bit_mask_l others i j))
    ∙ lower (get_or flags i false) (get_or others i false)
    ∙ ap (λ (x : Bool). bit x) (sym (both_at flags others i same)) ∙ sym (bit_mask_l (both_of flags others) i))

as_map : (flags : List Bool) → mask_l (map (λ flag. flag) flags) ≡ mask_l flags
as_map flags = ap mask_l (map-id flags)

pub none_found : (flags : List Bool) → mask_l flags ≡ 0 → position (λ flag. flag) flags ≡ None
none_found flags zero_is =
    let far : position_or_len (λ flag. flag) flags ≡ length flags = leading_from_mask_l (λ flag. flag) flags (as_map flags ∙ zero_is) in
    ap (λ (b : Bool). cond b (Some (position_or_len (λ flag. flag) flags)) None) (le-ltb (position_or_len (λ flag. flag) flags) (length flags) (omega arith))

pub lowest_found : (flags : List Bool) → length flags ≡ 64 → mask_l flags ≢ 0 → position (λ flag. flag) flags ≡ Some (count_trailing_zeros 64 (mask_l flags))
lowest_found flags all some =
    let is : count_trailing_zeros 64 (mask_l flags) ≡ position_or_len (λ flag. flag) flags =
    ap (count_trailing_zeros 64) (sym (as_map flags)) ∙ trailing_mask_l (λ flag. flag) 64 flags (omega arith) (omega (arith, as_map flags)) in
    let short : mask_l flags < 2 ^ 64 = subst (λ (n : ℕ). mask_l flags < 2 ^ n) all (mask_l-lt flags) in
    let low : count_trailing_zeros 64 (mask_l flags) < 64 = (bit_at-trailing_zeros w64 (mask_l flags) (omega arith) short).0 in
    ap (λ (b : Bool). cond b (Some (position_or_len (λ flag. flag) flags)) None) (lt-ltb (position_or_len (λ flag. flag) flags) (length flags) (omega arith))
    ∙ ap (λ (n : ℕ). Some n) (sym is)

pub counted : (flags : List Bool) → count_ones (mask_l flags) ≡ count_by (λ flag. flag) flags
counted flags = ap count_ones (sym (as_map flags)) ∙ ones-mask_l (λ flag. flag) flags
