-- The lists of sleepers are grouped by whether they are free, and by the buckets from which they stand away; so the list of
-- a channel that isn't at its bucket is in that one's group.
use Rattle.std.proofs.Common.{◌≡◌, ◌≢◌, ◌⊎◌, inl, inr, ℕ, zero, suc, ◌+◌, ◌<◌, ◌≤◌, IfNone, IfSome, List, Bool, true, false, Option, Some, None, length, get_or, refl, sym, ap, subst, ◌∙◌, arith, get_or-set_other, get_or-set_same}
use Rattle.std.proofs.Math.ListN.{set, length-set}
use Rattle.std.proofs.lemmas.Bool.{cases_eq, cases_lt, eq-eqb, eqb-true, ne_eqb}
use Rattle.std.proofs.lemmas.List.{get_or-replicate}
use Rattle.std.proofs.lemmas.List.Sums.{fails_before_first}
use Rattle.std.specs.List.{position_or_len}
use Rattle.std.specs.Prelude.{◌==◌, cond, if◌then◌else◌, map, nat_lt, position, replicate}
use Rattle.slot_lists.specs.Sets.{AreGrouped, is_key}
use Rattle.slot_lists.proofs.Grouping.{flag_there}
use Rattle.fd_table.proofs.Lists.{position_found}
use Rattle.proc_table.specs.declared.states.Channel.{Channel}
use Rattle.proc_table.specs.Channels.{AreChannels, bucket_of, channel_of, entry_key}
use Rattle.proc_table.proofs.Kept.{none_passes}

pub none_at : {X : Type 0} (n slot : ℕ) → get_or {A = Option X} (replicate n None) slot None ≡ None
none_at zero slot = refl
none_at (suc n) zero = refl
none_at (suc n) (suc slot) = none_at n slot

pub all_free : (groups : List ℕ) → AreGrouped 65 (replicate 64 (Some 0)) groups → AreChannels (replicate 64 None) groups
all_free groups grouped = record {
  all = refl;
  keys = replicate 64 (Some 0);
  grouped = grouped;
  keyed = λ list lt. get_or-replicate 64 list (Some 0) None lt ∙ ap (entry_key list) (sym (none_at 64 list));
}

-- ---- the keys of lists

free_key : (list : ℕ) (x : Option Channel) → is_key 0 (entry_key list x) ≡ true → x ≡ None
free_key list None is = refl
free_key list (Some channel) is = by (bucket_of channel == list) is where
  by : (b : Bool) → is_key 0 (if b then None else Some (1 + bucket_of channel)) ≡ true → Some channel ≡ None
  by true is = absurd (let no : ⊥ = cc in no)
  by false is = absurd (omega (arith, eqb-true 0 (1 + bucket_of channel) is))

module _ (channels : List (Option Channel)) (groups : List ℕ) (are : AreChannels channels groups) where
  -- another channel's list, or free
  pub put_key : (list : ℕ) (channel : Option Channel) (new : List ℕ) → list < 64 → AreGrouped 65 (set are.keys list (entry_key list channel)) new → AreChannels (set channels list channel) new
  put_key list channel new lt grouped = record {
    all = length-set channels list channel ∙ are.all;
    keys = set are.keys list (entry_key list channel);
    grouped = grouped;
    keyed = λ k less. by k less (cases_eq k list);
  } where
    by : (k : ℕ) → k < 64 → (k ≡ list) ⊎ (k ≡ list → ⊥) → get_or (set are.keys list (entry_key list channel)) k None ≡ entry_key k (channel_of (set channels list channel) k)
    by k less (inl same) =
        subst (λ (n : ℕ). get_or (set are.keys list (entry_key list channel)) n None ≡ entry_key n (channel_of (set channels list channel) n)) (sym same)
        (get_or-set_same are.keys list (entry_key list channel) None (omega (arith, are.grouped.all, lt)) ∙ ap (entry_key list) (sym (get_or-set_same channels list channel None (omega (arith, are.all, lt)))))
    by k less (inr ne) =
        get_or-set_other are.keys list k (entry_key list channel) None ne ∙ are.keyed k less ∙ ap (entry_key k) (sym (get_or-set_other channels list k channel None ne))

  -- the lowest in the group of the free ones is free
  pub found_free : (found : Option ℕ) → found ≡ position (is_key 0) are.keys → IfSome found (λ list. channel_of channels list ≡ None)
  found_free None is = tt
  found_free (Some list) is =
      let there = position_found (is_key 0) are.keys None list (sym is) in
      free_key list (channel_of channels list) (ap (is_key 0) (sym (are.keyed list (omega (arith, there.0, are.grouped.all)))) ∙ there.1)

  -- where there is none, each is some channel's
  pub none_free : (found : Option ℕ) → found ≡ position (is_key 0) are.keys → IfNone found ((list : ℕ) → list < 64 → channel_of channels list ≢ None)
  none_free (Some list) is = tt
  none_free None is = λ list lt free.
      let on : is_key 0 (get_or are.keys list None) ≡ true = ap (is_key 0) (are.keyed list lt ∙ ap (entry_key list) free) in
      let off : is_key 0 (get_or are.keys list None) ≡ false = none_passes (is_key 0) are.keys None refl (sym is) list in
      let no : true ≡ false = sym on ∙ off in
      let not : ⊥ = cc in not

  -- a list that isn't the bucket of its channel stands away
  pub away_there : (list : ℕ) (channel : Channel) → list < 64 → channel_of channels list ≡ Some channel → bucket_of channel ≢ list → get_or (map (is_key (1 + bucket_of channel)) are.keys) list false ≡ true
  away_there list channel lt named ne =
      flag_there (1 + bucket_of channel) are.keys list
      ∙ ap (is_key (1 + bucket_of channel)) (are.keyed list lt ∙ ap (entry_key list) named ∙ ap (λ (b : Bool). if b then None else Some (1 + bucket_of channel)) (ne_eqb (bucket_of channel) list ne))
      ∙ eq-eqb (1 + bucket_of channel) (1 + bucket_of channel) refl

-- ---- a search through a set, the lowest first

first_is : (flags : List Bool) (list : ℕ) → position (λ flag. flag) flags ≡ Some list → position_or_len (λ flag. flag) flags ≡ list
first_is flags list is = by (nat_lt (position_or_len (λ flag. flag) flags) (length flags)) is where
  by : (b : Bool) → cond b (Some (position_or_len (λ flag. flag) flags)) None ≡ Some list → position_or_len (λ flag. flag) flags ≡ list
  by true is = cc
  by false is = absurd (let no : ⊥ = cc in no)

-- each step takes one out, so after so many as there are numbers none is left
pub taken_out : (flags : List Bool) (list step : ℕ) → position (λ flag. flag) flags ≡ Some list → ((k : ℕ) → k < step → get_or flags k false ≡ false)
    → (k : ℕ) → k < step + 1 → get_or (set flags list false) k false ≡ false
taken_out flags list step first gone k lt = by (cases_eq k list) where
  found : (list < length flags) × (get_or flags list false ≡ true)
  found = position_found (λ flag. flag) flags false list first

  far : (list < step) ⊎ (step ≤ list) → step ≤ list
  far (inl low) = absurd (let no : false ≡ true = sym (gone list low) ∙ found.1 in let not : ⊥ = cc in not)
  far (inr high) = high

  by : (k ≡ list) ⊎ (k ≡ list → ⊥) → get_or (set flags list false) k false ≡ false
  by (inl same) = ap (λ (n : ℕ). get_or (set flags list false) n false) same ∙ get_or-set_same flags list false false found.0
  by (inr ne) =
      get_or-set_other flags list k false false ne
      ∙ fails_before_first (λ flag. flag) flags k false (subst (λ (n : ℕ). k < n) (sym (first_is flags list first)) (omega (arith, far (cases_lt list step), lt, ne)))
