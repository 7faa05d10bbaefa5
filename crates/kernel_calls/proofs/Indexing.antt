-- An entry of the index has its pipe alone, and the index stays one of the slab where a pipe is given up or made.
use Rattle.std.proofs.Common.{◌≡◌, ◌≢◌, ◌⊎◌, inl, inr, ℕ, ◌+◌, ◌<◌, ◌≤◌, List, [], ◌∷◌, ◌++◌, length, get_or, Option, Some, None, refl, sym, subst, ap, ◌∙◌, arith, length-append}
use Rattle.std.proofs.lemmas.Bool.{false≢true, cases_eq, cases_lt, cases_order}
use Rattle.std.proofs.lemmas.List.Edits.{get_or-remove_above, get_or-remove_below, length-remove}
use Rattle.std.proofs.lemmas.List.Elements.{All-from_get_or, All-get_or, All-push, All-weaker}
use Rattle.std.proofs.lemmas.List.Quantifiers.{all_pairs_push, all_pairs_remove}
use Rattle.std.specs.Prelude.{IsSome, remove, unwrap_or}
use Rattle.slab.specs.Slab.{Slab, ContainsKey, Updates, get, slab_len}
use Rattle.byte_pipe.specs.PipeState.{PipeState, new_pipe}
use Rattle.kernel_calls.specs.declared.named.Named.{Named}
use Rattle.kernel_calls.specs.Indexed.{AreIndexed}
use Rattle.kernel_calls.proofs.Listing.{SameBut, SameUnder}

-- the entry at a place has a pipe
pub held_at : (index : List Named) (live : Slab PipeState) (i : ℕ) (d : Named) → AreIndexed index live → i < length index → ContainsKey live (get_or index i d).key
held_at index live i d are within = All-get_or (λ (e : Named). ContainsKey live e.key) index i d within are.held

-- and no other entry has that key
differ : (index : List Named) (live : Slab PipeState) (i j : ℕ) (d : Named) → AreIndexed index live → i < length index → j < length index → j ≢ i → (get_or index j d).key ≢ (get_or index i d).key
differ index live i j d are here there ne = by (cases_order j i) where
  by : (j ≡ i) ⊎ ((j < i) ⊎ (i < j)) → (get_or index j d).key ≢ (get_or index i d).key
  by (inl is) = absurd (ne is)
  by (inr (inl below)) = are.apart j i d below here
  by (inr (inr above)) = λ same. are.apart i j d above there (sym same)

-- so a change of its pipe is none of the others
pub same_but : (index : List Named) (old new : Slab PipeState) (i : ℕ) (d : Named) (slot : Option PipeState) → AreIndexed index old → i < length index → Updates old new (get_or index i d).key slot → SameBut index old new i d
same_but index old new i d slot are within updates = λ j lt ne.
    ap (λ (o : Option PipeState). unwrap_or o new_pipe) (updates.others _ (differ index old i j d are within lt ne))

-- nor is a change under a key that none has
pub same_under : (index : List Named) (old new : Slab PipeState) (key : ℕ) (d : Named) (slot : Option PipeState) → AreIndexed index old → get old key ≡ None → Updates old new key slot → SameUnder index old new d
same_under index old new key d slot are vacant updates = λ i lt.
    ap (λ (o : Option PipeState). unwrap_or o new_pipe) (updates.others _ (λ is. false≢true (subst IsSome (ap (get old) is ∙ vacant) (held_at index old i d are lt))))

-- what has a value keeps one where a value is written
still_held : (old new : Slab PipeState) (key other : ℕ) (now : PipeState) → Updates old new key (Some now) → ContainsKey old other → ContainsKey new other
still_held old new key other now updates held = by (cases_eq other key) where
  by : (other ≡ key) ⊎ (other ≢ key) → ContainsKey new other
  by (inl is) = subst IsSome (sym (ap (get new) is ∙ updates.changed)) refl
  by (inr ne) = subst IsSome (sym (updates.others other ne)) held

pub indexed_remove : (index : List Named) (old new : Slab PipeState) (i : ℕ) (d : Named) → AreIndexed index old → i < length index → Updates old new (get_or index i d).key None → slab_len new + 1 ≡ slab_len old → AreIndexed (remove index i) new
indexed_remove index old new i d are within updates fewer =
    record {
      held = All-from_get_or (λ (e : Named). ContainsKey new e.key) (remove index i) d (λ j lt. at j lt (cases_lt j i));
      apart = all_pairs_remove (λ (entry later : Named). entry.key ≢ later.key) index i within are.apart;
      all = omega (arith, length-remove index i within, fewer, are.all);
    }
  where
    other : (j : ℕ) → j < length index → j ≢ i → ContainsKey new (get_or index j d).key
    other j lt ne = subst IsSome (sym (updates.others _ (differ index old i j d are within lt ne))) (held_at index old j d are lt)

    at : (j : ℕ) → j < length (remove index i) → (j < i) ⊎ (i ≤ j) → ContainsKey new (get_or (remove index i) j d).key
    at j lt (inl below) =
        subst (λ (e : Named). ContainsKey new e.key) (sym (get_or-remove_below index i d j below within)) (other j (omega (arith, below, within)) (λ is. omega (arith, is, below)))
    at j lt (inr above) =
        subst (λ (e : Named). ContainsKey new e.key) (sym (get_or-remove_above index i d j above within)) (other (j + 1) (omega (arith, lt, length-remove index i within)) (λ is. omega (arith, is, above)))

indexed_push : (index : List Named) (old new : Slab PipeState) (e : Named) (now : PipeState) → AreIndexed index old → get old e.key ≡ None → Updates old new e.key (Some now) → slab_len new ≡ slab_len old + 1 → AreIndexed (index ++ e ∷ []) new
indexed_push index old new e now are vacant updates more =
    record {
      held = All-push (λ (o : Named). ContainsKey new o.key) index e (All-weaker _ (λ (o : Named). ContainsKey new o.key) (λ o. still_held old new e.key o.key now updates) index are.held) (subst IsSome (sym updates.changed) refl);
      apart = all_pairs_push (λ (entry later : Named). entry.key ≢ later.key) index e are.apart (λ k d lt is. false≢true (subst IsSome (ap (get old) is ∙ vacant) (held_at index old k d are lt)));
      all = omega (arith, length-append index (e ∷ []), more, are.all);
    }

-- room for more is no change
pub indexed_roomy : (index : List Named) (live roomy : Slab PipeState) → AreIndexed index live → roomy ≡ record live { capacity = roomy.capacity } → AreIndexed index roomy
indexed_roomy index live roomy are is = subst (AreIndexed index) (sym is) (record { held = are.held; apart = are.apart; all = are.all })

-- a pipe is made where there is room for it and for its entry
pub indexed_made : (index kept made : List Named) (live roomy new : Slab PipeState) (e : Named) (now : PipeState) → AreIndexed index live → kept ≡ index → made ≡ kept ++ e ∷ [] → roomy ≡ record live { capacity = roomy.capacity } → get roomy e.key ≡ None → Updates roomy new e.key (Some now) → slab_len new ≡ slab_len roomy + 1 → AreIndexed made new
indexed_made index kept made live roomy new e now are same pushed room vacant updates more =
    subst (λ (entries : List Named). AreIndexed entries new) (sym (pushed ∙ ap (λ (entries : List Named). entries ++ e ∷ []) same))
    (indexed_push index roomy new e now (indexed_roomy index live roomy are room) vacant updates more)
