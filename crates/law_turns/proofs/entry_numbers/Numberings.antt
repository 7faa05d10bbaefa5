-- To differ only in the numbers of entries holds of each kernel with itself, holds both ways, and is passed on.
use Rattle.std.proofs.Common.{◌≡◌, ℕ, List, [], ◌∷◌, Option, Some, None, refl, sym, ap, ◌∙◌}
use Rattle.std.specs.Prelude.{map}
use Rattle.fd_table.specs.Entries.{entry_at}
use Rattle.proc_table.specs.Slots.{Slot, Table}
use Rattle.kernel_model.specs.KernelState.{KernelState}
use Rattle.kernel_model.specs.Numbers.{Numbering, renumbered_place, renumbered_slot, renumbered_table, renumbered, SameButNumbers}

-- ---- numberings

-- each number stays, all go back, and two numberings one after the other
abbrev pub unchanged : Numbering
unchanged = record { to = λ e. e; back = λ e. e; there = λ e. refl; here = λ e. refl }

abbrev pub opposite : Numbering → Numbering
opposite n = record { to = n.back; back = n.to; there = n.here; here = n.there }

abbrev pub followed_by : Numbering → Numbering → Numbering
followed_by n m =
    record {
      to = λ e. m.to (n.to e);
      back = λ e. n.back (m.back e);
      there = λ e. ap n.back (m.there (n.to e)) ∙ n.there e;
      here = λ e. ap m.to (n.here (m.back e)) ∙ m.here e;
    }

-- ---- what one change after the other comes to

map_twice : {X : Type 0} (f g h : X → X) → ((x : X) → g (f x) ≡ h x) → (xs : List X) → map g (map f xs) ≡ map h xs
map_twice f g h each [] = refl
map_twice f g h each (x ∷ xs) = λ i. each x i ∷ map_twice f g h each xs i

map_none : {X : Type 0} (f : X → X) → ((x : X) → f x ≡ x) → (xs : List X) → map f xs ≡ xs
map_none f each [] = refl
map_none f each (x ∷ xs) = λ i. each x i ∷ map_none f each xs i

module _ (f g h : ℕ → ℕ) (each : (e : ℕ) → g (f e) ≡ h e) where
  place_twice : (x : Option ℕ) → renumbered_place g (renumbered_place f x) ≡ renumbered_place h x
  place_twice None = refl
  place_twice (Some e) = λ i. Some (each e i)

  slot_twice : {S : Type 0} (x : Slot S) → renumbered_slot g (renumbered_slot f x) ≡ renumbered_slot h x
  slot_twice None = refl
  slot_twice (Some p) = λ i. Some (record p { fds = map_twice (renumbered_place f) (renumbered_place g) (renumbered_place h) place_twice p.fds i })

  pub table_twice : {S : Type 0} (t : Table S) → renumbered_table g (renumbered_table f t) ≡ renumbered_table h t
  table_twice t = map_twice (renumbered_slot f) (renumbered_slot g) (renumbered_slot h) slot_twice t

module _ (f : ℕ → ℕ) (each : (e : ℕ) → f e ≡ e) where
  place_none : (x : Option ℕ) → renumbered_place f x ≡ x
  place_none None = refl
  place_none (Some e) = λ i. Some (each e i)

  slot_none : {S : Type 0} (x : Slot S) → renumbered_slot f x ≡ x
  slot_none None = refl
  slot_none (Some p) = λ i. Some (record p { fds = map_none (renumbered_place f) place_none p.fds i })

  pub table_none : {S : Type 0} (t : Table S) → renumbered_table f t ≡ t
  table_none t = map_none (renumbered_slot f) slot_none t

-- ---- the relation

module _ {S : Type 0} where
  pub same_itself : (k : KernelState S) → SameButNumbers k k
  same_itself k =
      record {
        numbering = unchanged;
        is = record {
          entries = record { same = λ e. refl; free = refl };
          rest = λ i. record k { table = table_none (λ e. e) (λ e. refl) k.table i };
        };
      }

  pub same_back : (k l : KernelState S) → SameButNumbers k l → SameButNumbers l k
  same_back k l a =
      let n = a.numbering in
      record {
        numbering = opposite n;
        is = record {
          entries = record { same = λ e. sym (a.is.entries.same (n.back e)) ∙ ap (entry_at l.entries) (n.here e); free = sym a.is.entries.free };
          rest =
              sym (ap (renumbered n.back k.entries) a.is.rest) ∙
              (λ i. record k { table = (table_twice n.to n.back (λ e. e) n.there k.table ∙ table_none (λ e. e) (λ e. refl) k.table) i });
        };
      }

  pub same_on : (k l m : KernelState S) → SameButNumbers k l → SameButNumbers l m → SameButNumbers k m
  same_on k l m a b =
      let n = a.numbering in
      let r = b.numbering in
      record {
        numbering = followed_by n r;
        is = record {
          entries = record { same = λ e. b.is.entries.same (n.to e) ∙ a.is.entries.same e; free = b.is.entries.free ∙ a.is.entries.free };
          rest =
              (λ i. record k { table = sym (table_twice n.to r.to (λ e. r.to (n.to e)) (λ e. refl) k.table) i; entries = m.entries }) ∙
              ap (renumbered r.to m.entries) a.is.rest ∙ b.is.rest;
        };
      }
