-- The files that a program holds open, once one of them goes on or is closed.
use Rattle.std.proofs.Common.{◌≡◌, ◌≢◌, ◌⊎◌, inl, inr, ℕ, ◌+◌, ◌<◌, ◌≤◌, ◌==◌, Bool, true, false, List, [], ◌∷◌, Some, None, refl, sym, ap, ◌∙◌, subst, arith}
use Rattle.std.specs.Prelude.{if◌then◌else◌}
use Rattle.std.specs.Option.{is_some}
use Rattle.std.proofs.lemmas.Bool.{eqb-true, eq-eqb, ne_eqb, both_ways}
use Rattle.tree_model.specs.Alone.{held, moved_on, closed}
use Rattle.tree_model.specs.Tame.{Among, without}
use Rattle.process_model.specs.Seen.{file, Place, View}
use Rattle.process_model.specs.Shape.{same, owned_names}
use Rattle.process_model.specs.Own.{Owned, own_files, own_fds, owned_at, AreApart, place_of, ArePlaced, Appends, NoneAppends}
use Rattle.process_model.specs.Effect.{further}
use Rattle.process_model.proofs.Counts.{same_self}
use Rattle.law_runs.proofs.standing.Frame.{held_stay}

-- one of them, by its descriptor
pub record Found (V : View) (owns : List Owned) (fd : ℕ) : Type 0 where
  pub owned : Owned
  pub fd_is : owned.own.fd ≡ fd
  pub at : owned_at owns fd ≡ Some (file owned.entry)
  pub held_is : held (own_files owns) fd ≡ Some owned.own
  pub placed : V.places owned.entry ≡ place_of owned.own
  pub above : 2 < fd
  pub plain : Appends owned.own.mode → ⊥
  pub named : 1 ≤ owned_names owned.entry owns

pub found : (V : View) (owns : List Owned) (fd : ℕ) → Among fd (own_fds owns) → AreApart owns → ArePlaced V owns → NoneAppends owns → Found V owns fd
found V [] fd among apart placed plain = absurd among
found V (o ∷ later) fd among apart placed plain = by (o.own.fd == fd) refl (λ l. found V later fd l apart.2 placed.1 plain.1)
  where
    by : (b : Bool) → (o.own.fd == fd) ≡ b → (Among fd (own_fds later) → Found V later fd) → Found V (o ∷ later) fd
    by true e ih = record {
      owned = o;
      fd_is = eqb-true o.own.fd fd e;
      at = ap (λ (c : Bool). if c then Some (file o.entry) else owned_at later fd) e;
      held_is = ap (λ (c : Bool). if c then Some o.own else held (own_files later) fd) e;
      placed = placed.0;
      above = subst (λ n. 2 < n) (eqb-true o.own.fd fd e) apart.0;
      plain = plain.0;
      named = omega (arith, same_self o.entry);
    }
    by false e ih =
        let f = ih (rest among) in
        record {
          owned = f.owned;
          fd_is = f.fd_is;
          at = ap (λ (c : Bool). if c then Some (file o.entry) else owned_at later fd) e ∙ f.at;
          held_is = ap (λ (c : Bool). if c then Some o.own else held (own_files later) fd) e ∙ f.held_is;
          placed = f.placed;
          above = f.above;
          plain = f.plain;
          named = omega (arith, f.named);
        }
      where
        rest : (fd ≡ o.own.fd) ⊎ Among fd (own_fds later) → Among fd (own_fds later)
        rest (inl is) = absurd (both_ways (o.own.fd == fd) e (eq-eqb o.own.fd fd (sym is)))
        rest (inr later) = later

-- a descriptor is held by the program where the kernel has a file there
pub same_held : (owns : List Owned) (fd : ℕ) → is_some (held (own_files owns) fd) ≡ is_some (owned_at owns fd)
same_held [] fd = refl
same_held (o ∷ later) fd = by (o.own.fd == fd) (same_held later fd)
  where
    by : (b : Bool) → is_some (held (own_files later) fd) ≡ is_some (owned_at later fd) → is_some (if b then Some o.own else held (own_files later) fd) ≡ is_some (if b then Some (file o.entry) else owned_at later fd)
    by true ih = refl
    by false ih = ih

-- ---- one goes on so many bytes further

abbrev pub moved : List Owned → ℕ → ℕ → List Owned
moved [] fd count = []
moved (o ∷ later) fd count = if o.own.fd == fd then record o { own = record o.own { at = o.own.at + count } } ∷ later else o ∷ moved later fd count

module _ (fd count : ℕ) where
  abbrev further_on : Owned → Owned
  further_on o = record o { own = record o.own { at = o.own.at + count } }

  pub moved_files : (owns : List Owned) → moved_on (own_files owns) fd count ≡ own_files (moved owns fd count)
  moved_files [] = refl
  moved_files (o ∷ later) = by (o.own.fd == fd) (moved_files later)
    where
      by : (b : Bool) → moved_on (own_files later) fd count ≡ own_files (moved later fd count) → (if b then record o.own { at = o.own.at + count } ∷ own_files later else o.own ∷ moved_on (own_files later) fd count) ≡ own_files (if b then further_on o ∷ later else o ∷ moved later fd count)
      by true ih = refl
      by false ih = ap (λ l. o.own ∷ l) ih

  pub moved_fds : (owns : List Owned) → own_fds (moved owns fd count) ≡ own_fds owns
  moved_fds [] = refl
  moved_fds (o ∷ later) = by (o.own.fd == fd) (moved_fds later)
    where
      by : (b : Bool) → own_fds (moved later fd count) ≡ own_fds later → own_fds (if b then further_on o ∷ later else o ∷ moved later fd count) ≡ o.own.fd ∷ own_fds later
      by true ih = refl
      by false ih = ap (λ l. o.own.fd ∷ l) ih

  pub moved_at : (owns : List Owned) (other : ℕ) → owned_at (moved owns fd count) other ≡ owned_at owns other
  moved_at [] other = refl
  moved_at (o ∷ later) other = by (o.own.fd == fd) (moved_at later other)
    where
      by : (b : Bool) → owned_at (moved later fd count) other ≡ owned_at later other → owned_at (if b then further_on o ∷ later else o ∷ moved later fd count) other ≡ owned_at (o ∷ later) other
      by true ih = refl
      by false ih = ap (λ x. if o.own.fd == other then Some (file o.entry) else x) ih

  pub moved_apart : (owns : List Owned) → AreApart owns → AreApart (moved owns fd count)
  moved_apart [] h = tt
  moved_apart (o ∷ later) h = by (o.own.fd == fd) (moved_apart later h.2)
    where
      by : (b : Bool) → AreApart (moved later fd count) → AreApart (if b then further_on o ∷ later else o ∷ moved later fd count)
      by true ih = h
      by false ih = (h.0, moved_at later o.own.fd ∙ h.1, ih)

  pub moved_plain : (owns : List Owned) → NoneAppends owns → NoneAppends (moved owns fd count)
  moved_plain [] h = tt
  moved_plain (o ∷ later) h = by (o.own.fd == fd) (moved_plain later h.1)
    where
      by : (b : Bool) → NoneAppends (moved later fd count) → NoneAppends (if b then further_on o ∷ later else o ∷ moved later fd count)
      by true ih = h
      by false ih = (h.0, ih)

  pub moved_names : (k : ℕ) (owns : List Owned) → owned_names k (moved owns fd count) ≡ owned_names k owns
  moved_names k [] = refl
  moved_names k (o ∷ later) = by (o.own.fd == fd) (moved_names k later)
    where
      by : (b : Bool) → owned_names k (moved later fd count) ≡ owned_names k later → owned_names k (if b then further_on o ∷ later else o ∷ moved later fd count) ≡ same k o.entry + owned_names k later
      by true ih = refl
      by false ih = ap (λ n. same k o.entry + n) ih

  -- the entry that is open at a descriptor is among the names
  at_named : (e : ℕ) (owns : List Owned) → owned_at owns fd ≡ Some (file e) → 1 ≤ owned_names e owns
  at_named e [] h = absurd (let z : ⊥ = cc in z)
  at_named e (o ∷ later) h = by (o.own.fd == fd) h (at_named e later)
    where
      by : (b : Bool) → (if b then Some (file o.entry) else owned_at later fd) ≡ Some (file e) → (owned_at later fd ≡ Some (file e) → 1 ≤ owned_names e later) → 1 ≤ same e o.entry + owned_names e later
      by true is ih = let z : e ≡ o.entry = cc in omega (arith, same_self e, ap (λ n. same e n) z)
      by false is ih = omega (arith, ih is)

  module _ (V W : View) (e : ℕ) (now : W.places e ≡ further (V.places e) count) (others : (k : ℕ) → k ≢ e → W.places k ≡ V.places k) where
    unnamed : (owns : List Owned) → owned_names e owns ≡ 0 → ArePlaced V owns → ArePlaced W owns
    unnamed owns none h = held_stay V W owns (λ k l. others k (λ is. absurd (omega (arith, l, none, ap (λ n. owned_names n owns) is)))) h

    pub moved_placed : (owns : List Owned) → owned_at owns fd ≡ Some (file e) → owned_names e owns ≤ 1 → ArePlaced V owns → ArePlaced W (moved owns fd count)
    moved_placed [] at once h = tt
    moved_placed (o ∷ later) at once h = by (o.own.fd == fd) at (λ is le. moved_placed later is le h.1)
      where
        by : (b : Bool) → (if b then Some (file o.entry) else owned_at later fd) ≡ Some (file e) → (owned_at later fd ≡ Some (file e) → owned_names e later ≤ 1 → ArePlaced W (moved later fd count)) → ArePlaced W (if b then further_on o ∷ later else o ∷ moved later fd count)
        by true is ih =
            let z : e ≡ o.entry = cc in
            let one : same e o.entry ≡ 1 = ap (λ n. same e n) (sym z) ∙ same_self e in (
              ap W.places (sym z) ∙ now ∙ ap (λ (place : Place). further place count) (ap V.places z ∙ h.0),
              unnamed later (omega (arith, once, one)) h.1,
            )
        by false is ih =
            let some = at_named e later is in (
              others o.entry (λ z. absurd (omega (arith, some, once, same_self e, ap (λ n. same e n) z))) ∙ h.0,
              ih is (omega (arith, once)),
            )

-- ---- one is closed

abbrev pub shut : List Owned → ℕ → List Owned
shut [] fd = []
shut (o ∷ later) fd = if o.own.fd == fd then later else o ∷ shut later fd

module _ (fd : ℕ) where
  pub shut_files : (owns : List Owned) → closed (own_files owns) fd ≡ own_files (shut owns fd)
  shut_files [] = refl
  shut_files (o ∷ later) = by (o.own.fd == fd) (shut_files later)
    where
      by : (b : Bool) → closed (own_files later) fd ≡ own_files (shut later fd) → (if b then own_files later else o.own ∷ closed (own_files later) fd) ≡ own_files (if b then later else o ∷ shut later fd)
      by true ih = refl
      by false ih = ap (λ l. o.own ∷ l) ih

  pub shut_fds : (owns : List Owned) → own_fds (shut owns fd) ≡ without fd (own_fds owns)
  shut_fds [] = refl
  shut_fds (o ∷ later) = by (o.own.fd == fd) (shut_fds later)
    where
      by : (b : Bool) → own_fds (shut later fd) ≡ without fd (own_fds later) → own_fds (if b then later else o ∷ shut later fd) ≡ (if b then own_fds later else o.own.fd ∷ without fd (own_fds later))
      by true ih = refl
      by false ih = ap (λ l. o.own.fd ∷ l) ih

  pub shut_here : (owns : List Owned) → AreApart owns → owned_at (shut owns fd) fd ≡ None
  shut_here [] h = refl
  shut_here (o ∷ later) h = by (o.own.fd == fd) refl (shut_here later h.2)
    where
      by : (b : Bool) → (o.own.fd == fd) ≡ b → owned_at (shut later fd) fd ≡ None → owned_at (if b then later else o ∷ shut later fd) fd ≡ None
      by true e ih = subst (λ n. owned_at later n ≡ None) (eqb-true o.own.fd fd e) h.1
      by false e ih = ap (λ (c : Bool). if c then Some (file o.entry) else owned_at (shut later fd) fd) e ∙ ih

  pub shut_others : (owns : List Owned) (other : ℕ) → other ≢ fd → owned_at (shut owns fd) other ≡ owned_at owns other
  shut_others [] other ne = refl
  shut_others (o ∷ later) other ne = by (o.own.fd == fd) refl (shut_others later other ne)
    where
      by : (b : Bool) → (o.own.fd == fd) ≡ b → owned_at (shut later fd) other ≡ owned_at later other → owned_at (if b then later else o ∷ shut later fd) other ≡ owned_at (o ∷ later) other
      by true e ih = sym (ap (λ (c : Bool). if c then Some (file o.entry) else owned_at later other) (ne_eqb o.own.fd other (λ z. ne (sym z ∙ eqb-true o.own.fd fd e))))
      by false e ih = ap (λ x. if o.own.fd == other then Some (file o.entry) else x) ih

  pub shut_apart : (owns : List Owned) → AreApart owns → AreApart (shut owns fd)
  shut_apart [] h = tt
  shut_apart (o ∷ later) h = by (o.own.fd == fd) refl (shut_apart later h.2)
    where
      by : (b : Bool) → (o.own.fd == fd) ≡ b → AreApart (shut later fd) → AreApart (if b then later else o ∷ shut later fd)
      by true e ih = h.2
      by false e ih = (h.0, shut_others later o.own.fd (λ z. both_ways (o.own.fd == fd) e (eq-eqb o.own.fd fd z)) ∙ h.1, ih)

  pub shut_plain : (owns : List Owned) → NoneAppends owns → NoneAppends (shut owns fd)
  shut_plain [] h = tt
  shut_plain (o ∷ later) h = by (o.own.fd == fd) (shut_plain later h.1)
    where
      by : (b : Bool) → NoneAppends (shut later fd) → NoneAppends (if b then later else o ∷ shut later fd)
      by true ih = h.1
      by false ih = (h.0, ih)

  pub shut_names : (k : ℕ) (owns : List Owned) → owned_names k (shut owns fd) ≤ owned_names k owns
  shut_names k [] = omega arith
  shut_names k (o ∷ later) = by (o.own.fd == fd) (shut_names k later)
    where
      by : (b : Bool) → owned_names k (shut later fd) ≤ owned_names k later → owned_names k (if b then later else o ∷ shut later fd) ≤ same k o.entry + owned_names k later
      by true ih = omega arith
      by false ih = omega (arith, ih)

  pub shut_placed : (V : View) (owns : List Owned) → ArePlaced V owns → ArePlaced V (shut owns fd)
  shut_placed V [] h = tt
  shut_placed V (o ∷ later) h = by (o.own.fd == fd) (shut_placed V later h.1)
    where
      by : (b : Bool) → ArePlaced V (shut later fd) → ArePlaced V (if b then later else o ∷ shut later fd)
      by true ih = h.1
      by false ih = (h.0, ih)
