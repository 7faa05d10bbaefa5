-- The lowest free descriptor of the kernel is the one that the machine gives a program.
use Rattle.std.proofs.Common.{◌≡◌, ◌⊎◌, inl, inr, ℕ, zero, suc, ◌<◌, ◌≤◌, nat_lt, Bool, true, false, List, [], ◌∷◌, length, Some, None, refl, sym, ap, ◌∙◌, subst, arith}
use Rattle.std.specs.Prelude.{cond, if◌then◌else◌}
use Rattle.std.specs.Option.{is_some}
use Rattle.std.specs.List.{position_or_len}
use Rattle.std.proofs.lemmas.Bool.{ltb-true, cases_lt, both_ways}
use Rattle.fd_table.specs.Entries.{is_free}
use Rattle.tree_model.specs.Alone.{OwnFile, World, held}
use Rattle.tree_model.specs.Answers.{all_fds, lowest, new_fd}
use Rattle.law_trees.proofs.trees.Calls.{is_new}
use Rattle.process_model.specs.Seen.{Entry, Fds, fd_at}
use Rattle.process_model.specs.Own.{Owned, own_files, OwnFds}
use Rattle.process_model.specs.Effect.{lowest as lowest_place}
use Rattle.law_runs.proofs.standing.OwnFiles.{same_held}

-- ---- of the kernel

pub record IsLowest (d : Fds) (fd : ℕ) : Type 0 where
  pub free : fd_at d fd ≡ None
  pub below : (other : ℕ) → other < fd → is_some (fd_at d other) ≡ true
  pub within : fd < length d

first_none : (d : Fds) → fd_at d (position_or_len is_free d) ≡ None
first_none [] = refl
first_none (None ∷ d) = refl
first_none (Some e ∷ d) =
    let next : suc (position_or_len is_free d) ≡ position_or_len is_free (Some e ∷ d) = omega arith in
    subst (λ n. fd_at (Some e ∷ d) n ≡ None) next (first_none d)

below_used : (d : Fds) (other : ℕ) → other < position_or_len is_free d → is_some (fd_at d other) ≡ true
below_used [] other lt = absurd (omega (arith, lt))
below_used (None ∷ d) other lt = absurd (omega (arith, lt))
below_used (Some e ∷ d) zero lt = refl
below_used (Some e ∷ d) (suc other) lt = below_used d other (omega (arith, lt))

pub is_lowest : (d : Fds) (fd : ℕ) → lowest_place d ≡ Some fd → IsLowest d fd
is_lowest d fd is = by (nat_lt (position_or_len is_free d) (length d)) refl is
  where
    by : (c : Bool) → nat_lt (position_or_len is_free d) (length d) ≡ c → cond c (Some (position_or_len is_free d)) None ≡ Some fd → IsLowest d fd
    by false e is = absurd (let z : ⊥ = cc in z)
    by true e is =
        let here : position_or_len is_free d ≡ fd = cc in
        subst (IsLowest d) here (record { free = first_none d; below = below_used d; within = ltb-true (position_or_len is_free d) (length d) e })

-- ---- of the machine

lowest_below : (own : List OwnFile) (more fd other : ℕ) → fd ≤ other → other < lowest own more fd → is_some (held own other) ≡ true
lowest_below own zero fd other le lt = absurd (omega (arith, le, lt))
lowest_below own (suc more) fd other le lt = by (is_some (held own fd)) refl lt (cases_lt fd other) (λ l m. lowest_below own more (suc fd) other l m)
  where
    by : (c : Bool) → is_some (held own fd) ≡ c → other < (if c then lowest own more (suc fd) else fd) → (fd < other) ⊎ (other ≤ fd) → (suc fd ≤ other → other < lowest own more (suc fd) → is_some (held own other) ≡ true) → is_some (held own other) ≡ true
    by false e lt cases ih = absurd (omega (arith, le, lt))
    by true e lt (inl past) ih = ih (omega (arith, past)) lt
    by true e lt (inr here) ih = let same : fd ≡ other = omega (arith, le, here) in ap (λ n. is_some (held own n)) (sym same) ∙ e

-- ---- they agree

module _ (a b : Entry) (owns : List Owned) (d : Fds) (opened : OwnFds a b owns d) (fd : ℕ) (low : IsLowest d fd) where
  pub above_two : 2 < fd
  above_two = by fd low.free
    where
      by : (n : ℕ) → fd_at d n ≡ None → 2 < n
      by zero free = absurd (let z : Some a ≡ None = sym opened.input ∙ free in let w : ⊥ = cc in w)
      by (suc zero) free = absurd (let z : Some b ≡ None = sym opened.output ∙ free in let w : ⊥ = cc in w)
      by (suc (suc zero)) free = absurd (let z : Some Rattle.process_model.specs.Seen.diag ≡ None = sym opened.messages ∙ free in let w : ⊥ = cc in w)
      by (suc (suc (suc n))) free = omega arith

  -- a descriptor above 2 is in use where the program holds it
  used : (other : ℕ) → 2 < other → is_some (held (own_files owns) other) ≡ is_some (fd_at d other)
  used other up = same_held owns other ∙ sym (ap is_some (opened.above other up))

  pub is_the_new : (world : World) → world.own ≡ own_files owns → fd ≡ new_fd (own_files owns)
  is_the_new world own = by (cases_lt fd (new_fd (own_files owns)))
    where
      new : (2 < new_fd (own_files owns)) × (held (own_files owns) (new_fd (own_files owns)) ≡ None)
      new = is_new (record world { own = own_files owns })

      not_less : fd < new_fd (own_files owns) → ⊥
      not_less lt = both_ways (is_some (held (own_files owns) fd)) (used fd above_two ∙ ap is_some low.free) (lowest_below (own_files owns) (all_fds (own_files owns)) 3 fd (omega (arith, above_two)) lt)

      not_more : new_fd (own_files owns) < fd → ⊥
      not_more lt = both_ways (is_some (held (own_files owns) (new_fd (own_files owns)))) (ap is_some new.1) (used (new_fd (own_files owns)) new.0 ∙ low.below (new_fd (own_files owns)) lt)

      by : (fd < new_fd (own_files owns)) ⊎ (new_fd (own_files owns) ≤ fd) → fd ≡ new_fd (own_files owns)
      by (inl less) = absurd (not_less less)
      by (inr more) = elim (cases_lt (new_fd (own_files owns)) fd) [ inl l ↦ absurd (not_more l) | inr m ↦ omega (arith, more, m) ]
