-- How many descriptors of a process are open, and how many a call leaves open at most.
use Rattle.std.proofs.Common.{◌≡◌, ◌⊎◌, ℕ, zero, suc, ◌+◌, ◌≤◌, [], ◌∷◌, Option, Some, None, length, refl, arith}
use Rattle.std.proofs.lemmas.List.Sums.{sum_by-cons}
use Rattle.std.specs.Prelude.{cond, slice_set}
use Rattle.user_calls.specs.declared.calls.Call.{Call}
use Rattle.user_calls.specs.declared.calls.Call.TheVariants.{Close}
use Rattle.user_calls.specs.declared.calls.Reply.{Reply}
use Rattle.user_calls.specs.declared.calls.Reply.TheVariants.{Done, Refused}
use Rattle.fd_table.specs.Entries.{is_free, free_count}
use Rattle.process_model.specs.Seen.{Entry, Fds, fd_at}
use Rattle.law_runs.proofs.room.Marks.{descriptors_wanted}

abbrev pub used : Fds → ℕ
used [] = 0
used (None ∷ d) = used d
used (Some x ∷ d) = 1 + used d

pub used_free : (d : Fds) → used d + free_count d ≡ length d
used_free [] = refl
used_free (None ∷ d) = omega (arith, sum_by-cons (λ (y : Option Entry). cond {A = ℕ} (is_free y) 1 0) None d, used_free d)
used_free (Some x ∷ d) = omega (arith, sum_by-cons (λ (y : Option Entry). cond {A = ℕ} (is_free y) 1 0) (Some x) d, used_free d)

-- one place more is open at most
pub used_more : (d : Fds) (place : ℕ) (o : Option Entry) → used (slice_set d place o) ≤ used d + 1
used_more [] place o = omega arith
used_more (None ∷ d) zero None = omega arith
used_more (None ∷ d) zero (Some x) = omega arith
used_more (Some y ∷ d) zero None = omega arith
used_more (Some y ∷ d) zero (Some x) = omega arith
used_more (None ∷ d) (suc place) o = used_more d place o
used_more (Some y ∷ d) (suc place) o = omega (arith, used_more d place o)

pub used_less : (d : Fds) (fd : ℕ) (x : Entry) → fd_at d fd ≡ Some x → used (slice_set d fd None) + 1 ≡ used d
used_less [] fd x is = absurd (let z : ⊥ = cc in z)
used_less (None ∷ d) zero x is = absurd (let z : ⊥ = cc in z)
used_less (Some y ∷ d) zero x is = omega arith
used_less (None ∷ d) (suc fd) x is = used_less d fd x is
used_less (Some y ∷ d) (suc fd) x is = omega (arith, used_less d fd x is)

-- after this call and this reply so many are open: a close that is granted leaves one less
pub record After (call : Call) (u : ℕ) (reply : Reply) (v : ℕ) : Type 0 where
  pub most : v ≤ u + descriptors_wanted call
  pub closed : (fd : ℕ) → call ≡ Close fd → ((reply ≡ Done) × (v + 1 ≤ u)) ⊎ (reply ≡ Refused)

-- any call but a close
pub other_after : (call : Call) (u : ℕ) (reply : Reply) (v : ℕ) → ((fd : ℕ) → call ≡ Close fd → ⊥) → v ≤ u + descriptors_wanted call → After call u reply v
other_after call u reply v other less = record { most = less; closed = λ fd is. absurd (other fd is) }
