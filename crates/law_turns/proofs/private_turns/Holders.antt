-- Whoever else holds an entry, in a kernel whose counts are right.
use Rattle.std.proofs.Common.{◌≡◌, ◌≢◌, ℕ, zero, suc, ◌+◌, ◌<◌, ◌≤◌, [], ◌∷◌, Option, Some, None, refl, sym, ap, ◌∙◌, arith}
use Rattle.std.proofs.lemmas.Bool.{eq-eqb}
use Rattle.std.proofs.lemmas.List.Sums.{sum_by-cons}
use Rattle.std.specs.Prelude.{replicate}
use Rattle.fd_table.specs.Entries.{OpenFile, Entries, entry_at, count_of}
use Rattle.fd_table.specs.Descriptors.{Descriptors, entry_of, is_entry, holders_in}
use Rattle.fd_table.specs.declared.descriptors.TheConstants.{DESCRIPTORS}
use Rattle.fd_table.specs.Holders.{holders, HasHolders}
use Rattle.fd_table.proofs.Lists.{within_list}
use Rattle.proc_table.specs.Slots.{Slot, Table, Process, at}
use Rattle.kernel_model.specs.KernelState.{fds_of}
use Rattle.kernel_model.specs.Sound.{IsSound, tables}
use Rattle.law_kernel.proofs.kernel.Held.{there_is_counted}
use Rattle.law_turns.proofs.private_turns.Staying.{Holds}

pub holds_one : (fds : Descriptors) (fd e : ℕ) → entry_of fds fd ≡ Some e → 1 ≤ holders_in fds e
holds_one fds fd e is = there_is_counted (is_entry e) fds fd None (within_list fds fd e is) (ap (is_entry e) is ∙ eq-eqb e e refl)

pub free_holds_none : (e : ℕ) → holders_in (replicate DESCRIPTORS None) e ≡ 0
free_holds_none e = refl

counted_as : (x : Option OpenFile) (n : ℕ) → HasHolders x n → count_of x ≡ n
counted_as None n h = sym h
counted_as (Some f) n h = h.0

open_as : (x : Option OpenFile) (n need : ℕ) → HasHolders x n → 0 < need → need ≤ n → (f : OpenFile) × (x ≡ Some f) × (need ≤ f.count)
open_as None n need h some enough = absurd (omega (arith, h, some, enough))
open_as (Some f) n need h some enough = (f, refl, omega (arith, h.0, enough))

module _ {S : Type 0} (e : ℕ) where
  abbrev of : Slot S → ℕ
  of x = holders_in (fds_of x) e

  abbrev all : Table S → ℕ
  all t = holders (tables t) e

  all_cons : (x : Slot S) (t : Table S) → all (x ∷ t) ≡ of x + all t
  all_cons x t = sum_by-cons (λ (fds : Descriptors). holders_in fds e) (fds_of x) (tables t)

  one_holder : (t : Table S) (p : ℕ) → of (at t p) ≤ all t
  one_holder [] p = omega (arith, free_holds_none e)
  one_holder (x ∷ t) zero = omega (arith, all_cons x t)
  one_holder (x ∷ t) (suc p) = omega (arith, all_cons x t, one_holder t p)

  pub two_holders : (t : Table S) (p q : ℕ) → p ≢ q → of (at t p) + of (at t q) ≤ all t
  two_holders [] p q ne = omega (arith, free_holds_none e)
  two_holders (x ∷ t) zero zero ne = absurd (ne refl)
  two_holders (x ∷ t) zero (suc q) ne = omega (arith, all_cons x t, one_holder t q)
  two_holders (x ∷ t) (suc p) zero ne = omega (arith, all_cons x t, one_holder t p)
  two_holders (x ∷ t) (suc p) (suc q) ne = omega (arith, all_cons x t, two_holders t p q (λ same. ne (ap suc same)))

  module _ (t : Table S) (E : Entries) (sound : IsSound t E) (p need : ℕ) (x : Process S) (h : Holds x (at t p)) (some : 0 < need) (enough : need ≤ holders_in x.fds e) where
    held_by : of (at t p) ≡ holders_in x.fds e
    held_by = ap of h.there ∙ ap (λ (d : Descriptors). holders_in d e) h.fds

    pub is_open : (f : OpenFile) × (entry_at E e ≡ Some f) × (need ≤ f.count)
    is_open = open_as (entry_at E e) (all t) need (sound.counts e) some (omega (arith, one_holder t p, held_by, enough))

    pub is_safe : (q fd : ℕ) → q ≢ p → entry_of (fds_of (at t q)) fd ≡ Some e → need < count_of (entry_at E e)
    is_safe q fd ne is =
        omega (arith, two_holders t p q (λ same. ne (sym same)), held_by, enough, holds_one (fds_of (at t q)) fd e is, counted_as (entry_at E e) (all t) (sound.counts e))
