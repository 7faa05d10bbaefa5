-- Descriptors as they are seen: what each is open on, changes of one, and the lowest that is free.
use Rattle.std.proofs.Common.{◌≡◌, ℕ, zero, suc, ◌+◌, [], ◌∷◌, Option, Some, None, length, refl, sym, ap, ◌∙◌, arith}
use Rattle.std.specs.Prelude.{replicate, option_map, slice_set, cond, nat_lt}
use Rattle.std.specs.List.{position_or_len}
use Rattle.fd_table.specs.Entries.{OpenFile, entry_at, is_free}
use Rattle.fd_table.specs.Descriptors.{Descriptors, entry_of, lowest_free, HoldsInUse}
use Rattle.fd_table.specs.declared.descriptors.TheConstants.{DESCRIPTORS}
use Rattle.proc_table.specs.Slots.{Slot, at}
use Rattle.proc_table.proofs.Counts.{used_within}
use Rattle.kernel_model.specs.KernelState.{KernelState, fds_of, fds_at}
use Rattle.kernel_model.specs.Sound.{IsSound}
use Rattle.kernel_model.proofs.Held.{held_in_use}
use Rattle.sh_machine.specs.State.{User}
use Rattle.process_model.specs.Seen.{Entry, fd_at, fds_seen}
use Rattle.process_model.specs.Effect.{lowest}
use Rattle.fd_table.proofs.Lists.{some_is}

pub seen_fd : (name : ℕ → Entry) (d : Descriptors) (fd : ℕ) → fd_at (fds_seen name d) fd ≡ option_map name (entry_of d fd)
seen_fd name [] fd = refl
seen_fd name (x ∷ d) zero = refl
seen_fd name (x ∷ d) (suc fd) = seen_fd name d fd

pub seen_set : (name : ℕ → Entry) (d : Descriptors) (fd : ℕ) (x : Option ℕ) → fds_seen name (slice_set d fd x) ≡ slice_set (fds_seen name d) fd (option_map name x)
seen_set name [] fd x = refl
seen_set name (y ∷ d) zero x = refl
seen_set name (y ∷ d) (suc fd) x = ap (λ l. option_map name y ∷ l) (seen_set name d fd x)

first_seen : (name : ℕ → Entry) (d : Descriptors) → position_or_len is_free (fds_seen name d) ≡ position_or_len is_free d
first_seen name [] = refl
first_seen name (None ∷ d) = refl
first_seen name (Some e ∷ d) = ap (λ n. 1 + n) (first_seen name d)

length_seen : (name : ℕ → Entry) (d : Descriptors) → length (fds_seen name d) ≡ length d
length_seen name [] = refl
length_seen name (x ∷ d) = omega (arith, length_seen name d)

pub seen_lowest : (name : ℕ → Entry) (d : Descriptors) → lowest (fds_seen name d) ≡ lowest_free d
seen_lowest name d =
    ap (λ n. cond (nat_lt n (length (fds_seen name d))) (Some n) None) (first_seen name d)
    ∙ ap (λ n. cond (nat_lt (position_or_len is_free d) n) (Some (position_or_len is_free d)) None) (length_seen name d)

-- ---- what a descriptor holds is in use

pub none_open : (n fd e : ℕ) → entry_of (replicate n None) fd ≡ Some e → ⊥
none_open zero fd e is = let z : ⊥ = cc in z
none_open (suc n) zero e is = let z : ⊥ = cc in z
none_open (suc n) (suc fd) e is = none_open n fd e is

pub held_is_used : (k : KernelState User) → IsSound k.table k.entries → (r fd e : ℕ) → entry_of (fds_at k r) fd ≡ Some e → (f : OpenFile) × (entry_at k.entries e ≡ Some f)
held_is_used k sound r fd e is = by (at k.table r) refl
  where
    by : (x : Slot User) → at k.table r ≡ x → (f : OpenFile) × (entry_at k.entries e ≡ Some f)
    by None empty = absurd (none_open DESCRIPTORS fd e (sym (ap (λ y. entry_of (fds_of y) fd) empty) ∙ is))
    by (Some p) there = some_is (entry_at k.entries e) (Rattle.std.proofs.Common.subst (λ (o : Option ℕ). HoldsInUse k.entries o) is (held_in_use k.table k.entries r fd (used_within k.table r p there) sound))
