-- A sound kernel meets what the calls on descriptors ask for.
use Rattle.std.proofs.Common.{◌≡◌, ◌⊎◌, ℕ, zero, suc, ◌<◌, ◌≤◌, [], ◌∷◌, true, false, Option, Some, None, length, get_or, take, drop, refl, sym, ap, subst, ◌∙◌, arith, inl, inr, get_or-set_other}
use Rattle.std.proofs.Math.ListN.{set}
use Rattle.std.proofs.lemmas.List.{get_or_past}
use Rattle.std.proofs.lemmas.Bool.{cases_lt}
use Rattle.std.specs.Prelude.{All, IfSome, ◌*◌}
use Rattle.fd_table.specs.Entries.{Entries}
use Rattle.fd_table.specs.Descriptors.{Descriptors, HoldsInUse, CanCountMore, CountsFit, entry_of, all_held}
use Rattle.fd_table.specs.Holders.{CountHolders}
use Rattle.fd_table.specs.declared.descriptors.TheConstants.{DESCRIPTORS}
use Rattle.fd_table.proofs.Counting.{in_use_if_counted, counts_few}
use Rattle.fd_table.proofs.Holding.{fit_if_few}
use Rattle.proc_table.specs.declared.states.Status.{Status}
use Rattle.proc_table.specs.declared.states.Status.TheVariants.{Runnable, Running, Asleep, Zombie}
use Rattle.proc_table.specs.Slots.{Table, Slot, Process, at, is_zombie, is_zombie_status, is_running, is_running_status}
use Rattle.proc_table.specs.Calls.{lowest_free}
use Rattle.proc_table.proofs.Changes.{was_free}
use Rattle.proc_table.proofs.Counts.{used_within}
use Rattle.kernel_model.specs.KernelState.{fds_of}
use Rattle.kernel_model.specs.Sound.{tables, IsSound}
use Rattle.kernel_model.proofs.Sound.{split_at, length-map}

pub running_is : {S : Type 0} (x : Slot S) → is_running x ≡ true → (p : Process S) × (x ≡ Some p)
running_is None runs = absurd (let no : ⊥ = cc in no)
running_is (Some p) runs = (p, refl)

pub runs_within : {S : Type 0} (t : Table S) (pid : ℕ) → is_running (at t pid) ≡ true → pid < length t
runs_within t pid runs = let p = running_is (at t pid) runs in used_within t pid p.0 p.1

pub all_in_use : {S : Type 0} (t : Table S) (E : Entries) (pid : ℕ) → pid < length t → IsSound t E → All (HoldsInUse E) (fds_of (at t pid))
all_in_use t E pid within sound =
    in_use_if_counted E (take pid (tables t)) (drop (suc pid) (tables t)) (fds_of (at t pid)) (subst (CountHolders E) (split_at t pid within) sound.counts)

not_zombie_status : (s : Status) → is_running_status s ≡ true → is_zombie_status s ≡ false
not_zombie_status Runnable runs = absurd (let z : ⊥ = cc in z)
not_zombie_status (Running h) runs = refl
not_zombie_status (Asleep c) runs = absurd (let z : ⊥ = cc in z)
not_zombie_status Zombie runs = absurd (let z : ⊥ = cc in z)

pub not_zombie : {S : Type 0} (x : Slot S) → is_running x ≡ true → is_zombie x ≡ false
not_zombie None runs = refl
not_zombie (Some p) runs = not_zombie_status p.status runs

-- what holds of the process holds of the slot
pub told : {S : Type 0} (x : Slot S) (fds : Descriptors) → is_running x ≡ true → IfSome x (λ p. fds ≡ p.fds) → fds ≡ fds_of x
told None fds runs is = absurd (let z : ⊥ = cc in z)
told (Some p) fds runs is = is

table_at : {S : Type 0} (t : Table S) (k : ℕ) (d : Descriptors) → k < length t → get_or (tables t) k d ≡ fds_of (at t k)
table_at [] k d within = absurd (omega arith)
table_at (x ∷ t) zero d within = refl
table_at (x ∷ t) (suc k) d within = table_at t k d (omega arith)

pub all_long : {S : Type 0} (t : Table S) (E : Entries) → IsSound t E → All (λ fds. length fds ≡ DESCRIPTORS) (tables t)
all_long t E sound = λ k d within. ap length (table_at t k d (omega (arith, length-map fds_of t))) ∙ sound.places k

-- a copy of the descriptors of a process can be counted
pub copy_fits : {S : Type 0} (t : Table S) (E : Entries) (pid : ℕ) → IsSound t E → CountsFit (all_held E (fds_of (at t pid)))
copy_fits t E pid sound =
    fit_if_few E (fds_of (at t pid)) (DESCRIPTORS * length (tables t)) (counts_few E DESCRIPTORS (tables t) (all_long t E sound) sound.counts) (omega (arith, sound.places pid, sound.slots, length-map fds_of t))

-- no entry counts so many descriptors that one more doesn't fit
pub one_more_fits : {S : Type 0} (t : Table S) (E : Entries) (entry : Option ℕ) → IsSound t E → CanCountMore E entry
one_more_fits t E None sound = tt
one_more_fits t E (Some e) sound =
    omega (arith, counts_few E DESCRIPTORS (tables t) (all_long t E sound) sound.counts e, sound.slots, length-map fds_of t)

-- what a descriptor holds is in use
pub held_in_use : {S : Type 0} (t : Table S) (E : Entries) (pid fd : ℕ) → pid < length t → IsSound t E → HoldsInUse E (entry_of (fds_of (at t pid)) fd)
held_in_use t E pid fd within sound = by (cases_lt fd (length (fds_of (at t pid)))) where
  by : (fd < length (fds_of (at t pid))) ⊎ (length (fds_of (at t pid)) ≤ fd) → HoldsInUse E (entry_of (fds_of (at t pid)) fd)
  by (inl lt) = all_in_use t E pid within sound fd None lt
  by (inr ge) = let P : Option ℕ → Type 0 = λ x. HoldsInUse E x in subst P (sym (get_or_past (fds_of (at t pid)) fd None ge)) tt

-- a fork leaves its parent as it was
pub fork_keeps : {S : Type 0} (t : Table S) (child pid : ℕ) (x : Slot S) → lowest_free t ≡ Some child → is_running (at t pid) ≡ true → at (set t child x) pid ≡ at t pid
fork_keeps t child pid x found runs =
    get_or-set_other t child pid x None (λ is. let no_child : is_running (at t pid) ≡ false = ap (λ (k : ℕ). is_running (at t k)) is ∙ ap is_running (was_free t child found) in let z : ⊥ = cc in z)
