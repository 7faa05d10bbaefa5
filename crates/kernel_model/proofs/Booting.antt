-- The kernel at its start is sound, and no process runs in it.
use Rattle.std.proofs.Common.{◌≡◌, ℕ, zero, suc, ◌<◌, List, [], ◌∷◌, ◌++◌, false, Some, None, length, refl, sym, ap, subst, ◌∙◌, arith}
use Rattle.std.specs.Prelude.{replicate, IsSome, count_by}
use Rattle.fd_table.specs.declared.entries.TheConstants.{ENTRIES}
use Rattle.fd_table.specs.declared.descriptors.TheConstants.{DESCRIPTORS}
use Rattle.fd_table.specs.declared.names.Object.{Object}
use Rattle.fd_table.specs.declared.names.Object.TheVariants.{Input, Out, Diag}
use Rattle.fd_table.specs.Entries.{Entries, entry_at, offset_of, added, lowest_free_entry}
use Rattle.fd_table.specs.Descriptors.{Descriptors, installed, lowest_free}
use Rattle.fd_table.specs.Holders.{CountHolders}
use Rattle.fd_table.proofs.Counting.{new_counted, closed_table_counted, add_kept, length-installed_at}
use Rattle.proc_table.specs.Slots.{Table, Slot, Process, at, is_zombie, is_running}
use Rattle.proc_table.specs.Calls.{boot_table, booted, with_fds, fds_set}
use Rattle.kernel_model.specs.KernelState.{fds_of}
use Rattle.kernel_model.specs.Sound.{tables, IsSound}
use Rattle.kernel_model.specs.Boot.{boot_kernel}
use Rattle.kernel_model.proofs.Keeps.{slot_sound}
use Rattle.kernel_model.proofs.Offsets.{added_small}

-- no descriptor of n free slots is open
free_tables : (S : Type 0) (E : Entries) (n : ℕ) → CountHolders E [] → CountHolders E (tables {S = S} (replicate n None))
free_tables S E zero counts = counts
free_tables S E (suc n) counts = closed_table_counted E DESCRIPTORS [] (tables (replicate {A = Slot S} n None)) (free_tables S E n counts)

all_free : (n e : ℕ) → offset_of (entry_at (replicate n None) e) ≡ 0
all_free zero e = refl
all_free (suc n) zero = refl
all_free (suc n) (suc e) = all_free n e

free_count : (S : Type 0) (n q : ℕ) → fds_of (at {S = S} (replicate n None) q) ≡ replicate DESCRIPTORS None
free_count S zero q = refl
free_count S (suc n) zero = refl
free_count S (suc n) (suc q) = free_count S n q

module _ {S : Type 0} (init shell : S) where
  closed_places : (q : ℕ) → fds_of (at (boot_table init shell) q) ≡ replicate DESCRIPTORS None
  closed_places zero = refl
  closed_places (suc zero) = refl
  closed_places (suc (suc q)) = free_count S 62 q

  closed_sound : IsSound (boot_table init shell) (replicate ENTRIES None)
  closed_sound =
      let E : Entries = replicate ENTRIES None in
      record {
        counts = closed_table_counted E DESCRIPTORS [] (replicate DESCRIPTORS None ∷ tables (replicate {A = Slot S} 62 None)) (closed_table_counted E DESCRIPTORS [] (tables (replicate {A = Slot S} 62 None)) (free_tables S E 62 (new_counted ENTRIES)));
        slots = refl;
        places = λ q. ap length (closed_places q);
        zombies = λ q dead. closed_places q;
        offsets = λ e. omega (arith, all_free ENTRIES e);
      }

-- an object is opened for a process that is no zombie
pub give_sound : {S : Type 0} (t : Table S) (pid e : ℕ) (E : Entries) (object : Object) (p : Process S) → pid < length t → at t pid ≡ Some p → is_zombie (Some p) ≡ false → lowest_free_entry E ≡ Some e → IsSome (lowest_free (fds_of (at t pid))) → IsSound t E → IsSound (fds_set t pid (installed (fds_of (at t pid)) e)) (added E object)
give_sound t pid e E object p within is live found some sound =
    let fds = installed (fds_of (at t pid)) e in
    let now : fds_of (with_fds fds (at t pid)) ≡ fds = ap (λ (y : Slot _). fds_of (with_fds fds y)) is in
    let P : Descriptors → Type 0 = λ l. (before after : List Descriptors) → CountHolders E (before ++ fds_of (at t pid) ∷ after) → CountHolders (added E object) (before ++ l ∷ after) in
    slot_sound t pid (with_fds fds (at t pid)) E (added E object) within
    (subst P (sym now) (λ before after. add_kept E before after (fds_of (at t pid)) e object found some))
    (ap length now ∙ length-installed_at (fds_of (at t pid)) (lowest_free (fds_of (at t pid))) e ∙ sound.places pid)
    (ap (λ (y : Slot _). is_zombie (with_fds fds y)) is ∙ live)
    (added_small E (lowest_free_entry E) object sound.offsets) sound

pub boot_sound : {S : Type 0} (init shell : S) (input : List ℕ) (list : List (List ℕ × List ℕ)) → IsSound (boot_kernel init shell input list).table (boot_kernel init shell input list).entries
boot_sound init shell input list =
    let zero_open = closed_sound init shell in
    let one_open = give_sound (boot_table init shell) 1 0 (replicate ENTRIES None) Input (booted (Some 0) shell) (omega arith) refl refl refl refl zero_open in
    let E1 : Entries = added (replicate ENTRIES None) Input in
    let t1 = fds_set (boot_table init shell) 1 (installed (replicate DESCRIPTORS None) 0) in
    let two_open = give_sound t1 1 1 E1 Out _ (omega arith) refl refl refl refl one_open in
    let E2 : Entries = added E1 Out in
    let t2 = fds_set t1 1 (installed (installed (replicate DESCRIPTORS None) 0) 1) in
    give_sound t2 1 2 E2 Diag _ (omega arith) refl refl refl refl two_open

pub nobody_runs : {S : Type 0} (init shell : S) (input : List ℕ) (list : List (List ℕ × List ℕ)) → count_by is_running (boot_kernel init shell input list).table ≡ 0
nobody_runs init shell input list = refl
