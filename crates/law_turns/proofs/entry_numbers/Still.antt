-- What of a kernel shows nothing of its entries' numbers: its outcome, who can run, and that it is still.
use Rattle.std.proofs.Common.{◌≡◌, ℕ, ◌+◌, ◌≤◌, [], ◌∷◌, Option, Some, None, length, refl, sym, ap, subst, ◌∙◌}
use Rattle.std.proofs.lemmas.List.{length-map}
use Rattle.std.proofs.lemmas.List.Sums.{sum_by-cons}
use Rattle.std.specs.Prelude.{map}
use Rattle.fd_table.specs.Entries.{OpenFile, Entries, entry_at, offset_of}
use Rattle.fd_table.specs.Descriptors.{Descriptors, holders_in}
use Rattle.fd_table.specs.Holders.{CountHolders, HasHolders, holders}
use Rattle.fd_table.proofs.Lists.{same_items}
use Rattle.mem_files.specs.Listing.{max_size}
use Rattle.proc_table.specs.Slots.{Slot, Table, at, is_zombie, is_running}
use Rattle.kernel_model.specs.KernelState.{KernelState, fds_of}
use Rattle.kernel_model.specs.Sound.{IsSound, tables}
use Rattle.kernel_model.specs.Events.{IsFinished}
use Rattle.kernel_model.specs.Idle.{idle_slot, renamed_entry, idle_kernel}
use Rattle.kernel_model.specs.Alike.{HasNamesUpTo, IsStill}
use Rattle.kernel_model.specs.Outcome.{SameOutcome, outcome_of}
use Rattle.law_turns.proofs.orders.Entries.{entry_renamed}
use Rattle.law_turns.proofs.orders.Tables.{map_swap, count_map}
use Rattle.kernel_model.specs.Numbers.{Numbering, AreRenumbered, SameButNumbers, renumbered, renumbered_place, renumbered_fds, renumbered_slot, renumbered_table}
use Rattle.law_turns.proofs.entry_numbers.Tables.{same_holders, slot_fds, slot_running, slot_zombie, at_slot, table_fds}

-- ---- the outcome

free_before : {S : Type 0} (to : ℕ → ℕ) (x : Slot S) → renumbered_slot to x ≡ None → x ≡ None
free_before to None is = refl
free_before to (Some p) is = absurd (let z : ⊥ = cc in z)

-- each process is the same but for the numbers that its descriptors hold
pub slots_so : {S : Type 0} (k l : KernelState S) (pid : ℕ) (a : SameButNumbers k l) → at l.table pid ≡ renumbered_slot a.numbering.to (at k.table pid)
slots_so k l pid a = sym (ap (λ (j : KernelState _). at j.table pid) a.is.rest) ∙ at_slot a.numbering.to k.table pid

pub outcome_so : {S : Type 0} (k l : KernelState S) → SameButNumbers k l → SameOutcome k l
outcome_so k l a =
    let to = a.numbering.to in
    let there : IsFinished k → IsFinished l = λ over pid other. slots_so k l pid a ∙ ap (renumbered_slot to) (over pid other) in
    let back : IsFinished l → IsFinished k = λ over pid other. free_before to (at k.table pid) (sym (slots_so k l pid a) ∙ over pid other) in
    record {
      outcome = ap outcome_of a.is.rest;
      input = ap (λ (j : KernelState _). j.input) a.is.rest;
      finished = (there, back);
    }

-- ---- counts

module _ {S : Type 0} (n : Numbering) (t : Table S) (E F : Entries) (are : AreRenumbered n E F) where
  abbrev u : Table S
  u = renumbered_table n.to t

  number_of : (P : ℕ → Type 0) → ((e : ℕ) → P (n.to e)) → (e : ℕ) → P e
  number_of P each e = subst P (n.here e) (each (n.back e))

  holders_so : (v : Table S) (e : ℕ) → holders (tables (renumbered_table n.to v)) (n.to e) ≡ holders (tables v) e
  holders_so [] e = refl
  holders_so (x ∷ v) e =
      sum_by-cons (λ (fds : Descriptors). holders_in fds (n.to e)) (fds_of (renumbered_slot n.to x)) (tables (renumbered_table n.to v)) ∙
      (λ i. (ap (λ (fds : Descriptors). holders_in fds (n.to e)) (slot_fds n.to x) ∙ same_holders n (fds_of x) e) i + holders_so v e i) ∙
      sym (sum_by-cons (λ (fds : Descriptors). holders_in fds e) (fds_of x) (tables v))

  counts_so : CountHolders E (tables t) → CountHolders F (tables u)
  counts_so counts =
      number_of (λ e. HasHolders (entry_at F e) (holders (tables u) e)) (λ e.
      subst (λ (x : Option OpenFile). HasHolders x (holders (tables u) (n.to e))) (sym (are.same e)) (subst (λ (m : ℕ). HasHolders (entry_at E e) m) (sym (holders_so t e)) (counts e)))

  pub sound_so : IsSound t E → IsSound u F
  sound_so sound =
      record {
        counts = counts_so sound.counts;
        slots = length-map t (renumbered_slot n.to) ∙ sound.slots;
        places = λ pid. ap length (table_fds n.to t pid) ∙ length-map (fds_of (at t pid)) (renumbered_place n.to) ∙ sound.places pid;
        zombies = λ pid dead. table_fds n.to t pid ∙ ap (renumbered_fds n.to) (sound.zombies pid (sym (ap is_zombie (at_slot n.to t pid) ∙ slot_zombie n.to (at t pid)) ∙ dead));
        offsets = number_of (λ e. offset_of (entry_at F e) ≤ max_size) (λ e. subst (λ (x : Option OpenFile). offset_of x ≤ max_size) (sym (are.same e)) (sound.offsets e));
      }

-- ---- names of pipes

pub idle_so : {S : Type 0} (to name : ℕ → ℕ) (x : Slot S) → idle_slot name (renumbered_slot to x) ≡ renumbered_slot to (idle_slot name x)
idle_so to name None = refl
idle_so to name (Some p) = refl

module _ {S : Type 0} (n : Numbering) (k : KernelState S) (E : Entries) (are : AreRenumbered n k.entries E) where
  names_so : (last : ℕ) → HasNamesUpTo last k → HasNamesUpTo last (renumbered n.to E k)
  names_so last names f g one two agree =
      let same : idle_kernel f 0 k ≡ idle_kernel g 0 k = names f g one two agree in
      let table = λ (name : ℕ → ℕ). map_swap (idle_slot {S = S} name) (renumbered_slot n.to) (idle_slot name) (renumbered_slot n.to) (idle_so n.to name) k.table in
      let tables_agree : map (idle_slot f) (renumbered_table n.to k.table) ≡ map (idle_slot g) (renumbered_table n.to k.table) =
      table f ∙ ap (λ (j : KernelState S). renumbered_table n.to j.table) same ∙ sym (table g) in
      let entry : (e : ℕ) → renamed_entry f (entry_at k.entries e) ≡ renamed_entry g (entry_at k.entries e) = λ e. sym (entry_renamed f k.entries e) ∙ ap (λ (j : KernelState S). entry_at j.entries e) same ∙ entry_renamed g k.entries e in
      let entries_agree : map (renamed_entry f) E ≡ map (renamed_entry g) E =
      same_items (map (renamed_entry f) E) (map (renamed_entry g) E) None (length-map E (renamed_entry f) ∙ sym (length-map E (renamed_entry g))) (λ e.
      entry_renamed f E e ∙ subst (λ (d : ℕ). renamed_entry f (entry_at E d) ≡ renamed_entry g (entry_at E d)) (n.here e)
      (ap (renamed_entry f) (are.same (n.back e)) ∙ entry (n.back e) ∙ sym (ap (renamed_entry g) (are.same (n.back e)))) ∙ sym (entry_renamed g E e)) in
      λ i. record (same i) { table = tables_agree i; entries = entries_agree i }

  still_under : IsStill k → IsStill (renumbered n.to E k)
  still_under still =
      record {
        idle = count_map is_running is_running (renumbered_slot n.to) (slot_running n.to) k.table ∙ still.idle;
        sound = sound_so n k.table k.entries E are still.sound;
        files = still.files;
        names = names_so k.events still.names;
      }

pub still_so : {S : Type 0} (k l : KernelState S) → SameButNumbers k l → IsStill k → IsStill l
still_so k l a still = subst (λ (j : KernelState _). IsStill j) a.is.rest (still_under a.numbering k l.entries a.is.entries still)

pub sound_same : {S : Type 0} (k l : KernelState S) → SameButNumbers k l → IsSound k.table k.entries → IsSound l.table l.entries
sound_same k l a sound = subst (λ (j : KernelState _). IsSound j.table j.entries) a.is.rest (sound_so a.numbering k.table k.entries l.entries a.is.entries sound)
