-- The kernel between the two steps of a link is still if the kernels on both sides are.
use Rattle.std.proofs.Common.{◌≡◌, ℕ, suc, ◌+◌, ◌≤◌, [], ◌∷◌, false, Option, Some, None, length, refl, sym, ap, subst, ◌∙◌}
use Rattle.std.proofs.lemmas.List.{length-map}
use Rattle.std.proofs.lemmas.List.Sums.{sum_by-cons}
use Rattle.std.specs.Prelude.{map, cond, count_by}
use Rattle.fd_table.specs.Entries.{OpenFile, Entries, entry_at, offset_of}
use Rattle.fd_table.specs.Holders.{HasHolders, holders}
use Rattle.fd_table.proofs.Lists.{same_items}
use Rattle.mem_files.specs.Listing.{max_size}
use Rattle.proc_table.specs.declared.states.Channel.{Channel}
use Rattle.proc_table.specs.declared.states.Channel.TheVariants.{PipeBytes, PipeRoom, Children}
use Rattle.proc_table.specs.declared.states.Status.{Status}
use Rattle.proc_table.specs.declared.states.Status.TheVariants.{Runnable, Running, Asleep, Zombie}
use Rattle.proc_table.specs.Slots.{Slot, Table, at, is_zombie, is_zombie_status, is_running, is_running_status}
use Rattle.kernel_model.specs.KernelState.{KernelState, fds_of}
use Rattle.kernel_model.specs.Sound.{IsSound, tables}
use Rattle.kernel_model.proofs.Sound.{near_sound}
use Rattle.kernel_model.specs.Idle.{renamed_channel, idle_status, idle_slot, idle_kernel, renamed_entry}
use Rattle.kernel_model.specs.Alike.{HasNamesUpTo, IsStill}
use Rattle.kernel_model.specs.Woke.{woke, woke_status, woke_slot, woke_table}
use Rattle.kernel_model.specs.Numbers.{Numbering, renumbered_place}
use Rattle.kernel_model.specs.Anyhow.{AlikeAnyhow}
use Rattle.kernel_model.specs.Slots.{moved_channel, moved_status, moved_process, moved_slot, IsZombieOf, IsMoved, same, zombies, SameButSlots}
use Rattle.law_turns.proofs.orders.Entries.{entry_renamed}
use Rattle.law_turns.proofs.orders.Follow.{none_runs}
use Rattle.law_turns.proofs.orders.Tables.{at_idle}
use Rattle.law_turns.proofs.private_turns.Woken.{at_woke}
use Rattle.law_turns.proofs.entry_numbers.Still.{sound_same}
use Rattle.law_turns.proofs.slot_numbers.Same.{same_back}

-- ---- counts, which are the same whoever sleeps, whatever numbers entries have and whatever pipes are called

shown_fds : {S : Type 0} (name : ℕ → ℕ) (x : Slot S) → fds_of (idle_slot name (woke_slot x)) ≡ fds_of x
shown_fds name None = refl
shown_fds name (Some p) = refl

zombie_shown : (name : ℕ → ℕ) (s : Status) → is_zombie_status (idle_status name (woke_status s)) ≡ is_zombie_status s
zombie_shown name Runnable = refl
zombie_shown name (Running h) = refl
zombie_shown name (Asleep c) = refl
zombie_shown name Zombie = refl

shown_zombie : {S : Type 0} (name : ℕ → ℕ) (x : Slot S) → is_zombie (idle_slot name (woke_slot x)) ≡ is_zombie x
shown_zombie name None = refl
shown_zombie name (Some p) = zombie_shown name p.status

held_named : (name : ℕ → ℕ) (x : Option OpenFile) (n : ℕ) → HasHolders x n → HasHolders (renamed_entry name x) n
held_named name None n has = has
held_named name (Some f) n has = has

held_unnamed : (name : ℕ → ℕ) (x : Option OpenFile) (n : ℕ) → HasHolders (renamed_entry name x) n → HasHolders x n
held_unnamed name None n has = has
held_unnamed name (Some f) n has = has

offset_named : (name : ℕ → ℕ) (x : Option OpenFile) → offset_of (renamed_entry name x) ≡ offset_of x
offset_named name None = refl
offset_named name (Some f) = refl

module _ {S : Type 0} (name : ℕ → ℕ) (t : Table S) (E : Entries) where
  -- the table as if nobody slept or ran
  abbrev shown : Table S
  shown = map (idle_slot name) (woke_table t)

  shown_long : length shown ≡ length t
  shown_long = length-map (woke_table t) (idle_slot name) ∙ length-map t woke_slot

  at_shown : (pid : ℕ) → at shown pid ≡ idle_slot name (woke_slot (at t pid))
  at_shown pid = at_idle name (woke_table t) pid ∙ ap (idle_slot name) (at_woke t pid)

  fds_shown : (pid : ℕ) → fds_of (at shown pid) ≡ fds_of (at t pid)
  fds_shown pid = ap fds_of (at_shown pid) ∙ shown_fds name (at t pid)

  dead_shown : (pid : ℕ) → is_zombie (at shown pid) ≡ is_zombie (at t pid)
  dead_shown pid = ap is_zombie (at_shown pid) ∙ shown_zombie name (at t pid)

  sound_shown : IsSound t E → IsSound shown (map (renamed_entry name) E)
  sound_shown sound =
      let near = near_sound t shown E shown_long (λ pid. record { fds = fds_shown pid; zombie = λ is. sym (dead_shown pid) ∙ is }) sound in
      record {
        counts = λ e. subst (λ (x : Option OpenFile). HasHolders x (holders (tables shown) e)) (sym (entry_renamed name E e)) (held_named name (entry_at E e) (holders (tables shown) e) (near.counts e));
        slots = near.slots;
        places = near.places;
        zombies = near.zombies;
        offsets = λ e. subst (λ (n : ℕ). n ≤ max_size) (sym (ap offset_of (entry_renamed name E e) ∙ offset_named name (entry_at E e))) (near.offsets e);
      }

  sound_hidden : IsSound shown (map (renamed_entry name) E) → IsSound t E
  sound_hidden sound =
      let near = near_sound shown t (map (renamed_entry name) E) (sym shown_long) (λ pid. record { fds = sym (fds_shown pid); zombie = λ is. dead_shown pid ∙ is }) sound in
      record {
        counts = λ e. held_unnamed name (entry_at E e) (holders (tables t) e) (subst (λ (x : Option OpenFile). HasHolders x (holders (tables t) e)) (entry_renamed name E e) (near.counts e));
        slots = near.slots;
        places = near.places;
        zombies = near.zombies;
        offsets = λ e. subst (λ (n : ℕ). n ≤ max_size) (ap offset_of (entry_renamed name E e) ∙ offset_named name (entry_at E e)) (near.offsets e);
      }

pub sound_anyhow : {S : Type 0} (k l : KernelState S) → AlikeAnyhow k l → IsSound k.table k.entries → IsSound l.table l.entries
sound_anyhow k l a sound =
    sound_hidden a.second l.table l.entries (sound_same (idle_kernel a.first 0 (woke k)) (idle_kernel a.second 0 (woke l)) a.same (sound_shown a.first k.table k.entries sound))

-- ---- who runs, and what names pipes have, under other numbers of slots

running_status : (to : ℕ → ℕ) (s : Status) → is_running_status (moved_status to s) ≡ is_running_status s
running_status to Runnable = refl
running_status to (Running h) = refl
running_status to (Asleep c) = refl
running_status to Zombie = refl

running_slot : {S : Type 0} (to : ℕ → ℕ) (x : Slot S) → is_running (moved_slot to x) ≡ is_running x
running_slot to None = refl
running_slot to (Some p) = running_status to p.status

running_moved : {S : Type 0} (to : ℕ → ℕ) (x y : Slot S) → IsMoved to x y → is_running x ≡ false → is_running y ≡ false
running_moved to x y (same is) none = ap is_running is ∙ running_slot to x ∙ none
running_moved to x y (zombies parent z w) none = ap is_running w.there ∙ ap is_running_status w.dead

named_channel : (f to : ℕ → ℕ) (c : Channel) → renamed_channel f (moved_channel to c) ≡ moved_channel to (renamed_channel f c)
named_channel f to (PipeBytes pipe) = refl
named_channel f to (PipeRoom pipe) = refl
named_channel f to (Children pid) = refl

named_status : (f to : ℕ → ℕ) (s : Status) → idle_status f (moved_status to s) ≡ moved_status to (idle_status f s)
named_status f to Runnable = refl
named_status f to (Running h) = refl
named_status f to (Asleep c) = ap Asleep (named_channel f to c)
named_status f to Zombie = refl

named_slot : {S : Type 0} (f to : ℕ → ℕ) (x : Slot S) → idle_slot f (moved_slot to x) ≡ moved_slot to (idle_slot f x)
named_slot f to None = refl
named_slot f to (Some p) = λ i. Some (record (moved_process to p) { status = named_status f to p.status i })

zombie_named : {S : Type 0} (f g : ℕ → ℕ) (parent : Option ℕ) (x : Slot S) → IsZombieOf parent x → idle_slot f x ≡ idle_slot g x
zombie_named f g parent x z = ap (idle_slot f) z.there ∙ (λ i. Some (record z.process { status = (ap (idle_status f) z.dead ∙ sym (ap (idle_status g) z.dead)) i })) ∙ sym (ap (idle_slot g) z.there)

names_moved : {S : Type 0} (f g to : ℕ → ℕ) (x y : Slot S) → IsMoved to x y → idle_slot f x ≡ idle_slot g x → idle_slot f y ≡ idle_slot g y
names_moved f g to x y (same is) agree = ap (idle_slot f) is ∙ named_slot f to x ∙ ap (moved_slot to) agree ∙ sym (named_slot g to x) ∙ sym (ap (idle_slot g) is)
names_moved f g to x y (zombies parent z w) agree = zombie_named f g (renumbered_place to parent) y w

none_counted : {S : Type 0} (t : Table S) → ((pid : ℕ) → is_running (at t pid) ≡ false) → count_by is_running t ≡ 0
none_counted [] each = refl
none_counted (x ∷ t) each = sum_by-cons (λ (y : Slot _). cond {A = ℕ} (is_running y) 1 0) x t ∙ (λ i. cond {A = ℕ} (each 0 i) 1 0 + none_counted t (λ pid. each (suc pid)) i)

module _ {S : Type 0} (k l : KernelState S) (a : SameButSlots k l) (still : IsStill k) where
  abbrev n : Numbering
  n = a.numbering

  -- each slot of l is what one of k's became
  each_slot : (P : Slot S → Type 0) → ((pid : ℕ) → P (at l.table (n.to pid))) → (pid : ℕ) → P (at l.table pid)
  each_slot P each pid = subst (λ (i : ℕ). P (at l.table i)) (n.here pid) (each (n.back pid))

  nobody : count_by is_running l.table ≡ 0
  nobody =
      none_counted l.table
      (each_slot (λ x. is_running x ≡ false) (λ pid. running_moved n.to (at k.table pid) (at l.table (n.to pid)) (a.moved.slots pid) (none_runs k.table pid still.idle)))

  names_so : HasNamesUpTo k.events (record k { table = l.table })
  names_so f g one two agree =
      let it : idle_kernel f 0 k ≡ idle_kernel g 0 k = still.names f g one two agree in
      let mine : (pid : ℕ) → idle_slot f (at k.table pid) ≡ idle_slot g (at k.table pid) = λ pid. sym (at_idle f k.table pid) ∙ ap (λ (j : KernelState S). at j.table pid) it ∙ at_idle g k.table pid in
      let its : (pid : ℕ) → idle_slot f (at l.table pid) ≡ idle_slot g (at l.table pid) =
      each_slot (λ x. idle_slot f x ≡ idle_slot g x) (λ pid. names_moved f g n.to (at k.table pid) (at l.table (n.to pid)) (a.moved.slots pid) (mine pid)) in
      let tables_agree : map (idle_slot f) l.table ≡ map (idle_slot g) l.table =
      same_items (map (idle_slot f) l.table) (map (idle_slot g) l.table) None (length-map l.table (idle_slot f) ∙ sym (length-map l.table (idle_slot g)))
      (λ pid. at_idle f l.table pid ∙ its pid ∙ sym (at_idle g l.table pid)) in
      λ i. record (it i) { table = tables_agree i }

  -- l is still if its counts are right
  pub still_moved : IsSound l.table l.entries → IsStill l
  still_moved sound =
      subst (λ (j : KernelState S). IsStill j) a.rest
      (record {
        idle = nobody;
        sound = subst (IsSound l.table) (sym (ap (λ (j : KernelState S). j.entries) a.rest)) sound;
        files = still.files;
        names = names_so;
      })

pub still_between : {S : Type 0} (k j l : KernelState S) → AlikeAnyhow k j → SameButSlots j l → IsStill k → IsStill l → IsStill j
still_between k j l alike slots still_k still_l = still_moved l j (same_back j l slots) still_l (sound_anyhow k j alike still_k.sound)
