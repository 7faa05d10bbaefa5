-- What a change leaves to another process that sleeps: its call, its descriptors, and the objects that these hold.
use Rattle.std.proofs.Common.{◌≡◌, ◌≢◌, ◌⊎◌, ℕ, zero, suc, ◌+◌, ◌-◌, ◌<◌, ◌≤◌, List, [], ◌∷◌, Bool, true, false, Option, Some, None, length, get_or, refl, sym, ap, ◌∙◌, inl, inr, arith, get_or-set_other}
use Rattle.std.proofs.Math.ListN.{set}
use Rattle.std.proofs.lemmas.Bool.{cases_eq, eq-eqb, leb-true}
use Rattle.std.proofs.lemmas.List.Sums.{sum_by-cons, get_or-le-sum_by}
use Rattle.std.specs.Prelude.{nat_le, sum_by, if◌then◌else◌}
use Rattle.fd_table.specs.declared.names.Object.{Object}
use Rattle.fd_table.specs.Entries.{Entries, OpenFile, entry_at, is_free, more_held, less_held, moved_on, going_on_at, added_at, advanced, moved_to, lowest_free_entry, opened}
use Rattle.fd_table.specs.Descriptors.{Descriptors, entry_of, is_entry, holders_in, all_held, held_by_dup, released_by_close}
use Rattle.fd_table.specs.Holders.{holders, HasHolders}
use Rattle.fd_table.proofs.Lists.{position_found, within_list}
use Rattle.fd_table.proofs.Holding.{entry_at-all_held}
use Rattle.proc_table.specs.declared.states.Channel.{Channel}
use Rattle.proc_table.specs.declared.states.Status.TheVariants.{Asleep}
use Rattle.proc_table.specs.Slots.{Table, Slot, Process, at}
use Rattle.proc_table.specs.Calls.{woken, given, parent_after, woken_status}
use Rattle.kernel_model.specs.KernelState.{fds_of}
use Rattle.kernel_model.specs.Sound.{IsSound, tables}
use Rattle.kernel_model.proofs.Sound.{length-map}
use Rattle.law_kernel.proofs.kernel.Held.{table_of, there_is_counted}
use Rattle.law_kernel.proofs.kernel.Slots.{sleeps_on}
use Rattle.law_kernel.specs.Outcome.{object_of}

-- ---- the slot

-- who sleeps now slept before, with the same call and the same descriptors
pub record SlotKept {S : Type 0} (x : Slot S) (now : Process S) (c : Channel) : Type 0 where
  pub p : Process S
  pub was : x ≡ Some p
  pub asleep : p.status ≡ Asleep c
  pub machine : now.machine ≡ p.machine
  pub reply : now.reply ≡ p.reply
  pub put : now.put ≡ p.put
  pub fds : now.fds ≡ p.fds

abbrev pub Kept : {S : Type 0} → Slot S → Slot S → Type 0
Kept x y = (now : Process _) (c : Channel) → y ≡ Some now → now.status ≡ Asleep c → SlotKept x now c

pub kept_same : {S : Type 0} (x y : Slot S) → y ≡ x → Kept x y
kept_same x y same now c is sleeps = record { p = now; was = sym same ∙ is; asleep = sleeps; machine = refl; reply = refl; put = refl; fds = refl }

abbrev pub slot_then : {S : Type 0} (x y : Slot S) (now : Process S) (c : Channel) (b : SlotKept y now c) → SlotKept x b.p c → SlotKept x now c
slot_then x y now c b a =
    record { p = a.p; was = a.was; asleep = a.asleep; machine = b.machine ∙ a.machine; reply = b.reply ∙ a.reply; put = b.put ∙ a.put; fds = b.fds ∙ a.fds }

pub kept_then : {S : Type 0} (x y z : Slot S) → Kept x y → Kept y z → Kept x z
kept_then x y z a b now c is sleeps = let mid = b now c is sleeps in slot_then x y now c mid (a mid.p c mid.was mid.asleep)

pub woken_kept : {S : Type 0} (w : Channel) (x : Slot S) → Kept x (woken w x)
woken_kept w None now c is sleeps = absurd (let z : ⊥ = cc in z)
woken_kept w (Some p) now c is sleeps =
    let it : record p { status = woken_status w p.status } ≡ now = cc in
    let slept = sleeps_on w c (Some p) (ap (λ (q : Process _). q.status) it ∙ sleeps) in
    record {
      p = p;
      was = refl;
      asleep = slept.0;
      machine = ap (λ (q : Process _). q.machine) (sym it);
      reply = ap (λ (q : Process _). q.reply) (sym it);
      put = ap (λ (q : Process _). q.put) (sym it);
      fds = ap (λ (q : Process _). q.fds) (sym it);
    }

pub given_kept : {S : Type 0} (pid : ℕ) (x : Slot S) → Kept x (given pid x)
given_kept pid None now c is sleeps = absurd (let z : ⊥ = cc in z)
given_kept pid (Some p) now c is sleeps =
    let it : record p { parent = parent_after pid p.parent } ≡ now = cc in
    record {
      p = p;
      was = refl;
      asleep = ap (λ (q : Process _). q.status) it ∙ sleeps;
      machine = ap (λ (q : Process _). q.machine) (sym it);
      reply = ap (λ (q : Process _). q.reply) (sym it);
      put = ap (λ (q : Process _). q.put) (sym it);
      fds = ap (λ (q : Process _). q.fds) (sym it);
    }

pub kept_if : {S : Type 0} (b : Bool) (x y z : Slot S) → Kept x y → Kept x z → Kept x (if b then y else z)
kept_if true x y z a c = a
kept_if false x y z a c = c

-- ---- the objects

-- the entries that these descriptors hold have the same objects open
abbrev pub Stay : Entries → Descriptors → Entries → Type 0
Stay E fds now = (fd e : ℕ) (object : Object) → entry_of fds fd ≡ Some e → object_of (entry_at E e) ≡ Some object → object_of (entry_at now e) ≡ Some object

-- one entry is written: it had no object, or has the same one
written_objects : (E : Entries) (e i : ℕ) (x : Option OpenFile) → ((object : Object) → object_of (entry_at E e) ≡ Some object → object_of x ≡ Some object) → (object : Object) → object_of (entry_at E i) ≡ Some object → object_of (entry_at (set E e x) i) ≡ Some object
written_objects [] e i x same object is = is
written_objects (y ∷ E) zero zero x same object is = same object is
written_objects (y ∷ E) zero (suc i) x same object is = is
written_objects (y ∷ E) (suc e) zero x same object is = is
written_objects (y ∷ E) (suc e) (suc i) x same object is = written_objects E e i x same object is

more_object : (n : ℕ) (x : Option OpenFile) (object : Object) → object_of x ≡ Some object → object_of (more_held n x) ≡ Some object
more_object n None object is = is
more_object n (Some f) object is = is

moved_object : (n : ℕ) (x : Option OpenFile) (object : Object) → object_of x ≡ Some object → object_of (moved_on n x) ≡ Some object
moved_object n None object is = is
moved_object n (Some f) object is = is

going_object : (n : ℕ) (x : Option OpenFile) (object : Object) → object_of x ≡ Some object → object_of (going_on_at n x) ≡ Some object
going_object n None object is = is
going_object n (Some f) object is = is

pub advanced_stay : (E : Entries) (fds : Descriptors) (e n : ℕ) → Stay E fds (advanced E e n)
advanced_stay E fds e n fd i object held is = written_objects E e i (moved_on n (entry_at E e)) (moved_object n (entry_at E e)) object is

pub moved_stay : (E : Entries) (fds : Descriptors) (e n : ℕ) → Stay E fds (moved_to E e n)
moved_stay E fds e n fd i object held is = written_objects E e i (going_on_at n (entry_at E e)) (going_object n (entry_at E e)) object is

pub dup_stay : (E : Entries) (fds : Descriptors) (e place : ℕ) → Stay E fds (held_by_dup E (Some e) (Some place))
dup_stay E fds e place fd i object held is = written_objects E e i (more_held 1 (entry_at E e)) (more_object 1 (entry_at E e)) object is

pub fork_stay : (E : Entries) (fds more : Descriptors) → Stay E fds (all_held E more)
fork_stay E fds more fd i object held is = ap object_of (entry_at-all_held E more i) ∙ more_object (holders_in more i) (entry_at E i) object is

was_free : (x : Option OpenFile) (object : Object) → is_free x ≡ true → object_of x ≡ Some object → ⊥
was_free None object free is = cc
was_free (Some f) object free is = cc

pub opened_stay : (E : Entries) (fds : Descriptors) (place : Option ℕ) (new : Object) → lowest_free_entry E ≡ place → Stay E fds (added_at E place new)
opened_stay E fds None new found fd i object held is = is
opened_stay E fds (Some e) new found fd i object held is =
    written_objects E e i (Some (opened new)) (λ o has. absurd (was_free (entry_at E e) o (position_found is_free E None e found).1 has)) object is

-- ---- a close by another process

two_of_sum : {X : Type 0} (f : X → ℕ) (xs : List X) (i j : ℕ) (d : X) → i ≢ j → i < length xs → j < length xs → f (get_or xs i d) + f (get_or xs j d) ≤ sum_by f xs
two_of_sum f [] i j d ne wi wj = absurd (omega arith)
two_of_sum f (x ∷ xs) zero zero d ne wi wj = absurd (ne refl)
two_of_sum f (x ∷ xs) zero (suc j) d ne wi wj = omega (arith, sum_by-cons f x xs, get_or-le-sum_by f xs j d (omega arith))
two_of_sum f (x ∷ xs) (suc i) zero d ne wi wj = omega (arith, sum_by-cons f x xs, get_or-le-sum_by f xs i d (omega arith))
two_of_sum f (x ∷ xs) (suc i) (suc j) d ne wi wj = omega (arith, sum_by-cons f x xs, two_of_sum f xs i j d (λ same. ne (ap suc same)) (omega arith) (omega arith))

holds_one : (fds : Descriptors) (fd e : ℕ) → entry_of fds fd ≡ Some e → 1 ≤ holders_in fds e
holds_one fds fd e held = there_is_counted (is_entry e) fds fd None (within_list fds fd e held) (ap (is_entry e) held ∙ eq-eqb e e refl)

less_object : (x : Option OpenFile) (n : ℕ) (object : Object) → HasHolders x n → 2 ≤ n → object_of x ≡ Some object → object_of (less_held x) ≡ Some object
less_object None n object has two is = is
less_object (Some f) n object has two is = by (nat_le f.count 1) refl where
  by : (b : Bool) → nat_le f.count 1 ≡ b → object_of (if b then None else Some (record { object = f.object; count = f.count - 1; offset = f.offset })) ≡ Some object
  by true few = absurd (omega (arith, leb-true f.count 1 few, has.0, two))
  by false few = is

module _ {S : Type 0} (t : Table S) (E : Entries) (sound : IsSound t E) (pid q : ℕ) (ne : q ≢ pid) (within : pid < length t) (q_within : q < length t) where
  two_holders : (fd other e : ℕ) → entry_of (fds_of (at t pid)) fd ≡ Some e → entry_of (fds_of (at t q)) other ≡ Some e → 2 ≤ holders (tables t) e
  two_holders fd other e mine its =
      let f : Descriptors → ℕ = λ fds. holders_in fds e in
      omega (
        arith,
        two_of_sum f (tables t) q pid [] ne (omega (arith, length-map fds_of t, q_within)) (omega (arith, length-map fds_of t, within)),
        ap f (table_of t q [] (omega (arith, length-map fds_of t, q_within))),
        ap f (table_of t pid [] (omega (arith, length-map fds_of t, within))),
        holds_one (fds_of (at t pid)) fd e mine,
        holds_one (fds_of (at t q)) other e its,
      )

  pub close_stays : (fd : ℕ) (entry : Option ℕ) → entry_of (fds_of (at t pid)) fd ≡ entry → Stay E (fds_of (at t q)) (released_by_close E entry)
  close_stays fd None held other i object its is = is
  close_stays fd (Some e) held other i object its is = by (cases_eq i e) where
    by : (i ≡ e) ⊎ (i ≢ e) → object_of (entry_at (set E e (less_held (entry_at E e))) i) ≡ Some object
    by (inl same) =
        written_objects E e i (less_held (entry_at E e)) (λ o has. less_object (entry_at E e) (holders (tables t) e) o (sound.counts e) (two_holders fd other e held (its ∙ ap Some same)) has) object is
    by (inr differs) = ap object_of (get_or-set_other E e i (less_held (entry_at E e)) None differs) ∙ is
