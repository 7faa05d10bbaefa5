-- A process closes its descriptors one after the other: what the laws of a close ask for holds before each.
use Rattle.std.proofs.Common.{◌≡◌, ◌≢◌, ◌⊎◌, ℕ, zero, suc, ◌-◌, ◌≤◌, [], ◌∷◌, ◌++◌, Bool, true, false, Option, Some, None, length, inl, inr, refl, sym, ap, subst, ◌∙◌, arith, get_or-set_other}
use Rattle.std.proofs.Math.ListN.{set}
use Rattle.std.proofs.Math.Seq.{map-set_same}
use Rattle.std.proofs.lemmas.Bool.{cases_eq}
use Rattle.std.proofs.lemmas.List.Sums.{sum_by-cons}
use Rattle.std.specs.Prelude.{map, cond, count_by, nat_le, if◌then◌else◌, Result, Ok, Err}
use Rattle.user_calls.specs.declared.calls.Call.{Call}
use Rattle.user_calls.specs.declared.calls.Call.TheVariants.{Fork, Exec, Exit, Wait, MakePipe, Read, Write, OpenFile, Close, Dup}
use Rattle.user_calls.specs.declared.calls.Reply.{Reply}
use Rattle.fd_table.specs.declared.faults.FdFault.{FdFault}
use Rattle.fd_table.specs.declared.names.Object.{Object}
use Rattle.fd_table.specs.declared.names.Object.TheVariants.{Input, Out, Diag, File, PipeRead, PipeWrite}
use Rattle.fd_table.specs.Entries.{OpenFile as Opened, Entries, entry_at, is_free as is_free_entry, free_count, less_held}
use Rattle.fd_table.specs.Descriptors.{Descriptors, entry_of, close_answer, after_close, released_by_close}
use Rattle.fd_table.specs.Holders.{CountHolders}
use Rattle.proc_table.specs.declared.states.Channel.{Channel}
use Rattle.proc_table.specs.declared.states.Channel.TheVariants.{PipeBytes, PipeRoom}
use Rattle.proc_table.specs.declared.states.Status.TheVariants.{Runnable}
use Rattle.proc_table.specs.Slots.{Slot, Table, Process, at, is_running, is_zombie}
use Rattle.proc_table.specs.Calls.{with_fds, woken, woken_status}
use Rattle.proc_table.proofs.Changes.{written, kept, mapped}
use Rattle.proc_table.proofs.Counts.{used_within}
use Rattle.kernel_model.specs.KernelState.{KernelState, fds_of, fds_at, file_at}
use Rattle.kernel_model.specs.Descriptors.{let_go_of, taken_away, closed}
use Rattle.kernel_model.proofs.Keeps.{slot_sound}
use Rattle.kernel_model.specs.Idle.{idle_slot, idle_kernel}
use Rattle.kernel_model.specs.Alike.{IsStill, HasNamesUpTo}
use Rattle.kernel_model.specs.Closes.{FindsFree, NobodyElseWrites, IsClosedAtOnce}
use Rattle.law_turns.proofs.orders.Follow.{none_runs}
use Rattle.law_turns.proofs.orders.Tables.{count_map}
use Rattle.law_turns.proofs.private_turns.Staying.{Holds, in_own}
use Rattle.law_turns.proofs.entry_numbers.Entries.{changed_entry}
use Rattle.law_turns.proofs.exits.Touched.{touch, touches, touched_map, idle_touch, touch_fds}

-- ---- the slots after a close of p

module _ {S : Type 0} where
  holds_woken : (c : Channel) (y : Process S) (x : Slot S) → Holds y x → Holds y (woken c x)
  holds_woken c y x h =
      record {
        now = record h.now { status = Runnable };
        there = ap (woken c) h.there ∙ (λ i. Some (record h.now { status = woken_status c (h.ready i) }));
        ready = refl;
        machine = h.machine;
        reply = h.reply;
        fds = h.fds;
        put = h.put;
      }

  -- what holds of a slot and stays so over wake-ups
  pub let_go_keeps : (Q : Slot S → Type 0) → ((c : Channel) (x : Slot S) → Q x → Q (woken c x)) → (q : ℕ) (k : KernelState S) (r : Result (Option Object) FdFault) → Q (at k.table q) → Q (at (let_go_of k r).table q)
  let_go_keeps Q wake q k (Err fault) h = h
  let_go_keeps Q wake q k (Ok None) h = h
  let_go_keeps Q wake q k (Ok (Some Input)) h = h
  let_go_keeps Q wake q k (Ok (Some Out)) h = h
  let_go_keeps Q wake q k (Ok (Some Diag)) h = h
  let_go_keeps Q wake q k (Ok (Some (File name mode))) h = h
  let_go_keeps Q wake q k (Ok (Some (PipeRead id))) h = subst Q (sym (mapped (woken (PipeRoom id)) refl k.table q)) (wake (PipeRoom id) (at k.table q) h)
  let_go_keeps Q wake q k (Ok (Some (PipeWrite id))) h = subst Q (sym (mapped (woken (PipeBytes id)) refl k.table q)) (wake (PipeBytes id) (at k.table q) h)

  pub holds_closed : (k : KernelState S) (p q fd : ℕ) (y : Process S) → p ≢ q → Holds y (at k.table q) → Holds y (at (closed k p fd).table q)
  holds_closed k p q fd y other h =
      let o = entry_of (fds_at k p) fd in
      let_go_keeps (λ x. Holds y x) (λ c x g. holds_woken c y x g) q (taken_away k p fd o) (close_answer k.entries o) (in_own y q p other k.table _ h)

  -- a slot whose process has these descriptors
  pub record Has (fds : Descriptors) (x : Slot S) : Type 0 where
    pub process : Process S
    pub there : x ≡ Some process
    pub same : process.fds ≡ fds

  has_woken : (fds : Descriptors) (c : Channel) (x : Slot S) → Has fds x → Has fds (woken c x)
  has_woken fds c x h = record { process = record h.process { status = woken_status c h.process.status }; there = ap (woken c) h.there; same = h.same }

  -- p's own slot
  pub own_closed : (k : KernelState S) (p fd : ℕ) (y : Process S) → at k.table p ≡ Some y → Has (after_close (fds_at k p) fd (entry_of (fds_at k p) fd)) (at (closed k p fd).table p)
  own_closed k p fd y there =
      let o = entry_of (fds_at k p) fd in
      let now = after_close (fds_at k p) fd o in
      let_go_keeps (λ x. Has now x) (has_woken now) p (taken_away k p fd o) (close_answer k.entries o)
      (record { process = record y { fds = now }; there = written (with_fds now) refl k.table p ∙ ap (with_fds now) there; same = refl })

  fds_woken : (c : Channel) (x : Slot S) → fds_of (woken c x) ≡ fds_of x
  fds_woken c None = refl
  fds_woken c (Some y) = refl

  -- nobody else's descriptors change
  pub others_closed : (k : KernelState S) (p q fd : ℕ) → q ≢ p → fds_at (closed k p fd) q ≡ fds_at k q
  others_closed k p q fd other =
      let o = entry_of (fds_at k p) fd in
      let_go_keeps (λ x. fds_of x ≡ fds_at k q) (λ c x h. fds_woken c x ∙ h) q (taken_away k p fd o) (close_answer k.entries o) (ap fds_of (kept k.table p q (with_fds (after_close (fds_at k p) fd o) (at k.table p)) other))

-- ---- the entries after a close

-- an entry that is there then was there before, on the same object
pub record WasThere (before : Option Opened) (f : Opened) : Type 0 where
  pub file : Opened
  pub there : before ≡ Some file
  pub object : file.object ≡ f.object

was_less_by : (b : Bool) (g f : Opened) → (if b then None else Some (record g { count = g.count - 1 })) ≡ Some f → g.object ≡ f.object
was_less_by true g f is = absurd (let z : ⊥ = cc in z)
was_less_by false g f is = let same : record g { count = g.count - 1 } ≡ f = cc in ap (λ (h : Opened). h.object) same

was_less : (x : Option Opened) (f : Opened) → less_held x ≡ Some f → WasThere x f
was_less None f is = absurd (let z : ⊥ = cc in z)
was_less (Some g) f is = record { file = g; there = refl; object = was_less_by (nat_le g.count 1) g f is }

was_released : (E : Entries) (o : Option ℕ) (d : ℕ) (f : Opened) → entry_at (released_by_close E o) d ≡ Some f → WasThere (entry_at E d) f
was_released E None d f is = record { file = f; there = is; object = refl }
was_released E (Some e) d f is = by (cases_eq d e) where
  by : (d ≡ e) ⊎ (d ≢ e) → WasThere (entry_at E d) f
  by (inl same) =
      let P : ℕ → Type 0 = λ i. entry_at (set E e (less_held (entry_at E e))) i ≡ Some f in
      let it : less_held (entry_at E e) ≡ Some f = sym (changed_entry less_held refl E e) ∙ subst P same is in
      subst (λ (i : ℕ). WasThere (entry_at E i) f) (sym same) (was_less (entry_at E e) f it)
  by (inr ne) = record { file = f; there = sym (get_or-set_other E e d (less_held (entry_at E e)) None ne) ∙ is; object = refl }

pub was_file : (E : Entries) (o c : Option ℕ) (f : Opened) → file_at (released_by_close E o) c ≡ Some f → WasThere (file_at E c) f
was_file E o None f is = absurd (let z : ⊥ = cc in z)
was_file E o (Some d) f is = was_released E o d f is

more_free : (E : Entries) (e : ℕ) → free_count E ≤ free_count (set E e (less_held (entry_at E e)))
more_free [] e = omega arith
more_free (None ∷ t) zero = omega arith
more_free (Some f ∷ t) zero =
    omega (arith, sum_by-cons (λ (x : Option Opened). cond {A = ℕ} (is_free_entry x) 1 0) (Some f) t, sum_by-cons (λ (x : Option Opened). cond {A = ℕ} (is_free_entry x) 1 0) (less_held (Some f)) t)
more_free (x ∷ t) (suc e) =
    omega (arith, sum_by-cons (λ (y : Option Opened). cond {A = ℕ} (is_free_entry y) 1 0) x t, sum_by-cons (λ (y : Option Opened). cond {A = ℕ} (is_free_entry y) 1 0) x (set t e (less_held (entry_at t e))), more_free t e)

more_free_by : (E : Entries) (o : Option ℕ) → free_count E ≤ free_count (released_by_close E o)
more_free_by E None = omega arith
more_free_by E (Some e) = more_free E e

-- a descriptor that is open after a close was so before
still_held : (fds : Descriptors) (fd gd e : ℕ) (o : Option ℕ) → entry_of (after_close fds fd o) gd ≡ Some e → entry_of fds gd ≡ Some e
still_held fds fd gd e None is = is
still_held fds fd gd e (Some d) is = by (cases_eq gd fd) where
  by : (gd ≡ fd) ⊎ (gd ≢ fd) → entry_of fds gd ≡ Some e
  by (inl same) =
      let P : ℕ → Type 0 = λ i. entry_of (set fds fd None) i ≡ Some e in
      absurd (let no : None ≡ Some e = sym (none_there fds fd) ∙ subst P same is in let z : ⊥ = cc in z)
    where
      none_there : (l : Descriptors) (i : ℕ) → entry_of (set l i None) i ≡ None
      none_there [] i = refl
      none_there (x ∷ l) zero = refl
      none_there (x ∷ l) (suc i) = none_there l i
  by (inr ne) = sym (get_or-set_other fds fd gd None None ne) ∙ is

module _ {S : Type 0} where
  entries_let_go : (k : KernelState S) (r : Result (Option Object) FdFault) → (let_go_of k r).entries ≡ k.entries
  entries_let_go k (Err fault) = refl
  entries_let_go k (Ok None) = refl
  entries_let_go k (Ok (Some Input)) = refl
  entries_let_go k (Ok (Some Out)) = refl
  entries_let_go k (Ok (Some Diag)) = refl
  entries_let_go k (Ok (Some (File name mode))) = refl
  entries_let_go k (Ok (Some (PipeRead id))) = refl
  entries_let_go k (Ok (Some (PipeWrite id))) = refl

  entries_closed : (k : KernelState S) (p fd : ℕ) → (closed k p fd).entries ≡ released_by_close k.entries (entry_of (fds_at k p) fd)
  entries_closed k p fd = let o = entry_of (fds_at k p) fd in entries_let_go (taken_away k p fd o) (close_answer k.entries o)

  -- a call that finds free entries finds them still
  pub free_closed : (k : KernelState S) (p fd : ℕ) (b : Call) → FindsFree k b → FindsFree (closed k p fd) b
  free_closed k p fd Fork free = tt
  free_closed k p fd (Exec is_found) free = tt
  free_closed k p fd Exit free = tt
  free_closed k p fd Wait free = tt
  free_closed k p fd MakePipe free = omega (arith, free, more_free_by k.entries (entry_of (fds_at k p) fd), ap free_count (entries_closed k p fd))
  free_closed k p fd (Read gd n) free = tt
  free_closed k p fd (Write gd b) free = tt
  free_closed k p fd (OpenFile name mode) free = omega (arith, free, more_free_by k.entries (entry_of (fds_at k p) fd), ap free_count (entries_closed k p fd))
  free_closed k p fd (Close gd) free = tt
  free_closed k p fd (Dup gd) free = tt

  -- what a descriptor holds after the close it held before, on the same object
  was_held : (k : KernelState S) (p fd : ℕ) (c : Option ℕ) (f : Opened) → file_at (closed k p fd).entries c ≡ Some f → WasThere (file_at k.entries c) f
  was_held k p fd c f is = was_file k.entries (entry_of (fds_at k p) fd) c f (ap (λ (E : Entries). file_at E c) (sym (entries_closed k p fd)) ∙ is)

  nobody_closed : (k : KernelState S) (p fd id : ℕ) → NobodyElseWrites k id p → NobodyElseWrites (closed k p fd) id p
  nobody_closed k p fd id nobody q gd f ne is =
      let was = was_held k p fd (entry_of (fds_at k q) gd) f (ap (λ (d : Descriptors). file_at (closed k p fd).entries (entry_of d gd)) (sym (others_closed k p q fd ne)) ∙ is) in
      λ writes. nobody q gd was.file ne was.there (was.object ∙ writes)

  once_closed : (k : KernelState S) (p fd : ℕ) (object : Object) → IsClosedAtOnce k p object → IsClosedAtOnce (closed k p fd) p object
  once_closed k p fd Input is = tt
  once_closed k p fd Out is = tt
  once_closed k p fd Diag is = tt
  once_closed k p fd (File name mode) is = tt
  once_closed k p fd (PipeRead id) nobody = nobody_closed k p fd id nobody
  once_closed k p fd (PipeWrite id) is = tt

  -- the descriptors that p holds after a close can be closed at once
  pub at_once_closed : (k : KernelState S) (p fd : ℕ) (y : Process S) → at k.table p ≡ Some y
      → ((gd : ℕ) (f : Opened) → file_at k.entries (entry_of (fds_at k p) gd) ≡ Some f → IsClosedAtOnce k p f.object)
      → (gd : ℕ) (f : Opened) → file_at (closed k p fd).entries (entry_of (fds_at (closed k p fd) p) gd) ≡ Some f → IsClosedAtOnce (closed k p fd) p f.object
  at_once_closed k p fd y there once gd f is =
      let o = entry_of (fds_at k p) fd in
      let has = own_closed k p fd y there in
      let own : fds_at (closed k p fd) p ≡ after_close (fds_at k p) fd o = ap fds_of has.there ∙ has.same in
      by (entry_of (after_close (fds_at k p) fd o) gd) refl (ap (λ (d : Descriptors). file_at (closed k p fd).entries (entry_of d gd)) (sym own) ∙ is)
    where
      by : (c : Option ℕ) → entry_of (after_close (fds_at k p) fd (entry_of (fds_at k p) fd)) gd ≡ c → file_at (closed k p fd).entries c ≡ Some f → IsClosedAtOnce (closed k p fd) p f.object
      by None held it = absurd (let z : ⊥ = cc in z)
      by (Some e) held it =
          let was = was_held k p fd (Some e) f it in
          let before : entry_of (fds_at k p) gd ≡ Some e = still_held (fds_at k p) fd gd e (entry_of (fds_at k p) fd) held in
          subst (IsClosedAtOnce (closed k p fd) p) was.object (once_closed k p fd was.file.object (once gd was.file (ap (file_at k.entries) before ∙ was.there)))

-- ---- a kernel whose slot of p is touched

module _ {S : Type 0} (m : S) (r : Reply) (put p : ℕ) where
  pub names_touched : (n : ℕ) (k : KernelState S) → HasNamesUpTo n k → HasNamesUpTo n (touches m r put p k)
  names_touched n k names f g one two agree =
      (λ i. record (idle_kernel f 0 k) { table = touched_map m r put p (idle_slot f) refl (idle_touch m r put f) k.table i }) ∙ ap (touches m r put p) (names f g one two agree) ∙
      sym (λ i. record (idle_kernel g 0 k) { table = touched_map m r put p (idle_slot g) refl (idle_touch m r put g) k.table i })

  touch_runs : (x : Slot S) → is_running (touch m r put x) ≡ false
  touch_runs None = refl
  touch_runs (Some y) = refl

  touch_lives : (x : Slot S) → is_zombie (touch m r put x) ≡ false
  touch_lives None = refl
  touch_lives (Some y) = refl

  pub still_touched : (k : KernelState S) (y : Process S) → at k.table p ≡ Some y → IsStill k → IsStill (touches m r put p k)
  still_touched k y there still =
      let t : Table S = k.table in
      let x : Slot S = touch m r put (at k.table p) in
      let same : map is_running (set t p x) ≡ map is_running t = map-set_same is_running t p x None (touch_runs (at t p) ∙ sym (none_runs t p still.idle)) in
      record {
        idle =
            sym (count_map (λ (b : Bool). b) is_running is_running (λ z. refl) (set t p x)) ∙ ap (count_by (λ (b : Bool). b)) same ∙ count_map (λ (b : Bool). b) is_running is_running (λ z. refl) t ∙ still.idle;
        sound =
            slot_sound t p x k.entries k.entries (used_within t p y there)
            (λ before later counts. subst (λ (f : Descriptors). CountHolders k.entries (before ++ f ∷ later)) (sym (touch_fds m r put (at t p))) counts)
            (ap length (touch_fds m r put (at t p)) ∙ still.sound.places p) (touch_lives (at t p)) still.sound.offsets still.sound;
        files = still.files;
        names = names_touched k.events k still.names;
      }
