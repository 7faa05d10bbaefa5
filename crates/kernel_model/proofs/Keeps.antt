-- In the middle of a call, and after it: counts are right, and after it one process less runs.
use Rattle.std.proofs.Common.{◌≡◌, ◌⊎◌, ℕ, ◌+◌, ◌<◌, List, ◌∷◌, ◌++◌, true, false, Option, Some, None, length, refl, sym, ap, subst, ◌∙◌, arith, inl, inr}
use Rattle.std.proofs.Math.ListN.{set, length-set}
use Rattle.std.specs.Prelude.{replicate, count_by}
use Rattle.user_calls.specs.declared.calls.Reply.{Reply}
use Rattle.fd_table.specs.Entries.{Entries}
use Rattle.fd_table.specs.Descriptors.{Descriptors, entry_of, lowest_free, after_close, released_by_close, after_dup, held_by_dup}
use Rattle.fd_table.specs.Holders.{CountHolders}
use Rattle.fd_table.specs.declared.descriptors.TheConstants.{DESCRIPTORS}
use Rattle.fd_table.proofs.Counting.{close_kept, dup_kept, length-installed_at}
use Rattle.proc_table.specs.declared.states.Channel.{Channel}
use Rattle.proc_table.specs.declared.states.Status.{Status}
use Rattle.proc_table.specs.declared.states.Status.TheVariants.{Runnable, Running, Asleep, Zombie}
use Rattle.proc_table.specs.Slots.{Table, Slot, Process, at, is_zombie, is_running, is_running_status, tally}
use Rattle.proc_table.specs.Calls.{readied, made_ready, slept, put_to_sleep, all_woken, woken, woken_status, fds_set, with_fds}
use Rattle.proc_table.proofs.Changes.{written, mapped}
use Rattle.proc_table.proofs.Counts.{status_counts, all_woken_same, count_stays, with_fds_status}
use Rattle.kernel_model.specs.KernelState.{fds_of}
use Rattle.kernel_model.specs.Sound.{IsSound, IsMid, Keeps}
use Rattle.kernel_model.proofs.Sound.{counts_changed, ready_sound, sleep_sound, wake_sound}
use Rattle.kernel_model.proofs.Offsets.{AreSmall, slot_cases, released_small, held_small}
use Rattle.kernel_model.proofs.Held.{runs_within, running_is, not_zombie}

-- ---- one slot gets other descriptors

pub slot_sound : {S : Type 0} (t : Table S) (pid : ℕ) (x : Slot S) (E F : Entries) → pid < length t → ((before after : List Descriptors) → CountHolders E (before ++ fds_of (at t pid) ∷ after) → CountHolders F (before ++ fds_of x ∷ after)) → length (fds_of x) ≡ DESCRIPTORS → is_zombie x ≡ false → AreSmall F → IsSound t E → IsSound (set t pid x) F
slot_sound t pid x E F within step long live small sound =
    record {
      counts = counts_changed t pid x E F within step sound.counts;
      slots = length-set t pid x ∙ sound.slots;
      places = λ q. place q (slot_cases t pid q x);
      zombies = λ q is. zombie q is (slot_cases t pid q x);
      offsets = small;
    } where
      place : (q : ℕ) → (at (set t pid x) q ≡ x) ⊎ (at (set t pid x) q ≡ at t q) → length (fds_of (at (set t pid x) q)) ≡ DESCRIPTORS
      place q (inl is) = ap (λ (y : Slot _). length (fds_of y)) is ∙ long
      place q (inr is) = ap (λ (y : Slot _). length (fds_of y)) is ∙ sound.places q

      zombie : (q : ℕ) → is_zombie (at (set t pid x) q) ≡ true → (at (set t pid x) q ≡ x) ⊎ (at (set t pid x) q ≡ at t q) → fds_of (at (set t pid x) q) ≡ replicate DESCRIPTORS None
      zombie q dead (inl is) = absurd (let z : false ≡ true = sym live ∙ sym (ap is_zombie is) ∙ dead in let no_way : ⊥ = cc in no_way)
      zombie q dead (inr is) = ap fds_of is ∙ sound.zombies q (sym (ap is_zombie is) ∙ dead)

-- ---- in the middle of a call, and after it

pub mid : {S : Type 0} (t : Table S) (E : Entries) (pid : ℕ) → IsSound t E → is_running (at t pid) ≡ true → IsMid (count_by is_running t) t E pid
mid t E pid sound runs = record { sound = sound; runs = runs; count = refl }

pub runs_tally : {S : Type 0} (x : Slot S) (p : Process S) → x ≡ Some p → is_running x ≡ true → tally (is_running_status p.status) ≡ 1
runs_tally x p is runs = ap tally (sym (ap is_running is) ∙ runs)

-- pid stops running
stops : {S : Type 0} (n : ℕ) (t : Table S) (E : Entries) (pid : ℕ) (y : Slot S) → IsMid n t E pid → is_running y ≡ false → count_by is_running (set t pid y) + 1 ≡ n
stops n t E pid y m still =
    let p = running_is (at t pid) m.runs in
    omega (arith, status_counts is_running_status t pid p.0 y Runnable p.1 still, runs_tally (at t pid) p.0 p.1 m.runs, m.count)

ready_still : {S : Type 0} (m : S) (reply : Reply) (x : Slot S) → is_running (made_ready m reply x) ≡ false
ready_still m reply None = refl
ready_still m reply (Some p) = refl

sleep_still : {S : Type 0} (c : Channel) (put : ℕ) (x : Slot S) → is_running (put_to_sleep c put x) ≡ false
sleep_still c put None = refl
sleep_still c put (Some p) = refl

pub ready_keeps : {S : Type 0} (n : ℕ) (t : Table S) (E : Entries) (pid : ℕ) (after : S) (reply : Reply) → IsMid n t E pid → Keeps n (readied t pid after reply) E
ready_keeps n t E pid after reply m =
    record {
      sound = ready_sound t pid after reply E m.sound;
      count = stops n t E pid (made_ready after reply (at t pid)) m (ready_still after reply (at t pid));
    }

pub sleep_keeps : {S : Type 0} (n : ℕ) (t : Table S) (E : Entries) (pid : ℕ) (c : Channel) (put : ℕ) → IsMid n t E pid → Keeps n (slept t pid c put) E
sleep_keeps n t E pid c put m =
    record {
      sound = sleep_sound t pid c put E m.sound;
      count = stops n t E pid (put_to_sleep c put (at t pid)) m (sleep_still c put (at t pid));
    }

woken_count : {S : Type 0} (c : Channel) (t : Table S) → count_by is_running (all_woken c t) ≡ count_by is_running t
woken_count c t = all_woken_same is_running_status (λ d. refl) c t

pub wake_keeps : {S : Type 0} (n : ℕ) (t : Table S) (E : Entries) (c : Channel) → Keeps n t E → Keeps n (all_woken c t) E
wake_keeps n t E c k = record { sound = wake_sound t c E k.sound; count = omega (arith, woken_count c t, k.count) }

woken_runs_status : (c : Channel) (s : Status) → is_running_status s ≡ true → is_running_status (woken_status c s) ≡ true
woken_runs_status c Runnable runs = runs
woken_runs_status c (Running h) runs = refl
woken_runs_status c (Asleep d) runs = absurd (let z : ⊥ = cc in z)
woken_runs_status c Zombie runs = runs

woken_runs : {S : Type 0} (c : Channel) (x : Slot S) → is_running x ≡ true → is_running (woken c x) ≡ true
woken_runs c None runs = runs
woken_runs c (Some p) runs = woken_runs_status c p.status runs

pub wake_mid : {S : Type 0} (n : ℕ) (t : Table S) (E : Entries) (pid : ℕ) (c : Channel) → IsMid n t E pid → IsMid n (all_woken c t) E pid
wake_mid n t E pid c m =
    record {
      sound = wake_sound t c E m.sound;
      runs = ap is_running (mapped (woken c) refl t pid) ∙ woken_runs c (at t pid) m.runs;
      count = woken_count c t ∙ m.count;
    }

-- the descriptors of pid change
fds_run : {S : Type 0} (fds : Descriptors) (x : Slot S) → is_running (with_fds fds x) ≡ is_running x
fds_run fds x = with_fds_status is_running_status fds x

pub fds_given : {S : Type 0} (fds : Descriptors) (x : Slot S) → is_running x ≡ true → fds_of (with_fds fds x) ≡ fds
fds_given fds None runs = absurd (let z : ⊥ = cc in z)
fds_given fds (Some p) runs = refl

pub fds_mid : {S : Type 0} (n : ℕ) (t : Table S) (E F : Entries) (pid : ℕ) (fds : Descriptors) → ((before after : List Descriptors) → CountHolders E (before ++ fds_of (at t pid) ∷ after) → CountHolders F (before ++ fds ∷ after)) → length fds ≡ DESCRIPTORS → AreSmall F → IsMid n t E pid → IsMid n (fds_set t pid fds) F pid
fds_mid n t E F pid fds step long small m =
    let given = fds_given fds (at t pid) m.runs in
    let now_runs : is_running (with_fds fds (at t pid)) ≡ true = fds_run fds (at t pid) ∙ m.runs in
    let P : Descriptors → Type 0 = λ l. (before after : List Descriptors) → CountHolders E (before ++ fds_of (at t pid) ∷ after) → CountHolders F (before ++ l ∷ after) in
    record {
      sound = slot_sound t pid (with_fds fds (at t pid)) E F (runs_within t pid m.runs) (subst P (sym given) step) (ap length given ∙ long) (not_zombie (with_fds fds (at t pid)) now_runs) small m.sound;
      runs = ap is_running (written (with_fds fds) refl t pid) ∙ now_runs;
      count = count_stays is_running (with_fds fds) (fds_run fds) t pid ∙ m.count;
    }

-- ---- close and dup

length-after_close : (fds : Descriptors) (fd : ℕ) (entry : Option ℕ) → length (after_close fds fd entry) ≡ length fds
length-after_close fds fd None = refl
length-after_close fds fd (Some e) = length-set fds fd None

length-after_dup : (fds : Descriptors) (entry place : Option ℕ) → length (after_dup fds entry place) ≡ length fds
length-after_dup fds None place = refl
length-after_dup fds (Some e) place = length-installed_at fds place e

pub close_mid : {S : Type 0} (n : ℕ) (t : Table S) (E : Entries) (pid fd : ℕ) → IsMid n t E pid → IsMid n (fds_set t pid (after_close (fds_of (at t pid)) fd (entry_of (fds_of (at t pid)) fd))) (released_by_close E (entry_of (fds_of (at t pid)) fd)) pid
close_mid n t E pid fd m =
    let fds = fds_of (at t pid) in
    fds_mid n t E (released_by_close E (entry_of fds fd)) pid (after_close fds fd (entry_of fds fd)) (λ before after. close_kept E before after fds fd) (length-after_close fds fd (entry_of fds fd) ∙ m.sound.places pid) (released_small E (entry_of fds fd) m.sound.offsets) m

pub dup_mid : {S : Type 0} (n : ℕ) (t : Table S) (E : Entries) (pid fd : ℕ) → IsMid n t E pid → IsMid n (fds_set t pid (after_dup (fds_of (at t pid)) (entry_of (fds_of (at t pid)) fd) (lowest_free (fds_of (at t pid))))) (held_by_dup E (entry_of (fds_of (at t pid)) fd) (lowest_free (fds_of (at t pid)))) pid
dup_mid n t E pid fd m =
    let fds = fds_of (at t pid) in
    fds_mid n t E (held_by_dup E (entry_of fds fd) (lowest_free fds)) pid (after_dup fds (entry_of fds fd) (lowest_free fds)) (λ before after. dup_kept E before after fds fd) (length-after_dup fds (entry_of fds fd) (lowest_free fds) ∙ m.sound.places pid) (held_small E (entry_of fds fd) (lowest_free fds) m.sound.offsets) m
