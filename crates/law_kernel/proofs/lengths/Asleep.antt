-- How many processes sleep, after what a call does to the table.
use Rattle.std.proofs.Common.{◌≡◌, ℕ, suc, ◌+◌, [], ◌∷◌, Bool, true, false, Some, None, refl, ap, ◌∙◌, arith}
use Rattle.std.proofs.lemmas.List.Sums.{sum_by-cons}
use Rattle.std.specs.Prelude.{cond, count_by, if◌then◌else◌}
use Rattle.user_calls.specs.declared.calls.Reply.{Reply}
use Rattle.proc_table.specs.declared.states.Channel.{Channel}
use Rattle.proc_table.specs.declared.states.Status.{Status}
use Rattle.proc_table.specs.declared.states.Status.TheVariants.{Runnable, Running, Asleep, Zombie}
use Rattle.proc_table.specs.Slots.{Slot, Table, Process, at, put_of, has_status, is_asleep, is_asleep_status, is_asleep_on_status, is_running_on_status, tally}
use Rattle.proc_table.specs.Calls.{all_woken, woken, with_status, given, made_ready, put_to_sleep, readied, slept, exited}
use Rattle.proc_table.proofs.Changes.{written, mapped, exit_self}
use Rattle.proc_table.proofs.Counts.{status_counts}

ready_is_awake : {S : Type 0} (m : S) (reply : Reply) (x : Slot S) → is_asleep (made_ready m reply x) ≡ false
ready_is_awake m reply None = refl
ready_is_awake m reply (Some p) = refl

-- who was answered doesn't sleep
pub answered_awake : {S : Type 0} (t : Table S) (pid : ℕ) (m : S) (reply : Reply) → is_asleep (at (readied t pid m reply) pid) ≡ false
answered_awake t pid m reply = ap is_asleep (written (made_ready m reply) refl t pid) ∙ ready_is_awake m reply (at t pid)

stays_awake : (b : Bool) (s : Status) → is_asleep_status s ≡ false → is_asleep_status (if b then Runnable else s) ≡ false
stays_awake true s awake = refl
stays_awake false s awake = awake

woken_awake : {S : Type 0} (c : Channel) (x : Slot S) → is_asleep x ≡ false → is_asleep (woken c x) ≡ false
woken_awake c None awake = refl
woken_awake c (Some p) awake = stays_awake (is_asleep_on_status c p.status) p.status awake

-- a wake-up puts nobody to sleep
pub woken_too : {S : Type 0} (c : Channel) (t : Table S) (pid : ℕ) → is_asleep (at t pid) ≡ false → is_asleep (at (all_woken c t) pid) ≡ false
woken_too c t pid awake = ap is_asleep (mapped (woken c) refl t pid) ∙ woken_awake c (at t pid) awake

zombie_awake : {S : Type 0} (pid : ℕ) (x : Slot S) → is_asleep (with_status Zombie (given pid x)) ≡ false
zombie_awake pid None = refl
zombie_awake pid (Some p) = refl

-- who exits doesn't sleep
pub exited_awake : {S : Type 0} (t : Table S) (pid : ℕ) → is_asleep (at (exited t pid) pid) ≡ false
exited_awake t pid = ap is_asleep (exit_self t pid) ∙ zombie_awake pid (at t pid)

runs_awake : (h : ℕ) (s : Status) → is_running_on_status h s ≡ true → is_asleep_status s ≡ false
runs_awake h Runnable runs = refl
runs_awake h (Running other) runs = refl
runs_awake h (Asleep c) runs = absurd (let z : ⊥ = cc in z)
runs_awake h Zombie runs = refl

-- who runs and is put to sleep is one more that sleeps
pub one_more : {S : Type 0} (t : Table S) (pid h : ℕ) (p : Process S) (c : Channel) (put : ℕ) → at t pid ≡ Some p → is_running_on_status h p.status ≡ true → count_by is_asleep (slept t pid c put) ≡ count_by is_asleep t + 1
one_more t pid h p c put is runs =
    omega (arith, status_counts is_asleep_status t pid p (put_to_sleep c put (at t pid)) (Asleep c) is (ap (λ (x : Slot _). has_status is_asleep_status (put_to_sleep c put x)) is), ap tally (runs_awake h p.status runs))

-- how many bytes it has put then, also after a wake-up
pub put_then : {S : Type 0} (t : Table S) (pid : ℕ) (p : Process S) (w c : Channel) (put : ℕ) → at t pid ≡ Some p → put_of (at (all_woken w (slept t pid c put)) pid) ≡ put
put_then t pid p w c put is =
    ap put_of (mapped (woken w) refl (slept t pid c put) pid)
    ∙ ap (λ (x : Slot _). put_of (woken w x)) (written (put_to_sleep c put) refl t pid ∙ ap (put_to_sleep c put) is)

-- no slot passes a test that each fails
pub none_pass : {S : Type 0} (test : Slot S → Bool) (t : Table S) → ((q : ℕ) → test (at t q) ≡ false) → count_by test t ≡ 0
none_pass test [] fails = refl
none_pass test (x ∷ t) fails =
    omega (arith, sum_by-cons (λ y. cond {A = ℕ} (test y) 1 0) x t, ap (λ (b : Bool). cond {A = ℕ} b 1 0) (fails 0), none_pass test t (λ q. fails (suc q)))
