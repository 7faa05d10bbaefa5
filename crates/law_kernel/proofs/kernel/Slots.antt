-- What a change of slots leaves to those who sleep: the caller goes on, falls asleep or gets other descriptors, and all that sleep on a channel are woken.
use Rattle.std.proofs.Common.{◌≡◌, ◌≢◌, ◌⊎◌, ℕ, Bool, true, false, Some, None, refl, sym, ap, subst, ◌∙◌, inl, inr, get_or-set_other}
use Rattle.std.proofs.Math.ListN.{set}
use Rattle.std.proofs.lemmas.Bool.{cases_eq}
use Rattle.std.specs.Prelude.{◌&&◌, if◌then◌else◌}
use Rattle.user_calls.specs.declared.calls.Reply.{Reply}
use Rattle.fd_table.specs.Descriptors.{Descriptors}
use Rattle.proc_table.specs.declared.states.Channel.{Channel}
use Rattle.proc_table.specs.declared.states.Channel.TheVariants.{PipeBytes, PipeRoom, Children}
use Rattle.proc_table.specs.declared.states.Status.{Status}
use Rattle.proc_table.specs.declared.states.Status.TheVariants.{Runnable, Running, Asleep, Zombie}
use Rattle.proc_table.specs.Slots.{Table, Slot, at, is_child_of, is_zombie, is_zombie_child_of, is_zombie_status, is_free, same_channel, is_asleep_on_status}
use Rattle.proc_table.specs.Calls.{readied, made_ready, slept, put_to_sleep, all_woken, woken, woken_status, fds_set, with_fds, with_status}
use Rattle.proc_table.proofs.Changes.{written, mapped}
use Rattle.kernel_model.specs.Pipes.{Pipes}
use Rattle.law_kernel.specs.Sleeping.{Waits, SleepsOn, AreSmall, Lives, IsFamily, Rests}
use Rattle.law_kernel.specs.Busy.{IsBusy, Stays}

-- ---- slots that stay

pub stays_same : {S : Type 0} (x y : Slot S) → y ≡ x → Stays x y
stays_same x y is = record { child = λ r. ap (is_child_of r) is; zombie = λ r none. ap (is_zombie_child_of r) is ∙ none; free = ap is_free is; alive = λ none. ap is_zombie is ∙ none }

pub and_false : (b : Bool) → (b && false) ≡ false
and_false true = refl
and_false false = refl

ready_stays : {S : Type 0} (m : S) (reply : Reply) (x : Slot S) → Stays x (made_ready m reply x)
ready_stays m reply None = stays_same None None refl
ready_stays m reply (Some p) = record { child = λ r. refl; zombie = λ r none. and_false (is_child_of r (Some p)); free = refl; alive = λ none. refl }

sleep_stays : {S : Type 0} (c : Channel) (put : ℕ) (x : Slot S) → Stays x (put_to_sleep c put x)
sleep_stays c put None = stays_same None None refl
sleep_stays c put (Some p) = record { child = λ r. refl; zombie = λ r none. and_false (is_child_of r (Some p)); free = refl; alive = λ none. refl }

fds_stays : {S : Type 0} (fds : Descriptors) (x : Slot S) → Stays x (with_fds fds x)
fds_stays fds None = stays_same None None refl
fds_stays fds (Some p) = record { child = λ r. refl; zombie = λ r none. none; free = refl; alive = λ none. none }

running_stays : {S : Type 0} (h : ℕ) (x : Slot S) → Stays x (with_status (Running h) x)
running_stays h None = stays_same None None refl
running_stays h (Some p) = record { child = λ r. refl; zombie = λ r none. and_false (is_child_of r (Some p)); free = refl; alive = λ none. refl }

pub woken_or_not : (b : Bool) (s : Channel) → is_zombie_status (if b then Runnable else Asleep s) ≡ false
woken_or_not true s = refl
woken_or_not false s = refl

no_new_zombie : (c : Channel) (s : Status) (mine : Bool) → (mine && is_zombie_status s) ≡ false → (mine && is_zombie_status (woken_status c s)) ≡ false
no_new_zombie c s false none = refl
no_new_zombie c Runnable true none = refl
no_new_zombie c (Running h) true none = refl
no_new_zombie c (Asleep d) true none = woken_or_not (is_asleep_on_status c (Asleep d)) d
no_new_zombie c Zombie true none = none

woken_stays : {S : Type 0} (c : Channel) (x : Slot S) → Stays x (woken c x)
woken_stays c None = stays_same None None refl
woken_stays c (Some p) = record { child = λ r. refl; zombie = λ r none. no_new_zombie c p.status (is_child_of r (Some p)) none; free = refl; alive = no_new_zombie c p.status true }

-- ---- tables of slots that stay

-- the slot of pid was written from what it held
written_stays : {S : Type 0} (t : Table S) (pid : ℕ) (f : Slot S → Slot S) → f None ≡ None → ((x : Slot S) → Stays x (f x)) → (i : ℕ) → Stays (at t i) (at (set t pid (f (at t pid))) i)
written_stays t pid f free stays i = by (cases_eq i pid) where
  by : (i ≡ pid) ⊎ (i ≢ pid) → Stays (at t i) (at (set t pid (f (at t pid))) i)
  by (inl is) =
      let P : ℕ → Type 0 = λ k. Stays (at t k) (at (set t pid (f (at t pid))) k) in
      let Q : Slot _ → Type 0 = λ y. Stays (at t pid) y in
      subst P (sym is) (subst Q (sym (written f free t pid)) (stays (at t pid)))
  by (inr other) = stays_same (at t i) _ (get_or-set_other t pid i (f (at t pid)) None other)

all_woken_stays : {S : Type 0} (t : Table S) (c : Channel) (i : ℕ) → Stays (at t i) (at (all_woken c t) i)
all_woken_stays t c i = let P : Slot _ → Type 0 = λ y. Stays (at t i) y in subst P (sym (mapped (woken c) refl t i)) (woken_stays c (at t i))

pub waits_on : {S : Type 0} (t u : Table S) (pipes : Pipes) (q : ℕ) (c : Channel) → ((i : ℕ) → Stays (at t i) (at u i)) → Waits t pipes q c → Waits u pipes q c
waits_on t u pipes q (PipeBytes id) stays w = w
waits_on t u pipes q (PipeRoom id) stays w = w
waits_on t u pipes q (Children pid) stays w = (
  w.0,
  record {
    child = (w.1.child.0, (stays w.1.child.0).child q ∙ w.1.child.1);
    living = λ i. (stays i).zombie q (w.1.living i);
  },
)

lives_on : {S : Type 0} (x y : Slot S) → Stays x y → Lives x → Lives y
lives_on x y stays lives = record { used = stays.free ∙ lives.used; alive = stays.alive lives.alive }

family_on : {S : Type 0} (t u : Table S) → ((i : ℕ) → Stays (at t i) (at u i)) → IsFamily t → IsFamily u
family_on t u stays f =
    record {
      init = lives_on (at t 0) (at u 0) (stays 0) f.init;
      eldest = λ r. (stays 0).child r ∙ f.eldest r;
      own = λ i. (stays i).child i ∙ f.own i;
      parents = λ i q child. lives_on (at t q) (at u q) (stays q) (f.parents i q (sym ((stays i).child q) ∙ child));
    }

-- ---- the caller's slot

own_busy : {S : Type 0} (t : Table S) (pipes : Pipes) (pid : ℕ) (f : Slot S → Slot S) → f None ≡ None → ((x : Slot S) → Stays x (f x)) → IsBusy t pipes pid → IsBusy (set t pid (f (at t pid))) pipes pid
own_busy t pipes pid f free stays b =
    let u = set t pid (f (at t pid)) in
    record {
      others = λ q c ne sleeps. waits_on t u pipes q c (written_stays t pid f free stays) (b.others q c ne (subst (λ (x : Slot _). SleepsOn x c) (get_or-set_other t pid q (f (at t pid)) None ne) sleeps));
      small = b.small;
      family = family_on t u (written_stays t pid f free stays) b.family;
    }

pub ready_busy : {S : Type 0} (t : Table S) (pipes : Pipes) (pid : ℕ) (m : S) (reply : Reply) → IsBusy t pipes pid → IsBusy (readied t pid m reply) pipes pid
ready_busy t pipes pid m reply = own_busy t pipes pid (made_ready m reply) refl (ready_stays m reply)

pub sleep_busy : {S : Type 0} (t : Table S) (pipes : Pipes) (pid : ℕ) (c : Channel) (put : ℕ) → IsBusy t pipes pid → IsBusy (slept t pid c put) pipes pid
sleep_busy t pipes pid c put = own_busy t pipes pid (put_to_sleep c put) refl (sleep_stays c put)

pub fds_busy : {S : Type 0} (t : Table S) (pipes : Pipes) (pid : ℕ) (fds : Descriptors) → IsBusy t pipes pid → IsBusy (fds_set t pid fds) pipes pid
fds_busy t pipes pid fds = own_busy t pipes pid (with_fds fds) refl (fds_stays fds)

pub running_busy : {S : Type 0} (t : Table S) (pipes : Pipes) (pid h : ℕ) → IsBusy t pipes pid → IsBusy (set t pid (with_status (Running h) (at t pid))) pipes pid
running_busy t pipes pid h = own_busy t pipes pid (with_status (Running h)) refl (running_stays h)

-- who waits for its children goes on to do so
pub slept_waits : {S : Type 0} (t : Table S) (pipes : Pipes) (pid put q : ℕ) (c d : Channel) → Waits t pipes q d → Waits (slept t pid c put) pipes q d
slept_waits t pipes pid put q c d = waits_on t (slept t pid c put) pipes q d (written_stays t pid (put_to_sleep c put) refl (sleep_stays c put))

-- ---- a wake-up

asleep_still : (c e d : Channel) (b : Bool) → same_channel c e ≡ b → (if b then Runnable else Asleep e) ≡ Asleep d → (Asleep e ≡ Asleep d) × (same_channel c d ≡ false)
asleep_still c e d true test is = absurd (let z : ⊥ = cc in z)
asleep_still c e d false test is = (is, let same : e ≡ d = cc in ap (same_channel c) (sym same) ∙ test)

sleeps_by : (c d : Channel) (s : Status) → woken_status c s ≡ Asleep d → (s ≡ Asleep d) × (same_channel c d ≡ false)
sleeps_by c d Runnable is = absurd (let z : ⊥ = cc in z)
sleeps_by c d (Running h) is = absurd (let z : ⊥ = cc in z)
sleeps_by c d Zombie is = absurd (let z : ⊥ = cc in z)
sleeps_by c d (Asleep e) is = asleep_still c e d (same_channel c e) refl is

-- who sleeps on after a wake-up slept before it, on another channel
pub sleeps_on : {S : Type 0} (c d : Channel) (x : Slot S) → SleepsOn (woken c x) d → SleepsOn x d × (same_channel c d ≡ false)
sleeps_on c d None sleeps = absurd sleeps
sleeps_on c d (Some p) sleeps = sleeps_by c d p.status sleeps

-- the same of a slot of the table
pub slept_before : {S : Type 0} (t : Table S) (q : ℕ) (c d : Channel) → SleepsOn (at (all_woken c t) q) d → SleepsOn (at t q) d × (same_channel c d ≡ false)
slept_before t q c d sleeps = sleeps_on c d (at t q) (subst (λ (x : Slot _). SleepsOn x d) (mapped (woken c) refl t q) sleeps)

-- the pipes change, and all that sleep on a channel are woken: it is enough that the others of the pipes have to wait on
pub wake_busy : {S : Type 0} (t : Table S) (before now : Pipes) (pid : ℕ) (c : Channel) → AreSmall now → ((q : ℕ) (d : Channel) → same_channel c d ≡ false → Waits t before q d → Waits t now q d) → IsBusy t before pid → IsBusy (all_woken c t) now pid
wake_busy t before now pid c small still b =
    record {
      others = λ q d ne sleeps. let was = slept_before t q c d sleeps in waits_on t (all_woken c t) now q d (all_woken_stays t c) (still q d was.1 (b.others q d ne was.0));
      small = small;
      family = family_on t (all_woken c t) (all_woken_stays t c) b.family;
    }

-- the same where nobody is woken
pub change_busy : {S : Type 0} (t : Table S) (before now : Pipes) (pid : ℕ) → AreSmall now → ((q : ℕ) (d : Channel) → Waits t before q d → Waits t now q d) → IsBusy t before pid → IsBusy t now pid
change_busy t before now pid small still b = record { others = λ q d ne sleeps. still q d (b.others q d ne sleeps); small = small; family = b.family }

-- ---- the end of a call

-- once the caller itself, if it sleeps, has to, the kernel rests
pub rests : {S : Type 0} (t : Table S) (pipes : Pipes) (pid : ℕ) → IsBusy t pipes pid → ((c : Channel) → SleepsOn (at t pid) c → Waits t pipes pid c) → Rests t pipes
rests t pipes pid b own = record { waits = λ q c sleeps. by q c sleeps (cases_eq q pid); small = b.small; family = b.family } where
  by : (q : ℕ) (c : Channel) → SleepsOn (at t q) c → (q ≡ pid) ⊎ (q ≢ pid) → Waits t pipes q c
  by q c sleeps (inl is) =
      let P : ℕ → Type 0 = λ k. Waits t pipes k c in
      subst P (sym is) (own c (subst (λ (k : ℕ). SleepsOn (at t k) c) is sleeps))
  by q c sleeps (inr ne) = b.others q c ne sleeps

ready_awake : {S : Type 0} (m : S) (reply : Reply) (x : Slot S) (c : Channel) → SleepsOn (made_ready m reply x) c → ⊥
ready_awake m reply None c sleeps = sleeps
ready_awake m reply (Some p) c sleeps = cc

-- who was made ready doesn't sleep
pub awake : {S : Type 0} (t : Table S) (pid : ℕ) (m : S) (reply : Reply) (c : Channel) → SleepsOn (at (readied t pid m reply) pid) c → ⊥
awake t pid m reply c sleeps = ready_awake m reply (at t pid) c (subst (λ (x : Slot _). SleepsOn x c) (written (made_ready m reply) refl t pid) sleeps)

asleep_by : {S : Type 0} (w : Channel) (put : ℕ) (c : Channel) (x : Slot S) → SleepsOn (put_to_sleep w put x) c → w ≡ c
asleep_by w put c None no_one = absurd no_one
asleep_by w put c (Some p) is = cc

-- who was put to sleep sleeps on that channel
pub asleep_where : {S : Type 0} (t : Table S) (pid : ℕ) (w : Channel) (put : ℕ) (c : Channel) → SleepsOn (at (slept t pid w put) pid) c → w ≡ c
asleep_where t pid w put c sleeps = asleep_by w put c (at t pid) (subst (λ (x : Slot _). SleepsOn x c) (written (put_to_sleep w put) refl t pid) sleeps)

-- the caller goes on
pub ready_rests : {S : Type 0} (t : Table S) (pipes : Pipes) (pid : ℕ) (m : S) (reply : Reply) → IsBusy t pipes pid → Rests (readied t pid m reply) pipes
ready_rests t pipes pid m reply b = rests (readied t pid m reply) pipes pid (ready_busy t pipes pid m reply b) (λ c sleeps. absurd (awake t pid m reply c sleeps))
