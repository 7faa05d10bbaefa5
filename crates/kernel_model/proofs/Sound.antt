-- What leaves descriptors and entries alone keeps a kernel sound.
use Rattle.std.proofs.Common.{◌≡◌, ◌≢◌, ◌⊎◌, ℕ, zero, suc, ◌<◌, List, [], ◌∷◌, ◌++◌, Bool, true, false, Some, None, length, take, drop, map, refl, sym, ap, subst, ◌∙◌, arith, inl, inr, get_or-set_other}
use Rattle.std.proofs.Math.ListN.{set, length-set}
use Rattle.std.proofs.lemmas.Bool.{cases_eq}
use Rattle.std.specs.Prelude.{replicate, All, IsSome, IfSome, ◌*◌}
use Rattle.user_calls.specs.declared.calls.Reply.{Reply}
use Rattle.fd_table.specs.Entries.{Entries}
use Rattle.fd_table.specs.Descriptors.{Descriptors}
use Rattle.fd_table.specs.Holders.{CountHolders}
use Rattle.proc_table.specs.declared.states.Channel.{Channel}
use Rattle.proc_table.specs.declared.states.Status.{Status}
use Rattle.proc_table.specs.declared.states.Status.TheVariants.{Runnable, Running, Asleep, Zombie}
use Rattle.proc_table.specs.Slots.{Table, Slot, at, is_zombie, is_zombie_status, is_asleep_on_status}
use Rattle.proc_table.specs.Calls.{readied, made_ready, slept, put_to_sleep, all_woken, woken, woken_status, with_status, dispatched}
use Rattle.proc_table.proofs.Changes.{written, mapped}
use Rattle.kernel_model.specs.KernelState.{fds_of}
use Rattle.kernel_model.specs.Sound.{tables, IsSound}

-- ---- the tables of descriptors

pub tables_same : {S : Type 0} (t u : Table S) → length u ≡ length t → ((q : ℕ) → fds_of (at u q) ≡ fds_of (at t q)) → tables u ≡ tables t
tables_same [] [] long each = refl
tables_same [] (y ∷ u) long each = absurd (omega arith)
tables_same (x ∷ t) [] long each = absurd (omega arith)
tables_same (x ∷ t) (y ∷ u) long each = λ j. each 0 j ∷ tables_same t u (omega arith) (λ q. each (suc q)) j

split_set : {S : Type 0} (t : Table S) (pid : ℕ) (x : Slot S) → pid < length t → tables (set t pid x) ≡ take pid (tables t) ++ fds_of x ∷ drop (suc pid) (tables t)
split_set [] pid x within = absurd (omega arith)
split_set (y ∷ t) zero x within = refl
split_set (y ∷ t) (suc pid) x within = ap (λ (l : List Descriptors). fds_of y ∷ l) (split_set t pid x (omega arith))

pub split_at : {S : Type 0} (t : Table S) (pid : ℕ) → pid < length t → tables t ≡ take pid (tables t) ++ fds_of (at t pid) ∷ drop (suc pid) (tables t)
split_at [] pid within = absurd (omega arith)
split_at (y ∷ t) zero within = refl
split_at (y ∷ t) (suc pid) within = ap (λ (l : List Descriptors). fds_of y ∷ l) (split_at t pid (omega arith))

pub counts_changed : {S : Type 0} (t : Table S) (pid : ℕ) (x : Slot S) (E F : Entries) → pid < length t → ((before after : List Descriptors) → CountHolders E (before ++ fds_of (at t pid) ∷ after) → CountHolders F (before ++ fds_of x ∷ after)) → CountHolders E (tables t) → CountHolders F (tables (set t pid x))
counts_changed t pid x E F within step counts =
    subst (CountHolders F) (sym (split_set t pid x within)) (step (take pid (tables t)) (drop (suc pid) (tables t)) (subst (CountHolders E) (split_at t pid within) counts))

-- ---- tables that differ in nothing that counts

-- a slot after a change that neither opens nor closes a descriptor, and makes no zombie
pub record IsNear {S : Type 0} (x y : Slot S) : Type 0 where
  pub fds : fds_of y ≡ fds_of x
  pub zombie : is_zombie y ≡ true → is_zombie x ≡ true

pub near_same : {S : Type 0} (x y : Slot S) → y ≡ x → IsNear x y
near_same x y is = record { fds = ap fds_of is; zombie = λ z. sym (ap is_zombie is) ∙ z }

pub near_sound : {S : Type 0} (t u : Table S) (E : Entries) → length u ≡ length t → ((q : ℕ) → IsNear (at t q) (at u q)) → IsSound t E → IsSound u E
near_sound t u E long near sound =
    record {
      counts = subst (CountHolders E) (sym (tables_same t u long (λ q. (near q).fds))) sound.counts;
      slots = long ∙ sound.slots;
      places = λ q. ap length (near q).fds ∙ sound.places q;
      zombies = λ q is. (near q).fds ∙ sound.zombies q ((near q).zombie is);
      offsets = sound.offsets;
    }

-- one slot changes so
pub set_sound : {S : Type 0} (f : Slot S → Slot S) (free : f None ≡ None) (near : (x : Slot S) → IsNear x (f x)) (t : Table S) (pid : ℕ) (E : Entries) → IsSound t E → IsSound (set t pid (f (at t pid))) E
set_sound f free near t pid E =
    near_sound t (set t pid (f (at t pid))) E (length-set t pid (f (at t pid))) (λ q. by q (cases_eq q pid)) where
      by : (q : ℕ) → (q ≡ pid) ⊎ (q ≢ pid) → IsNear (at t q) (at (set t pid (f (at t pid))) q)
      by q (inl is) =
          let P : ℕ → Type 0 = λ k. IsNear (at t k) (at (set t pid (f (at t pid))) k) in
          let Q : Slot _ → Type 0 = λ y. IsNear (at t pid) y in
          subst P (sym is) (subst Q (sym (written f free t pid)) (near (at t pid)))
      by q (inr ne) = near_same (at t q) _ (get_or-set_other t pid q (f (at t pid)) None ne)

-- all slots change so
pub length-map : {X Y : Type 0} (f : X → Y) (l : List X) → length (map f l) ≡ length l
length-map f [] = refl
length-map f (x ∷ l) = omega (arith, length-map f l)

pub map_sound : {S : Type 0} (f : Slot S → Slot S) (free : f None ≡ None) (near : (x : Slot S) → IsNear x (f x)) (t : Table S) (E : Entries) → IsSound t E → IsSound (map f t) E
map_sound f free near t E =
    near_sound t (map f t) E (length-map f t) (λ q. let Q : Slot _ → Type 0 = λ y. IsNear (at t q) y in subst Q (sym (mapped f free t q)) (near (at t q)))

ready_near : {S : Type 0} (m : S) (reply : Reply) (x : Slot S) → IsNear x (made_ready m reply x)
ready_near m reply None = near_same None None refl
ready_near m reply (Some p) = record { fds = refl; zombie = λ no. absurd (let z : ⊥ = cc in z) }

sleep_near : {S : Type 0} (c : Channel) (put : ℕ) (x : Slot S) → IsNear x (put_to_sleep c put x)
sleep_near c put None = near_same None None refl
sleep_near c put (Some p) = record { fds = refl; zombie = λ no. absurd (let z : ⊥ = cc in z) }

run_near : {S : Type 0} (h : ℕ) (x : Slot S) → IsNear x (with_status (Running h) x)
run_near h None = near_same None None refl
run_near h (Some p) = record { fds = refl; zombie = λ no. absurd (let z : ⊥ = cc in z) }

woken_zombie : (c : Channel) (s : Status) → is_zombie_status (woken_status c s) ≡ true → is_zombie_status s ≡ true
woken_zombie c Runnable is = is
woken_zombie c (Running h) is = is
woken_zombie c (Asleep d) is = by (is_asleep_on_status c (Asleep d)) is where
  by : (b : Bool) → is_zombie_status (Rattle.std.specs.Prelude.cond b Runnable (Asleep d)) ≡ true → false ≡ true
  by true z = z
  by false z = z
woken_zombie c Zombie is = refl

pub woken_near : {S : Type 0} (c : Channel) (x : Slot S) → IsNear x (woken c x)
woken_near c None = near_same None None refl
woken_near c (Some p) = record { fds = refl; zombie = woken_zombie c p.status }

pub ready_sound : {S : Type 0} (t : Table S) (pid : ℕ) (m : S) (reply : Reply) (E : Entries) → IsSound t E → IsSound (readied t pid m reply) E
ready_sound t pid m reply E = set_sound (made_ready m reply) refl (ready_near m reply) t pid E

pub sleep_sound : {S : Type 0} (t : Table S) (pid : ℕ) (c : Channel) (put : ℕ) (E : Entries) → IsSound t E → IsSound (slept t pid c put) E
sleep_sound t pid c put E = set_sound (put_to_sleep c put) refl (sleep_near c put) t pid E

pub dispatch_sound : {S : Type 0} (t : Table S) (pid h : ℕ) (E : Entries) → IsSound t E → IsSound (dispatched t pid h) E
dispatch_sound t pid h E = set_sound (with_status (Running h)) refl (run_near h) t pid E

pub wake_sound : {S : Type 0} (t : Table S) (c : Channel) (E : Entries) → IsSound t E → IsSound (all_woken c t) E
wake_sound t c E = map_sound (woken c) refl (woken_near c) t E
