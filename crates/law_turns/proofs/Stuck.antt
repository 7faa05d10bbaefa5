-- No run is stuck if each kernel of a reduced list is finished or can do something.
use Rattle.std.proofs.Common.{◌≡◌, ◌⊎◌, ℕ, zero, suc, List, [], ◌∷◌, Bool, true, false, Some, inl, inr, refl, sym, ap, subst, ◌∙◌}
use Rattle.std.specs.Prelude.{All}
use Rattle.user_calls.specs.declared.calls.Call.{Call}
use Rattle.user_calls.specs.declared.calls.Call.TheVariants.{Wait}
use Rattle.user_calls.specs.declared.calls.Reply.{Reply}
use Rattle.proc_table.specs.declared.states.Channel.{Channel}
use Rattle.proc_table.specs.declared.states.Channel.TheVariants.{PipeBytes, PipeRoom, Children}
use Rattle.proc_table.specs.declared.states.Status.{Status}
use Rattle.proc_table.specs.declared.states.Status.TheVariants.{Runnable, Running, Asleep, Zombie}
use Rattle.proc_table.specs.Slots.{Slot, Table, Process, at, is_zombie, is_zombie_status}
use Rattle.kernel_model.specs.declared.events.Event.{Event}
use Rattle.kernel_model.specs.KernelState.{KernelState}
use Rattle.kernel_model.specs.Events.{run, IsFinished}
use Rattle.kernel_model.specs.Quiet.{no_refusals}
use Rattle.kernel_model.proofs.Quiet.{run_quiet}
use Rattle.law_kernel.specs.Asking.{MaySleep}
use Rattle.kernel_model.specs.Turns.{after_turn, callers}
use Rattle.kernel_model.specs.Explored.{AreEnough, IsFinishedOrBusy, IsFinishedOrAwake, IsNeverStuck}
use Rattle.law_kernel.specs.Sleeping.{Waits}
use Rattle.law_turns.proofs.orders.Matching.{quiet_matched}
use Rattle.kernel_model.specs.Reduced.{IsEnding}
use Rattle.kernel_model.specs.Begun.{IsBegun}
use Rattle.kernel_model.specs.Giving.{GivesWayBegun}
use Rattle.kernel_model.specs.Linked.{CanDo}
use Rattle.law_turns.proofs.Moved.{of_all}
use Rattle.law_turns.proofs.Looks.{looks, awake, awake_status, slot_awake}
use Rattle.law_turns.proofs.private_turns.Begun.{begun_on, begun_still, begun_settled}
use Rattle.law_turns.proofs.giving_way.Linked.{can_outcome}
use Rattle.law_turns.proofs.giving_way.Stalled.{MustSleep, IsStalled, all_asleep, stalled_on, stalled_turn}
use Rattle.law_turns.proofs.Giving.{Sleepless, FindsZombie, giver}
use Rattle.law_turns.proofs.Listed.{seen_begun, turns_listed}

-- ---- somebody is awake, or nobody is

abbrev Nobody : {S : Type 0} → Table S → Type 0
Nobody t = (pid : ℕ) → awake (at t pid) ≡ false

abbrev Somebody : {S : Type 0} → Table S → Type 0
Somebody t = (pid : ℕ) × (awake (at t pid) ≡ true)

somebody_by : {S : Type 0} (x : Slot S) (t : Table S) (b : Bool) → awake x ≡ b → Somebody t ⊎ Nobody t → Somebody (x ∷ t) ⊎ Nobody (x ∷ t)
somebody_by x t true is rest = inl (0, is)
somebody_by x t false is (inl some) = inl (suc some.0, some.1)
somebody_by x t false is (inr none) = inr all where
  all : (pid : ℕ) → awake (at (x ∷ t) pid) ≡ false
  all zero = is
  all (suc pid) = none pid

somebody : {S : Type 0} (t : Table S) → Somebody t ⊎ Nobody t
somebody [] = inr (λ pid. refl)
somebody (x ∷ t) = somebody_by x t (awake x) refl (somebody t)

-- whoever lives where nobody is awake sleeps
asleep_by : (s : Status) → awake_status s ≡ false → is_zombie_status s ≡ false → (c : Channel) × (s ≡ Asleep c)
asleep_by Runnable none alive = absurd (let z : ⊥ = cc in z)
asleep_by (Running h) none alive = absurd (let z : ⊥ = cc in z)
asleep_by (Asleep c) none alive = (c, refl)
asleep_by Zombie none alive = absurd (let z : ⊥ = cc in z)

nobody_asleep : {S : Type 0} (t : Table S) → Nobody t → (q : ℕ) (x : Process S) → at t q ≡ Some x → is_zombie (at t q) ≡ false → (c : Channel) × (x.status ≡ Asleep c)
nobody_asleep t none q x there alive = asleep_by x.status (sym (ap awake there) ∙ none q) (sym (ap is_zombie there) ∙ alive)

-- ---- whose turn gives way to nobody's needn't sleep

no_sleep : {S : Type 0} (m : KernelState S) (p : ℕ) (c : Call) (put : ℕ) (ch : Channel) → Sleepless c → MaySleep m p c put ch → ⊥
no_sleep m p c put (PipeBytes id) never may = subst Sleepless may.2 never
no_sleep m p c put (PipeRoom id) never may = subst Sleepless may.1.1 never
no_sleep m p c put (Children pid) never may = subst Sleepless may.1 never

-- a wait that finds a zombie
no_wait : {S : Type 0} (m : KernelState S) (p : ℕ) (put : ℕ) (ch : Channel) → FindsZombie m p Wait → MaySleep m p Wait put ch → Waits m.table m.pipes p ch → ⊥
no_wait m p put (PipeBytes id) finds may waits = let is = may.2 in let z : ⊥ = cc in z
no_wait m p put (PipeRoom id) finds may waits = let is = may.1.1 in let z : ⊥ = cc in z
no_wait m p put (Children pid) finds may waits =
    let zombie = finds.1 in
    let no : true ≡ false = sym zombie.1 ∙ waits.1.living zombie.0 in
    let z : ⊥ = cc in
    z

needs_no_sleep : {S : Type 0} (m : KernelState S) (p : ℕ) (c : Call) (put : ℕ) → Sleepless c ⊎ FindsZombie m p c → MustSleep m p c put → ⊥
needs_no_sleep m p c put (inl never) s = no_sleep m p c put s.channel never s.asks
needs_no_sleep m p c put (inr finds) s = no_wait m p put s.channel (subst (FindsZombie m p) finds.0 finds) (subst (λ (d : Call). MaySleep m p d put s.channel) finds.0 s.asks) s.waits

module _ {S : Type 0} (call : S → Reply → Call) (next : S → Reply → S) where
  nobody_stalled : (m : KernelState S) → IsBegun call next m → Nobody m.table → IsStalled call m
  nobody_stalled m b none = all_asleep call next m (begun_settled call next m b) (nobody_asleep m.table none)

  stalled_ends : (m : KernelState S) → IsStalled call m → IsEnding (after_turn call next) (CanDo call next) (GivesWayBegun call next) m
  stalled_ends m stalled k p e can =
      let x = giver call next k p e.gives in
      needs_no_sleep k p (call x.process.machine x.process.reply) x.process.put x.calls
      (stalled_on call next k m can stalled p x.process x.there (ap is_zombie x.there ∙ ap is_zombie_status x.ready))

  module _ (start : KernelState S) (seen : List (KernelState S)) (begun : IsBegun call next start) (e : AreEnough call next start seen) (busy : All (IsFinishedOrBusy call next) seen) where
    over_by : (m s : KernelState S) → IsStalled call m → IsBegun call next s → CanDo call next s m → IsFinishedOrBusy call next s → IsFinished m
    over_by m s stalled b can (inl over) = (can_outcome call next s m can).finished.0 over
    over_by m s stalled b can (inr t) = absurd (t.other (stalled_turn call next s t.now t.pid (begun_still call next s b) (stalled_on call next s m can stalled) t.turn))

    not_stuck : (m : KernelState S) (es : List Event) → run call next (Some start) es (no_refusals es) ≡ Some m → IsFinishedOrAwake m
    not_stuck m es is = by (somebody m.table) where
      by : Somebody m.table ⊎ Nobody m.table → IsFinishedOrAwake m
      by (inl some) = inr (some.0, slot_awake (at m.table some.0) some.1)
      by (inr none) =
          let f = quiet_matched call next start m es (begun_still call next start begun) is in
          let last_begun = begun_on call next start f.last (callers es) begun f.turns in
          let stalled = nobody_stalled f.last last_begun (λ pid. sym ((looks m f.last f.alike).who pid) ∙ none pid) in
          let any = turns_listed call next start seen begun e f.last (callers es) f.turns (stalled_ends f.last stalled) in
          let over = over_by f.last any.1 stalled (seen_begun call next start seen begun e any.0 any.1 any.2 any.3) any.4 (of_all (IsFinishedOrBusy call next) seen any.0 any.1 busy any.2 any.3) in
          inl (f.outcome.finished.1 over)

    pub never_stuck : IsNeverStuck call next start
    never_stuck =
        record {
          quiet = λ es m is. not_stuck m es is;
          roomy = λ es ns m is roomy. not_stuck m es (run_quiet call next start m es ns is roomy);
        }
