-- Each event as it is seen: a call of a process by its effect, a dispatch not at all, and what init's wait takes away.
use Rattle.std.proofs.Common.{◌≡◌, ◌≢◌, ℕ, ◌+◌, Bool, true, false, Some, None, refl, sym, ap, ◌∙◌, subst, arith}
use Rattle.std.specs.Prelude.{◌&&◌, not, nat_lt, is_some, position, if◌then◌else◌}
use Rattle.std.proofs.lemmas.Bool.{cases_eq, and_parts}
use Rattle.user_calls.specs.declared.calls.Call.{Call}
use Rattle.user_calls.specs.declared.calls.Call.TheVariants.{Fork, Exec, Exit, Wait, MakePipe, Read, Write, OpenFile, Close, Dup}
use Rattle.mem_files.specs.Files.{files}
use Rattle.proc_table.specs.declared.states.Status.{Status}
use Rattle.proc_table.specs.declared.states.Status.TheVariants.{Runnable, Running, Asleep, Zombie}
use Rattle.proc_table.specs.declared.table.TheConstants.{HARTS}
use Rattle.proc_table.specs.Slots.{Slot, Process, at, is_running_on, is_runnable, is_runnable_status, is_zombie_status, parent_or_init}
use Rattle.proc_table.specs.Calls.{dispatched, lowest_free as lowest_free_slot}
use Rattle.kernel_model.specs.declared.events.Event.TheVariants.{Dispatch, Trap}
use Rattle.kernel_model.specs.KernelState.{KernelState}
use Rattle.kernel_model.specs.Events.{acted, counted, trapped, can_dispatch, happens}
use Rattle.kernel_model.proofs.Along.{acted_along}
use Rattle.sh_machine.specs.State.{User}
use Rattle.sh_machine.specs.Turn.{call_of, next_of}
use Rattle.process_model.specs.Seen.{Names, view}
use Rattle.process_model.specs.Shows.{Shows, ShowsIn}
use Rattle.process_model.specs.Effect.{Quiet}
use Rattle.law_runs.specs.Consistent.{IsConsistent}
use Rattle.law_runs.specs.Seen.{IsSeen}
use Rattle.law_runs.proofs.views.Tables.{seen_alike, dispatch_seen}
use Rattle.law_runs.proofs.views.Showing.{shows_later}
use Rattle.law_runs.proofs.views.Ends as ends
use Rattle.law_runs.proofs.views.Mid as during
use Rattle.law_runs.proofs.views.Closes.{closes, exits}
use Rattle.law_runs.proofs.views.Processes.{execs, dups, forks, waits}
use Rattle.law_runs.proofs.views.PipeMade.{pipes}
use Rattle.law_runs.proofs.views.FileOpens.{opens_call}
use Rattle.law_runs.proofs.views.ReadSeen.{reads_call}
use Rattle.law_runs.proofs.views.WriteSeen.{writes_call}
use Rattle.law_kernel.proofs.kernel.Runs.{runs_alive}

module _ (g : Names) (k : KernelState User) (p : ℕ) (q : Process User) (up : p ≢ 0) (is : at k.table p ≡ Some q) (alive : is_zombie_status q.status ≡ false) (settled : IsConsistent k) (shows : ShowsIn g k) where
  abbrev next : User
  next = next_of q.machine q.reply

  -- every call
  called : (call : Call) (refused : Bool) → (acted (counted k) p next call refused).full ≡ None → during.Called g k p q (acted (counted k) p next call refused) call
  called Fork refused full = forks g k p q up is alive shows settled.rests.family (lowest_free_slot k.table) refl full
  called (Exec found) refused full = execs g k p q up is alive shows found
  called Exit refused full = exits g k p q up is alive shows settled.ends.apart (settled.rests.family.own p)
  called Wait refused full = waits g k p q up is alive shows settled.rests.family
  called MakePipe refused full = pipes g k p q up is alive shows (ends.used g k settled shows) (settled.names (k.events + 1) (omega arith)) refused full
  called (Read fd most) refused full = reads_call g k p q up is alive shows (ends.no_writer g k settled shows) (ends.reader_there g k settled shows) (ends.used g k settled shows) fd most
  called (Write fd bytes) refused full = writes_call g k p q up is alive shows (ends.small g k settled shows) (ends.no_reader g k settled shows) (ends.writer_there g k settled shows) refused (ends.used g k settled shows) fd bytes full
  called (OpenFile name mode) refused full = opens_call g k p q up is alive shows (ends.used g k settled shows) name mode refused full
  called (Close fd) refused full = closes g k p q up is alive shows settled.ends.apart fd
  called (Dup fd) refused full = dups g k p q up is alive shows fd full

  is_seen : (refused : Bool) → (acted (counted k) p next (call_of q.machine q.reply) refused).full ≡ None → IsSeen g k (acted (counted k) p next (call_of q.machine q.reply) refused) p
  is_seen refused full =
      let l = acted (counted k) p next (call_of q.machine q.reply) refused in
      let c = called (call_of q.machine q.reply) refused full in
      let events : l.events ≡ k.events + 1 = (acted_along p next (counted k) (call_of q.machine q.reply) refused).events in
      record {
        names = c.names;
        shows = subst (λ n. Shows c.names l.entries l.pipes (files l.files) n) (ap (λ n. n + 1) (sym events)) c.shows;
        call = record {
          parent = parent_or_init q.parent;
          act = during.act g k p q;
          put = q.put;
          fds = during.fds g k p q;
          slot = during.slot g k p q up is alive shows;
          effect = c.effect;
          next = ap (λ n. n + 1) events;
        };
      }

runnable_alive : (s : Status) → is_runnable_status s ≡ true → is_zombie_status s ≡ false
runnable_alive Runnable on = refl
runnable_alive (Running other) on = refl
runnable_alive (Asleep c) on = refl
runnable_alive Zombie on = absurd (let z : ⊥ = cc in z)

-- a trap
pub trap_seen : (g : Names) (k l : KernelState User) (h p : ℕ) (refused : Bool) → p ≢ 0 → IsConsistent k → ShowsIn g k → happens call_of next_of k (Trap h p) refused ≡ Some l → l.full ≡ None → IsSeen g k l p
trap_seen g k l h p refused up settled shows happened full = by (is_running_on h (at k.table p)) refl happened
  where
    go : (x : Slot User) → at k.table p ≡ x → is_running_on h x ≡ true → trapped call_of next_of k p x refused ≡ Some l → IsSeen g k l p
    go None is on e = absurd (let z : ⊥ = cc in z)
    go (Some q) is on e =
        let m = acted (counted k) p (next_of q.machine q.reply) (call_of q.machine q.reply) refused in
        let same : m ≡ l = cc in
        subst (λ z. IsSeen g k z p) same (is_seen g k p q up is (runs_alive h q.status on) settled shows refused (ap (λ (z : KernelState User). z.full) same ∙ full))

    by : (c : Bool) → is_running_on h (at k.table p) ≡ c → (if c then trapped call_of next_of k p (at k.table p) refused else None) ≡ Some l → IsSeen g k l p
    by true on e = go (at k.table p) refl on e
    by false on e = absurd (let z : ⊥ = cc in z)

-- a dispatch
pub dispatch_quiet : (g : Names) (k l : KernelState User) (h p : ℕ) (refused : Bool) → ShowsIn g k → happens call_of next_of k (Dispatch h p) refused ≡ Some l → ShowsIn g l × Quiet (view g k) (view g l) × (l.events ≡ k.events + 1)
dispatch_quiet g k l h p refused shows happened = by (can_dispatch k.table h p) refl happened
  where
    alive : (x : Slot User) → is_runnable x ≡ true → (q : Process User) → x ≡ Some q → is_zombie_status q.status ≡ false
    alive None on q is = absurd (let z : ⊥ = cc in z)
    alive (Some r) on q is = let same : r ≡ q = cc in subst (λ (z : Process User). is_zombie_status z.status ≡ false) same (runnable_alive r.status on)

    by : (c : Bool) → can_dispatch k.table h p ≡ c → (if c then Some (record (counted k) { table = dispatched k.table p h }) else None) ≡ Some l → ShowsIn g l × Quiet (view g k) (view g l) × (l.events ≡ k.events + 1)
    by false on e = absurd (let z : ⊥ = cc in z)
    by true on e =
        let m = record (counted k) { table = dispatched k.table p h } in
        let same : m ≡ l = cc in
        let ready : is_runnable (at k.table p) ≡ true = (and_parts (nat_lt h HARTS && not (is_some (position (is_running_on h) k.table))) (is_runnable (at k.table p)) on).1 in
        subst (λ z. ShowsIn g z × Quiet (view g k) (view g z) × (z.events ≡ k.events + 1)) same (
          shows_later g k.entries k.pipes (files k.files) (k.events + 1) shows,
          record {
            slots = λ q. seen_alike g.name g.name k.table (dispatched k.table p h) q (dispatch_seen g.name k.table p h (alive (at k.table p) ready) q (cases_eq q p));
            rest = record { pipes = λ i. refl; places = λ e. refl; files = refl; input = refl; out = refl };
          },
          refl,
        )
