-- Turns follow a run: a dispatch of the run needs none, and for each trap one turn is taken.
use Rattle.std.proofs.Common.{◌≡◌, ℕ, List, [], ◌∷◌, Bool, true, false, Option, Some, None, refl, sym, ap, subst, ◌∙◌, arith}
use Rattle.std.specs.Prelude.{if◌then◌else◌, ◌&&◌, not, is_some, position, nat_lt}
use Rattle.std.proofs.lemmas.Bool.{and_parts}
use Rattle.user_calls.specs.declared.calls.Call.{Call}
use Rattle.user_calls.specs.declared.calls.Reply.{Reply}
use Rattle.proc_table.specs.declared.table.TheConstants.{HARTS}
use Rattle.proc_table.specs.Slots.{Slot, Process, at, is_runnable, is_running, is_running_on}
use Rattle.proc_table.specs.Calls.{dispatched}
use Rattle.kernel_model.specs.declared.events.Event.{Event}
use Rattle.kernel_model.specs.declared.events.Event.TheVariants.{Dispatch, Trap}
use Rattle.kernel_model.specs.KernelState.{KernelState}
use Rattle.kernel_model.specs.Events.{acted, counted, can_dispatch, trapped, happens, then_happens, run}
use Rattle.kernel_model.proofs.Along.{acted_along}
use Rattle.kernel_model.proofs.Lasting.{no_run}
use Rattle.law_kernel.proofs.kernel.SoundRuns.{hart_runs}
use Rattle.kernel_model.specs.Idle.{idle_kernel}
use Rattle.kernel_model.specs.Alike.{Alike, IsStill, HasNamesUpTo}
use Rattle.kernel_model.specs.Turns.{Turn, turns_of, by_turns}
use Rattle.law_turns.proofs.orders.Names.{more_names, acted_names, acted_alike}
use Rattle.law_turns.proofs.orders.Follow.{CanRun, dispatched_names, given_names, can_run, ready_status, dispatch_idle, given_0, after_turn, given_happens, turn_happens, turn_still, none_runs}

-- two kernels that are the same, once idle, as two that are alike
pub relike : {S : Type 0} (k j l i : KernelState S) (a : Alike k l) → idle_kernel a.first 0 j ≡ idle_kernel a.first 0 k → idle_kernel a.second 0 i ≡ idle_kernel a.second 0 l → Alike j i
relike k j l i a first second = record { first = a.first; second = a.second; first_one_to_one = a.first_one_to_one; second_one_to_one = a.second_one_to_one; same = first ∙ a.same ∙ sym second }

-- k alone has a dispatch
dispatch_alike : {S : Type 0} (k l : KernelState S) (h pid : ℕ) → is_runnable (at k.table pid) ≡ true → Alike k l → Alike (record (counted k) { table = dispatched k.table pid h }) l
dispatch_alike k l h pid ready a = relike k _ l l a (λ i. record (idle_kernel a.first 0 k) { table = dispatch_idle a.first k.table pid h ready i }) refl

-- k runs ahead on its harts, and l is alike; k names only pipes of its past events
pub record Leads {S : Type 0} (k l : KernelState S) : Type 0 where
  pub alike : Alike k l
  pub names : HasNamesUpTo k.events k

module _ {S : Type 0} (call : S → Reply → Call) (next : S → Reply → S) where
  -- a turn of pid leads from l to a still kernel that m is alike to
  pub record Turned (l : KernelState S) (pid : ℕ) (refused : Bool) (m : KernelState S) : Type 0 where
    pub given : KernelState S
    pub now : KernelState S
    pub first : happens call next l (Dispatch 0 pid) false ≡ Some given
    pub second : happens call next given (Trap 0 pid) refused ≡ Some now
    pub leads : Leads m now
    pub still : IsStill now

  turned_by : (k l : KernelState S) (pid : ℕ) (p : Process S) (refused : Bool) (a : Leads k l) → IsStill l → CanRun a.alike.second p (at l.table pid) → Turned l pid refused (acted (counted k) pid (next p.machine p.reply) (call p.machine p.reply) refused)
  turned_by k l pid p refused a still r =
      let q : Process S = r.process in
      let ready = ready_status a.alike.second q.status r.ready (sym (ap is_running r.there) ∙ none_runs l.table pid still.idle) in
      let runnable : is_runnable (at l.table pid) ≡ true = ap is_runnable r.there ∙ ready in
      let d : KernelState S = counted (given_0 l pid) in
      let now : KernelState S = after_turn call next l pid q refused in
      let m : KernelState S = acted (counted k) pid (next q.machine q.reply) (call q.machine q.reply) refused in
      let before : Alike (counted k) d = relike k (counted k) l d a.alike refl (λ i. record (idle_kernel a.alike.second 0 l) { table = dispatch_idle a.alike.second l.table pid 0 runnable i }) in
      let same : Alike m now = acted_alike (counted k) d k.events l.events pid (next q.machine q.reply) (call q.machine q.reply) refused a.names (given_names call next l pid q refused still r.there ready) (omega arith) (omega arith) before in
      let events : m.events ≡ (counted k).events = (acted_along pid (next q.machine q.reply) (counted k) (call q.machine q.reply) refused).events in
      let names : HasNamesUpTo m.events m = more_names m (counted k).events m.events (omega (arith, events)) (acted_names (counted k) pid (next q.machine q.reply) (call q.machine q.reply) refused (more_names (counted k) k.events (counted k).events (omega arith) a.names)) in
      let both : Leads m now = record { alike = same; names = names } in
      record {
        given = given_0 l pid;
        now = now;
        first = given_happens call next l pid q refused still r.there ready;
        second = turn_happens call next l pid q refused still r.there ready;
        leads = subst (λ (j : KernelState S). Leads j now) (λ i. acted (counted k) pid (next (r.machine i) (r.reply i)) (call (r.machine i) (r.reply i)) refused) both;
        still = turn_still call next l pid q refused still r.there ready;
      }

  turned : (k l m : KernelState S) (h pid : ℕ) (x : Slot S) (refused : Bool) → at k.table pid ≡ x → is_running_on h x ≡ true → Leads k l → IsStill l → trapped call next k pid x refused ≡ Some m → Turned l pid refused m
  turned k l m h pid None refused is runs a still some = absurd (let z : ⊥ = cc in z)
  turned k l m h pid (Some p) refused is runs a still some =
      let same : acted (counted k) pid (next p.machine p.reply) (call p.machine p.reply) refused ≡ m = cc in
      subst (Turned l pid refused) same (turned_by k l pid p refused a still (can_run k l a.alike pid p is (hart_runs h p.status runs)))

  pub trap_turned : (k l m : KernelState S) (h pid : ℕ) (refused : Bool) → Leads k l → IsStill l → happens call next k (Trap h pid) refused ≡ Some m → Turned l pid refused m
  trap_turned k l m h pid refused a still some = by (is_running_on h (at k.table pid)) refl some where
    by : (b : Bool) → is_running_on h (at k.table pid) ≡ b → (if b then trapped call next k pid (at k.table pid) refused else None) ≡ Some m → Turned l pid refused m
    by true runs some = turned k l m h pid (at k.table pid) refused refl runs a still some
    by false runs some = absurd (let z : ⊥ = cc in z)

  pub dispatch_followed : (k l m : KernelState S) (h pid : ℕ) (refused : Bool) → Leads k l → happens call next k (Dispatch h pid) refused ≡ Some m → Leads m l
  dispatch_followed k l m h pid refused a some = by (can_dispatch k.table h pid) refl some where
    by : (b : Bool) → can_dispatch k.table h pid ≡ b → (if b then Some (record (counted k) { table = dispatched k.table pid h }) else None) ≡ Some m → Leads m l
    by true can some =
        let given : KernelState S = record (counted k) { table = dispatched k.table pid h } in
        let same : given ≡ m = cc in
        let ready : is_runnable (at k.table pid) ≡ true = (and_parts (nat_lt h HARTS && not (is_some (position (is_running_on h) k.table))) (is_runnable (at k.table pid)) can).1 in
        subst (λ (j : KernelState S). Leads j l) same (record { alike = dispatch_alike k l h pid ready a.alike; names = more_names given k.events given.events (omega arith) (dispatched_names k h pid ready a.names) })
    by false can some = absurd (let z : ⊥ = cc in z)

  -- these turns lead from l to a still kernel that m is alike to
  pub record Followed (l : KernelState S) (ts : List Turn) (m : KernelState S) : Type 0 where
    pub last : KernelState S
    pub runs : by_turns call next (Some l) ts ≡ Some last
    pub alike : Alike m last
    pub still : IsStill last

  one_more : (l m n : KernelState S) (pid : ℕ) (refused : Bool) (ts : List Turn) (t : Turned l pid refused m) → Followed t.now ts n → Followed l (record { pid = pid; refused = refused } ∷ ts) n
  one_more l m n pid refused ts t f =
      let first : then_happens call next (happens call next l (Dispatch 0 pid) false) (Trap 0 pid) refused ≡ Some t.now = ap (λ (o : Option (KernelState S)). then_happens call next o (Trap 0 pid) refused) t.first ∙ t.second in
      record {
        last = f.last;
        runs = ap (λ (o : Option (KernelState S)). by_turns call next o ts) first ∙ f.runs;
        alike = f.alike;
        still = f.still;
      }

  pub followed : (k l m : KernelState S) (es : List Event) (ns : List Bool) → run call next (Some k) es ns ≡ Some m → Leads k l → IsStill l → Followed l (turns_of es ns) m
  followed k l m [] [] is a still =
      let same : k ≡ m = cc in
      record { last = l; runs = refl; alike = subst (λ (j : KernelState S). Alike j l) same a.alike; still = still }
  followed k l m [] (n ∷ ns) is a still = absurd (let z : ⊥ = cc in z)
  followed k l m (Dispatch h pid ∷ es) [] is a still = absurd (let z : ⊥ = cc in z)
  followed k l m (Trap h pid ∷ es) [] is a still = absurd (let z : ⊥ = cc in z)
  followed k l m (Dispatch h pid ∷ es) (n ∷ ns) is a still = by (happens call next k (Dispatch h pid) n) refl (λ j. followed j l m es ns) is where
    by : (o : Option (KernelState S)) → happens call next k (Dispatch h pid) n ≡ o → ((j : KernelState S) → run call next (Some j) es ns ≡ Some m → Leads j l → IsStill l → Followed l (turns_of es ns) m) → run call next o es ns ≡ Some m → Followed l (turns_of es ns) m
    by None first on rest = absurd (no_run call next es ns m rest)
    by (Some j) first on rest = on j rest (dispatch_followed k l j h pid n a first) still
  followed k l m (Trap h pid ∷ es) (n ∷ ns) is a still = by (happens call next k (Trap h pid) n) refl (λ j i. followed j i m es ns) is where
    by : (o : Option (KernelState S)) → happens call next k (Trap h pid) n ≡ o → ((j i : KernelState S) → run call next (Some j) es ns ≡ Some m → Leads j i → IsStill i → Followed i (turns_of es ns) m) → run call next o es ns ≡ Some m → Followed l (record { pid = pid; refused = n } ∷ turns_of es ns) m
    by None first on rest = absurd (no_run call next es ns m rest)
    by (Some j) first on rest =
        let t = trap_turned k l j h pid n a still first in
        one_more l j m pid n (turns_of es ns) t (on j t.now rest t.leads t.still)
