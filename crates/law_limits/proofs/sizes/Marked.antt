-- Where something was full in a run, there was a first call that marks the kernel with it.
use Rattle.std.proofs.Common.{◌≡◌, ℕ, List, [], ◌∷◌, ◌++◌, Bool, true, false, Option, Some, None, refl, sym, ap, ◌∙◌}
use Rattle.std.specs.Prelude.{if◌then◌else◌}
use Rattle.mem_files.specs.Name.{Name, Bytes}
use Rattle.proc_table.specs.Slots.{Slot, Process, at, is_running_on, is_running_on_status}
use Rattle.proc_table.specs.Calls.{dispatched}
use Rattle.kernel_model.specs.declared.events.Event.{Event}
use Rattle.kernel_model.specs.declared.events.Event.TheVariants.{Dispatch, Trap}
use Rattle.kernel_model.specs.declared.events.Full.{Full}
use Rattle.kernel_model.specs.KernelState.{KernelState}
use Rattle.kernel_model.specs.Boot.{boot_kernel}
use Rattle.kernel_model.specs.Events.{acted, counted, trapped, can_dispatch, happens, run}
use Rattle.kernel_model.proofs.Runs.{run_more}
use Rattle.kernel_model.proofs.Lasting.{run_later, no_run}
use Rattle.sh_machine.specs.State.{User}
use Rattle.sh_machine.specs.Turn.{call_of, next_of}
use Rattle.law_runs.proofs.views.Runs.{IsReached}

-- the process pid, which runs, makes a call that marks the kernel
pub record Marks (k : KernelState User) (full : Full) : Type 0 where
  pub hart : ℕ
  pub pid : ℕ
  pub process : Process User
  pub there : at k.table pid ≡ Some process
  pub running : is_running_on_status hart process.status ≡ true
  pub refused : Bool
  pub marked : (acted (counted k) pid (next_of process.machine process.reply) (call_of process.machine process.reply) refused).full ≡ Some full

module _ (k l : KernelState User) (full : Full) (clean : k.full ≡ None) (marked : l.full ≡ Some full) where
  trap_marks : (h p : ℕ) (n : Bool) (x : Slot User) → at k.table p ≡ x → is_running_on h x ≡ true → trapped call_of next_of k p x n ≡ Some l → Marks k full
  trap_marks h p n None is on e = absurd (let z : ⊥ = cc in z)
  trap_marks h p n (Some q) is on e =
      let same : acted (counted k) p (next_of q.machine q.reply) (call_of q.machine q.reply) n ≡ l = cc in
      record { hart = h; pid = p; process = q; there = is; running = on; refused = n; marked = ap (λ (z : KernelState User). z.full) same ∙ marked }

  event_marks : (e : Event) (n : Bool) → happens call_of next_of k e n ≡ Some l → Marks k full
  event_marks (Dispatch h p) n happened = by (can_dispatch k.table h p) happened
    where
      by : (c : Bool) → (if c then Some (record (counted k) { table = dispatched k.table p h }) else None) ≡ Some l → Marks k full
      by false e = absurd (let z : ⊥ = cc in z)
      by true e =
          let same : record (counted k) { table = dispatched k.table p h } ≡ l = cc in
          let z : None ≡ Some full = sym clean ∙ (ap (λ (z : KernelState User). z.full) same ∙ marked) in
          absurd (let w : ⊥ = cc in w)
  event_marks (Trap h p) n happened = by (is_running_on h (at k.table p)) refl happened
    where
      by : (c : Bool) → is_running_on h (at k.table p) ≡ c → (if c then trapped call_of next_of k p (at k.table p) n else None) ≡ Some l → Marks k full
      by false on e = absurd (let z : ⊥ = cc in z)
      by true on e = trap_marks h p n (at k.table p) refl on e

-- a kernel in which nothing was full before, and such a call of it
pub record FirstMark (first shell : User) (input : Bytes) (list : List (Name × Bytes)) (full : Full) : Type 0 where
  pub kernel : KernelState User
  pub reached : IsReached first shell input list kernel
  pub clean : kernel.full ≡ None
  pub marks : Marks kernel full

module _ (first shell : User) (input : Bytes) (list : List (Name × Bytes)) (full : Full) where
  go_on : (es : List Event) (ns : List Bool) (k m : KernelState User) → IsReached first shell input list k → k.full ≡ None → run call_of next_of (Some k) es ns ≡ Some m → m.full ≡ Some full → FirstMark first shell input list full
  go_on [] [] k m r clean is marked = let same : k ≡ m = cc in absurd (let z : None ≡ Some full = sym clean ∙ (ap (λ (z : KernelState User). z.full) same ∙ marked) in let w : ⊥ = cc in w)
  go_on [] (n ∷ ns) k m r clean is marked = absurd (let z : ⊥ = cc in z)
  go_on (e ∷ es) [] k m r clean is marked = absurd (let z : ⊥ = cc in z)
  go_on (e ∷ es) (n ∷ ns) k m r clean is marked = by (happens call_of next_of k e n) refl (λ l. go_on es ns l m) is
    where
      by : (o : Option (KernelState User)) → happens call_of next_of k e n ≡ o
          → ((l : KernelState User) → IsReached first shell input list l → l.full ≡ None → run call_of next_of (Some l) es ns ≡ Some m → m.full ≡ Some full → FirstMark first shell input list full)
          → run call_of next_of o es ns ≡ Some m → FirstMark first shell input list full
      by None happened on rest = absurd (no_run call_of next_of es ns m rest)
      by (Some l) happened on rest = split l.full refl
        where
          split : (o : Option Full) → l.full ≡ o → FirstMark first shell input list full
          split None none =
              on l (record { events = r.events ++ e ∷ []; notes = r.notes ++ n ∷ []; runs = run_more call_of next_of (Some (boot_kernel first shell input list)) r.events r.notes k l e n r.runs happened }) none rest marked
          split (Some f) some =
              let stays : m.full ≡ Some f = (run_later call_of next_of l m es ns rest).mark f some in
              let z : Some f ≡ Some full = sym stays ∙ marked in
              let same : f ≡ full = cc in
              record { kernel = k; reached = r; clean = clean; marks = event_marks k l full clean (some ∙ ap (λ g. Some g) same) e n happened }

  pub first_mark : (es : List Event) (ns : List Bool) (m : KernelState User) → run call_of next_of (Some (boot_kernel first shell input list)) es ns ≡ Some m → m.full ≡ Some full → FirstMark first shell input list full
  first_mark es ns m is marked = go_on es ns (boot_kernel first shell input list) m (record { events = []; notes = []; runs = refl }) refl is marked
