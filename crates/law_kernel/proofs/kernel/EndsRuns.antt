-- In every run from the start the ends of pipes and the entries that hold them are in step.
use Rattle.std.proofs.Common.{◌≡◌, ℕ, zero, suc, ◌+◌, ◌<◌, List, [], ◌∷◌, Bool, true, false, Option, Some, None, refl, subst, arith}
use Rattle.std.specs.Prelude.{⊤, if◌then◌else◌, replicate, count_by, cond}
use Rattle.std.proofs.lemmas.List.Sums.{sum_by-cons}
use Rattle.user_calls.specs.declared.calls.Call.{Call}
use Rattle.user_calls.specs.declared.calls.Reply.{Reply}
use Rattle.fd_table.specs.declared.entries.TheConstants.{ENTRIES}
use Rattle.fd_table.specs.declared.names.Object.{Object}
use Rattle.fd_table.specs.declared.names.Object.TheVariants.{Input, Out, Diag}
use Rattle.fd_table.specs.Entries.{OpenFile}
use Rattle.proc_table.specs.Slots.{Slot, at, is_running_on}
use Rattle.proc_table.specs.Calls.{dispatched}
use Rattle.mem_files.specs.Name.{Name, Bytes}
use Rattle.kernel_model.specs.declared.events.Event.{Event}
use Rattle.kernel_model.specs.declared.events.Event.TheVariants.{Dispatch, Trap}
use Rattle.kernel_model.specs.KernelState.{KernelState}
use Rattle.kernel_model.specs.Pipes.{pipe_of}
use Rattle.kernel_model.specs.Descriptors.{with_open}
use Rattle.kernel_model.specs.Boot.{closed_kernel, boot_kernel}
use Rattle.kernel_model.specs.Events.{counted, trapped, can_dispatch, happens, then_happens, run}
use Rattle.kernel_model.proofs.Along.{acted_along}
use Rattle.law_kernel.specs.Ends.{reads_pipe, writes_pipe, has_object, EndsAgree}
use Rattle.law_kernel.proofs.kernel.EndsOpened.{other_agrees}
use Rattle.law_kernel.proofs.kernel.EndsCalls.{acted_agrees}

-- the ends are in step, and no pipe has the name of an event to come
pub record InStep {S : Type 0} (k : KernelState S) : Type 0 where
  pub ends : EndsAgree k.entries k.pipes
  pub names : (id : ℕ) → k.events < id → pipe_of k.pipes id ≡ None

abbrev pub InStepIf : {S : Type 0} → Option (KernelState S) → Type 0
InStepIf None = ⊤
InStepIf (Some k) = InStep k

-- ---- the start

none_open : (test : Object → Bool) (n : ℕ) → count_by (has_object test) (replicate n None) ≡ 0
none_open test zero = refl
none_open test (suc n) = omega (arith, sum_by-cons (λ (x : Option OpenFile). cond {A = ℕ} (has_object test x) 1 0) None (replicate n None), none_open test n)

pub boot_in_step : {S : Type 0} (init shell : S) (input : Bytes) (list : List (Name × Bytes)) → InStep (boot_kernel init shell input list)
boot_in_step init shell input list =
    let k0 = closed_kernel init shell input list in
    let k1 = with_open k0 1 Input in
    let k2 = with_open k1 1 Out in
    let nothing : EndsAgree k0.entries k0.pipes = record { readers = λ id. none_open (reads_pipe id) ENTRIES; writers = λ id. none_open (writes_pipe id) ENTRIES; apart = tt } in
    record {
      ends = other_agrees 1 k2 Diag (λ id. refl) (λ id. refl) (other_agrees 1 k1 Out (λ id. refl) (λ id. refl) (other_agrees 1 k0 Input (λ id. refl) (λ id. refl) nothing));
      names = λ id later. refl;
    }

-- ---- an event

in_step_where : {S : Type 0} (b : Bool) (o : Option (KernelState S)) → InStepIf o → InStepIf (if b then o else None)
in_step_where true o s = s
in_step_where false o s = tt

module _ {S : Type 0} (call : S → Reply → Call) (next : S → Reply → S) where
  trap_in_step : (k : KernelState S) (pid : ℕ) (x : Slot S) (refused : Bool) → InStep k → InStepIf (trapped call next k pid x refused)
  trap_in_step k pid None refused s = tt
  trap_in_step k pid (Some p) refused s =
      let later = acted_along pid (next p.machine p.reply) (counted k) (call p.machine p.reply) refused in
      record {
        ends = acted_agrees pid (next p.machine p.reply) (counted k) (call p.machine p.reply) refused (s.names (k.events + 1) (omega arith)) s.ends;
        names = λ id past. later.names id (omega (arith, past, later.events)) (s.names id (omega (arith, past, later.events)));
      }

  pub happens_in_step : (k : KernelState S) (e : Event) (refused : Bool) → InStep k → InStepIf (happens call next k e refused)
  happens_in_step k (Dispatch h pid) refused s =
      in_step_where (can_dispatch k.table h pid) (Some (record (counted k) { table = dispatched k.table pid h })) (record { ends = s.ends; names = λ id past. s.names id (omega (arith, past)) })
  happens_in_step k (Trap h pid) refused s = in_step_where (is_running_on h (at k.table pid)) (trapped call next k pid (at k.table pid) refused) (trap_in_step k pid (at k.table pid) refused s)

  then_in_step : (o : Option (KernelState S)) (e : Event) (refused : Bool) → InStepIf o → InStepIf (then_happens call next o e refused)
  then_in_step None e refused s = tt
  then_in_step (Some k) e refused s = happens_in_step k e refused s

  run_in_step : (o : Option (KernelState S)) (events : List Event) (notes : List Bool) → InStepIf o → InStepIf (run call next o events notes)
  run_in_step o [] [] s = s
  run_in_step o (e ∷ es) (n ∷ ns) s = run_in_step (then_happens call next o e n) es ns (then_in_step o e n s)
  run_in_step o [] (n ∷ ns) s = tt
  run_in_step o (e ∷ es) [] s = tt

  pub every_run_in_step : (init shell : S) (input : Bytes) (list : List (Name × Bytes)) (events : List Event) (notes : List Bool) (m : KernelState S)
      → run call next (Some (boot_kernel init shell input list)) events notes ≡ Some m → EndsAgree m.entries m.pipes
  every_run_in_step init shell input list events notes m is =
      (subst InStepIf is (run_in_step (Some (boot_kernel init shell input list)) events notes (boot_in_step init shell input list))).ends

  -- and after one event more
  pub next_in_step : (init shell : S) (input : Bytes) (list : List (Name × Bytes)) (events : List Event) (notes : List Bool) (k : KernelState S) (e : Event) (refused : Bool) (m : KernelState S)
      → run call next (Some (boot_kernel init shell input list)) events notes ≡ Some k → happens call next k e refused ≡ Some m → EndsAgree m.entries m.pipes
  next_in_step init shell input list events notes k e refused m ran is =
      (subst InStepIf is (happens_in_step k e refused (subst InStepIf ran (run_in_step (Some (boot_kernel init shell input list)) events notes (boot_in_step init shell input list))))).ends
