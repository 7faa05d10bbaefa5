-- Over every run from the start: what was put into a pipe is what was taken from it, in order, and then what it holds.
use Rattle.std.proofs.Common.{◌≡◌, ℕ, ◌+◌, ◌≤◌, List, [], ◌∷◌, ◌++◌, Bool, true, false, Option, Some, None, refl, sym, ap, subst, ◌∙◌, arith}
use Rattle.std.specs.Prelude.{⊤, if◌then◌else◌}
use Rattle.std.proofs.lemmas.List.{append_assoc}
use Rattle.user_calls.specs.declared.calls.Call.{Call}
use Rattle.user_calls.specs.declared.calls.Reply.{Reply}
use Rattle.byte_pipe.specs.PipeState.{PipeState}
use Rattle.mem_files.specs.Name.{Name, Bytes}
use Rattle.proc_table.specs.Slots.{Slot, at, is_running_on}
use Rattle.proc_table.specs.Calls.{dispatched}
use Rattle.kernel_model.specs.declared.events.Event.{Event}
use Rattle.kernel_model.specs.declared.events.Event.TheVariants.{Dispatch, Trap}
use Rattle.kernel_model.specs.KernelState.{KernelState}
use Rattle.kernel_model.specs.Pipes.{pipe_of}
use Rattle.kernel_model.specs.Boot.{boot_kernel}
use Rattle.kernel_model.specs.Events.{acted, counted, trapped, can_dispatch, happens, run}
use Rattle.kernel_model.proofs.Along.{acted_along}
use Rattle.law_kernel.proofs.kernel.EndsRuns.{InStep, InStepIf, boot_in_step, happens_in_step}
use Rattle.law_kernel.specs.Flow.{put_by, taken_by, moved_in_trap, moved_at, all_moved}
use Rattle.law_kernel.proofs.outcomes.Outcomes.{every_call_ends}
use Rattle.law_kernel.proofs.kernel.Flowing.{Flows, IsNew, then_none, flow_on, counted_put, counted_taken}
use Rattle.law_kernel.proofs.kernel.Moves.{outcome_moves}
use Rattle.kernel_model.proofs.Lasting.{no_run}

module _ {S : Type 0} (call : S → Reply → Call) (next : S → Reply → S) (id : ℕ) where
  module _ (k : KernelState S) (put taken : List ℕ) (step : InStep k) (f : Flows id k put taken) where
    -- the kernel after the event, if it can happen, has passed what it moves too
    abbrev FlowsBy : Event → Option (KernelState S) → Type 0
    FlowsBy e None = ⊤
    FlowsBy e (Some new) = Flows id new (put ++ moved_at call next (put_by id) k e (Some new)) (taken ++ moved_at call next (taken_by id) k e (Some new))

    abbrev TrapFlows : ℕ → Slot S → Option (KernelState S) → Type 0
    TrapFlows pid x None = ⊤
    TrapFlows pid x (Some new) = Flows id new (put ++ moved_in_trap call next (put_by id) k pid x (Some new)) (taken ++ moved_in_trap call next (taken_by id) k pid x (Some new))

    new_here : IsNew id (counted k) put
    new_here later = (f.unborn (omega (arith, later)), step.names id (omega (arith, later)))

    trap_flows : (pid : ℕ) (x : Slot S) (refused : Bool) → at k.table pid ≡ x → TrapFlows pid x (trapped call next k pid x refused)
    trap_flows pid None refused is = tt
    trap_flows pid (Some p) refused is =
        let after : S = next p.machine p.reply in
        let c : Call = call p.machine p.reply in
        let new : KernelState S = acted (counted k) pid after c refused in
        let moves = outcome_moves id (counted k) pid after c new p is step.ends.apart (step.names (k.events + 1) (omega arith)) (every_call_ends (counted k) pid after c refused) in
        let now : Flows id new (put ++ put_by id (counted k) pid c new) (taken ++ taken_by id (counted k) pid c new) = flow_on id (counted k) new put taken _ _ (acted_along pid after (counted k) c refused).events new_here f.rest f.flows f.holds moves in
        subst (λ (l : List ℕ). Flows id new (put ++ put_by id k pid c new) (taken ++ l)) (counted_taken id k pid new c)
        (subst (λ (l : List ℕ). Flows id new (put ++ l) (taken ++ taken_by id (counted k) pid c new)) (counted_put id k pid new c) now)

    dispatch_flows : (b : Bool) (h pid : ℕ) (new : KernelState S) → new.pipes ≡ k.pipes → k.events ≤ new.events → FlowsBy (Dispatch h pid) (if b then Some new else None)
    dispatch_flows false h pid new same more = tt
    dispatch_flows true h pid new same more =
        record {
          rest = f.rest;
          flows = then_none put [] refl ∙ f.flows ∙ ap (λ (l : List ℕ). l ++ f.rest) (sym (then_none taken [] refl));
          holds = λ q is. f.holds q (ap (λ l. pipe_of l id) (sym same) ∙ is);
          unborn = λ later. then_none put [] refl ∙ f.unborn (omega (arith, later, more));
        }

    flows_where : (b : Bool) (e : Event) (o : Option (KernelState S)) → FlowsBy e o → FlowsBy e (if b then o else None)
    flows_where true e o g = g
    flows_where false e o g = tt

    trap_by : (h pid : ℕ) (o : Option (KernelState S)) → TrapFlows pid (at k.table pid) o → FlowsBy (Trap h pid) o
    trap_by h pid None g = tt
    trap_by h pid (Some new) g = g

    event_flows : (e : Event) (refused : Bool) → FlowsBy e (happens call next k e refused)
    event_flows (Dispatch h pid) refused = dispatch_flows (can_dispatch k.table h pid) h pid (record (counted k) { table = dispatched k.table pid h }) refl (omega arith)
    event_flows (Trap h pid) refused =
        flows_where (is_running_on h (at k.table pid)) (Trap h pid) (trapped call next k pid (at k.table pid) refused) (trap_by h pid (trapped call next k pid (at k.table pid) refused) (trap_flows pid (at k.table pid) refused refl))

  -- ---- a run

  abbrev Passed : KernelState S → List ℕ → List ℕ → List Event → List Bool → Option (KernelState S) → Type 0
  Passed m put taken es ns o = Flows id m (put ++ all_moved call next (put_by id) o es ns) (taken ++ all_moved call next (taken_by id) o es ns)

  at_end : (m : KernelState S) (put taken : List ℕ) (k : KernelState S) → Some k ≡ Some m → Flows id k put taken → Flows id m (put ++ []) (taken ++ [])
  at_end m put taken k is f =
      let it : k ≡ m = cc in
      subst (λ (l : List ℕ). Flows id m (put ++ []) l) (sym (then_none taken [] refl))
      (subst (λ (l : List ℕ). Flows id m l taken) (sym (then_none put [] refl)) (subst (λ (n : KernelState S). Flows id n put taken) it f))

  join : (m : KernelState S) (put taken x y X Y : List ℕ) → Flows id m ((put ++ x) ++ X) ((taken ++ y) ++ Y) → Flows id m (put ++ (x ++ X)) (taken ++ (y ++ Y))
  join m put taken x y X Y f =
      subst (λ (l : List ℕ). Flows id m (put ++ (x ++ X)) l) (append_assoc taken y Y) (subst (λ (l : List ℕ). Flows id m l ((taken ++ y) ++ Y)) (append_assoc put x X) f)

  run_flows : (events : List Event) (notes : List Bool) (k m : KernelState S) (put taken : List ℕ) → run call next (Some k) events notes ≡ Some m → InStep k → Flows id k put taken → Passed m put taken events notes (Some k)
  run_flows [] [] k m put taken is step f = at_end m put taken k is f
  run_flows [] (n ∷ ns) k m put taken is step f = absurd (let z : ⊥ = cc in z)
  run_flows (e ∷ es) [] k m put taken is step f = absurd (let z : ⊥ = cc in z)
  run_flows (e ∷ es) (n ∷ ns) k m put taken is step f = by (happens call next k e n) is (happens_in_step call next k e n step) (event_flows k put taken step f e n) (λ new x y go steps g. run_flows es ns new m x y go steps g) where
    by : (o : Option (KernelState S)) → run call next o es ns ≡ Some m → InStepIf o → FlowsBy k put taken step f e o
        → ((new : KernelState S) (x y : List ℕ) → run call next (Some new) es ns ≡ Some m → InStep new → Flows id new x y → Passed m x y es ns (Some new))
        → Flows id m (put ++ (moved_at call next (put_by id) k e o ++ all_moved call next (put_by id) o es ns)) (taken ++ (moved_at call next (taken_by id) k e o ++ all_moved call next (taken_by id) o es ns))
    by None go steps g later = absurd (no_run call next es ns m go)
    by (Some new) go steps g later =
        let x = moved_at call next (put_by id) k e (Some new) in
        let y = moved_at call next (taken_by id) k e (Some new) in
        join m put taken x y (all_moved call next (put_by id) (Some new) es ns) (all_moved call next (taken_by id) (Some new) es ns)
        (later new (put ++ x) (taken ++ y) go steps g)

  module _ (init shell : S) (input : Bytes) (list : List (Name × Bytes)) (events : List Event) (notes : List Bool) (m : KernelState S) (is : run call next (Some (boot_kernel init shell input list)) events notes ≡ Some m) where
    abbrev boot : KernelState S
    boot = boot_kernel init shell input list

    nothing_yet : Flows id boot [] []
    nothing_yet = record { rest = []; flows = refl; holds = λ q found. absurd (let z : ⊥ = cc in z); unborn = λ later. refl }

    every_run_flows : Flows id m (all_moved call next (put_by id) (Some boot) events notes) (all_moved call next (taken_by id) (Some boot) events notes)
    every_run_flows = run_flows events notes boot m [] [] is (boot_in_step init shell input list) nothing_yet

    -- what was put is what was taken, and then what the pipe holds
    pub put_is_taken_and_held : (p : PipeState) → pipe_of m.pipes id ≡ Some p → all_moved call next (put_by id) (Some boot) events notes ≡ all_moved call next (taken_by id) (Some boot) events notes ++ p.bytes
    put_is_taken_and_held p found =
        every_run_flows.flows ∙ ap (λ (l : List ℕ). all_moved call next (taken_by id) (Some boot) events notes ++ l) (sym (every_run_flows.holds p found))

    -- also once the pipe is given up, what was taken is the beginning of what was put
    pub taken_begins_put : (rest : List ℕ) × (all_moved call next (put_by id) (Some boot) events notes ≡ all_moved call next (taken_by id) (Some boot) events notes ++ rest)
    taken_begins_put = (every_run_flows.rest, every_run_flows.flows)
