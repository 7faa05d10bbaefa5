-- What the events of a run add, one after the other, is its output.
use Rattle.std.proofs.Common.{◌≡◌, ℕ, List, [], ◌∷◌, ◌++◌, Bool, true, false, Option, Some, None, length, drop, refl, sym, ap, subst, ◌∙◌, append_assoc, append-nil}
use Rattle.std.proofs.Math.Seq.{drop-append_seam}
use Rattle.std.specs.Prelude.{if◌then◌else◌}
use Rattle.user_calls.specs.declared.calls.Call.{Call}
use Rattle.user_calls.specs.declared.calls.Reply.{Reply}
use Rattle.proc_table.specs.Slots.{Slot, at, is_running_on}
use Rattle.proc_table.specs.Calls.{dispatched}
use Rattle.kernel_model.specs.declared.events.Event.{Event}
use Rattle.kernel_model.specs.declared.events.Event.TheVariants.{Dispatch, Trap}
use Rattle.kernel_model.specs.KernelState.{KernelState}
use Rattle.kernel_model.specs.Events.{acted, counted, trapped, happens, run, can_dispatch}
use Rattle.kernel_model.proofs.Lasting.{no_run}
use Rattle.run_trace.specs.Changes.{added}
use Rattle.run_trace.specs.Outputs.{Adds, out_added, diag_added, outs, diags}
use Rattle.run_trace.proofs.Adds.{acted_adds}

-- what is behind the old bytes was added to them
behind : (old new more : List ℕ) → new ≡ old ++ more → new ≡ old ++ added old new
behind old new more is = is ∙ sym (ap (λ (ys : List ℕ). old ++ drop (length old) ys) is ∙ ap (λ (ys : List ℕ). old ++ ys) (drop-append_seam old more))

module _ {S : Type 0} (call : S → Reply → Call) (next : S → Reply → S) where
  trapped_adds : (k m : KernelState S) (pid : ℕ) (x : Slot S) (refused : Bool) → trapped call next k pid x refused ≡ Some m → Adds k m
  trapped_adds k m pid None refused is = absurd (let z : ⊥ = cc in z)
  trapped_adds k m pid (Some p) refused is =
      let same : acted (counted k) pid (next p.machine p.reply) (call p.machine p.reply) refused ≡ m = cc in
      let adds : Adds (counted k) (acted (counted k) pid (next p.machine p.reply) (call p.machine p.reply) refused) = acted_adds pid (next p.machine p.reply) (counted k) (call p.machine p.reply) refused in
      let from : Adds k (acted (counted k) pid (next p.machine p.reply) (call p.machine p.reply) refused) = record { out = adds.out; diag = adds.diag } in
      subst (Adds k) same from

  pub happens_adds : (k m : KernelState S) (e : Event) (refused : Bool) → happens call next k e refused ≡ Some m → Adds k m
  happens_adds k m (Dispatch h pid) refused is = by (can_dispatch k.table h pid) is where
    by : (b : Bool) → (if b then Some (record (counted k) { table = dispatched k.table pid h }) else None) ≡ Some m → Adds k m
    by true some =
        let given : KernelState S = record (counted k) { table = dispatched k.table pid h } in
        let same : given ≡ m = cc in
        let one : Adds k given = record { out = ([], sym (append-nil k.out)); diag = ([], sym (append-nil k.diag)) } in
        subst (Adds k) same one
    by false some = absurd (let z : ⊥ = cc in z)
  happens_adds k m (Trap h pid) refused is = by (is_running_on h (at k.table pid)) is where
    by : (b : Bool) → (if b then trapped call next k pid (at k.table pid) refused else None) ≡ Some m → Adds k m
    by true some = trapped_adds k m pid (at k.table pid) refused some
    by false some = absurd (let z : ⊥ = cc in z)

  pub all_out : (k m : KernelState S) (es : List Event) (ns : List Bool) → run call next (Some k) es ns ≡ Some m → m.out ≡ k.out ++ outs call next (Some k) es ns
  all_out k m [] [] is = let same : k ≡ m = cc in ap (λ (l : KernelState S). l.out) (sym same) ∙ sym (append-nil k.out)
  all_out k m [] (n ∷ ns) is = absurd (let z : ⊥ = cc in z)
  all_out k m (e ∷ es) [] is = absurd (let z : ⊥ = cc in z)
  all_out k m (e ∷ es) (n ∷ ns) is = by (λ l goes. all_out l m es ns goes) (happens call next k e n) refl is where
    by : ((l : KernelState S) → run call next (Some l) es ns ≡ Some m → m.out ≡ l.out ++ outs call next (Some l) es ns) → (o : Option (KernelState S)) → happens call next k e n ≡ o → run call next o es ns ≡ Some m → m.out ≡ k.out ++ (out_added (Some k) o ++ outs call next o es ns)
    by later None was goes = absurd (no_run call next es ns m goes)
    by later (Some l) was goes =
        let adds = happens_adds k l e n was in
        later l goes ∙ ap (λ (xs : List ℕ). xs ++ outs call next (Some l) es ns) (behind k.out l.out adds.out.0 adds.out.1) ∙ append_assoc k.out (added k.out l.out) (outs call next (Some l) es ns)

  pub all_diag : (k m : KernelState S) (es : List Event) (ns : List Bool) → run call next (Some k) es ns ≡ Some m → m.diag ≡ k.diag ++ diags call next (Some k) es ns
  all_diag k m [] [] is = let same : k ≡ m = cc in ap (λ (l : KernelState S). l.diag) (sym same) ∙ sym (append-nil k.diag)
  all_diag k m [] (n ∷ ns) is = absurd (let z : ⊥ = cc in z)
  all_diag k m (e ∷ es) [] is = absurd (let z : ⊥ = cc in z)
  all_diag k m (e ∷ es) (n ∷ ns) is = by (λ l goes. all_diag l m es ns goes) (happens call next k e n) refl is where
    by : ((l : KernelState S) → run call next (Some l) es ns ≡ Some m → m.diag ≡ l.diag ++ diags call next (Some l) es ns) → (o : Option (KernelState S)) → happens call next k e n ≡ o → run call next o es ns ≡ Some m → m.diag ≡ k.diag ++ (diag_added (Some k) o ++ diags call next o es ns)
    by later None was goes = absurd (no_run call next es ns m goes)
    by later (Some l) was goes =
        let adds = happens_adds k l e n was in
        later l goes ∙ ap (λ (xs : List ℕ). xs ++ diags call next (Some l) es ns) (behind k.diag l.diag adds.diag.0 adds.diag.1) ∙ append_assoc k.diag (added k.diag l.diag) (diags call next (Some l) es ns)
