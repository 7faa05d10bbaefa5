-- What lasts over a run: the count of its events, its mark, and that a pipe's name is new when it is made.
use Rattle.std.proofs.Common.{◌≡◌, ℕ, ◌+◌, List, [], ◌∷◌, Bool, true, false, Option, Some, None, length, refl, subst, arith}
use Rattle.std.specs.Prelude.{if◌then◌else◌}
use Rattle.user_calls.specs.declared.calls.Call.{Call}
use Rattle.user_calls.specs.declared.calls.Reply.{Reply}
use Rattle.proc_table.specs.Slots.{Slot, at, is_running_on}
use Rattle.proc_table.specs.Calls.{dispatched}
use Rattle.kernel_model.specs.declared.events.Event.{Event}
use Rattle.kernel_model.specs.declared.events.Event.TheVariants.{Dispatch, Trap}
use Rattle.kernel_model.specs.KernelState.{KernelState}
use Rattle.kernel_model.specs.Events.{acted, counted, trapped, happens, run, can_dispatch}
use Rattle.kernel_model.specs.Lasting.{IsLater}
use Rattle.kernel_model.proofs.Along.{acted_along}

now : {S : Type 0} (k : KernelState S) → IsLater k 0 k
now k = record { events = omega arith; mark = λ f is. is; names = λ id later none. none }

then_later : {S : Type 0} (k l m : KernelState S) (n : ℕ) → IsLater k 1 l → IsLater l n m → IsLater k (n + 1) m
then_later k l m n a b =
    record {
      events = omega (arith, a.events, b.events);
      mark = λ f is. b.mark f (a.mark f is);
      names = λ id later none. b.names id later (a.names id (omega (arith, later, b.events)) none);
    }

module _ {S : Type 0} (call : S → Reply → Call) (next : S → Reply → S) where
  acted_later : (k : KernelState S) (pid : ℕ) (after : S) (c : Call) (refused : Bool) → IsLater k 1 (acted (counted k) pid after c refused)
  acted_later k pid after c refused =
      let a = acted_along pid after (counted k) c refused in
      record {
        events = a.events;
        mark = a.mark;
        names = λ id later none. a.names id (omega (arith, later, a.events)) none;
      }

  trapped_later : (k m : KernelState S) (pid : ℕ) (x : Slot S) (refused : Bool) → trapped call next k pid x refused ≡ Some m → IsLater k 1 m
  trapped_later k m pid None refused is = absurd (let z : ⊥ = cc in z)
  trapped_later k m pid (Some p) refused is =
      let same : acted (counted k) pid (next p.machine p.reply) (call p.machine p.reply) refused ≡ m = cc in
      subst (IsLater k 1) same (acted_later k pid (next p.machine p.reply) (call p.machine p.reply) refused)

  pub happens_later : (k m : KernelState S) (e : Event) (refused : Bool) → happens call next k e refused ≡ Some m → IsLater k 1 m
  happens_later k m (Dispatch h pid) refused is = by (can_dispatch k.table h pid) is where
    by : (b : Bool) → (if b then Some (record (counted k) { table = dispatched k.table pid h }) else None) ≡ Some m → IsLater k 1 m
    by true some =
        let given : KernelState S = record (counted k) { table = dispatched k.table pid h } in
        let same : given ≡ m = cc in
        let one : IsLater k 1 given = record { events = refl; mark = λ f was. was; names = λ id later none. none } in
        subst (IsLater k 1) same one
    by false some = absurd (let z : ⊥ = cc in z)
  happens_later k m (Trap h pid) refused is = by (is_running_on h (at k.table pid)) is where
    by : (b : Bool) → (if b then trapped call next k pid (at k.table pid) refused else None) ≡ Some m → IsLater k 1 m
    by true some = trapped_later k m pid (at k.table pid) refused some
    by false some = absurd (let z : ⊥ = cc in z)

  pub no_run : (es : List Event) (ns : List Bool) (m : KernelState S) → run call next None es ns ≡ Some m → ⊥
  no_run [] [] m is = cc
  no_run [] (n ∷ ns) m is = cc
  no_run (e ∷ es) [] m is = cc
  no_run (e ∷ es) (n ∷ ns) m is = no_run es ns m is

  pub run_later : (k m : KernelState S) (es : List Event) (ns : List Bool) → run call next (Some k) es ns ≡ Some m → IsLater k (length es) m
  run_later k m [] [] is = let same : k ≡ m = cc in subst (IsLater k 0) same (now k)
  run_later k m [] (n ∷ ns) is = absurd (let z : ⊥ = cc in z)
  run_later k m (e ∷ es) [] is = absurd (let z : ⊥ = cc in z)
  run_later k m (e ∷ es) (n ∷ ns) is = by (happens call next k e n) refl (λ l. run_later l m es ns) is where
    by : (o : Option (KernelState S)) → happens call next k e n ≡ o → ((l : KernelState S) → run call next (Some l) es ns ≡ Some m → IsLater l (length es) m) → run call next o es ns ≡ Some m → IsLater k (length (e ∷ es)) m
    by None first on rest = absurd (no_run es ns m rest)
    by (Some l) first on rest = subst (λ (j : ℕ). IsLater k j m) (omega arith) (then_later k l m (length es) (happens_later k l e n first) (on l rest))
