-- A run goes on by one event, and a dispatch is one: that of a Runnable process to a hart that runs nothing.
use Rattle.std.proofs.Common.{◌≡◌, ℕ, ◌+◌, List, [], ◌∷◌, ◌++◌, Bool, true, false, Option, Some, None, length, length-append, refl, sym, ap, ◌∙◌}
use Rattle.std.proofs.lemmas.List.Quantifiers.{position-Some}
use Rattle.std.proofs.lemmas.Bool.{lt-ltb}
use Rattle.std.specs.Prelude.{if◌then◌else◌, ◌&&◌, not, is_some, position, All, ◌<◌}
use Rattle.user_calls.specs.declared.calls.Call.{Call}
use Rattle.user_calls.specs.declared.calls.Reply.{Reply}
use Rattle.proc_table.specs.Slots.{Table, at, is_runnable, is_running_on}
use Rattle.kernel_model.specs.declared.events.Event.{Event}
use Rattle.kernel_model.specs.declared.events.Event.TheVariants.{Dispatch}
use Rattle.kernel_model.specs.KernelState.{KernelState}
use Rattle.kernel_model.specs.Events.{counted, happens, then_happens, run, can_dispatch}
use Rattle.proc_table.specs.declared.table.TheConstants.{HARTS}
use Rattle.proc_table.specs.Calls.{dispatched}

module _ {S : Type 0} (call : S → Reply → Call) (next : S → Reply → S) where
  pub run_more : (o : Option (KernelState S)) (es : List Event) (ns : List Bool) (k m : KernelState S) (e : Event) (n : Bool) → run call next o es ns ≡ Some k → happens call next k e n ≡ Some m → run call next o (es ++ e ∷ []) (ns ++ n ∷ []) ≡ Some m
  run_more o [] [] k m e n was is = ap (λ (p : Option (KernelState S)). then_happens call next p e n) was ∙ is
  run_more o (x ∷ es) (y ∷ ns) k m e n was is = run_more (then_happens call next o x y) es ns k m e n was is
  run_more o [] (y ∷ ns) k m e n was is = absurd (let z : ⊥ = cc in z)
  run_more o (x ∷ es) [] k m e n was is = absurd (let z : ⊥ = cc in z)

idle_by : {S : Type 0} (h : ℕ) (t : Table S) (o : Option ℕ) → All (λ slot. is_running_on h slot ≡ false) t → position (is_running_on h) t ≡ o → is_some o ≡ false
idle_by h t None idle is = refl
idle_by h t (Some i) idle is =
    let found = position-Some (is_running_on h) t i None is in
    absurd (let no_way : true ≡ false = sym found.1 ∙ idle i None found.0 in let z : ⊥ = cc in z)

-- a Runnable process can be given to a hart that runs nothing
can_be_given : {S : Type 0} (t : Table S) (h pid : ℕ) → h < HARTS → All (λ slot. is_running_on h slot ≡ false) t → is_runnable (at t pid) ≡ true → can_dispatch t h pid ≡ true
can_be_given t h pid small idle ready =
    ap (λ (b : Bool). b && not (is_some (position (is_running_on h) t)) && is_runnable (at t pid)) (lt-ltb h HARTS small) ∙ ap (λ (b : Bool). true && not b && is_runnable (at t pid)) (idle_by h t (position (is_running_on h) t) idle refl) ∙ ready

pub dispatch_happens : {S : Type 0} (call : S → Reply → Call) (next : S → Reply → S) (k : KernelState S) (h pid : ℕ) (refused : Bool) → h < HARTS → All (λ slot. is_running_on h slot ≡ false) k.table → is_runnable (at k.table pid) ≡ true → happens call next k (Dispatch h pid) refused ≡ Some (record (counted k) { table = dispatched k.table pid h })
dispatch_happens call next k h pid refused small idle ready =
    ap (λ (b : Bool). if b then Some (record (counted k) { table = dispatched k.table pid h }) else None) (can_be_given k.table h pid small idle ready)

pub length_more : {X : Type 0} (l : List X) (x : X) → length (l ++ x ∷ []) ≡ length l + 1
length_more l x = simp length-append
