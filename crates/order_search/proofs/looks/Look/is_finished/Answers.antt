use Rattle.std.proofs.Common.{◌≡◌, ◌≢◌, ◌<◌, ◌≤◌, ℕ, None, length, get_or, refl, ap, sym, ◌∙◌, arith, rules}
use Rattle.std.specs.Prelude.{IsSome}
use Rattle.proc_table.specs.Slots.{at}
use Rattle.kernel_model.specs.KernelState.{KernelState}
use Rattle.order_search.specs.Shown.{slot_of}
use Rattle.order_search.proofs.Looking.{at_kept, past_kept, alone_next, alone_past, none_if, never, some_not}
use Rattle.order_search.proofs.looks.Look.is_finished.Goals as goal

pub loop-i-preserved : goal.loop-i-preserved
loop-i-preserved g c =
    let xs = c.self.inside.slots.items in
    let n : ℕ = c.loop-i.i in
    let within : n < length xs = search rules in
    let got : c.index.result.now ≡ get_or xs n c.index.result.now = search rules in
    let there : at c.args.self.now.table n ≡ slot_of c.index.result.now = ap (λ (k : KernelState g.row.M-State.Denot). at k.table n) (sym c.self.view_is) ∙ at_kept xs n c.index.result.now within ∙ ap slot_of (sym got) in
    alone_next c.args.self.now.table n c.loop-i.invariant (there ∙ none_if (slot_of c.index.result.now) (λ some. never c.is_used.result (c.is_used.ensures.1 some) c.if-is_used.false))

pub returns-then-is_used : goal.returns-then-is_used
returns-then-is_used g c =
    let xs = c.self.inside.slots.items in
    let n : ℕ = c.loop-i.i in
    let within : n < length xs = search rules in
    let got : c.index.result.now ≡ get_or xs n c.index.result.now = search rules in
    let there : at c.args.self.now.table n ≡ slot_of c.index.result.now = ap (λ (k : KernelState g.row.M-State.Denot). at k.table n) (sym c.self.view_is) ∙ at_kept xs n c.index.result.now within ∙ ap slot_of (sym got) in
    let some : IsSome (slot_of c.index.result.now) = c.is_used.ensures.0 c.if-is_used.true in
    let other : n ≢ 0 = omega arith in
    ((λ t pid ne. absurd (let z : ⊥ = cc in z)), (λ over. absurd (some_not (slot_of c.index.result.now) some (sym there ∙ over n other))))

pub returns : goal.returns
returns g c =
    let k = c.args.self.now in
    let xs = c.self.inside.slots.items in
    let gone : length xs ≤ c.loop-i.i = search rules in
    let past : (q : ℕ) → c.loop-i.i ≤ q → at k.table q ≡ None = λ q after. ap (λ (j : KernelState g.row.M-State.Denot). at j.table q) (sym c.self.view_is) ∙ past_kept xs q (omega (arith, gone, after)) in
    ((λ _ pid other. alone_past k.table c.loop-i.i c.loop-i.invariant past pid other), (λ _. refl))
