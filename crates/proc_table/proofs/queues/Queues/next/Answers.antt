-- The first of a queue is Runnable; where all eight are empty, nothing is.
use Rattle.std.proofs.Common.{◌≡◌, ◌⊎◌, inl, inr, ℕ, ◌+◌, ◌-◌, ◌%◌, ◌<◌, None, get_or, sym, subst, ap, ◌∙◌, arith}
use Rattle.std.specs.Prelude.{slice_get}
use Rattle.std.proofs.lemmas.Bool.{cases_eq}
use Rattle.slot_lists.specs.Links.{slots_of}
use Rattle.proc_table.specs.Queues.{Queues}
use Rattle.proc_table.proofs.Waking.{first_runs, none_runs}
use Rattle.proc_table.proofs.queues.Queues.next.Goals as goal

pub loop-away-init : goal.loop-away-init
loop-away-init c = λ k lt. absurd (omega arith)

pub returns-in-Some-clause-some : goal.returns-in-Some-clause-some
returns-in-Some-clause-some c = λ heads queued.
    let hart : ℕ = (c.args.hart + c.loop-away.away) % 8 in
    first_runs heads c.args.self.now queued ((c.args.hart + c.loop-away.away) % 8) c.in-Some.slot (omega arith) c.in-Some.ensures.within
    (ap (λ (q : Queues). slice_get (slots_of q.lists ((c.args.hart + c.loop-away.away) % 8)) 0) (sym c.self.view_is) ∙ sym c.in-Some.ensures.value)

pub loop-away-preserved : goal.loop-away-preserved
loop-away-preserved c = λ k lt. by k lt (cases_eq k c.loop-away.away) where
  by : (k : ℕ) → k < c.loop-away.away + 1 → (k ≡ c.loop-away.away) ⊎ (k ≡ c.loop-away.away → ⊥) → slice_get (slots_of c.args.self.now.lists ((c.args.hart + k) % 8)) 0 ≡ None
  by k lt (inl same) =
      ap (λ (n : ℕ). slice_get (slots_of c.args.self.now.lists ((c.args.hart + n) % 8)) 0) same
      ∙ ap (λ (q : Queues). slice_get (slots_of q.lists ((c.args.hart + c.loop-away.away) % 8)) 0) (sym c.self.view_is) ∙ sym c.in_default.ensures.value
  by k lt (inr less) = c.loop-away.invariant k (omega arith)

pub returns-clause-none : goal.returns-clause-none
returns-clause-none c = λ heads queued.
    none_runs heads c.args.self.now queued (λ slot small. subst (λ (q : Queues). get_or q.last slot 0 < 8) c.self.view_is (c.self.invariant.1 slot small)) (λ hart lt.
    subst (λ (n : ℕ). slice_get (slots_of c.args.self.now.lists n) 0 ≡ None) (omega arith) (c.loop-away.invariant ((hart + 8 - c.args.hart) % 8) (omega arith)))
