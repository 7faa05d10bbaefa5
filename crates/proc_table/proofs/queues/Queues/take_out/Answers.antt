-- The slot stands in no list; its channel's list, if nobody else stands in it, is nobody's.
use Rattle.std.proofs.Common.{◌≡◌, ◌<◌, ℕ, List, Option, IfSome, None, Some, false, true, refl, sym, ap, subst, ◌∙◌, arith}
use Rattle.std.proofs.Math.ListN.{set}
use Rattle.std.specs.Option.{is_some}
use Rattle.std.specs.Prelude.{slice_get}
use Rattle.slot_lists.specs.Links.{has, slots_of}
use Rattle.slot_lists.proofs.Removed.{has_not}
use Rattle.proc_table.specs.declared.states.Channel.{Channel}
use Rattle.proc_table.specs.Queues.{AreQueued, Queues}
use Rattle.proc_table.proofs.Kept.{nothing}
use Rattle.proc_table.proofs.Queueing.{emptied, stays_out, taken}
use Rattle.proc_table.proofs.Waking.{first_has, none_has}
use Rattle.proc_table.proofs.queues.Queues.take_out.Goals.{else-list-ge-SLEEPERS-via-then-list-ge-SLEEPERS+else-is_none, else-list-ge-SLEEPERS-via-else-list-ge-SLEEPERS}
use Rattle.proc_table.proofs.queues.Queues.take_out.Goals as goal

pub returns-in_default-clause-after : goal.returns-in_default-clause-after
returns-in_default-clause-after c = λ heads queued.
    stays_out heads c.args.self.now queued c.args.slot c.requires None
    (λ list lt. ap (λ (q : Queues). has (slots_of q.lists list) c.args.slot) (sym c.self.view_is) ∙ c.in_default.ensures.none list lt) refl (λ channel. refl)

pub returns-then-is_none-clause-out : goal.returns-then-is_none-clause-out
returns-then-is_none-clause-out c = λ list lt.
    ap (λ (xs : List ℕ). has xs c.args.slot) (c.remove.ensures list lt) ∙ has_not (slots_of c.self.inside.lists list) c.args.slot

something : (found : Option ℕ) (xs : List ℕ) → is_some found ≡ true → found ≡ slice_get xs 0 → IfSome found (λ slot. slot < 64) → (s : ℕ) × (s < 64) × (has xs s ≡ true)
something None xs some is within = absurd (let no : ⊥ = cc in no)
something (Some slot) xs some is within = (slot, within, first_has xs slot (sym is))

pub returns-then-is_none-clause-after : goal.returns-then-is_none-clause-after
returns-then-is_none-clause-after c = λ heads queued.
    let was = subst (λ (q : Queues). AreQueued heads q) (sym c.self.view_is) queued in
    subst (λ (channels : List (Option Channel)). AreQueued (set heads c.args.slot None) (record { lists = c.remove.new.self; channels = channels; last = c.self.inside.last })) (sym c.release.ensures)
    (emptied heads _ was c.args.slot c.requires c.remove.new.self c.remove.ensures
    c.in-Some.list c.in-Some.ensures.within c.in-Some.ensures.some c.if-list-ge-SLEEPERS.true
    (λ s. none_has (slots_of c.remove.new.self c.in-Some.list) s (sym c.first.ensures.value ∙ nothing c.first.result c.if-is_none.ensures)))

pub returns-else-list-ge-SLEEPERS-clause-out : goal.returns-else-list-ge-SLEEPERS-clause-out
returns-else-list-ge-SLEEPERS-clause-out c = λ list lt.
    let gone : has (slots_of c.remove.new.self list) c.args.slot ≡ false = ap (λ (xs : List ℕ). has xs c.args.slot) (c.remove.ensures list lt) ∙ has_not (slots_of c.self.inside.lists list) c.args.slot in
    elim c.else-list-ge-SLEEPERS.branch [
      | else-list-ge-SLEEPERS-via-then-list-ge-SLEEPERS+else-is_none w ↦ subst (λ (q : Queues). has (slots_of q.lists list) c.args.slot ≡ false) (sym w.self-is) gone
      | else-list-ge-SLEEPERS-via-else-list-ge-SLEEPERS w ↦ subst (λ (q : Queues). has (slots_of q.lists list) c.args.slot ≡ false) (sym w.self-is) gone
    ]

pub returns-else-list-ge-SLEEPERS-clause-after : goal.returns-else-list-ge-SLEEPERS-clause-after
returns-else-list-ge-SLEEPERS-clause-after c = λ heads queued.
    let was = subst (λ (q : Queues). AreQueued heads q) (sym c.self.view_is) queued in
    let after = taken heads _ was c.args.slot c.requires c.remove.new.self c.remove.ensures
    c.in-Some.list c.in-Some.ensures.within c.in-Some.ensures.some in
    elim c.else-list-ge-SLEEPERS.branch [
      | else-list-ge-SLEEPERS-via-then-list-ge-SLEEPERS+else-is_none w ↦
          subst (λ (q : Queues). AreQueued (set heads c.args.slot None) q) (sym w.self-is)
          (after (λ high. something w.first.result (slots_of c.remove.new.self c.in-Some.list) w.if-is_none.ensures w.first.ensures.value w.first.ensures.within))
      | else-list-ge-SLEEPERS-via-else-list-ge-SLEEPERS w ↦
          subst (λ (q : Queues). AreQueued (set heads c.args.slot None) q) (sym w.self-is) (after (λ high. absurd (omega (arith, high, w.if-list-ge-SLEEPERS.false))))
    ]
