-- The first in the channel's list sleeps on it; where the channel has no list, nobody does.
use Rattle.std.proofs.Common.{◌≡◌, ◌<◌, ℕ, List, Option, IfNone, IfSome, Some, None, false, true, sym, subst}
use Rattle.std.specs.Prelude.{slice_get}
use Rattle.proc_table.specs.declared.heads.Head.{Head}
use Rattle.proc_table.specs.Slots.{is_asleep_on_status}
use Rattle.proc_table.specs.Heads.{head_at, head_has}
use Rattle.proc_table.specs.Channels.{channel_of}
use Rattle.proc_table.specs.Queues.{AreQueued, Queues, sleepers_of}
use Rattle.proc_table.proofs.Waking.{first_sleeps, none_sleeps, not_empty}
use Rattle.proc_table.proofs.queues.Queues.sleeper.Goals as goal

pub returns-in_err-list-clause-none : goal.returns-in_err-list-clause-none
returns-in_err-list-clause-none c = λ heads queued.
    let was = subst (λ (q : Queues). AreQueued heads q) (sym c.self.view_is) queued in
    subst (λ (found : Option ℕ). IfNone found ((slot : ℕ) → head_has (is_asleep_on_status c.args.channel.now) (head_at heads slot) ≡ false)) (sym c.from_residual.ensures)
    (none_sleeps heads _ was c.args.channel.now c.in_err-list.ensures.none)

pub returns-clause-some : goal.returns-clause-some
returns-clause-some c = λ heads queued.
    let was = subst (λ (q : Queues). AreQueued heads q) (sym c.self.view_is) queued in
    by heads (first_sleeps heads _ was c.args.channel.now c.in_ok-list.list) c.first.result c.first.ensures.value c.first.ensures.within
  where
    by : (heads : List (Option Head)) → ((slot : ℕ) → channel_of c.self.inside.channels c.in_ok-list.list ≡ Some c.args.channel.now → c.in_ok-list.list < 64 → slot < 64 → slice_get (sleepers_of c.self.inside.lists c.in_ok-list.list) 0 ≡ Some slot → head_has (is_asleep_on_status c.args.channel.now) (head_at heads slot) ≡ true)
        → (found : Option ℕ) → found ≡ slice_get (sleepers_of c.self.inside.lists c.in_ok-list.list) 0 → IfSome found (λ slot. slot < 64) → IfSome found (λ slot. head_has (is_asleep_on_status c.args.channel.now) (head_at heads slot) ≡ true)
    by heads sleeps None is within = tt
    by heads sleeps (Some slot) is within = sleeps slot c.in_ok-list.ensures.some c.in_ok-list.ensures.within within (sym is)

pub returns-clause-none : goal.returns-clause-none
returns-clause-none c = λ heads queued.
    let was = subst (λ (q : Queues). AreQueued heads q) (sym c.self.view_is) queued in
    by heads (not_empty heads _ was c.args.channel.now c.in_ok-list.list c.in_ok-list.ensures.some) c.first.result c.first.ensures.value
  where
    by : (heads : List (Option Head)) → (slice_get (sleepers_of c.self.inside.lists c.in_ok-list.list) 0 ≡ None → ⊥) → (found : Option ℕ) → found ≡ slice_get (sleepers_of c.self.inside.lists c.in_ok-list.list) 0
        → IfNone found ((slot : ℕ) → head_has (is_asleep_on_status c.args.channel.now) (head_at heads slot) ≡ false)
    by heads some None is = λ slot. absurd (some (sym is))
    by heads some (Some slot) is = tt
