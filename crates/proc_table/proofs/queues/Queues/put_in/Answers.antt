-- The slot stands at the end of its queue, or in no list.
use Rattle.std.proofs.Common.{◌≡◌, Option, false, refl, sym, ap, subst, ◌∙◌}
use Rattle.std.proofs.Math.ListN.{set}
use Rattle.slot_lists.specs.Links.{has, slots_of}
use Rattle.proc_table.specs.declared.heads.Head.{Head}
use Rattle.proc_table.specs.declared.states.Channel.{Channel}
use Rattle.proc_table.specs.declared.states.Status.{Status}
use Rattle.proc_table.specs.declared.states.Status.TheVariants.{Runnable, Running, Asleep, Zombie}
use Rattle.proc_table.specs.Slots.{is_asleep_on_status, is_runnable_status}
use Rattle.proc_table.specs.Heads.{head_has}
use Rattle.proc_table.specs.Queues.{AreQueued, Queues}
use Rattle.proc_table.proofs.Queueing.{queued_up, stays_out}
use Rattle.proc_table.proofs.queues.Queues.put_in.Goals as goal

pub returns-in-Runnable : goal.returns-in-Runnable
returns-in-Runnable c = λ heads queued free.
    let was = subst (λ (q : Queues). AreQueued heads q) (sym c.self.view_is) queued in
    subst (λ (head : Option Head). AreQueued (set heads c.args.slot head) (record { lists = c.push.new.self; channels = c.self.inside.channels; last = c.self.inside.last })) (sym c.in-Some.is)
    (queued_up heads _ was c.args.slot c.requires.within c.in-Some.head c.in-Runnable.is c.push.new.self
    (c.self.invariant.1 c.args.slot c.requires.within) (λ list lt. ap (λ (q : Queues). has (slots_of q.lists list) c.args.slot) c.self.view_is ∙ c.requires.out list lt) c.push.ensures.here c.push.ensures.others)

idle : (status : Status) → (status ≡ Runnable → ⊥) → is_runnable_status status ≡ false
idle Runnable ne = absurd (ne refl)
idle (Running h) ne = refl
idle (Asleep channel) ne = refl
idle Zombie ne = refl

awake : (status : Status) → ((channel : Channel) → status ≡ Asleep channel → ⊥) → (channel : Channel) → is_asleep_on_status channel status ≡ false
awake Runnable ne channel = refl
awake (Running h) ne channel = refl
awake (Asleep other) ne channel = absurd (ne other refl)
awake Zombie ne channel = refl

pub returns-in_default-status : goal.returns-in_default-status
returns-in_default-status c = λ heads queued free.
    stays_out heads c.args.self.now queued c.args.slot c.requires.within c.args.head.now c.requires.out
    (ap (head_has is_runnable_status) c.in-Some.is ∙ idle c.in-Some.head.status c.in_default-status.not-Runnable)
    (λ channel. ap (head_has (is_asleep_on_status channel)) c.in-Some.is ∙ awake c.in-Some.head.status c.in_default-status.not-Asleep channel)
