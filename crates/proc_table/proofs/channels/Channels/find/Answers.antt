-- The set has the channel's list, if that isn't in its bucket, until it is found.
use Rattle.std.proofs.Common.{◌≡◌, ◌≢◌, ◌+◌, ◌<◌, ℕ, List, Bool, Option, IfNone, Some, length, get_or, false, true, refl, sym, ap, subst, ◌∙◌, arith, get_or-set_other}
use Rattle.std.proofs.Math.ListN.{set}
use Rattle.std.specs.Prelude.{map}
use Rattle.slot_lists.specs.Sets.{is_key}
use Rattle.fd_table.proofs.Lists.{within_list}
use Rattle.proc_table.specs.declared.states.Channel.{Channel}
use Rattle.proc_table.specs.Channels.{channel_of}
use Rattle.proc_table.proofs.Kept.{none_passes}
use Rattle.proc_table.proofs.Naming.{away_there, taken_out}
use Rattle.proc_table.proofs.channels.Channels.find.Goals as goal

pub loop-step-init : goal.loop-step-init
loop-step-init c =
    let are = c.self.invariant in
    record {
      flags = map (is_key (1 + c.bucket-home.result)) are.keys;
      has = c.set-away.ensures are.keys are.grouped;
      left = λ list named.
          let there : channel_of c.self.inside.channels list ≡ Some c.args.channel.now = ap (λ (channels : List (Option Channel)). channel_of channels list) c.self.view_is ∙ named in
          subst (λ (home : ℕ). get_or (map (is_key (1 + home)) are.keys) list false ≡ true) (sym c.bucket-home.ensures.value)
          (away_there c.self.inside.channels c.self.inside.groups are list c.args.channel.now (omega (arith, within_list c.self.inside.channels list c.args.channel.now there, are.all)) there
          (λ home. let no : false ≡ true = c.if-is_of.ensures.1 (ap (channel_of c.args.self.now) (c.bucket-home.ensures.value ∙ home) ∙ named) in let not : ⊥ = cc in not));
      gone = λ k lt. absurd (omega arith);
    }

none_named : (channels : List (Option Channel)) (channel : Channel) (flags : List Bool) → ((list : ℕ) → channel_of channels list ≡ Some channel → get_or flags list false ≡ true)
    → ((list : ℕ) → list < length channels → get_or flags list false ≡ false) → (list : ℕ) → channel_of channels list ≢ Some channel
none_named channels channel flags left none list named =
    let no : false ≡ true = sym (none list (within_list channels list channel named)) ∙ left list named in
    let not : ⊥ = cc in not

pub returns-in_err-list-clause-none : goal.returns-in_err-list-clause-none
returns-in_err-list-clause-none c =
    let i = c.loop-step.invariant in
    subst (λ (found : Option ℕ). IfNone found ((list : ℕ) → channel_of c.args.self.now list ≢ Some c.args.channel.now)) (sym c.from_residual.ensures)
    (none_named c.args.self.now c.args.channel.now i.flags i.left
    (λ list lt. none_passes (λ flag. flag) i.flags false refl (sym (c.first.ensures.value i.flags i.has) ∙ c.in_err-list.was) list))

pub loop-step-preserved : goal.loop-step-preserved
loop-step-preserved c =
    let i = c.loop-step.invariant in
    record {
      flags = set i.flags c.in_ok-list.list false;
      has = c.with-away.ensures i.flags i.has;
      left = λ list named.
          get_or-set_other i.flags c.in_ok-list.list list false false (λ same. let no : false ≡ true = c.if-is_of-2.ensures.1 (ap (channel_of c.args.self.now) (sym same) ∙ named) in let not : ⊥ = cc in not) ∙ i.left list named;
      gone = taken_out i.flags c.in_ok-list.list c.loop-step._step (sym (c.first.ensures.value i.flags i.has) ∙ c.in_ok-list.was) i.gone;
    }

pub returns-clause-none : goal.returns-clause-none
returns-clause-none c =
    let i = c.loop-step.invariant in
    none_named c.args.self.now c.args.channel.now i.flags i.left
    (λ list lt. i.gone list (omega (arith, lt, subst (λ (channels : List (Option Channel)). length channels ≡ 64) c.self.view_is c.self.invariant.all, c.loop-step-test.false)))
