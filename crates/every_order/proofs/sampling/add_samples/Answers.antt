use Rattle.std.proofs.Common.{◌≡◌, List, ◌++◌, ◌⊎◌, Option, inl, inr, sym, subst}
use Rattle.std.specs.Prelude.{All, IfSome}
use Rattle.std.specs.Option.{option_to_list}
use Rattle.std.proofs.lemmas.List.Elements.{All-append}
use Rattle.script_load.specs.Line.{lines_of}
use Rattle.sh_machine.specs.Turn.{call_of, next_of}
use Rattle.run_model.specs.ScriptRun.{script_kernel}
use Rattle.order_search.specs.Told.{IsReplayed}
use Rattle.order_search.specs.declared.outcomes.Outcome.{Outcome}
use Rattle.every_order.proofs.Last.{all_of}
use Rattle.every_order.proofs.sampling.add_samples.Goals as goal

added : (P : Outcome → Type 0) (before after : List Outcome) (sample : Option Outcome) → (after ≡ before) ⊎ (after ≡ before ++ option_to_list sample) → All P before → IfSome sample P → All P after
added P before after sample (inl same) all new = subst (All P) (sym same) all
added P before after sample (inr more) all new = subst (All P) (sym more) (All-append P before (option_to_list sample) all (all_of P sample new))

pub loop-number-preserved : goal.loop-number-preserved
loop-number-preserved g c =
    let setting = c.args.setting.now in
    let start = script_kernel setting.script.now.profile (lines_of setting.script.now.lines) setting.stdin.now setting.files.now in (
      (λ first. added (IsReplayed call_of next_of start) c.loop-number.outcomes.items c.add_left.new.outcomes.items c.in_ok-sample.sample c.in_ok-add_left.ensures.added (c.loop-number.invariant.0 first) c.in_ok-sample.ensures.sound),
      (λ apart. c.in_ok-add_left.ensures.apart (c.loop-number.invariant.1 apart)),
    )
