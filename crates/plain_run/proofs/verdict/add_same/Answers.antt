use Rattle.std.proofs.Common.{◌∙◌, ap, sym, arith}
use Rattle.std.specs.Str.{bytes_eq}
use Rattle.plain_run.proofs.AgainSteps.{filter_more}
use Rattle.plain_run.proofs.verdict.add_same.Goals as goal

pub loop-word-preserved : goal.loop-word-preserved
loop-word-preserved g c =
    filter_more (λ word. bytes_eq word c.args.name.now) c.loop-word.list.items c.add_if.new.list.items c.args.list.now.items c.args.words.now c.loop-word.word-index c.word-item.result c.as_slice-in-loop-word.result.now _ (omega arith)
    (c.as_slice-in-loop-word.ensures ∙ c.word-item.is) (c.eq-is_same.ensures ∙ ap (λ word. bytes_eq word c.args.name.now) (c.as_slice.ensures ∙ sym c.as_slice-in-loop-word.ensures)) c.in_ok-add_if.ensures c.loop-word.invariant
