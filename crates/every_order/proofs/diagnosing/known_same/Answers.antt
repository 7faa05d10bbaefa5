use Rattle.std.proofs.Common.{◌∙◌, subst, sym}
use Rattle.every_order.specs.Known.{AreSame}
use Rattle.every_order.proofs.Knowing.{same}
use Rattle.every_order.proofs.diagnosing.known_same.Goals as goal

pub returns : goal.returns
returns c start from =
    subst (AreSame start) (sym (c.in_ok-text.ensures.items ∙ c.as_slice.ensures.value))
    (same start c.args.found.now from c.if-not-found.false (c.is_awake.ensures.0 c.if-not-is_awake.false) c.args.one.now c.requires.among c.requires.roomy c.requires.same)
