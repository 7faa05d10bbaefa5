use Rattle.std.proofs.Common.{◌||◌, ap, sym, ◌∙◌, arith}
use Rattle.grep_match.specs.Match.{can_fit_somewhere}
use Rattle.grep_match.specs.Literal.{ones}
use Rattle.grep_match.proofs.LiteralSearch.{none_occur, first_misses, first_stands}
use Rattle.grep_match.proofs.literal.occurs.Goals as goal

pub returns-in_default : goal.returns-in_default
returns-in_default c = none_occur c.args.literal.now c.args.text.now c.in_default.ensures.cases

pub returns-then-starts_with : goal.returns-then-starts_with
returns-then-starts_with c =
    ap (λ z. z || can_fit_somewhere (ones c.args.literal.now) c.split_at.result.1.now) (sym c.if-starts_with.true)
    ∙ first_stands c.in-Some.field-0-0.now c.in-Some.others.now c.args.literal.now c.loop-place.left.now c.split_at.result.1.now c.in-Some-memchr.place c.starts_with.result _
    c.in-Some.ensures.cases.0 c.requires c.in-Some-memchr.ensures.0.high c.in-Some-memchr.ensures.0.before c.in-Some-memchr.ensures.1
    c.split_at.ensures.back c.starts_with.ensures.value c.loop-place.invariant.same

pub loop-place-preserved : goal.loop-place-preserved
loop-place-preserved c = record {
  fewer = omega (arith, c.split_at.ensures.back_len, c.loop-place.invariant.fewer);
  same =
      ap (λ z. z || can_fit_somewhere (ones c.args.literal.now) c.split_at.result.1.now) (sym c.if-starts_with.false)
      ∙ first_stands c.in-Some.field-0-0.now c.in-Some.others.now c.args.literal.now c.loop-place.left.now c.split_at.result.1.now c.in-Some-memchr.place c.starts_with.result _
      c.in-Some.ensures.cases.0 c.requires c.in-Some-memchr.ensures.0.high c.in-Some-memchr.ensures.0.before c.in-Some-memchr.ensures.1
      c.split_at.ensures.back c.starts_with.ensures.value c.loop-place.invariant.same;
}

pub returns : goal.returns
returns c =
    first_misses c.in-Some.field-0-0.now c.in-Some.others.now c.args.literal.now c.loop-place.left.now _
    c.in-Some.ensures.cases.0 c.requires c.in_default-memchr.ensures c.loop-place.invariant.same
