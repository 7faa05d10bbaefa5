use Rattle.std.proofs.Common.{◌++◌, subst, sym, ◌∙◌}
use Rattle.grep_match.specs.Pattern.{items_of}
use Rattle.grep_match.specs.Literal.{is_literal, ones}
use Rattle.grep_match.proofs.LiteralSearch.{literal_misses, literal_matches}
use Rattle.grep_match.proofs.literal.is_match_by_literal.Goals as goal

pub returns-then-not-occurs : goal.returns-then-not-occurs
returns-then-not-occurs c =
    literal_misses c.args.pattern.now c.split_anchor-anchored.result.1.now c.split_at.result.0.now c.split_at.result.1.now c.args.text.now
    (sym c.if-anchored.false ∙ c.split_anchor-anchored.ensures.anchored) c.split_anchor-anchored.ensures.items
    (c.literal_len.ensures.split ∙ (λ i. ones (sym c.split_at.ensures.front i) ++ items_of (sym c.split_at.ensures.back i)))
    (subst is_literal (sym c.split_at.ensures.front) c.literal_len.ensures.literal) (sym c.if-not-occurs.true ∙ c.occurs.ensures)

pub returns-then-is_empty : goal.returns-then-is_empty
returns-then-is_empty c =
    literal_matches c.args.pattern.now c.split_anchor-anchored.result.1.now c.split_at.result.0.now c.split_at.result.1.now c.args.text.now
    (sym c.if-anchored.false ∙ c.split_anchor-anchored.ensures.anchored) c.split_anchor-anchored.ensures.items
    (c.literal_len.ensures.split ∙ (λ i. ones (sym c.split_at.ensures.front i) ++ items_of (sym c.split_at.ensures.back i)))
    (sym c.is_empty.ensures ∙ c.if-is_empty.true) (sym c.if-not-occurs.false ∙ c.occurs.ensures)
