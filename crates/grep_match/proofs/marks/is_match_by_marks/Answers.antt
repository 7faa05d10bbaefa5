use Rattle.std.proofs.Common.{◌∙◌}
use Rattle.grep_match.proofs.Leading.{begun}
use Rattle.grep_match.proofs.marks.is_match_by_marks.Goals as goal

pub returns : goal.returns
returns c =
    c.walk.ensures
    ∙ begun c.split_anchor-anchored.result.0 c.fill.new.self _ c.split_anchor-anchored.result.1.now c.args.pattern.now c.args.text.now
    (c.fill.ensures.after (λ y e. e)) c.requires c.split_anchor-anchored.ensures.anchored c.split_anchor-anchored.ensures.items
