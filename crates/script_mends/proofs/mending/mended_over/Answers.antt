use Rattle.std.proofs.Common.{◌≡◌, ◌<◌, None, subst}
use Rattle.script_mends.specs.Lines.{IsLineAt, ends_in}
use Rattle.script_mends.specs.Mended.{no_line, no_rule}
use Rattle.script_mends.specs.Mends.{mend_of}
use Rattle.script_mends.proofs.Found.{at_none}
use Rattle.script_mends.proofs.mending.mended_over.Goals as goal

pub returns-in_default : goal.returns-in_default
returns-in_default c = no_line (subst (λ n. ends_in c.args.bytes.now < n) c.count_before-count.ensures c.in_default.ensures.none)

pub returns-in-None : goal.returns-in-None
returns-in-None c =
    let cut = c.in-Some.cut in
    no_rule (subst (λ n. IsLineAt c.args.bytes.now n cut.before.now cut.text.now cut.after.now) c.count_before-count.ensures c.in-Some.ensures.some)
    (subst (λ name. mend_of name c.args.reason.now cut.text.now ≡ None) c.requires (at_none _ _ c.in_ok-found.found c.in_ok-found.ensures c.in-None.is))
