use Rattle.std.proofs.Common.{◌∙◌, sym, ap, refl, ◌++◌, ◌∷◌, []}
use Rattle.prog_parts.proofs.Ended.{on_match, on_other, on_line, at_end, out_none, untested_none, out_stop, untested_stop}
use Rattle.prog_parts.specs.Grep.{grep_out, untested}
use Rattle.plain_run.proofs.Extending.{extends_more}
use Rattle.plain_run.proofs.grep.grep_lines.Goals as goal

pub loop-line-preserved-in_ok-push : goal.loop-line-preserved-in_ok-push
loop-line-preserved-in_ok-push g c =
    let whole = sym c.is_whole.ensures ∙ c.if-not-is_whole.false in
    let written = c.in_ok-push.ensures.items ∙ ap (λ o. o ++ 10 ∷ []) c.in_ok-extend_from_slice.ensures.items in (
      on_match c.args.pattern.now c.in-Some.line.now c.in-Some.after.now c.loop-line.rest.now c.loop-line.out.items c.push.new.self.items _ c.in-Some.ensures.line c.in-Some.ensures.some whole (sym c.is_match.ensures.test ∙ c.if-is_match.true) written c.loop-line.invariant.0,
      on_line c.in-Some.line.now c.in-Some.after.now c.loop-line.rest.now _ c.in-Some.ensures.line c.in-Some.ensures.some whole c.loop-line.invariant.1,
      extends_more c.args.out.now.items (c.loop-line.out.items ++ c.in-Some.line.now) c.push.new.self.items (10 ∷ []) (extends_more c.args.out.now.items c.loop-line.out.items (c.loop-line.out.items ++ c.in-Some.line.now) c.in-Some.line.now c.loop-line.invariant.2 refl) written,
    )

pub loop-line-preserved : goal.loop-line-preserved
loop-line-preserved g c =
    let whole = sym c.is_whole.ensures ∙ c.if-not-is_whole.false in (
      on_other c.args.pattern.now c.in-Some.line.now c.in-Some.after.now c.loop-line.rest.now c.loop-line.out.items _ c.in-Some.ensures.line c.in-Some.ensures.some whole (sym c.is_match.ensures.test ∙ c.if-is_match.false) c.loop-line.invariant.0,
      on_line c.in-Some.line.now c.in-Some.after.now c.loop-line.rest.now _ c.in-Some.ensures.line c.in-Some.ensures.some whole c.loop-line.invariant.1,
      c.loop-line.invariant.2,
    )

pub returns-then-not-is_whole-clause-out : goal.returns-then-not-is_whole-clause-out
returns-then-not-is_whole-clause-out g c =
    let broken = sym c.is_whole.ensures ∙ c.if-not-is_whole.true in
    at_end c.args.pattern.now c.loop-line.rest.now c.loop-line.out.items _
    (ap (grep_out c.args.pattern.now) c.in-Some.ensures.some ∙ out_stop c.args.pattern.now c.in-Some.line.now c.in-Some.after.now c.in-Some.ensures.line broken) c.loop-line.invariant.0

pub returns-then-not-is_whole-clause-rest : goal.returns-then-not-is_whole-clause-rest
returns-then-not-is_whole-clause-rest g c =
    let broken = sym c.is_whole.ensures ∙ c.if-not-is_whole.true in
    c.in-Some.ensures.some ∙ sym (untested_stop c.in-Some.line.now c.in-Some.after.now c.in-Some.ensures.line broken) ∙ ap untested (sym c.in-Some.ensures.some) ∙ c.loop-line.invariant.1

pub returns-clause-out : goal.returns-clause-out
returns-clause-out g c =
    at_end c.args.pattern.now c.loop-line.rest.now c.loop-line.out.items _ (out_none c.args.pattern.now c.loop-line.rest.now c.in_default.ensures.none) c.loop-line.invariant.0

pub returns-clause-rest : goal.returns-clause-rest
returns-clause-rest g c = sym (untested_none c.loop-line.rest.now c.in_default.ensures.none) ∙ c.loop-line.invariant.1
