use Rattle.std.proofs.Common.{length, sym, ap, ◌∙◌, subst}
use Rattle.std.specs.Prelude.{◌==◌}
use Rattle.std.proofs.lemmas.Bool.{false≢true}
use Rattle.std.proofs.lemmas.List.{take_rest}
use Rattle.xvsh_read.proofs.Parts.{Begun, begun_more, begun_kept}
use Rattle.xvsh_read.proofs.writing.write.Goals.{in-Ok, in-Err+else-ne}
use Rattle.xvsh_read.proofs.writing.write.Goals as goal

pub loop-call-preserved : goal.loop-call-preserved
loop-call-preserved g c =
    let old = g.W.Write.contents c.args.to.now in
    let mid = g.W.Write.contents c.loop-call.to in
    let new = g.W.Write.contents c.write.new.self in
    let bytes = c.args.bytes.now in
    let left = c.loop-call.rest.now in (
      elim c.match-write.branch [
        | in-Ok w ↦ subst (Begun old new bytes) (sym (ap (λ r. r.now) w.rest-is ∙ take_rest left w.in-Ok.count)) (begun_more old mid new bytes left w.in-Ok.count c.loop-call.invariant.0 w.in-Ok.ensures.bytes)
        | in-Err+else-ne w ↦ subst (Begun old new bytes) (ap (λ r. r.now) (sym w.rest-is)) (begun_kept old mid new bytes left c.loop-call.invariant.0 w.in-Err.ensures.bytes)
      ],
      λ none. absurd (false≢true (sym c.if-is_empty.false ∙ c.is_empty.ensures ∙ ap (λ r. length r == 0) (c.loop-call.invariant.1 none).1)),
    )
