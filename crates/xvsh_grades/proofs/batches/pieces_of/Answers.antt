use Rattle.std.proofs.Common.{[], ◌∷◌, ◌++◌, ap, arith, map, sym, subst, take, ◌∙◌}
use Rattle.std.proofs.lemmas.List.{take_more}
use Rattle.xvsh_grades.specs.Jobs.{ArePieces, of_none, of_more}
use Rattle.xvsh_grades.proofs.batches.pieces_of.Goals as goal

pub loop-script-init : goal.loop-script-init
loop-script-init c = subst (ArePieces (map (λ test. test.now) c.args.plan.now.tests.now) []) (sym c.new-pieces.ensures.items) of_none

pub loop-script-preserved : goal.loop-script-preserved
loop-script-preserved c =
    let tests = map (λ test. test.now) c.args.plan.now.tests.now in
    let scripts = c.args.scripts.now in
    let i = c.loop-script.script-index in
    let added = c.in_ok-add_pieces.ensures in
    let front = take_more scripts i c.script-item.result (omega arith) ∙ ap (λ z. take i scripts ++ z ∷ []) (sym c.script-item.is) in
    subst (λ s. ArePieces tests s c.add_pieces.new.pieces.items) (sym front)
    (subst (ArePieces tests (take i scripts ++ c.script-item.result ∷ [])) (sym added.1) (of_more c.script-item.result added.0 c.loop-script.invariant added.2))
