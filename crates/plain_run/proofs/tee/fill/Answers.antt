use Rattle.std.proofs.Common.{ap, sym, ◌∙◌, arith, Ok}
use Rattle.mem_files.specs.Files.{files}
use Rattle.plain_run.proofs.Filling.{fill_one, beside_one}
use Rattle.plain_run.proofs.tee.fill.Goals as goal

pub loop-name-preserved : goal.loop-name-preserved
loop-name-preserved g c =
    let name = c.as_slice.ensures ∙ c.name-item.is in
    let filled = fill_one c.args.names.now c.loop-name.name-index c.args.bytes.now c.as_slice.result.now c.name-item.result (files c.loop-name.store) (files c.give.new.store) _ _ (omega arith) name (sym c.in_ok-give.ensures.answer ∙ c.if-not-branch.false) (c.in_ok-give.ensures.given (ap Ok c.if-not-branch.false)) (c.loop-name.invariant.0, c.loop-name.invariant.1) in (
      filled.0,
      filled.1,
      beside_one c.args.names.now c.loop-name.name-index c.args.bytes.now c.as_slice.result.now c.name-item.result (files c.args.store.now) (files c.loop-name.store) (files c.give.new.store) (omega arith) name (c.in_ok-give.ensures.given (ap Ok c.if-not-branch.false)) c.loop-name.invariant.2,
    )
