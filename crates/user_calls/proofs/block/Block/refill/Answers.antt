-- What was written over the front is what is used.
use Rattle.std.proofs.Common.{◌∙◌, arith}
use Rattle.std.proofs.lemmas.List.{take_at, length-take}
use Rattle.user_calls.proofs.Fitting.{first}
use Rattle.user_calls.proofs.block.Block.refill.Goals as goal

pub returns : goal.returns
returns c =
    let fitting = c.min-fitting.result in
    take_at c.copy_from_slice.new.self _ fitting (omega (arith, c.copy_from_slice.ensures.len, length-take fitting c.self.inside.bytes, c.self.told, c.min-fitting.ensures))
    ∙ c.copy_from_slice.ensures.after
    ∙ rw c.min-fitting.ensures (first c.args.bytes.now 1024)
