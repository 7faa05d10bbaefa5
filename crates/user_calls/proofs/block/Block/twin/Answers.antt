-- All of a block's bytes are among the first ones.
use Rattle.std.proofs.Common.{◌∙◌}
use Rattle.std.proofs.lemmas.List.{take_all}
use Rattle.user_calls.proofs.block.Block.twin.Goals as goal

pub returns : goal.returns
returns c = c.from_slice.ensures ∙ rw c.as_slice.ensures.bytes (take_all 1024 c.args.self.now c.as_slice.ensures.fits)
