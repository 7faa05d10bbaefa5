-- The bytes fit.
use Rattle.std.proofs.Common.{◌∙◌, length, List, ℕ, ap, arith, slice_index_or}
use Rattle.user_calls.specs.declared.calls.Call.TheVariants.{Write}
use Rattle.user_progs.specs.Turn.{block}
use Rattle.user_progs.proofs.Given.{tee_gives_call}
use Rattle.user_progs.proofs.tee.ask_gives.Goals as goal

pub returns-then-at-fds : goal.returns-then-at-fds
returns-then-at-fds c =
    let kept = c.args.kept.now in
    let fds = c.as_slice-fds.ensures.fds in
    let bytes = c.as_slice-bytes.ensures.bytes in
    (λ i. Write (slice_index_or (fds i) c.args.at 0) (block (bytes i)))
    ∙ tee_gives_call kept.fds c.args.at kept.block (omega (arith, c.if-at-fds.true, ap (λ (l : List ℕ). length l) fds)) c.as_slice-bytes.ensures.fits
