-- One more is gone.
use Rattle.std.proofs.Common.{◌≡◌, ℕ, suc, ◌+◌, ap, ◌∙◌, arith}
use Rattle.std.specs.Prelude.{drop, remove}
use Rattle.kernel_model.specs.Pipes.{Pipes}
use Rattle.kernel_calls.proofs.Copied.{first_gone}
use Rattle.kernel_calls.proofs.pipes.Pipes.give_up_all.Goals as goal

pub loop-pipe-preserved : goal.loop-pipe-preserved
loop-pipe-preserved g c =
    let more : suc c.loop-pipe._pipe ≡ c.loop-pipe._pipe + 1 = omega arith in
    c.give_up.ensures ∙ ap (λ (pipes : Pipes). remove pipes 0) c.loop-pipe.invariant ∙ first_gone c.loop-pipe._pipe c.args.self.now
    ∙ ap (λ (n : ℕ). drop n c.args.self.now) more
