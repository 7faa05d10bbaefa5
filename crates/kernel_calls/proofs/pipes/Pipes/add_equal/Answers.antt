-- It stands at the end.
use Rattle.std.proofs.Common.{ℕ, [], ◌∷◌, ◌++◌, ap, ◌∙◌}
use Rattle.kernel_model.specs.Pipes.{Pipes, with_new}
use Rattle.kernel_calls.specs.Placed.{with_placed}
use Rattle.kernel_calls.proofs.Copied.{last_changed}
use Rattle.kernel_calls.proofs.pipes.Pipes.add_equal.Goals as goal

pub returns : goal.returns
returns g c =
    ap (λ (pipes : Pipes). with_placed pipes c.count-at.result c.copy_from.new.self) c.in_ok-add.ensures.ok
    ∙ ap (λ (at : ℕ). with_placed (with_new c.args.self.now c.args.name) at c.copy_from.new.self) c.count-at.ensures
    ∙ last_changed c.args.self.now c.args.name c.copy_from.new.self
    ∙ ap (λ now. c.args.self.now ++ (c.args.name, now) ∷ []) c.copy_from.ensures
