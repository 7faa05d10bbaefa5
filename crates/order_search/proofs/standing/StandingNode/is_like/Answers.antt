use Rattle.std.proofs.Common.{subst}
use Rattle.kernel_model.specs.KernelState.{KernelState}
use Rattle.kernel_model.specs.Key.{key}
use Rattle.kernel_model.specs.Woke.{woke}
use Rattle.kernel_model.specs.Numbers.{SameButNumbers}
use Rattle.kernel_model.specs.Anyhow.{SameKeyAnyhow}
use Rattle.order_search.specs.Led.{Led}
use Rattle.order_search.proofs.Leading.{woken_key}
use Rattle.order_search.proofs.standing.StandingNode.is_like.Goals as goal

pub returns : goal.returns
returns g c = λ is.
    let S = g.row.M-State.Denot in
    let k = c.self.inside.kernel.value in
    let m = c.other.inside.kernel.value in
    let looks : SameButNumbers (woke c.self.inside.look) (woke c.other.inside.look) = c.is_like.ensures is in
    let same : SameKeyAnyhow k m =
    subst (λ (j : KernelState S). SameButNumbers j (key (woke m))) (woken_key k c.self.inside.look c.self.invariant.look)
    (subst (λ (j : KernelState S). SameButNumbers (woke c.self.inside.look) j) (woken_key m c.other.inside.look c.other.invariant.look) looks) in
    subst (λ (n : Led S). SameKeyAnyhow n.now c.args.other.now.now) c.self.view_is (subst (λ (n : Led S). SameKeyAnyhow k n.now) c.other.view_is same)
