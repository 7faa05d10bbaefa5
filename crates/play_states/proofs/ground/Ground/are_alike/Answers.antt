use Rattle.std.proofs.Common.{◌≡◌, Bool, true, false, refl, sym, ap, subst, ◌∙◌}
use Rattle.std.specs.Prelude.{Result, Ok}
use Rattle.kernel_model.specs.KernelState.{KernelState}
use Rattle.order_search.specs.Room.{HasAhead}
use Rattle.order_search.specs.After.{AreAlikeAfter}
use Rattle.order_search.proofs.Leading.{start_is}
use Rattle.play_states.proofs.ground.Ground.are_alike.Goals as goal

said : {E : Type 0} (b : Bool) → ◌≡◌ {A = Result Bool E} (Ok b) (Ok true) → b ≡ true
said true is = refl
said false is = absurd (let z : ⊥ = cc in z)

pub are_alike-requires : goal.are_alike-requires
are_alike-requires g c =
    let v = g.M.Machine.view in
    let o = c.self.inside.origin in
    subst (HasAhead g.M.Machine.call_of g.M.Machine.next_of o.ahead) (sym (start_is (v o.init) (v o.shell) o.stdin.now o.files.now)) c.self.invariant

pub returns : goal.returns
returns g c = λ is.
    let v = g.M.Machine.view in
    let o = c.self.inside.origin in
    subst (λ (k : KernelState g.row.M-State.Denot). AreAlikeAfter g.M.Machine.call_of g.M.Machine.next_of k c.args.pids.now c.args.others.now) (start_is (v o.init) (v o.shell) o.stdin.now o.files.now ∙ c.self.view_is)
    (c.in_ok-alike.ensures (ap Ok (said c.in_ok-alike.alike is)))
