use Rattle.std.proofs.Common.{◌≡◌, Bool, true, false, refl}
use Rattle.std.specs.Prelude.{Result, Ok}
use Rattle.order_search.proofs.after.are_alike.Goals as goal

said : {E : Type 0} (b : Bool) → ◌≡◌ {A = Result Bool E} (Ok b) (Ok true) → b ≡ true
said true is = refl
said false is = absurd (let z : ⊥ = cc in z)

pub returns : goal.returns
returns g c = λ is.
    record {
      first = c.in_ok-first.first.now;
      turns = c.in_ok-first.ensures;
      second = c.in_ok-second.second.now;
      other_turns = c.in_ok-second.ensures;
      alike = c.is_like.ensures (said c.is_like.result is);
    }
