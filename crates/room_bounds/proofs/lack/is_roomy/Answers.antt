use Rattle.std.proofs.Common.{◌≡◌, true, false, refl}
use Rattle.room_bounds.proofs.Rooms.{not_roomy}
use Rattle.room_bounds.proofs.lack.is_roomy.Goals as goal

pub returns-in-None : goal.returns-in-None
returns-in-None c lines input files room = (λ yes. c.in-None.ensures.none lines input files room, λ roomy. refl)

pub returns-in-Some : goal.returns-in-Some
returns-in-Some c lines input files room =
    let over = c.in-Some.field-0 in
    (λ no. absurd (let z : false ≡ true = no in let w : ⊥ = cc in w), λ roomy. absurd (not_roomy lines input files over.0 over.1 (c.in-Some.ensures.need lines input files room) c.in-Some.ensures.much roomy))
