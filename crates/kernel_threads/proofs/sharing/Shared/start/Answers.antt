use Rattle.std.proofs.Common.{◌≡◌, None, rules}
use Rattle.kernel_threads.proofs.sharing.Shared.start.Goals as goal

pub returns-clause-bad_harts : goal.returns-clause-bad_harts
returns-clause-bad_harts g c =
    let none : c.range_fault.result ≡ None = search rules in
    (λ is. let z : ⊥ = cc in absurd z, λ bad. absurd ((c.range_fault.ensures.none none).0 bad))

pub returns-clause-bad_turns : goal.returns-clause-bad_turns
returns-clause-bad_turns g c =
    let none : c.range_fault.result ≡ None = search rules in
    (λ is. let z : ⊥ = cc in absurd z, λ bad. absurd ((c.range_fault.ensures.none none).1 bad.1))
