use Rattle.std.proofs.Common.{◌≡◌, ℕ, length, take, ap, ◌∙◌}
use Rattle.order_search.proofs.Looking.{untaken}
use Rattle.order_search.proofs.reading.Reader.read_input.Goals as goal

pub returns : goal.returns
returns g c =
    let n : ℕ = 18446744073709551615 in
    let short : length (take n c.args.input.now) ≡ n → ⊥ = λ is. c.if-bytes.false (ap length c.first-bytes.ensures.value ∙ is) in
    c.in_ok-read_bytes.ensures ∙ c.first-bytes.ensures.value ∙ untaken n c.args.input.now short
