-- As many bytes as there is room for are the first ones of all that could be held.
use Rattle.std.proofs.Common.{◌≡◌, ◌∙◌, ℕ, ◌+◌, List, ◌++◌, length, take, min, ap, sym, arith}
use Rattle.std.proofs.lemmas.List.{take_min}
use Rattle.std.proofs.Math.Seq.{take-append-add}

pub first : (bytes : List ℕ) (size : ℕ) → take (min (length bytes) size) bytes ≡ take size bytes
first bytes size = ap (λ (n : ℕ). take n bytes) (omega arith) ∙ take_min size bytes

pub fitting : (held bytes : List ℕ) (room size : ℕ) → room + length held ≡ size → held ++ take (min (length bytes) room) bytes ≡ take size (held ++ bytes)
fitting held bytes room size all =
    ap (λ (tail : List ℕ). held ++ tail) (first bytes room)
    ∙ sym (take-append-add held bytes room)
    ∙ ap (λ (n : ℕ). take n (held ++ bytes)) (omega (arith, all))
