-- Names and places of pipes.
use Rattle.std.proofs.Common.{◌≡◌, ◌≢◌, ℕ, zero, suc, ◌+◌, ◌<◌, List, [], ◌∷◌, Bool, true, false, Some, length, drop, get_or, refl, ap, ◌∙◌, arith}
use Rattle.std.specs.Prelude.{if◌then◌else◌, ◌==◌}
use Rattle.std.proofs.lemmas.Bool.{ne_eqb, eq-eqb}
use Rattle.byte_pipe.specs.PipeState.{PipeState}
use Rattle.kernel_model.specs.Pipes.{Pipes, pipe_of}
use Rattle.kernel_model.specs.Key.{place_in}
use Rattle.order_search.specs.Places.{names_in, place_among, AscendWithin}

pub place_is : (pipes : Pipes) (id : ℕ) → place_in pipes id ≡ place_among (names_in pipes) id
place_is [] id = refl
place_is (p ∷ rest) id = ap (λ (n : ℕ). if id == p.0 then 0 else suc n) (place_is rest id)

-- ---- the place of a name

one_on : (n : ℕ) → suc n ≡ 1 + n
one_on n = omega arith

next_up : (i : ℕ) → suc (i + 1) ≡ suc i + 1
next_up i = omega arith

pub place_next : (ns : List ℕ) (i id : ℕ) → i < length ns → (id == get_or ns i 0) ≡ false → place_among (drop i ns) id ≡ 1 + place_among (drop (i + 1) ns) id
place_next [] i id within is = absurd (omega arith)
place_next (n ∷ ns) zero id within is = ap (λ (b : Bool). if b then 0 else suc (place_among ns id)) is ∙ one_on (place_among ns id)
place_next (n ∷ ns) (suc i) id within is = place_next ns i id (omega (arith, within)) is ∙ ap (λ (k : ℕ). 1 + place_among (drop k (n ∷ ns)) id) (next_up i)

pub place_here : (ns : List ℕ) (i id : ℕ) → i < length ns → (id == get_or ns i 0) ≡ true → place_among (drop i ns) id ≡ 0
place_here [] i id within is = absurd (omega arith)
place_here (n ∷ ns) zero id within is = ap (λ (b : Bool). if b then 0 else suc (place_among ns id)) is
place_here (n ∷ ns) (suc i) id within is = place_here ns i id (omega (arith, within)) is

-- ---- a pipe by its name

other_pipe : (p : ℕ × PipeState) (rest : Pipes) (id : ℕ) → id ≢ p.0 → pipe_of (p ∷ rest) id ≡ pipe_of rest id
other_pipe p rest id ne = ap (λ (b : Bool). if b then Some p.1 else pipe_of rest id) (ne_eqb id p.0 ne)

this_pipe : (p : ℕ × PipeState) (rest : Pipes) (id : ℕ) → id ≡ p.0 → pipe_of (p ∷ rest) id ≡ Some p.1
this_pipe p rest id is = ap (λ (b : Bool). if b then Some p.1 else pipe_of rest id) (eq-eqb id p.0 is)

pub found : (low high : ℕ) (ps : Pipes) (i : ℕ) (d : ℕ × PipeState) → AscendWithin low high ps → i < length ps → (low < (get_or ps i d).0) × (pipe_of ps (get_or ps i d).0 ≡ Some (get_or ps i d).1)
found low high [] i d up less = absurd (omega arith)
found low high (p ∷ rest) zero d up less = (up.0, this_pipe p rest p.0 refl)
found low high (p ∷ rest) (suc i) d up less =
    let later = found p.0 high rest i d up.1 (omega (arith, less)) in
    (omega (arith, up.0, later.0), other_pipe p rest (get_or rest i d).0 (λ e. let z : ⊥ = omega (arith, e, later.0) in z) ∙ later.1)

pub name_at : (ps : Pipes) (i : ℕ) (d : ℕ × PipeState) → i < length ps → get_or (names_in ps) i 0 ≡ (get_or ps i d).0
name_at [] i d less = absurd (let z : ⊥ = omega (arith, less) in z)
name_at (p ∷ rest) zero d less = refl
name_at (p ∷ rest) (suc i) d less = name_at rest i d (omega (arith, less))
