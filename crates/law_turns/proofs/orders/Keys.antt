-- Kernels with the same key are alike: no two pipes have the same place.
use Rattle.std.proofs.Common.{◌≡◌, ℕ, suc, [], ◌∷◌, Bool, true, false, refl, sym, ◌∙◌, arith}
use Rattle.std.proofs.lemmas.Bool.{eqb-true}
use Rattle.std.specs.Prelude.{◌==◌, if◌then◌else◌}
use Rattle.byte_pipe.specs.PipeState.{PipeState}
use Rattle.kernel_model.specs.Pipes.{Pipes}
use Rattle.kernel_model.specs.KernelState.{KernelState}
use Rattle.kernel_model.specs.Alike.{Alike, IsOneToOne}
use Rattle.kernel_model.specs.Key.{place_in, key}

place_by : (p : ℕ × PipeState) (rest : Pipes) → IsOneToOne (place_in rest) → (a b : ℕ) (x y : Bool) → (a == p.0) ≡ x → (b == p.0) ≡ y → (if x then 0 else suc (place_in rest a)) ≡ (if y then 0 else suc (place_in rest b)) → a ≡ b
place_by p rest one a b true true at_a at_b is = eqb-true a p.0 at_a ∙ sym (eqb-true b p.0 at_b)
place_by p rest one a b true false at_a at_b is = absurd (omega (arith, is))
place_by p rest one a b false true at_a at_b is = absurd (omega (arith, is))
place_by p rest one a b false false at_a at_b is = one a b (omega (arith, is))

pub one_place : (pipes : Pipes) → IsOneToOne (place_in pipes)
one_place [] a b is = is
one_place (p ∷ rest) a b is = place_by p rest (one_place rest) a b (a == p.0) (b == p.0) refl refl is

pub one_key : {S : Type 0} (k l : KernelState S) → key k ≡ key l → Alike k l
one_key k l is = record { first = place_in k.pipes; second = place_in l.pipes; first_one_to_one = one_place k.pipes; second_one_to_one = one_place l.pipes; same = is }
