-- Pipes that go one after the other, and the pipe that was made last.
use Rattle.std.proofs.Common.{◌≡◌, ℕ, zero, suc, List, [], ◌∷◌, ◌++◌, length, refl, ap}
use Rattle.std.specs.Prelude.{drop, remove}
use Rattle.byte_pipe.specs.PipeState.{PipeState}
use Rattle.kernel_model.specs.Pipes.{Pipes, with_new}
use Rattle.kernel_calls.specs.Placed.{with_placed}

pub first_gone : {X : Type 0} (n : ℕ) (xs : List X) → remove (drop n xs) 0 ≡ drop (suc n) xs
first_gone zero [] = refl
first_gone zero (x ∷ xs) = refl
first_gone (suc n) [] = refl
first_gone (suc n) (x ∷ xs) = first_gone n xs

pub last_changed : (pipes : Pipes) (id : ℕ) (now : PipeState) → with_placed (with_new pipes id) (length pipes) now ≡ pipes ++ (id, now) ∷ []
last_changed [] id now = refl
last_changed (p ∷ pipes) id now = ap (λ (l : Pipes). p ∷ l) (last_changed pipes id now)
