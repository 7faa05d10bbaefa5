-- Which names have pipes after one changes, is given up, or is made.
use Rattle.std.proofs.Common.{◌≡◌, ℕ, ◌<◌, [], ◌∷◌, ◌++◌, Bool, true, false, Some, None, refl, ap, ◌∙◌, arith}
use Rattle.std.proofs.lemmas.Bool.{ne_eqb}
use Rattle.std.specs.Prelude.{if◌then◌else◌, ◌==◌, ◌||◌}
use Rattle.byte_pipe.specs.PipeState.{PipeState, new_pipe}
use Rattle.kernel_model.specs.Pipes.{Pipes, pipe_of, with_pipe, without_pipe, with_new, kept_while_open}

-- the name of the pipe at the front isn't one that has no pipe
pub not_front : (p : ℕ × PipeState) (rest : Pipes) (other : ℕ) → pipe_of (p ∷ rest) other ≡ None → ((other == p.0) ≡ false) × (pipe_of rest other ≡ None)
not_front p rest other none = by (other == p.0) refl none where
  by : (b : Bool) → (other == p.0) ≡ b → (if b then Some p.1 else pipe_of rest other) ≡ None → ((other == p.0) ≡ false) × (pipe_of rest other ≡ None)
  by true is some = absurd (let z : ⊥ = cc in z)
  by false is later = (is, later)

behind : (p : ℕ × PipeState) (rest : Pipes) (other : ℕ) → (other == p.0) ≡ false → pipe_of rest other ≡ None → pipe_of (p ∷ rest) other ≡ None
behind p rest other unlike none = ap (λ (b : Bool). if b then Some p.1 else pipe_of rest other) unlike ∙ none

pub changed_names : (pipes : Pipes) (id : ℕ) (now : PipeState) (other : ℕ) → pipe_of pipes other ≡ None → pipe_of (with_pipe pipes id now) other ≡ None
changed_names [] id now other none = refl
changed_names (p ∷ rest) id now other none = by (id == p.0) (not_front p rest other none) (changed_names rest id now other) where
  by : (b : Bool) → ((other == p.0) ≡ false) × (pipe_of rest other ≡ None) → (pipe_of rest other ≡ None → pipe_of (with_pipe rest id now) other ≡ None) → pipe_of (if b then (p.0, now) ∷ rest else p ∷ with_pipe rest id now) other ≡ None
  by true at later = behind (p.0, now) rest other at.0 at.1
  by false at later = behind p (with_pipe rest id now) other at.0 (later at.1)

pub given_up_names : (pipes : Pipes) (id other : ℕ) → pipe_of pipes other ≡ None → pipe_of (without_pipe pipes id) other ≡ None
given_up_names [] id other none = refl
given_up_names (p ∷ rest) id other none = by (id == p.0) (not_front p rest other none) (given_up_names rest id other) where
  by : (b : Bool) → ((other == p.0) ≡ false) × (pipe_of rest other ≡ None) → (pipe_of rest other ≡ None → pipe_of (without_pipe rest id) other ≡ None) → pipe_of (if b then rest else p ∷ without_pipe rest id) other ≡ None
  by true at later = at.1
  by false at later = behind p (without_pipe rest id) other at.0 (later at.1)

pub closed_names : (pipes : Pipes) (id : ℕ) (now : PipeState) (other : ℕ) → pipe_of pipes other ≡ None → pipe_of (kept_while_open pipes id now) other ≡ None
closed_names pipes id now other none = by (now.reader || now.writer) where
  by : (b : Bool) → pipe_of (if b then with_pipe pipes id now else without_pipe pipes id) other ≡ None
  by true = changed_names pipes id now other none
  by false = given_up_names pipes id other none

pub new_names : (pipes : Pipes) (id other : ℕ) → id < other → pipe_of pipes other ≡ None → pipe_of (with_new pipes id) other ≡ None
new_names [] id other later none = ap (λ (b : Bool). if b then Some new_pipe else None) (ne_eqb other id (λ is. omega (arith, is)))
new_names (p ∷ rest) id other later none =
    let at = not_front p rest other none in
    behind p (rest ++ (id, new_pipe) ∷ []) other at.0 (new_names rest id other later at.1)
