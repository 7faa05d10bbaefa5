-- What has passed through a pipe so far, and what one call adds to it.
use Rattle.std.proofs.Common.{◌≡◌, ℕ, ◌<◌, ◌≤◌, List, [], ◌∷◌, ◌++◌, Some, None, refl, sym, ap, ◌∙◌, arith}
use Rattle.std.proofs.lemmas.List.{append_assoc}
use Rattle.user_calls.specs.declared.calls.Call.{Call}
use Rattle.user_calls.specs.declared.calls.Call.TheVariants.{Fork, Exec, Exit, Wait, MakePipe, Read, Write, OpenFile, Close, Dup}
use Rattle.byte_pipe.specs.PipeState.{PipeState}
use Rattle.kernel_model.specs.KernelState.{KernelState}
use Rattle.kernel_model.specs.Pipes.{pipe_of}
use Rattle.kernel_model.specs.Events.{counted}
use Rattle.law_kernel.specs.Flow.{put_by, taken_by}
use Rattle.law_kernel.proofs.kernel.Moves.{Moves, stays, begins, comes, goes}

-- ---- lists

pub then_none : (xs ys : List ℕ) → ys ≡ [] → xs ++ ys ≡ xs
then_none [] ys none = none
then_none (x ∷ xs) ys none = ap (λ (l : List ℕ). x ∷ l) (then_none xs ys none)

no_parts : (xs ys : List ℕ) → [] ≡ xs ++ ys → ys ≡ []
no_parts [] ys none = sym none
no_parts (x ∷ xs) ys none = absurd (let z : ⊥ = cc in z)

-- ---- what has passed so far

-- so many bytes were put into the pipe of that name, and so many taken; the rest is what it holds, if it is there
pub record Flows {S : Type 0} (id : ℕ) (k : KernelState S) (put taken : List ℕ) : Type 0 where
  pub rest : List ℕ
  pub flows : put ≡ taken ++ rest
  pub holds : (q : PipeState) → pipe_of k.pipes id ≡ Some q → q.bytes ≡ rest
  pub unborn : k.events < id → put ≡ []

-- the pipe may be made by this event
abbrev pub IsNew : {S : Type 0} → ℕ → KernelState S → List ℕ → Type 0
IsNew id k put = k.events ≤ id → (put ≡ []) × (pipe_of k.pipes id ≡ None)

module _ {S : Type 0} (id : ℕ) (k new : KernelState S) (put taken x y : List ℕ) (events : new.events ≡ k.events) (fresh : IsNew id k put) where
  pub flow_on : (rest : List ℕ) → put ≡ taken ++ rest → ((q : PipeState) → pipe_of k.pipes id ≡ Some q → q.bytes ≡ rest) → Moves id k.events (pipe_of k.pipes id) (pipe_of new.pipes id) x y → Flows id new (put ++ x) (taken ++ y)
  flow_on rest f held (stays no_x no_y same) =
      record {
        rest = rest;
        flows = then_none put x no_x ∙ f ∙ ap (λ (l : List ℕ). l ++ rest) (sym (then_none taken y no_y));
        holds = λ q is. let old = same q is in old.2 ∙ held old.0 old.1;
        unborn = λ later. then_none put x no_x ∙ (fresh (omega (arith, later, events))).0;
      }
  flow_on rest f held (begins no_x no_y is empty) =
      let none = (fresh (omega (arith, is))).0 in
      record {
        rest = rest;
        flows = then_none put x no_x ∙ f ∙ ap (λ (l : List ℕ). l ++ rest) (sym (then_none taken y no_y));
        holds = λ q found. empty q found ∙ sym (no_parts taken rest (sym none ∙ f));
        unborn = λ later. then_none put x no_x ∙ none;
      }
  flow_on rest f held (comes p found no_y more) =
      record {
        rest = rest ++ x;
        flows = ap (λ (l : List ℕ). l ++ x) f ∙ append_assoc taken rest x ∙ ap (λ (l : List ℕ). l ++ (rest ++ x)) (sym (then_none taken y no_y));
        holds = λ q is. more q is ∙ ap (λ (l : List ℕ). l ++ x) (held p found);
        unborn = λ later. absurd (let no : Some p ≡ None = sym found ∙ (fresh (omega (arith, later, events))).1 in let z : ⊥ = cc in z);
      }
  flow_on rest f held (goes p left found no_x parts fewer) =
      record {
        rest = left;
        flows = then_none put x no_x ∙ f ∙ ap (λ (l : List ℕ). taken ++ l) (sym (held p found) ∙ parts) ∙ sym (append_assoc taken y left);
        holds = fewer;
        unborn = λ later. then_none put x no_x ∙ (fresh (omega (arith, later, events))).0;
      }

-- ---- an event

-- that an event is counted moves nothing
module _ {S : Type 0} (id : ℕ) (k : KernelState S) (pid : ℕ) (new : KernelState S) where
  pub counted_put : (c : Call) → put_by id (counted k) pid c new ≡ put_by id k pid c new
  counted_put Fork = refl
  counted_put (Exec found) = refl
  counted_put Exit = refl
  counted_put Wait = refl
  counted_put MakePipe = refl
  counted_put (Read fd n) = refl
  counted_put (Write fd b) = refl
  counted_put (OpenFile name mode) = refl
  counted_put (Close fd) = refl
  counted_put (Dup fd) = refl

  pub counted_taken : (c : Call) → taken_by id (counted k) pid c new ≡ taken_by id k pid c new
  counted_taken Fork = refl
  counted_taken (Exec found) = refl
  counted_taken Exit = refl
  counted_taken Wait = refl
  counted_taken MakePipe = refl
  counted_taken (Read fd n) = refl
  counted_taken (Write fd b) = refl
  counted_taken (OpenFile name mode) = refl
  counted_taken (Close fd) = refl
  counted_taken (Dup fd) = refl
