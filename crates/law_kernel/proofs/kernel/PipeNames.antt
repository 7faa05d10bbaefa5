-- Which pipe has a name, after one changes, is given up or is made; no two have one name.
use Rattle.std.proofs.Common.{◌≡◌, ◌≢◌, ℕ, [], ◌∷◌, Bool, true, false, Some, None, refl, sym, ap, ◌∙◌}
use Rattle.std.proofs.lemmas.Bool.{eq-eqb, eqb-true, ne_eqb}
use Rattle.std.specs.Prelude.{if◌then◌else◌, ◌==◌, ◌||◌}
use Rattle.byte_pipe.specs.PipeState.{PipeState, new_pipe}
use Rattle.kernel_model.specs.Pipes.{Pipes, pipe_of, with_pipe, without_pipe, with_new, kept_while_open}
use Rattle.kernel_model.proofs.PipeNames.{changed_names, not_front, given_up_names}
use Rattle.law_kernel.specs.Ends.{AreApart}

pub apart_with : (pipes : Pipes) (id : ℕ) (now : PipeState) → AreApart pipes → AreApart (with_pipe pipes id now)
apart_with [] id now a = tt
apart_with (p ∷ rest) id now a = by (id == p.0) (apart_with rest id now a.1) where
  by : (b : Bool) → AreApart (with_pipe rest id now) → AreApart (if b then (p.0, now) ∷ rest else p ∷ with_pipe rest id now)
  by true later = (a.0, a.1)
  by false later = (changed_names rest id now p.0 a.0, later)

pub apart_without : (pipes : Pipes) (id : ℕ) → AreApart pipes → AreApart (without_pipe pipes id)
apart_without [] id a = tt
apart_without (p ∷ rest) id a = by (id == p.0) (apart_without rest id a.1) where
  by : (b : Bool) → AreApart (without_pipe rest id) → AreApart (if b then rest else p ∷ without_pipe rest id)
  by true later = a.1
  by false later = (given_up_names rest id p.0 a.0, later)

pub apart_closed : (pipes : Pipes) (id : ℕ) (now : PipeState) → AreApart pipes → AreApart (kept_while_open pipes id now)
apart_closed pipes id now a = by (now.reader || now.writer) where
  by : (b : Bool) → AreApart (if b then with_pipe pipes id now else without_pipe pipes id)
  by true = apart_with pipes id now a
  by false = apart_without pipes id a

-- the name of a pipe that was given up has none
pub given_up_is_gone : (pipes : Pipes) (id : ℕ) → AreApart pipes → pipe_of (without_pipe pipes id) id ≡ None
given_up_is_gone [] id a = refl
given_up_is_gone (p ∷ rest) id a = by (id == p.0) refl (given_up_is_gone rest id a.1) where
  by : (b : Bool) → (id == p.0) ≡ b → pipe_of (without_pipe rest id) id ≡ None → pipe_of (if b then rest else p ∷ without_pipe rest id) id ≡ None
  by true test later = ap (pipe_of rest) (eqb-true id p.0 test) ∙ a.0
  by false test later = ap (λ (b : Bool). if b then Some p.1 else pipe_of (without_pipe rest id) id) test ∙ later

-- ---- a new pipe

pub new_other : (pipes : Pipes) (new other : ℕ) → other ≢ new → pipe_of (with_new pipes new) other ≡ pipe_of pipes other
new_other [] new other ne = ap (λ (b : Bool). if b then Some new_pipe else None) (ne_eqb other new ne)
new_other (p ∷ rest) new other ne = by (other == p.0) (new_other rest new other ne) where
  by : (b : Bool) → pipe_of (with_new rest new) other ≡ pipe_of rest other → (if b then Some p.1 else pipe_of (with_new rest new) other) ≡ (if b then Some p.1 else pipe_of rest other)
  by true later = refl
  by false later = later

pub new_self : (pipes : Pipes) (new : ℕ) → pipe_of pipes new ≡ None → pipe_of (with_new pipes new) new ≡ Some new_pipe
new_self [] new none = ap (λ (b : Bool). if b then Some new_pipe else None) (eq-eqb new new refl)
new_self (p ∷ rest) new none =
    let at = not_front p rest new none in
    ap (λ (b : Bool). if b then Some p.1 else pipe_of (with_new rest new) new) at.0 ∙ new_self rest new at.1

pub apart_new : (pipes : Pipes) (new : ℕ) → pipe_of pipes new ≡ None → AreApart pipes → AreApart (with_new pipes new)
apart_new [] new none a = (refl, tt)
apart_new (p ∷ rest) new none a =
    let at = not_front p rest new none in
    (new_other rest new p.0 (λ same. let no : true ≡ false = sym (eq-eqb new p.0 (sym same)) ∙ at.0 in let z : ⊥ = cc in z) ∙ a.0, apart_new rest new at.1 a.1)
