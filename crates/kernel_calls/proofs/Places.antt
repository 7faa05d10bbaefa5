-- A pipe is found, changed and removed by its name at the first place that has it.
use Rattle.std.proofs.Common.{◌≡◌, ℕ, zero, suc, ◌<◌, ◌≤◌, List, [], ◌∷◌, Bool, true, false, Option, Some, None, length, get_or, refl, sym, ap, ◌∙◌, arith}
use Rattle.std.proofs.Math.ListN.{set}
use Rattle.std.proofs.lemmas.List.Sums.{fails_before_first}
use Rattle.std.proofs.lemmas.List.Quantifiers.{position-Some}
use Rattle.std.proofs.lemmas.Grind.{common_steps}
use Rattle.std.specs.Prelude.{if◌then◌else◌, position, remove, IfSome}
use Rattle.std.specs.List.{position_or_len}
use Rattle.byte_pipe.specs.PipeState.{PipeState, new_pipe}
use Rattle.kernel_model.specs.Pipes.{Pipes, pipe_of, with_pipe, without_pipe}
use Rattle.kernel_calls.specs.Placed.{is_named, IsPlaced}

first_found : (pipes : Pipes) (id i : ℕ) (d : ℕ × PipeState) → i < length pipes → is_named id (get_or pipes i d) ≡ true → ((k : ℕ) → k < i → is_named id (get_or pipes k d) ≡ false) → pipe_of pipes id ≡ Some ((get_or pipes i d).1)
first_found [] id i d within here before = absurd (omega arith)
first_found (p ∷ rest) id zero d within here before = ap (λ (b : Bool). if b then Some p.1 else pipe_of rest id) here
first_found (p ∷ rest) id (suc i) d within here before =
    ap (λ (b : Bool). if b then Some p.1 else pipe_of rest id) (before 0 (omega arith)) ∙ first_found rest id i d (omega arith) here (λ k lt. before (suc k) (omega arith))

first_changed : (pipes : Pipes) (id i : ℕ) (d : ℕ × PipeState) (now : PipeState) → i < length pipes → is_named id (get_or pipes i d) ≡ true → ((k : ℕ) → k < i → is_named id (get_or pipes k d) ≡ false) → with_pipe pipes id now ≡ set pipes i ((get_or pipes i d).0, now)
first_changed [] id i d now within here before = absurd (omega arith)
first_changed (p ∷ rest) id zero d now within here before = ap (λ (b : Bool). if b then (p.0, now) ∷ rest else p ∷ with_pipe rest id now) here
first_changed (p ∷ rest) id (suc i) d now within here before =
    ap (λ (b : Bool). if b then (p.0, now) ∷ rest else p ∷ with_pipe rest id now) (before 0 (omega arith)) ∙ ap (λ (l : Pipes). p ∷ l) (first_changed rest id i d now (omega arith) here (λ k lt. before (suc k) (omega arith)))

first_removed : (pipes : Pipes) (id i : ℕ) (d : ℕ × PipeState) → i < length pipes → is_named id (get_or pipes i d) ≡ true → ((k : ℕ) → k < i → is_named id (get_or pipes k d) ≡ false) → without_pipe pipes id ≡ remove pipes i
first_removed [] id i d within here before = absurd (omega arith)
first_removed (p ∷ rest) id zero d within here before = ap (λ (b : Bool). if b then rest else p ∷ without_pipe rest id) here
first_removed (p ∷ rest) id (suc i) d within here before =
    ap (λ (b : Bool). if b then rest else p ∷ without_pipe rest id) (before 0 (omega arith)) ∙ ap (λ (l : Pipes). p ∷ l) (first_removed rest id i d (omega arith) here (λ k lt. before (suc k) (omega arith)))

none_found : (pipes : Pipes) (id : ℕ) (d : ℕ × PipeState) → ((k : ℕ) → k < length pipes → is_named id (get_or pipes k d) ≡ false) → pipe_of pipes id ≡ None
none_found [] id d fails = refl
none_found (p ∷ rest) id d fails =
    ap (λ (b : Bool). if b then Some p.1 else pipe_of rest id) (fails 0 (omega arith)) ∙ none_found rest id d (λ k lt. fails (suc k) (omega arith))

-- no pipe stands anywhere
pub not_placed : (pipes : Pipes) (id : ℕ) → position (is_named id) pipes ≡ None → pipe_of pipes id ≡ None
not_placed [] id none = refl
not_placed (p ∷ rest) id none =
    let past : length (p ∷ rest) ≤ position_or_len (is_named id) (p ∷ rest) = grind (arith, common_steps) in
    none_found (p ∷ rest) id p (λ k lt. fails_before_first (is_named id) (p ∷ rest) k p (omega arith))

-- ---- by the place that a search gives

found_at : (pipes : Pipes) (id i : ℕ) (d : ℕ × PipeState) → position (is_named id) pipes ≡ Some i → pipe_of pipes id ≡ Some ((get_or pipes i d).1)
found_at pipes id i d found =
    let at = position-Some (is_named id) pipes i d found in
    first_found pipes id i d at.0 at.1 at.2

changed_at : (pipes : Pipes) (id i : ℕ) (d : ℕ × PipeState) (now : PipeState) → position (is_named id) pipes ≡ Some i → with_pipe pipes id now ≡ set pipes i ((get_or pipes i d).0, now)
changed_at pipes id i d now found =
    let at = position-Some (is_named id) pipes i d found in
    first_changed pipes id i d now at.0 at.1 at.2

remove_set : {X : Type 0} (xs : List X) (i : ℕ) (y : X) → remove (set xs i y) i ≡ remove xs i
remove_set [] i y = refl
remove_set (x ∷ xs) zero y = refl
remove_set (x ∷ xs) (suc i) y = ap (λ (l : List _). x ∷ l) (remove_set xs i y)

removed_at : (pipes : Pipes) (id i : ℕ) (d y : ℕ × PipeState) → position (is_named id) pipes ≡ Some i → without_pipe pipes id ≡ remove (set pipes i y) i
removed_at pipes id i d y found =
    let at = position-Some (is_named id) pipes i d found in
    first_removed pipes id i d at.0 at.1 at.2 ∙ sym (remove_set pipes i y)

placed_at : (pipes : Pipes) (id i : ℕ) → position (is_named id) pipes ≡ Some i → IsPlaced pipes id i
placed_at pipes id i is =
    let d : ℕ × PipeState = (0, new_pipe) in
    record {
      within = (position-Some (is_named id) pipes i d is).0;
      found = found_at pipes id i d is;
      changed = λ now. changed_at pipes id i d now is;
      removed = λ now. removed_at pipes id i d _ is;
    }

pub placed_if : (pipes : Pipes) (id : ℕ) (r : Option ℕ) → r ≡ position (is_named id) pipes → IfSome r (λ i. IsPlaced pipes id i)
placed_if pipes id None is = tt
placed_if pipes id (Some i) is = placed_at pipes id i (sym is)
