-- What one search for a name whose word begins so, and a second one behind it, say of all names.
use Rattle.std.proofs.Common.{◌≡◌, ℕ, ◌<◌, ◌≤◌, ◌+◌, ◌∙◌, List, ap, get_or, subst, sym, arith}
use Rattle.step_commands.specs.declared.name.Name.{Name}
use Rattle.step_commands.specs.declared.name.Name.TheVariants.{Go}
use Rattle.step_commands.specs.declared.name.TheConstants.{NAMES}
use Rattle.step_commands.specs.Commands.{BeginsNothing, BeginsOnly, IsAmbiguous, IsBeginning, word_of}
use Rattle.step_commands.proofs.Placing.{names_differ, place_of}

-- the word at this place begins so
abbrev pub BeginsAt : List ℕ → ℕ → Type 0
BeginsAt bytes k = IsBeginning bytes (word_of (get_or NAMES k Go))

at_place : (bytes : List ℕ) (name : Name) → IsBeginning bytes (word_of name) → BeginsAt bytes (place_of name).0
at_place bytes name begins = subst (λ (n : Name). IsBeginning bytes (word_of n)) (sym (place_of name).2) begins

pub nothing : (bytes : List ℕ) → ((k : ℕ) → 0 ≤ k → k < 15 → BeginsAt bytes k → ⊥) → BeginsNothing bytes
nothing bytes none = λ name begins. none (place_of name).0 (omega arith) (place_of name).1 (at_place bytes name begins)

pub one : (bytes : List ℕ) (k : ℕ) → BeginsAt bytes k → ((j : ℕ) → 0 ≤ j → j < k → BeginsAt bytes j → ⊥) → ((j : ℕ) → k + 1 ≤ j → j < 15 → BeginsAt bytes j → ⊥) → BeginsOnly bytes (get_or NAMES k Go)
one bytes k begins before after = record {
  begins = begins;
  only = λ other is.
      let j = (place_of other).0 in
      let there : BeginsAt bytes j = at_place bytes other is in
      let low : (j < k) → ⊥ = λ h. before j (omega arith) h there in
      let high : (k < j) → ⊥ = λ h. after j (omega arith) (place_of other).1 there in
      let same : j ≡ k = omega (arith, low, high) in
      sym (place_of other).2 ∙ ap (λ (n : ℕ). get_or NAMES n Go) same;
}

pub several : (bytes : List ℕ) (j k : ℕ) → j < k → k < 15 → BeginsAt bytes j → BeginsAt bytes k → IsAmbiguous bytes
several bytes j k below within begins_one begins_other = record {
  one = get_or NAMES j Go;
  other = get_or NAMES k Go;
  differ = names_differ j k below within;
  begins_one = begins_one;
  begins_other = begins_other;
}
