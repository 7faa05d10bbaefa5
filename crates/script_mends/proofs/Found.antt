-- What is known of an Option whose value is known.
use Rattle.std.proofs.Common.{◌≡◌, Option, Some, None, subst}
use Rattle.std.specs.Prelude.{MatchOption}

pub at_none : {T : Type 0} (A : Type 0) (B : T → Type 0) (found : Option T) → MatchOption found A B → found ≡ None → A
at_none A B found is same = subst (λ f. MatchOption f A B) same is

pub at_some : {T : Type 0} (A : Type 0) (B : T → Type 0) (found : Option T) (t : T) → MatchOption found A B → found ≡ Some t → B t
at_some A B found t is same = subst (λ f. MatchOption f A B) same is
