use Rattle.std.proofs.Common.{ℕ, List, inl, inr}
use Rattle.step_commands.specs.declared.name.Name.{Name}
use Rattle.step_commands.specs.declared.meaning.Meant.{Meant}
use Rattle.step_commands.specs.declared.meaning.Meant.TheVariants.{One, Several, Nothing}
use Rattle.step_commands.specs.Commands.{IsAnother, IsBegun, IsMeaning}
use Rattle.step_commands.proofs.meaning.meaning_of.Goals as goal

meaning : (word : List ℕ) (meant : Meant) → IsBegun word meant → ((name : Name) → IsAnother word name → ⊥) → IsMeaning word meant
meaning word (One name) is none = inr is
meaning word Several is none = is
meaning word Nothing is none = (is, none)

pub returns-in-Some : goal.returns-in-Some
returns-in-Some c = inl c.in-Some.ensures.some

pub returns-in-None : goal.returns-in-None
returns-in-None c = meaning _ _ c.begun.ensures c.in-None.ensures.none
