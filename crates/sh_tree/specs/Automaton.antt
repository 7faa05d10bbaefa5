-- The pushdown automaton that takes lexemes one by one. No public clause names it.
use Rattle.std.specs.Prelude.{◌≡◌, ℕ, zero, suc, List, [], ◌∷◌, Option, Some, None, Bool, true, false, option_and_then}
use Rattle.sh_lexer.specs.declared.token.Kind.{Kind}
use Rattle.sh_lexer.specs.declared.token.Kind.TheVariants.{Word, LeftParen}
use Rattle.sh_tree.specs.declared.automaton.Place.{Place}
use Rattle.sh_tree.specs.declared.automaton.State.{State}
use Rattle.sh_tree.specs.declared.automaton.State.TheVariants.{Begin, Simple, Target, Closed, ClosedTarget, Backed}
use Rattle.sh_tree.specs.declared.fault.ParseFault.{ParseFault}
use Rattle.sh_tree.specs.declared.fault.ParseFault.TheVariants.{MissingFile, MissingParen, TooManyWords, Unexpected, Leftover}
use Rattle.sh_tree.specs.Lexeme.{Lexeme, word, less, more, more_more, bar, amp, semi, left, right}

abbrev pub at_place : ℕ → State → Option Place
at_place d s = Some (record { depth = d; state = s })

-- what ends a simple command or a block
abbrev pub after_command : ℕ → Lexeme → Option Place
after_command d bar = at_place d Begin
after_command d amp = at_place d Backed
after_command d semi = at_place d Begin
after_command (suc d) right = at_place d Closed
after_command d t = None

-- one of the words that may still come
abbrev pub one_more : ℕ → ℕ → Option Place
one_more d zero = None
one_more d (suc n) = at_place d (Simple n)

abbrev pub step : ℕ → State → Lexeme → Option Place
step d Begin (word w) = at_place d (Simple 8)
step d Begin less = at_place d (Target 9)
step d Begin more = at_place d (Target 9)
step d Begin more_more = at_place d (Target 9)
step d Begin left = at_place (suc d) Begin
step d Begin t = after_command d t
step d (Simple n) (word w) = one_more d n
step d (Simple n) less = at_place d (Target n)
step d (Simple n) more = at_place d (Target n)
step d (Simple n) more_more = at_place d (Target n)
step d (Simple n) t = after_command d t
step d (Target n) (word w) = at_place d (Simple n)
step d (Target n) t = None
step d Closed less = at_place d ClosedTarget
step d Closed more = at_place d ClosedTarget
step d Closed more_more = at_place d ClosedTarget
step d Closed t = after_command d t
step d ClosedTarget (word w) = at_place d Closed
step d ClosedTarget t = None
step d Backed bar = None
step d Backed t = after_command d t

-- the place after several lexemes
abbrev pub run : ℕ → State → List Lexeme → Option Place
run d s [] = at_place d s
run d s (t ∷ ts) = option_and_then (λ p. run p.depth p.state ts) (step d s t)

-- a simple command or a block may end here
abbrev pub ends_command : State → Bool
ends_command Begin = true
ends_command (Simple n) = true
ends_command Closed = true
ends_command s = false

-- and, with the & after it, a pipe
abbrev pub ends_line : State → Bool
ends_line Backed = true
ends_line s = ends_command s

-- from a place all lexemes are taken, and the line may end after them
pub record IsAccepted (d : ℕ) (s : State) (ts : List Lexeme) : Type 0 where
  pub last : State
  pub taken : run d s ts ≡ at_place 0 last
  pub ends : ends_line last ≡ true

abbrev pub open_or_left : ℕ → ℕ → ParseFault
open_or_left zero at = Leftover at
open_or_left (suc d) at = MissingParen at

-- why a place refuses a token of this kind, or None: the end of the line
abbrev pub refusal : ℕ → State → Option Kind → ℕ → ParseFault
refusal d (Target n) next at = MissingFile at
refusal d ClosedTarget next at = MissingFile at
refusal d (Simple zero) (Some Word) at = TooManyWords at
refusal d (Simple n) (Some LeftParen) at = Unexpected at
refusal d s next at = open_or_left d at
