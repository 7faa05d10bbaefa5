-- The tree of a line, or where and why it has none.
use Rattle.std.specs.Prelude.{◌≡◌, ◌≢◌, ℕ, ◌<◌, List, [], ◌∷◌, ◌++◌, length, count_by, Option, Some, None, Bool, true, false}
use Rattle.sh_lexer.specs.Tokens.{IsTokenList}
use Rattle.sh_lexer.specs.declared.token.Token.{Token}
use Rattle.sh_tree.specs.declared.fault.ParseFault.{ParseFault}
use Rattle.sh_tree.specs.declared.fault.ParseFault.TheVariants.{MissingFile, MissingParen, TooManyWords, Unexpected, Leftover, Memory}
use Rattle.sh_tree.specs.declared.tree.Mode.{Mode}
use Rattle.sh_tree.specs.Grammar.{AreParts, Derives}
use Rattle.sh_tree.specs.Lexeme.{Lexeme, word, less, more, more_more, bar, semi, left, right, lexemes}
use Rattle.sh_tree.specs.Tree.{Tree}

-- a viable prefix: some line of the grammar begins so
abbrev pub IsViable : List Lexeme → Type 0
IsViable ts = (rest : List Lexeme) × (t : Tree) × Derives (ts ++ rest) t

-- the first lexeme, or None at the end
abbrev pub first_of : List Lexeme → Option Lexeme
first_of [] = None
first_of (t ∷ ts) = Some t

-- the last lexeme, or None where there is none
abbrev pub last_of : List Lexeme → Option Lexeme
last_of [] = None
last_of (t ∷ []) = Some t
last_of (t ∷ u ∷ ts) = last_of (u ∷ ts)

-- after a viable prefix no line of the grammar has this lexeme next, or None: no line ends there
abbrev pub IsRefused : List Lexeme → Option Lexeme → Type 0
IsRefused before (Some t) = IsViable (before ++ t ∷ []) → ⊥
IsRefused before None = (t : Tree) → Derives before t → ⊥

-- the first byte of the first token, or the line's length at its end
abbrev pub place_of : List ℕ → List Token → ℕ
place_of line [] = length line
place_of line (t ∷ ts) = t.first

abbrev pub is_redirection_sign : Option Lexeme → Bool
is_redirection_sign (Some less) = true
is_redirection_sign (Some more) = true
is_redirection_sign (Some more_more) = true
is_redirection_sign t = false

-- a simple command may begin after nothing, a (, a | and a ;
abbrev pub may_begin_after : Option Lexeme → Bool
may_begin_after None = true
may_begin_after (Some left) = true
may_begin_after (Some bar) = true
may_begin_after (Some semi) = true
may_begin_after t = false

abbrev pub is_word : Option Lexeme → Bool
is_word (Some (word text)) = true
is_word t = false

abbrev pub is_left : Lexeme → Bool
is_left left = true
is_left t = false

abbrev pub is_right : Lexeme → Bool
is_right right = true
is_right t = false

-- the last of the lexemes are a simple command, as far as it has come
pub record EndsInCommand (before : List Lexeme) : Type 0 where
  pub front : List Lexeme
  pub command : List Lexeme
  pub split : before ≡ front ++ command
  pub begins : may_begin_after (last_of front) ≡ true
  pub words : List (List ℕ)
  pub redirections : List (Mode × List ℕ)
  pub parts : AreParts command [] words redirections

-- the lexeme before is the sign of a redirection
abbrev pub LacksFile : List Lexeme → Option Lexeme → Type 0
LacksFile before next = is_redirection_sign (last_of before) ≡ true

-- the lexeme is the tenth word of a simple command
abbrev pub IsTenthWord : List Lexeme → Option Lexeme → Type 0
IsTenthWord before next = (c : EndsInCommand before) × (length c.words ≡ 9) × (is_word next ≡ true)

-- the lexeme is a ( and follows a word or a redirection of a simple command
abbrev pub IsLateParen : List Lexeme → Option Lexeme → Type 0
IsLateParen before next = (c : EndsInCommand before) × (c.command ≢ []) × (next ≡ Some left)

-- some ( is still open
abbrev pub HasOpenParen : List Lexeme → Option Lexeme → Type 0
HasOpenParen before next = count_by is_right before < count_by is_left before

-- the kind of a fault is the first of these that fits
abbrev pub Fits : ParseFault → List Lexeme → Option Lexeme → Type 0
Fits (MissingFile at) b n = LacksFile b n
Fits (TooManyWords at) b n = ¬ LacksFile b n × IsTenthWord b n
Fits (Unexpected at) b n = ¬ LacksFile b n × ¬ IsTenthWord b n × IsLateParen b n
Fits (MissingParen at) b n = ¬ LacksFile b n × ¬ IsTenthWord b n × ¬ IsLateParen b n × HasOpenParen b n
Fits (Leftover at) b n = ¬ LacksFile b n × ¬ IsTenthWord b n × ¬ IsLateParen b n × ¬ HasOpenParen b n
Fits Memory b n = Unit {0}

-- where a fault says that the line stops being one
abbrev pub place_told : ParseFault → ℕ
place_told (MissingFile at) = at
place_told (TooManyWords at) = at
place_told (Unexpected at) = at
place_told (MissingParen at) = at
place_told (Leftover at) = at
place_told Memory = 0

-- the tokens stop being a line where the fault says, for the reason that it gives
pub record StopsAt (line : List ℕ) (ts : List Token) (fault : ParseFault) : Type 0 where
  pub before : List Token
  pub rest : List Token
  pub split : ts ≡ before ++ rest
  pub place : place_told fault ≡ place_of line rest
  pub viable : IsViable (lexemes line before)
  pub refused : IsRefused (lexemes line before) (first_of (lexemes line rest))
  pub reason : Fits fault (lexemes line before) (first_of (lexemes line rest))

-- the line has this fault; `Memory` says nothing of the line
abbrev pub HasFault : List ℕ → ParseFault → Type 0
HasFault line Memory = Unit {0}
HasFault line fault = (ts : List Token) × IsTokenList line ts × StopsAt line ts fault

-- the line has this tree
abbrev pub HasTree : List ℕ → Tree → Type 0
HasTree line t = (ts : List Token) × IsTokenList line ts × Derives (lexemes line ts) t
