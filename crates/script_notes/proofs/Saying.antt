-- What is said behind one more token.
use Rattle.std.proofs.Common.{◌≡◌, ℕ, Bool, true, false, ◌&&◌, List, [], ◌∷◌, Option, Some, None, refl, sym, subst}
use Rattle.std.specs.Prelude.{if◌then◌else◌}
use Rattle.sh_lexer.specs.declared.token.Kind.{Kind}
use Rattle.sh_lexer.specs.declared.token.Kind.TheVariants.{Word}
use Rattle.sh_lexer.specs.declared.token.Token.{Token}
use Rattle.mem_files.specs.Name.{Bytes}
use Rattle.script_notes.specs.declared.habits.Said.{Said}
use Rattle.script_notes.specs.Letters.{text_of}
use Rattle.script_notes.specs.Segments.{is_sign, is_word, names_file}
use Rattle.script_notes.specs.Habits.{after_word, dollar_end, ends_in_dollar, is_digit, kind_before, kinds, last_kind, number_end, program_in, said_of, some_word, two_words, words_of}

-- of words that have one more, or, where that is a file's name, have not
abbrev said_by : (last before : Option Kind) (number dollar : Option ℕ) (names : Bool) (words : List Bytes) → Said
said_by last before number dollar names words = record { last = last; before = before; number_end = number; dollar_end = dollar; names_file = names; has_name = some_word words; has_argument = two_words words; program = program_in words }

one_word : (last before : Option Kind) (number dollar : Option ℕ) (names : Bool) (words : List Bytes) (word : Bytes) (past : ℕ)
    → said_by (Some Word) last (if is_digit word then Some past else None) (if ends_in_dollar word then Some past else None) false (if names then words else word ∷ words) ≡ after_word (said_by last before number dollar names words) word past
one_word last before number dollar true words word past = refl
one_word last before number dollar false [] word past = refl
one_word last before number dollar false (first ∷ words) word past = refl

-- behind a word
pub word_said : (text : Bytes) (t : Token) (back : List Token) → t.kind ≡ Word → said_of text (t ∷ back) ≡ after_word (said_of text back) (text_of text t) t.past
word_said text t back is =
    subst (λ (k : Kind). said_by (Some k) (last_kind back) (if is_word k && is_digit (text_of text t) then Some t.past else None) (if is_word k && ends_in_dollar (text_of text t) then Some t.past else None) (is_sign k)
    (if is_word k then (if names_file (kinds back) then words_of text back else text_of text t ∷ words_of text back) else (if is_sign k then words_of text back else []))
    ≡ after_word (said_of text back) (text_of text t) t.past) (sym is)
    (one_word (last_kind back) (kind_before back) (number_end text back) (dollar_end text back) (names_file (kinds back)) (words_of text back) (text_of text t) t.past)
