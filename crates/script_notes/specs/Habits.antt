-- Notes on habits from other shells and systems, by a line's tokens, whatever the line is. Own: xv6's shell has no `||`, `&&`, `|&`, `<<`, `2>`, variables, `$( )`, `~`, braces and patterns (`user/sh.c`'s `gettoken`, `parseline` and `parseexec`), and its programs have no such options.
use Rattle.std.specs.Prelude.{ℕ, ◌-◌, Bool, true, false, not, ◌&&◌, ◌||◌, ◌==◌, nat_le, if◌then◌else◌, List, [], ◌∷◌, ◌++◌, length, map, take, Option, Some, None, slice_get, slice_index}
use Rattle.std.specs.List.{list_any}
use Rattle.sh_lexer.specs.declared.token.Kind.{Kind}
use Rattle.sh_lexer.specs.declared.token.Kind.TheVariants.{Word, Less, More, MoreMore, Bar, Amp, Semi, LeftParen, RightParen}
use Rattle.sh_lexer.specs.declared.token.Token.{Token}
use Rattle.mem_files.specs.Name.{Bytes}
use Rattle.prog_parts.specs.Program.{program_of}
use Rattle.prog_parts.specs.declared.program.Program.{Program}
use Rattle.prog_parts.specs.declared.program.Program.TheVariants.{Cat, Echo, Grep, Head, Tee, Wc}
use Rattle.script_notes.specs.declared.kind.NoteKind.{NoteKind}
use Rattle.script_notes.specs.declared.kind.NoteKind.TheVariants.{NoOr, NoAnd, NoMessagePipe, NoCommand, LastBar, NoHereText, NoHereWord, NoNumber, NoVariable, NoSubstitution, NoPattern, NoHome, NoBraces, NoOption, HeadOption, TeeOption, GrepOption, EchoOption}
use Rattle.script_notes.specs.declared.habits.Said.{Said}
use Rattle.script_notes.specs.Letters.{letter_notes, text_of}
use Rattle.script_notes.specs.Notes.{Note, note_where}
use Rattle.script_notes.specs.Segments.{is_word, is_sign, names_file}

abbrev pub kinds : List Token → List Kind
kinds ts = map (λ t. t.kind) ts

-- the words of the command that goes on behind these tokens, the nearest first, but for names of files behind signs
abbrev pub words_of : Bytes → List Token → List Bytes
words_of text [] = []
words_of text (t ∷ back) =
    if is_word t.kind then (if names_file (kinds back) then words_of text back else text_of text t ∷ words_of text back)
    else (if is_sign t.kind then words_of text back else [])

abbrev pub some_word : List Bytes → Bool
some_word [] = false
some_word (word ∷ words) = true

abbrev pub two_words : List Bytes → Bool
two_words [] = false
two_words (word ∷ words) = some_word words

-- the program that the first word names, which is the last here
abbrev pub program_in : List Bytes → Option Program
program_in [] = None
program_in (word ∷ words) = if some_word words then program_in words else program_of word

abbrev pub last_kind : List Token → Option Kind
last_kind [] = None
last_kind (t ∷ back) = Some t.kind

-- a word that is one digit
abbrev pub is_digit : Bytes → Bool
is_digit [] = false
is_digit (byte ∷ bytes) = (nat_le 48 byte && nat_le byte 57) && length bytes == 0

-- where the nearest token ends, if it is such a word
abbrev pub number_end : Bytes → List Token → Option ℕ
number_end text [] = None
number_end text (t ∷ back) = if is_word t.kind && is_digit (text_of text t) then Some t.past else None

-- the last byte is `$`
abbrev pub ends_in_dollar : Bytes → Bool
ends_in_dollar word = slice_index word (length word - 1) == 36

-- where the nearest token ends, if it is such a word
abbrev pub dollar_end : Bytes → List Token → Option ℕ
dollar_end text [] = None
dollar_end text (t ∷ back) = if is_word t.kind && ends_in_dollar (text_of text t) then Some t.past else None

-- the kind of the one before the nearest
abbrev pub kind_before : List Token → Option Kind
kind_before [] = None
kind_before (t ∷ back) = last_kind back

-- what the tokens before a token, the nearest first, say of it
abbrev pub said_of : Bytes → List Token → Said
said_of text back = record {
  last = last_kind back;
  before = kind_before back;
  number_end = number_end text back;
  dollar_end = dollar_end text back;
  names_file = names_file (kinds back);
  has_name = some_word (words_of text back);
  has_argument = two_words (words_of text back);
  program = program_in (words_of text back);
}

-- what is said behind a word too
abbrev pub after_word : Said → Bytes → ℕ → Said
after_word said word past = record {
  last = Some Word;
  before = said.last;
  number_end = if is_digit word then Some past else None;
  dollar_end = if ends_in_dollar word then Some past else None;
  names_file = false;
  has_name = if said.names_file then said.has_name else true;
  has_argument = if said.names_file then said.has_argument else said.has_name;
  program = if said.names_file || said.has_name then said.program else program_of word;
}

-- an argument of the command
abbrev pub is_argument : Said → Bool
is_argument said = not said.names_file && said.has_name

abbrev pub is_grep : Option Program → Bool
is_grep (Some Grep) = true
is_grep other = false

-- the argument that is grep's pattern
abbrev pub is_pattern : Said → Bool
is_pattern said = is_argument said && (not said.has_argument && is_grep said.program)

-- a `$` that isn't the last byte
abbrev pub has_variable : Bytes → Bool
has_variable word = list_any (λ byte. byte == 36) (take (length word - 1) word)

-- a `*` or a `[`
abbrev pub has_glob : Bytes → Bool
has_glob word = list_any (λ byte. byte == 42 || byte == 91) word

-- `~`, or `~/` and more
abbrev pub is_home : Bytes → Bool
is_home [] = false
is_home (byte ∷ []) = byte == 126
is_home (byte ∷ next ∷ bytes) = byte == 126 && next == 47

-- what stands behind the first such byte; nothing where there is none
abbrev pub behind : ℕ → Bytes → Bytes
behind byte [] = []
behind byte (first ∷ bytes) = if first == byte then bytes else behind byte bytes

-- a `{`, behind it a `,`, and behind that a `}`
abbrev pub has_braces : Bytes → Bool
has_braces word = list_any (λ byte. byte == 125) (behind 44 (behind 123 word))

-- a letter or a hyphen
abbrev pub begins_option : ℕ → Bool
begins_option byte = byte == 45 || ((nat_le 65 byte && nat_le byte 90) || (nat_le 97 byte && nat_le byte 122))

-- a hyphen, and a letter or a hyphen behind it
abbrev pub is_option : Bytes → Bool
is_option [] = false
is_option (byte ∷ []) = false
is_option (byte ∷ next ∷ bytes) = byte == 45 && begins_option next

-- what a program takes such a word for
abbrev pub option_kind : Option Program → Bool → Option NoteKind
option_kind None is_first = None
option_kind (Some Cat) is_first = Some NoOption
option_kind (Some Echo) is_first = Some EchoOption
option_kind (Some Grep) is_first = Some (if is_first then GrepOption else NoOption)
option_kind (Some Head) is_first = Some (if is_first then HeadOption else NoOption)
option_kind (Some Tee) is_first = Some TeeOption
option_kind (Some Wc) is_first = Some NoOption

-- the note of such a place, if there is a kind of one
abbrev pub note_if : Bool → Option NoteKind → ℕ → ℕ → List Note
note_if holds None first past = []
note_if holds (Some kind) first past = note_where holds kind first past

-- two signs, one after the other
abbrev pub pair_kind : Option Kind → Kind → Option NoteKind
pair_kind (Some Bar) Bar = Some NoOr
pair_kind (Some Amp) Amp = Some NoAnd
pair_kind (Some Bar) Amp = Some NoMessagePipe
pair_kind (Some Semi) Semi = Some NoCommand
pair_kind last kind = None

-- a number ends where the token begins
abbrev pub is_numbered : Option ℕ → ℕ → Bool
is_numbered None first = false
is_numbered (Some past) first = past == first

abbrev pub is_less : Option Kind → Bool
is_less (Some Less) = true
is_less other = false

-- the byte is a `<`
abbrev pub is_less_byte : Option ℕ → Bool
is_less_byte None = false
is_less_byte (Some byte) = byte == 60

-- of a `<` before such a byte, or before another
abbrev pub here_kind : Option ℕ → NoteKind
here_kind next = if is_less_byte next then NoHereWord else NoHereText

-- of a `<` behind another that is behind none, before this byte
abbrev pub here_notes : Said → Option ℕ → Token → List Note
here_notes said next t = note_where (is_less said.last && not (is_less said.before)) (here_kind next) t.first t.past

-- of a word whose letters other shells replace, unless it is grep's pattern: by what they know, and by what they make of it
abbrev pub known_notes : Said → Bytes → Token → List Note
known_notes said word t =
    note_where (has_variable word && not (is_pattern said)) NoVariable t.first t.past
    ++ note_where (has_glob word && not (is_pattern said)) NoPattern t.first t.past

abbrev pub made_notes : Said → Bytes → Token → List Note
made_notes said word t =
    note_where (is_home word && not (is_pattern said)) NoHome t.first t.past
    ++ note_where (has_braces word && not (is_pattern said)) NoBraces t.first t.past

-- of a word, by what was said
abbrev pub word_habits : Said → Bytes → Token → List Note
word_habits said word t =
    known_notes said word t
    ++ (made_notes said word t
    ++ note_if (is_option word && is_argument said) (option_kind said.program (not said.has_argument)) t.first t.past)

-- of a token of this kind, with this text, and of a `<` by the byte behind it
abbrev pub habits_by : Kind → Said → Bytes → Option ℕ → Token → List Note
habits_by Word said word next t = word_habits said word t
habits_by Less said word next t = here_notes said next t
habits_by More said word next t = note_where (is_numbered said.number_end t.first) NoNumber t.first t.past
habits_by MoreMore said word next t = note_where (is_numbered said.number_end t.first) NoNumber t.first t.past
habits_by Bar said word next t = note_if true (pair_kind said.last Bar) t.first t.past
habits_by Amp said word next t = note_if true (pair_kind said.last Amp) t.first t.past
habits_by Semi said word next t = note_if true (pair_kind said.last Semi) t.first t.past
habits_by LeftParen said word next t = note_where (is_numbered said.dollar_end t.first) NoSubstitution t.first t.past
habits_by RightParen said word next t = []

abbrev pub habits_of : Bytes → Said → Token → List Note
habits_of text said t = habits_by t.kind said (text_of text t) (slice_get text t.past) t

abbrev pub is_bar : Option Kind → Bool
is_bar (Some Bar) = true
is_bar other = false

-- of tokens behind these, the nearest first, and of the line's end, behind a `|`
abbrev pub habit_notes : Bytes → List Token → List Token → List Note
habit_notes text back [] = note_where (is_bar (last_kind back)) LastBar (length text) (length text)
habit_notes text back (t ∷ ts) = habits_of text (said_of text back) t ++ habit_notes text (t ∷ back) ts

-- by the letters of a line's tokens, and on habits
abbrev pub token_notes : Bytes → List Token → List Note
token_notes text ts = letter_notes text ts ++ habit_notes text [] ts
