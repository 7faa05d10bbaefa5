-- Segments of a line's tokens: longest runs of words and signs of redirections. A simple command is one, and so are the redirections of a block.
use Rattle.std.specs.Prelude.{Bool, true, false, not, ◌&&◌, ◌||◌, List, [], ◌∷◌, if◌then◌else◌}
use Rattle.std.specs.List.{list_any}
use Rattle.sh_lexer.specs.declared.token.Kind.{Kind}
use Rattle.sh_lexer.specs.declared.token.Kind.TheVariants.{Word, Less, More, MoreMore}
use Rattle.script_notes.specs.declared.commands.Seen.{Seen}

abbrev pub is_word : Kind → Bool
is_word Word = true
is_word kind = false

abbrev pub is_input : Kind → Bool
is_input Less = true
is_input kind = false

abbrev pub is_output : Kind → Bool
is_output More = true
is_output MoreMore = true
is_output kind = false

abbrev pub is_sign : Kind → Bool
is_sign kind = is_input kind || is_output kind

-- of kinds of tokens, the nearest first: those of the segment that goes on behind the nearest
abbrev pub segment : List Kind → List Kind
segment [] = []
segment (kind ∷ kinds) = if is_word kind || is_sign kind then kind ∷ segment kinds else []

-- a word behind these is a file's name
abbrev pub names_file : List Kind → Bool
names_file [] = false
names_file (kind ∷ kinds) = is_sign kind

-- one of these is a word and no file's name, so the command has its name
abbrev pub has_name : List Kind → Bool
has_name [] = false
has_name (kind ∷ kinds) = (is_word kind && not (names_file kinds)) || has_name kinds

-- what is seen in a part of a segment
abbrev pub seen_in : List Kind → Seen
seen_in part = record {
  names_file = names_file part;
  has_name = has_name part;
  has_input = list_any is_input part;
  has_output = list_any is_output part;
}

-- what the tokens before a token, of these kinds and the nearest first, say of it
abbrev pub seen_of : List Kind → Seen
seen_of back = seen_in (segment back)
