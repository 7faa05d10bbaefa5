-- The notes of a script.
use Rattle.std.specs.Prelude.{◌≡◌, ℕ, ◌+◌, List, [], ◌∷◌, ◌++◌, All}
use Rattle.sh_lexer.specs.declared.token.Token.{Token}
use Rattle.sh_lexer.specs.Tokens.{IsTokenList}
use Rattle.mem_files.specs.Name.{Bytes}
use Rattle.prog_parts.specs.Lines.{AreLines}
use Rattle.script_load.specs.Line.{ScriptLine, command, bad, cd}
use Rattle.script_load.specs.Script.{IsFine, IsLineOf}
use Rattle.script_notes.specs.Notes.{Note, NoteAt, notes_at}
use Rattle.script_notes.specs.Habits.{token_notes}
use Rattle.script_notes.specs.Letters.{byte_notes}
use Rattle.script_notes.specs.Commands.{command_notes}
use Rattle.script_notes.specs.Whole.{cd_note, fault_notes, IsClashNoted}

-- the notes of a text, which is this line: by its bytes and tokens, of a command's tokens, and of the whole line
abbrev pub HasNotes : ℕ → Bytes → ScriptLine → List Note → Type 0
HasNotes number text (command tree) notes =
    (ts : List Token) × (last : List Note) × IsTokenList text ts × IsClashNoted tree text ts last
    × (notes ≡ byte_notes number text ++ (token_notes text ts ++ (command_notes text tree [] ts ++ last)))
HasNotes number text (bad fault whole) notes =
    (ts : List Token) × IsTokenList text ts × (notes ≡ byte_notes number text ++ (token_notes text ts ++ fault_notes text fault))
HasNotes number text (cd folder) notes = notes ≡ byte_notes number text ++ cd_note ∷ []

-- the notes of a text
abbrev pub AreNotes : ℕ → Bytes → List Note → Type 0
AreNotes number text notes = (line : ScriptLine) × IsLineOf text line × HasNotes number text line notes

-- the notes of lines with these texts, which are numbered from this number on
abbrev pub AreNoted : ℕ → List Bytes → List NoteAt → Type 0
AreNoted number [] notes = notes ≡ []
AreNoted number (text ∷ texts) notes =
    (first : List Note) × (later : List NoteAt) × AreNotes number text first × AreNoted (number + 1) texts later
    × (notes ≡ notes_at number text first ++ later)

-- the notes of a script whose lines are fine
pub record IsNoted (bytes : Bytes) (notes : List NoteAt) : Type 0 where
  pub texts : List Bytes
  pub cut : AreLines bytes texts
  pub fine : All IsFine texts
  pub noted : AreNoted 1 texts notes

-- none of these texts has a note
abbrev pub HaveNoNotes : ℕ → List Bytes → Type 0
HaveNoNotes number [] = Unit {0}
HaveNoNotes number (text ∷ texts) = AreNotes number text [] × HaveNoNotes (number + 1) texts

-- no line of a script has a note
pub record HasNoNotes (bytes : Bytes) : Type 0 where
  pub texts : List Bytes
  pub cut : AreLines bytes texts
  pub fine : All IsFine texts
  pub none : HaveNoNotes 1 texts
