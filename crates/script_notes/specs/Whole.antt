-- Notes of a whole line: why it is no command, its first clash, and that there are no directories.
use Rattle.std.specs.Prelude.{◌≡◌, ℕ, Bool, true, false, ◌&&◌, ◌==◌, List, [], ◌∷◌, map, filter, ◌⊎◌, Option, Some, None, slice_get}
use Rattle.std.specs.Str.{bytes_eq}
use Rattle.sh_lexer.specs.declared.token.Token.{Token}
use Rattle.sh_tree.specs.declared.fault.ParseFault.{ParseFault}
use Rattle.sh_tree.specs.declared.fault.ParseFault.TheVariants.{MissingFile, MissingParen, TooManyWords, Unexpected, Leftover, Memory}
use Rattle.sh_tree.specs.Tree.{Tree}
use Rattle.mem_files.specs.Name.{Bytes}
use Rattle.conflict_check.specs.declared.conflict.ClashKind.{ClashKind}
use Rattle.conflict_check.specs.declared.conflict.ClashKind.TheVariants.{PipeSides, Enclosing}
use Rattle.conflict_check.specs.Clash.{IsFirstClash}
use Rattle.conflict_check.specs.Clear.{IsClear}
use Rattle.script_notes.specs.declared.kind.NoteKind.{NoteKind}
use Rattle.script_notes.specs.declared.kind.NoteKind.TheVariants.{NoDirectories, MissingName, OpenParen, TenthWord, LateParen, StrayParen, LeftOver, PipeClash, RedirectionClash}
use Rattle.script_notes.specs.declared.span.Span.{Span}
use Rattle.script_notes.specs.Letters.{text_of}
use Rattle.script_notes.specs.Notes.{Note, note_of}
use Rattle.script_notes.specs.Segments.{is_word}

-- of `cd`
abbrev pub cd_note : Note
cd_note = note_of NoDirectories 0 2

-- the byte is a `)`
abbrev pub is_paren : Option ℕ → Bool
is_paren None = false
is_paren (Some byte) = byte == 41

abbrev pub left_kind : Bool → NoteKind
left_kind true = StrayParen
left_kind false = LeftOver

-- of the place of a fault; `Memory`, which no loaded line has, has none
abbrev pub fault_notes : Bytes → ParseFault → List Note
fault_notes text (MissingFile at) = note_of MissingName at at ∷ []
fault_notes text (MissingParen at) = note_of OpenParen at at ∷ []
fault_notes text (TooManyWords at) = note_of TenthWord at at ∷ []
fault_notes text (Unexpected at) = note_of LateParen at at ∷ []
fault_notes text (Leftover at) = note_of (left_kind (is_paren (slice_get text at))) at at ∷ []
fault_notes text Memory = []

-- the words of the line that are this name
abbrev pub places_of : Bytes → Bytes → List Token → List Span
places_of text name ts =
    map (λ t. record { first = t.first; past = t.past }) (filter (λ t. is_word t.kind && bytes_eq (text_of text t) name) ts)

abbrev pub clash_kind : ClashKind → NoteKind
clash_kind PipeSides = PipeClash
clash_kind Enclosing = RedirectionClash

-- of the first clash of a tree, if it is not clear, each word that is its name
abbrev pub IsClashNoted : Tree → Bytes → List Token → List Note → Type 0
IsClashNoted tree text ts notes =
    (IsClear tree × (notes ≡ []))
    ⊎ ((kind : ClashKind) × (name : Bytes) × IsFirstClash tree kind name
    × (notes ≡ record { kind = clash_kind kind; spans = places_of text name ts } ∷ []))
