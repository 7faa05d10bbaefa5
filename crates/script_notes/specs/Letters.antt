-- Notes by the letters of a line, whatever it says: own, since xv6's shell has no comments and no quotes (`user/sh.c`'s `gettoken`).
use Rattle.std.specs.Prelude.{ℕ, ◌-◌, Bool, false, ◌&&◌, ◌||◌, ◌==◌, List, [], ◌∷◌, ◌++◌, length, take, flat_map, slice_index, slice_range}
use Rattle.std.specs.List.{list_any}
use Rattle.std.specs.Str.{bytes_eq}
use Rattle.sh_lexer.specs.declared.token.Token.{Token}
use Rattle.mem_files.specs.Name.{Bytes}
use Rattle.script_notes.specs.declared.kind.NoteKind.TheVariants.{ByteOrderMark, CarriageReturn, NoComment, NoQuote, NoBackQuote}
use Rattle.script_notes.specs.Notes.{Note, note_where}

-- the three bytes of a byte order mark
abbrev pub begins_with_mark : Bytes → Bool
begins_with_mark text = bytes_eq (take 3 text) (239 ∷ 187 ∷ 191 ∷ [])

abbrev pub ends_in_return : Bytes → Bool
ends_in_return text = slice_index text (length text - 1) == 13

-- of a script's first line the byte order mark that it begins with
abbrev pub mark_notes : ℕ → Bytes → List Note
mark_notes number text = note_where (number == 1 && begins_with_mark text) ByteOrderMark 0 3

-- the carriage return that a line ends in
abbrev pub return_notes : Bytes → List Note
return_notes text = note_where (ends_in_return text) CarriageReturn (length text - 1) (length text)

abbrev pub byte_notes : ℕ → Bytes → List Note
byte_notes number text = mark_notes number text ++ return_notes text

abbrev pub text_of : Bytes → Token → Bytes
text_of text t = slice_range text t.first t.past

-- the first byte is `#`
abbrev pub begins_comment : Bytes → Bool
begins_comment [] = false
begins_comment (byte ∷ bytes) = byte == 35

-- the bytes " ' and \
abbrev pub is_quote : ℕ → Bool
is_quote byte = byte == 34 || byte == 39 || byte == 92

abbrev pub is_back_quote : ℕ → Bool
is_back_quote byte = byte == 96

-- of a token, that it is no comment, that it is not quoted, and that no command in it runs
abbrev pub letters_of : Bytes → Token → List Note
letters_of text t =
    note_where (begins_comment (text_of text t)) NoComment t.first t.past
    ++ (note_where (list_any is_quote (text_of text t)) NoQuote t.first t.past
    ++ note_where (list_any is_back_quote (text_of text t)) NoBackQuote t.first t.past)

abbrev pub letter_notes : Bytes → List Token → List Note
letter_notes text ts = flat_map (letters_of text) ts
