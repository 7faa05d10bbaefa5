-- How a line is shown, and where marks stand under it: in the columns of the characters that they mark, as a terminal shows them.
use Rattle.std.specs.Prelude.{ℕ, not, ◌==◌, false, if◌then◌else◌, List, [], ◌∷◌, ◌++◌, filter, flat_map, replicate, slice_range, unwrap_or, chars}
use Rattle.std.specs.Str.Lossy.{utf8_lossy}
use Rattle.unicode_width.specs.Width.{char_width}
use Rattle.mem_files.specs.Name.{Bytes}
use Rattle.script_notes.specs.declared.span.Span.{Span}

-- carriage returns are not shown
abbrev pub shown : Bytes → Bytes
shown text = filter (λ byte. not (byte == 13)) text

-- the characters that bytes are shown as: U+FFFD where they aren't UTF-8
abbrev pub letters : Bytes → List ℕ
letters bytes = chars (utf8_lossy (shown bytes))

-- how many columns a character takes: two where it is wide, none where it joins the one before it, and one where it controls
abbrev pub columns_of : ℕ → ℕ
columns_of letter = unwrap_or (char_width false letter) 1

-- under a tab stands a tab, and under any other character a space in each of its columns
abbrev pub blank_of : ℕ → Bytes
blank_of letter = if letter == 9 then 9 ∷ [] else replicate (columns_of letter) 32

-- under bytes that are not marked
abbrev pub blanks : Bytes → Bytes
blanks bytes = flat_map blank_of (letters bytes)

-- `^` in each column of a character
abbrev pub mark_of : ℕ → Bytes
mark_of letter = replicate (columns_of letter) 94

-- one mark where there is none
abbrev pub some_mark : Bytes → Bytes
some_mark [] = 94 ∷ []
some_mark (first ∷ more) = first ∷ more

-- under bytes that are marked: `^` in each column, and one at least, so that the line's end can be marked
abbrev pub mark : Bytes → Bytes
mark bytes = some_mark (flat_map mark_of (letters bytes))

-- under the line from this byte on, as far as the last of these places
abbrev pub marks : Bytes → ℕ → List Span → Bytes
marks text from [] = []
marks text from (span ∷ spans) =
    blanks (slice_range text from span.first) ++ (mark (slice_range text span.first span.past) ++ marks text span.past spans)
