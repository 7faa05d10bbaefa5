-- Bytes as text on one line (own): printable ASCII is itself but for the backslash, and all else is a code that begins with one.
use Rattle.std.specs.Prelude.{ℕ, ◌/◌, ◌%◌, ◌==◌, nat_le, nat_lt, Bool, ◌&&◌, ◌||◌, if◌then◌else◌, List, [], ◌∷◌, get_or, codes, flat_map}

-- a digit to the base 16, of a number below that
abbrev pub digit : ℕ → ℕ
digit number = get_or (codes "0123456789abcdef") number 0

-- the space and what is above it in ASCII, but for the last, which deletes
abbrev pub is_printable : ℕ → Bool
is_printable byte = nat_le 32 byte && nat_le byte 126

-- what a byte is shown as: LF, CR, tab and the backslash have codes of one letter
abbrev pub shown_byte : ℕ → List ℕ
shown_byte byte =
    if byte == 10 then codes "\\n" else
    if byte == 13 then codes "\\r" else
    if byte == 9 then codes "\\t" else
    if byte == 92 then codes "\\\\" else
    if is_printable byte then byte ∷ [] else
    92 ∷ 120 ∷ digit (byte / 16) ∷ digit (byte % 16) ∷ []

-- what bytes are shown as
abbrev pub shown : List ℕ → List ℕ
shown bytes = flat_map shown_byte bytes

-- what a byte of a name is shown as: those of letters outside ASCII stay
abbrev pub shown_name_byte : ℕ → List ℕ
shown_name_byte byte = if nat_lt byte 128 then shown_byte byte else byte ∷ []

-- what a name in UTF-8 is shown as
abbrev pub shown_name : List ℕ → List ℕ
shown_name name = flat_map shown_name_byte name

-- a byte that may stand in a shown name: printable ASCII, or above it
abbrev pub is_name_text : ℕ → Bool
is_name_text byte = is_printable byte || nat_le 128 byte
