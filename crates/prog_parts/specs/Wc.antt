-- What wc counts (user/wc.c).
use Rattle.std.specs.Prelude.{ℕ, ◌+◌, ◌^◌, ◌-◌, min, Bool, false, not, ◌&&◌, ◌==◌, [], ◌∷◌, ◌++◌, length, count_by, if◌then◌else◌}
use Rattle.std.specs.Fmt.{decimal}
use Rattle.sh_lexer.specs.Tokens.{is_white}
use Rattle.mem_files.specs.Name.{Name, Bytes}

abbrev pub line_ends : Bytes → ℕ
line_ends bytes = count_by (λ byte. byte == 10) bytes

-- how many words begin in the bytes, after a byte that is of a word or is not
abbrev pub words_after : Bool → Bytes → ℕ
words_after inside [] = 0
words_after inside (byte ∷ bytes) =
    (if not inside && not (is_white byte) then 1 else 0) + words_after (not (is_white byte)) bytes

-- whether the bytes end inside a word, after a byte that is of a word or is not
abbrev pub ends_inside : Bool → Bytes → Bool
ends_inside inside [] = inside
ends_inside inside (byte ∷ bytes) = ends_inside (not (is_white byte)) bytes

-- the longest runs of bytes that are not white space
abbrev pub words : Bytes → ℕ
words bytes = words_after false bytes

-- a count stays at the greatest number of 128 bits (own)
abbrev pub capped : ℕ → ℕ
capped count = min count (2 ^ 128 - 1)

-- the line of an input: how many LFs, words and bytes it has, and its name
abbrev pub wc_line : Name → Bytes → Bytes
wc_line name bytes =
    decimal (capped (line_ends bytes)) ++ 32 ∷ (decimal (capped (words bytes)) ++ 32 ∷ (decimal (capped (length bytes)) ++ 32 ∷ (name ++ 10 ∷ [])))
