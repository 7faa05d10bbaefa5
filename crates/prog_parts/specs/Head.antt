-- What head is asked for by its arguments, and the first lines of some bytes (own: xv6 has no head).
use Rattle.std.specs.Prelude.{ℕ, zero, suc, Bool, false, ◌&&◌, not, ◌==◌, nat_le, List, [], ◌∷◌, length, drop, if◌then◌else◌}
use Rattle.std.specs.List.{list_all}
use Rattle.std.specs.Str.Parse.{digits_value}
use Rattle.mem_files.specs.Name.{Bytes}

abbrev pub is_digit : ℕ → Bool
is_digit byte = nat_le 48 byte && nat_le byte 57

-- one to nine digits
abbrev pub are_count_digits : List ℕ → Bool
are_count_digits digits = nat_le 1 (length digits) && nat_le (length digits) 9 && list_all is_digit digits

-- the argument begins with `-`
abbrev pub is_option : List ℕ → Bool
is_option [] = false
is_option (byte ∷ bytes) = byte == 45

-- head's count: `-` and one to nine digits
abbrev pub is_count : List ℕ → Bool
is_count [] = false
is_count (byte ∷ digits) = (byte == 45) && are_count_digits digits

-- head was given a first argument that begins with `-` and is no count
abbrev pub has_wrong_option : List (List ℕ) → Bool
has_wrong_option [] = false
has_wrong_option (argument ∷ later) = is_option argument && not (is_count argument)

-- head's file words: those after a count, none after a wrong option, else all
abbrev pub head_files : List (List ℕ) → List (List ℕ)
head_files [] = []
head_files (argument ∷ later) = if is_count argument then later else (if is_option argument then [] else argument ∷ later)

-- how many lines: as many as the digits after `-` say, or ten without a count
abbrev pub line_count : List Bytes → ℕ
line_count [] = 10
line_count (argument ∷ later) = if is_count argument then digits_value 10 (drop 1 argument) else 10

-- the shortest prefix with n LFs, or all where there are fewer
abbrev pub first_lines : ℕ → Bytes → Bytes
first_lines zero bytes = []
first_lines (suc n) [] = []
first_lines (suc n) (byte ∷ bytes) = byte ∷ first_lines (if byte == 10 then n else suc n) bytes

-- what follows it
abbrev pub after_lines : ℕ → Bytes → Bytes
after_lines n bytes = drop (length (first_lines n bytes)) bytes
