-- The words of some bytes: the longest runs of bytes that are no white space (user/wc.c).
use Rattle.std.specs.Prelude.{◌≡◌, Bool, true, false, not, List, [], ◌∷◌, ◌++◌}
use Rattle.std.specs.List.{list_all}
use Rattle.sh_lexer.specs.Tokens.{is_white}
use Rattle.mem_files.specs.Name.{Bytes}

abbrev pub are_white : Bytes → Bool
are_white bytes = list_all is_white bytes

abbrev pub has_no_white : Bytes → Bool
has_no_white bytes = list_all (λ byte. not (is_white byte)) bytes

-- a word has a byte
abbrev pub is_word : Bytes → Bool
is_word [] = false
is_word (byte ∷ bytes) = has_no_white (byte ∷ bytes)

-- a word ends here: at the end, or where white space follows
abbrev pub ends_word : Bytes → Bool
ends_word [] = true
ends_word (byte ∷ bytes) = is_white byte

-- these are the words of the bytes, in order: white space stands before each, and after the last
abbrev pub AreWords : Bytes → List Bytes → Type 0
AreWords bytes [] = are_white bytes ≡ true
AreWords bytes (word ∷ words) =
    (space : Bytes) × (rest : Bytes) × (bytes ≡ space ++ (word ++ rest)) × (are_white space ≡ true) × (is_word word ≡ true) × (ends_word rest ≡ true) × AreWords rest words
