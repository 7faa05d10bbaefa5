-- The name that a FILE of the command line gives to a file of the script, and the path of its bytes.
use Rattle.std.specs.Prelude.{◌≡◌, ◌≢◌, ◌==◌, ◌&&◌, ℕ, Bool, not, nat_lt, if◌then◌else◌, List, ◌∷◌, ◌++◌, length, All, MatchBool, ◌⊎◌}
use Rattle.std.specs.List.{after_first, before_first, list_any, position_or_len}

abbrev pub Path : Type 0
Path = List ℕ

-- the part after the last `/`: it has none, and is the whole path or follows one
abbrev pub IsLastPart : Path → List ℕ → Type 0
IsLastPart path name =
    All (λ byte. byte ≢ 47) name × ((path ≡ name) ⊎ ((folder : List ℕ) × (path ≡ folder ++ 47 ∷ name)))

abbrev pub is_equals : ℕ → Bool
is_equals byte = byte == 61

-- a name can stand before a `=`: it isn't empty, and has no `/`
abbrev pub can_be_given : List ℕ → Bool
can_be_given name = nat_lt 0 (length name) && not (list_any (λ byte. byte == 47) name)

-- what stands before its first `=`; all, where it has none
abbrev pub before_equals : Path → List ℕ
before_equals = before_first is_equals

-- the FILE is `NAME=PATH`: such a name stands before its first `=`
abbrev pub is_renamed : Path → Bool
is_renamed word = nat_lt (position_or_len is_equals word) (length word) && can_be_given (before_equals word)

-- where its bytes are: behind that `=`, and else at itself
abbrev pub place_of : Path → Path
place_of word = if is_renamed word then after_first is_equals word else word

-- its file's name: what stands before that `=`, and else the last part of the path
abbrev pub IsNameOf : Path → List ℕ → Type 0
IsNameOf word name = MatchBool (is_renamed word) (name ≡ before_equals word) (IsLastPart word name)
