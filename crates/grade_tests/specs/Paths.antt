-- The path of a file that a suite names.
use Rattle.std.specs.Prelude.{◌≡◌, ◌==◌, Bool, false, [], ◌∷◌, ◌++◌, MatchBool}
use Rattle.xvsh_read.specs.Path.{Path, IsLastPart}

-- it begins with `/`
abbrev pub is_rooted : Path → Bool
is_rooted [] = false
is_rooted (byte ∷ rest) = byte == 47

-- what a path has before its last part: nothing, or a folder with its `/`
abbrev pub IsFolderOf : Path → Path → Type 0
IsFolderOf path folder = (name : Path) × IsLastPart path name × (path ≡ folder ++ name)

-- a path that begins with `/` is itself, and any other begins at the suite's folder
abbrev pub IsPlaceOf : Path → Path → Path → Type 0
IsPlaceOf suite path place =
    MatchBool (is_rooted path) (place ≡ path) ((folder : Path) × IsFolderOf suite folder × (place ≡ folder ++ path))
