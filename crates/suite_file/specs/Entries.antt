-- What the entries of a suite's tables say. An entry is what stands at a key, if anything does.
use Rattle.std.specs.Prelude.{◌≡◌, ◌≢◌, ℕ, ◌≤◌, Bool, List, [], ◌∷◌, Contains, Option, Some, None, pos, codes, string_bytes}
use Rattle.toml.specs.Data.{Data, string, integer, boolean, table, Members, no_members, member}
use Rattle.suite_file.specs.declared.suite.Source.{Source}
use Rattle.suite_file.specs.declared.suite.Source.TheVariants.{Inline, Beside}
use Rattle.suite_file.specs.declared.suite.NamedSource.{NamedSource}

-- each key of the table is one of these
abbrev pub HasOnlyKeys : List (List ℕ) → Members → Type 0
HasOnlyKeys known no_members = Unit {0}
HasOnlyKeys known (member key entry rest) = Contains known key × HasOnlyKeys known rest

-- it is a text, if it is there
abbrev pub IsTextIfThere : Option Data → Type 0
IsTextIfThere None = Unit {0}
IsTextIfThere (Some (string text)) = Unit {0}
IsTextIfThere (Some _) = ⊥

-- it is a table, if it is there
abbrev pub IsTableIfThere : Option Data → Type 0
IsTableIfThere None = Unit {0}
IsTableIfThere (Some (table inner)) = Unit {0}
IsTableIfThere (Some _) = ⊥

-- it is this number, which is from the least to the most; where it isn't there the number is the other one
abbrev pub IsNumber : ℕ → ℕ → Option Data → ℕ → ℕ → Type 0
IsNumber least most None other number = number ≡ other
IsNumber least most (Some (integer (pos n))) other number = (number ≡ n) × (least ≤ n) × (n ≤ most)
IsNumber least most (Some _) other number = ⊥

-- it is a number from the least to the most, if it is there
abbrev pub IsNumberIfThere : ℕ → ℕ → Option Data → Type 0
IsNumberIfThere least most None = Unit {0}
IsNumberIfThere least most (Some (integer (pos n))) = (least ≤ n) × (n ≤ most)
IsNumberIfThere least most (Some _) = ⊥

-- it is this truth; where it isn't there the truth is the other one
abbrev pub IsTruth : Option Data → Bool → Bool → Type 0
IsTruth None other truth = truth ≡ other
IsTruth (Some (boolean b)) other truth = truth ≡ b
IsTruth (Some _) other truth = ⊥

-- the bytes are this text
abbrev pub IsInline : List ℕ → Source → Type 0
IsInline text (Inline bytes) = bytes.items ≡ text
IsInline text (Beside path) = ⊥

-- the bytes are those of the file at this path, which isn't empty
abbrev pub IsBeside : List ℕ → Source → Type 0
IsBeside path (Inline bytes) = ⊥
IsBeside path (Beside own) = (string_bytes own ≡ path) × (path ≢ [])

-- of the entries of a text and of a path one is there, which gives the bytes; or neither is, and nothing gives them
abbrev pub IsSource : Option Data → Option Data → Option Source → Type 0
IsSource None None source = source ≡ None
IsSource (Some (string text)) None (Some source) = IsInline text source
IsSource None (Some (string path)) (Some source) = IsBeside path source
IsSource _ _ _ = ⊥

-- the same, but there are no bytes where neither is there
abbrev pub IsSourceOrEmpty : Option Data → Option Data → Source → Type 0
IsSourceOrEmpty None None source = IsInline [] source
IsSourceOrEmpty text path source = IsSource text path (Some source)

-- it gives the bytes of a file: a text, or a table of the one key `file`, which has a path
abbrev pub IsFileSource : Data → Source → Type 0
IsFileSource (string text) source = IsInline text source
IsFileSource (table (member key (string path) no_members)) source = (key ≡ codes "file") × IsBeside path source
IsFileSource _ source = ⊥

-- they are the files of the table, in order
abbrev pub AreFilesOf : Members → List NamedSource → Type 0
AreFilesOf no_members files = files ≡ []
AreFilesOf (member name entry rest) [] = ⊥
AreFilesOf (member name entry rest) (file ∷ files) = (file.name.items ≡ name) × IsFileSource entry file.source × AreFilesOf rest files

-- it is a table of these files, in order; where it isn't there, there are none
abbrev pub AreFiles : Option Data → List NamedSource → Type 0
AreFiles None files = files ≡ []
AreFiles (Some (table inner)) files = AreFilesOf inner files
AreFiles (Some _) files = ⊥
