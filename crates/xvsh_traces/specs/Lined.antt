-- Diagnostics with the numbers of the lines of the script that they come from.
use Rattle.std.specs.Prelude.{ℕ, [], ◌∷◌, ◌++◌, codes}
use Rattle.std.specs.Fmt.{decimal}
use Rattle.mem_files.specs.Name.{Bytes}

-- `line N: `
abbrev pub line_mark : ℕ → Bytes
line_mark number = codes "line " ++ (decimal number ++ codes ": ")

-- the second text is the first one, with numbers of lines put between its bytes
pub data IsLined : Bytes → Bytes → Type 0 where
  plain_lined : {told : Bytes} → IsLined told told
  byte_lined : {told lined : Bytes} (byte : ℕ) → IsLined told lined → IsLined (told ++ byte ∷ []) (lined ++ byte ∷ [])
  mark_lined : {told lined : Bytes} (number : ℕ) → IsLined told lined → IsLined told (lined ++ line_mark number)
