-- The sentences of missing names (own).
use Rattle.std.specs.Prelude.{ℕ, List, ◌++◌, codes, flat_map}
use Rattle.std.specs.Fmt.{decimal}
use Rattle.mem_files.specs.Name.{Name, Bytes}
use Rattle.missing_names.specs.declared.missing.Missing.{Missing}

-- a missing name as its line's number and its bytes
abbrev pub shown : Missing → ℕ × Name
shown missing = (missing.line, missing.name.items)

abbrev pub head_text : ℕ → Bytes
head_text line = codes "line " ++ (decimal line ++ codes ": no file has the name ")

abbrev pub missing_text : ℕ × Name → Bytes
missing_text missing = head_text missing.0 ++ (missing.1 ++ codes ": no FILE gives it, and no line writes it, so it can't be opened\n")

-- one after the other
abbrev pub missing_texts : List (ℕ × Name) → Bytes
missing_texts missing = flat_map missing_text missing
