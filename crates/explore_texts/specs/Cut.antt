-- What bytes of an output, a file or the diagnostics are shown as (own).
use Rattle.std.specs.Prelude.{ℕ, ◌==◌, nat_le, if◌then◌else◌, List, ◌++◌, length, take, codes}
use Rattle.std.specs.Fmt.{decimal}
use Rattle.mem_files.specs.Name.{Bytes}
use Rattle.shown.specs.Shown.{shown}

-- what follows the first of so many bytes
abbrev pub rest_text : ℕ → Bytes
rest_text count = codes ".. (" ++ (decimal count ++ codes " bytes)")

-- of more than 200 bytes the first 200 and how many there are, and a word for none
abbrev pub cut_shown : Bytes → Bytes
cut_shown bytes =
    if length bytes == 0 then codes "(nothing)" else
    if nat_le (length bytes) 200 then shown bytes else
    shown (take 200 bytes) ++ rest_text (length bytes)
