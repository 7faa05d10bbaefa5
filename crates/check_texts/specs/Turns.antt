-- What `check --turns` prints of a script's turns.
use Rattle.std.specs.Prelude.{ℕ, [], ◌∷◌, ◌++◌, Option, Some, None, codes}
use Rattle.std.specs.Fmt.{decimal}
use Rattle.mem_files.specs.Name.{Bytes}

-- `turns N` and LF, or that they are more than a run may have
abbrev pub turns_text : Option ℕ → Bytes
turns_text None = codes "turns over 1000000000\n"
turns_text (Some turns) = codes "turns " ++ (decimal turns ++ 10 ∷ [])
