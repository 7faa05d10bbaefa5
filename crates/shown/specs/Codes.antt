-- The bytes of a code.
use Rattle.std.specs.Prelude.{ℕ, List}
use Rattle.shown.specs.declared.code.Code.{Code}
use Rattle.shown.specs.declared.code.Code.TheVariants.{Plain, Letter, Digits}

abbrev pub code_bytes : Code → List ℕ
code_bytes (Plain bytes) = bytes
code_bytes (Letter bytes) = bytes
code_bytes (Digits bytes) = bytes
