-- The script of some bytes, and why bytes are no script.
use Rattle.std.specs.Prelude.{◌≡◌, ◌≢◌, ℕ, ◌+◌, ◌<◌, ◌≤◌, List, ◌∷◌, ◌++◌, length, All, Contains}
use Rattle.std.specs.List.{AllZip}
use Rattle.sh_tree.specs.declared.fault.ParseFault.TheVariants.{Memory as no_memory}
use Rattle.sh_tree.specs.Fault.{HasFault, HasTree}
use Rattle.script_load.specs.declared.fault.LoadFault.{LoadFault}
use Rattle.script_load.specs.declared.fault.LoadFault.TheVariants.{LineTooLong, ByteZero, Memory}
use Rattle.script_load.specs.Line.{ScriptLine, command, bad, cd}
use Rattle.prog_parts.specs.Lines.{AreLines}

-- the text begins with the three bytes `cd `
abbrev pub BeginsCd : List ℕ → Type 0
BeginsCd text = (rest : List ℕ) × (text ≡ 99 ∷ 100 ∷ 32 ∷ rest)

-- what a text is as a line of a script
abbrev pub IsLineOf : List ℕ → ScriptLine → Type 0
IsLineOf text (command tree) = (BeginsCd text → ⊥) × HasTree text tree
IsLineOf text (bad fault whole) = (BeginsCd text → ⊥) × (fault ≢ no_memory) × HasFault text fault × (whole ≡ text)
IsLineOf text (cd rest) = text ≡ 99 ∷ 100 ∷ 32 ∷ rest

-- a text that a line of a script may have: at most 511 bytes, and no byte 0
abbrev pub IsFine : List ℕ → Type 0
IsFine text = (length text ≤ 511) × All (λ b. b ≢ 0) text

-- every line of these bytes is fine
abbrev pub AllFine : List ℕ → Type 0
AllFine bytes = (texts : List (List ℕ)) × AreLines bytes texts × All IsFine texts

-- the script of these bytes
pub record IsScript (bytes : List ℕ) (lines : List ScriptLine) : Type 0 where
  pub texts : List (List ℕ)
  pub cut : AreLines bytes texts
  pub fine : All IsFine texts
  pub each : AllZip IsLineOf texts lines

-- the n-th line, counted from 1, is the first that is not fine, for this reason
pub record IsFirstFaulty (bytes : List ℕ) (n : ℕ) (Reason : List ℕ → Type 0) : Type 0 where
  pub before : List (List ℕ)
  pub line : List ℕ
  pub after : List (List ℕ)
  pub cut : AreLines bytes (before ++ line ∷ after)
  pub fine : All IsFine before
  pub number : n ≡ length before + 1
  pub reason : Reason line

-- the bytes are refused for this reason; `Memory` is returned only where every line is fine
abbrev pub HasLoadFault : List ℕ → LoadFault → Type 0
HasLoadFault bytes (LineTooLong n) = IsFirstFaulty bytes n (λ line. 511 < length line)
HasLoadFault bytes (ByteZero n) = IsFirstFaulty bytes n (λ line. (length line ≤ 511) × Contains line 0)
HasLoadFault bytes Memory = AllFine bytes
