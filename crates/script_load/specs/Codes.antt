-- A code for lines, different for different lines: a ghost field that speaks of a script needs one.
use Rattle.std.specs.Prelude.{◌≡◌, refl, ℕ, zero, suc, List}
use Rattle.std.specs.Coded.{Coded, Coded-set, code_by, coded⊎, coded×, coded_list, coded_ℕ}
use mathlib.Core.Logic.{◌⊎◌, inl, inr}
use Rattle.sh_tree.specs.declared.fault.ParseFault.{ParseFault}
use Rattle.sh_tree.specs.declared.fault.ParseFault.TheVariants.{MissingFile, MissingParen, TooManyWords, Unexpected, Leftover, Memory}
use Rattle.sh_tree.specs.Codes.{tree_code}
use Rattle.sh_tree.specs.Tree.{Tree}
use Rattle.script_load.specs.Line.{ScriptLine, command, bad, cd}

-- a fault as a number of its kind, and its place
abbrev fault_parts : ParseFault → ℕ × ℕ
fault_parts (MissingFile place) = (0, place)
fault_parts (MissingParen place) = (1, place)
fault_parts (TooManyWords place) = (2, place)
fault_parts (Unexpected place) = (3, place)
fault_parts (Leftover place) = (4, place)
fault_parts Memory = (5, 0)

abbrev fault_of_kind : ℕ → ℕ → ParseFault
fault_of_kind zero place = MissingFile place
fault_of_kind (suc zero) place = MissingParen place
fault_of_kind (suc (suc zero)) place = TooManyWords place
fault_of_kind (suc (suc (suc zero))) place = Unexpected place
fault_of_kind (suc (suc (suc (suc zero)))) place = Leftover place
fault_of_kind (suc (suc (suc (suc (suc n))))) place = Memory

pub fault_again : (fault : ParseFault) → fault_of_kind (fault_parts fault).0 (fault_parts fault).1 ≡ fault
fault_again (MissingFile place) = refl
fault_again (MissingParen place) = refl
fault_again (TooManyWords place) = refl
fault_again (Unexpected place) = refl
fault_again (Leftover place) = refl
fault_again Memory = refl

abbrev pub fault_code : Coded ParseFault
fault_code = code_by (ℕ × ℕ) (coded× coded_ℕ coded_ℕ) fault_parts (λ parts. fault_of_kind parts.0 parts.1) fault_again

abbrev LineParts : Type 0
LineParts = Tree ⊎ ((ParseFault × List ℕ) ⊎ List ℕ)

abbrev line_parts : ScriptLine → LineParts
line_parts (command tree) = inl tree
line_parts (bad fault text) = inr (inl (fault, text))
line_parts (cd text) = inr (inr text)

abbrev line_of_parts : LineParts → ScriptLine
line_of_parts (inl tree) = command tree
line_of_parts (inr (inl parts)) = bad parts.0 parts.1
line_of_parts (inr (inr text)) = cd text

pub line_again : (line : ScriptLine) → line_of_parts (line_parts line) ≡ line
line_again (command tree) = refl
line_again (bad fault text) = refl
line_again (cd text) = refl

abbrev pub line_code : Coded ScriptLine
line_code = code_by LineParts (coded⊎ tree_code (coded⊎ (coded× fault_code (coded_list coded_ℕ)) (coded_list coded_ℕ))) line_parts line_of_parts line_again

-- that two scripts are equal is a fact
pub lines_fact : (ls ms : List ScriptLine) → IsProp (ls ≡ ms)
lines_fact = Coded-set (coded_list line_code)
