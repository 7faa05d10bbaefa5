-- What `check` prints of what it finds in a script's lines.
use Rattle.std.specs.Prelude.{ℕ, List, [], ◌∷◌, ◌++◌, flat_map, codes}
use Rattle.std.specs.Fmt.{decimal}
use Rattle.sh_tree.specs.declared.fault.ParseFault.{ParseFault}
use Rattle.sh_tree.specs.declared.fault.ParseFault.TheVariants.{MissingFile, MissingParen, TooManyWords, Unexpected, Leftover, Memory}
use Rattle.conflict_check.specs.declared.conflict.ClashKind.{ClashKind}
use Rattle.conflict_check.specs.declared.conflict.ClashKind.TheVariants.{PipeSides, Enclosing}
use Rattle.mem_files.specs.Name.{Bytes}
use Rattle.xvsh_checks.specs.declared.found.Finding.{Finding}
use Rattle.xvsh_checks.specs.declared.found.Finding.TheVariants.{Fault, Background, Clash}

-- `N fault K NAME at P` and LF
abbrev pub fault_line : ℕ → ℕ → Bytes → ℕ → Bytes
fault_line number kind name at =
    decimal number ++ (codes " fault " ++ (decimal kind ++ (32 ∷ (name ++ (codes " at " ++ (decimal at ++ 10 ∷ []))))))

-- the kinds by their numbers and names; out of memory, which no loaded script has, is at no place
abbrev pub fault_text : ℕ → ParseFault → Bytes
fault_text number (MissingFile at) = fault_line number 1 (codes "MissingFile") at
fault_text number (MissingParen at) = fault_line number 2 (codes "MissingParen") at
fault_text number (TooManyWords at) = fault_line number 3 (codes "TooManyWords") at
fault_text number (Unexpected at) = fault_line number 4 (codes "Unexpected") at
fault_text number (Leftover at) = fault_line number 5 (codes "Leftover") at
fault_text number Memory = fault_line number 6 (codes "Memory") 0

-- `N background` and LF
abbrev pub back_text : ℕ → Bytes
back_text number = decimal number ++ (codes " background" ++ 10 ∷ [])

abbrev pub kind_name : ClashKind → Bytes
kind_name PipeSides = codes "PipeSides"
kind_name Enclosing = codes "Enclosing"

-- `N clash KIND NAME` and LF
abbrev pub clash_text : ℕ → ClashKind → Bytes → Bytes
clash_text number kind name = decimal number ++ (codes " clash " ++ (kind_name kind ++ (32 ∷ (name ++ 10 ∷ []))))

-- of one thing that is found, and of all, one after the other
abbrev pub finding_text : Finding → Bytes
finding_text (Fault line fault) = fault_text line fault
finding_text (Background line) = back_text line
finding_text (Clash line kind name) = clash_text line kind name

abbrev pub findings_text : List Finding → Bytes
findings_text findings = flat_map finding_text findings
