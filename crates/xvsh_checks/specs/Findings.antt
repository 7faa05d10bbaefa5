-- What is found in a script's lines before any run.
use Rattle.std.specs.Prelude.{◌≡◌, ℕ, ◌+◌, Bool, true, false, List, [], ◌∷◌, ◌++◌, ◌⊎◌}
use Rattle.sh_tree.specs.Tree.{Tree}
use Rattle.conflict_check.specs.declared.conflict.ClashKind.{ClashKind}
use Rattle.conflict_check.specs.Clash.{IsFirstClash}
use Rattle.conflict_check.specs.Clear.{IsClear, has_back}
use Rattle.mem_files.specs.Name.{Bytes}
use Rattle.script_load.specs.Line.{ScriptLine, command, bad, cd}
use Rattle.xvsh_checks.specs.declared.found.Finding.{Finding}
use Rattle.xvsh_checks.specs.declared.found.Finding.TheVariants.{Fault, Background, Clash}

-- the `&` of the line of this number, where it holds one
abbrev pub back_found : ℕ → Bool → List Finding
back_found number false = []
back_found number true = Background number ∷ []

-- the first clash of a tree, if it is not clear
abbrev pub IsClashFound : ℕ → Tree → List Finding → Type 0
IsClashFound number tree findings =
    (IsClear tree × (findings ≡ [])) ⊎ ((kind : ClashKind) × (name : Bytes) × IsFirstClash tree kind name × (findings ≡ Clash number kind name ∷ []))

-- all that is found in the line of this number: the fault of a line that is no command; of a `cd` nothing; of a command its `&`, and
-- then its first clash
abbrev pub AreOfLine : ℕ → ScriptLine → List Finding → Type 0
AreOfLine number (bad fault whole) findings = findings ≡ Fault number fault ∷ []
AreOfLine number (cd folder) findings = findings ≡ []
AreOfLine number (command tree) findings =
    (clash : List Finding) × IsClashFound number tree clash × (findings ≡ back_found number (has_back tree) ++ clash)

-- all that is found in lines that are numbered from this number on, in their order
abbrev pub AreFindings : ℕ → List ScriptLine → List Finding → Type 0
AreFindings number [] findings = findings ≡ []
AreFindings number (line ∷ lines) findings =
    (first : List Finding) × (later : List Finding) × AreOfLine number line first × AreFindings (number + 1) lines later × (findings ≡ first ++ later)
