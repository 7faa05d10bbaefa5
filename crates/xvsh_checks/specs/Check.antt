-- What a check finds in the script at a path before any run.
use Rattle.std.specs.Prelude.{◌≡◌, ◌↔◌, Bool, false, IsTrue, List, [], ◌∷◌, Option}
use Rattle.conflict_check.specs.Clear.{IsClear, has_back}
use Rattle.mem_files.specs.Name.{Bytes}
use Rattle.script_load.specs.Line.{ScriptLine, command, bad, cd}
use Rattle.xvsh_read.specs.declared.fault.Fault.{Fault}
use Rattle.xvsh_read.specs.declared.fault.Fault.TheVariants.{Memory}
use Rattle.xvsh_read.specs.Path.{Path}
use Rattle.xvsh_read.specs.Starting.{AreLinesAt, IsScriptAtFault}
use Rattle.xvsh_checks.specs.declared.found.Finding.{Finding}
use Rattle.xvsh_checks.specs.Findings.{AreFindings}

-- the line holds no `&` and no clash, and strictly it is a command
abbrev pub IsHarmless : Bool → ScriptLine → Type 0
IsHarmless strict (bad fault whole) = strict ≡ false
IsHarmless strict (cd folder) = Unit {0}
IsHarmless strict (command tree) = (has_back tree ≡ false) × IsClear tree

abbrev pub AreHarmless : Bool → List ScriptLine → Type 0
AreHarmless strict [] = Unit {0}
AreHarmless strict (line ∷ lines) = IsHarmless strict line × AreHarmless strict lines

-- these are found in the lines of the script at a path, and whether they are harmless, strictly or not
pub record RanCheck (input : Option Bytes) (file : Path → Option Bytes) (script : Path) (strict is_harmless : Bool) (findings : List Finding) : Type 0 where
  pub lines : List ScriptLine
  pub loaded : AreLinesAt input file script lines
  pub of_lines : AreFindings 1 lines findings
  pub harmless : IsTrue is_harmless ↔ AreHarmless strict lines

-- why nothing is found of the script at a path: there is no script, or no memory for the report
pub data IsCheckFault (input : Option Bytes) (file : Path → Option Bytes) (script : Path) : Fault → Type 0 where
  no_script_told : {fault : Fault} → IsScriptAtFault input file script fault → IsCheckFault input file script fault
  not_told : IsCheckFault input file script Memory
