-- What is found in the lines of a task's script, as of the lines that a run of it begins with: a script has one list of lines.
use Rattle.std.proofs.Common.{◌≡◌, Bool, List, IsTrue, subst}
use Rattle.std.specs.Prelude.{◌↔◌}
use Rattle.script_load.specs.Line.{ScriptLine}
use Rattle.script_load.specs.Script.{IsScript}
use Rattle.script_load.proofs.OneScript.{one_script}
use Rattle.xvsh_checks.specs.declared.finding.Findings.{Findings}
use Rattle.xvsh_checks.specs.Check.{AreHarmless}
use Rattle.xvsh_checks.specs.Findings.{AreFindings}
use Rattle.embed.specs.declared.task.Task.{Task}
use Rattle.embed.specs.Asks.{AreFound}

module _ (task : Task) (strict : Bool) (found : Findings) (lines : List ScriptLine) (are : AreFound task strict found) (cut : IsScript task.script.now lines) where
  same : are.lines ≡ lines
  same = one_script task.script.now are.lines lines are.cut cut

  pub findings_of : AreFindings 1 lines found.list.items
  findings_of = subst (λ (ls : List ScriptLine). AreFindings 1 ls found.list.items) same are.of_lines

  pub harmless_of : IsTrue found.is_harmless ↔ AreHarmless strict lines
  harmless_of = subst (λ (ls : List ScriptLine). IsTrue found.is_harmless ↔ AreHarmless strict ls) same are.harmless
