use Rattle.std.proofs.Common.{◌≡◌, ◌++◌, length}
use Rattle.check_texts.specs.Findings.{findings_text}
use Rattle.check_texts.proofs.findings.text_of_findings.Given as goal

-- the report of the findings that are left completes that of all
abbrev pub invariant-loop-finding : goal.invariant-loop-finding
invariant-loop-finding l = l.text.items ++ findings_text l.rest ≡ findings_text l.findings

abbrev pub decreases-loop-finding : goal.decreases-loop-finding
decreases-loop-finding l = length l.rest
