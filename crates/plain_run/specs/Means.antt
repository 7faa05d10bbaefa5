-- What a run of a command leaves and returns.
use Rattle.std.specs.Prelude.{◌≡◌, ◌↔◌, IsTrue, List, All, IfOk, IfErr, Result}
use Rattle.sh_tree.specs.Tree.{Tree}
use Rattle.mem_files.specs.Name.{Bytes}
use Rattle.mem_files.specs.Files.{files}
use Rattle.prog_parts.specs.NameSets.{no_names}
use Rattle.meaning_model.specs.Limits.{Outgrows}
use Rattle.prog_parts.specs.Program.{is_empty}
use Rattle.script_load.specs.Line.{ScriptLine}
use Rattle.meaning_model.specs.Meaning.{meaning, script_tree, script_meaning}
use Rattle.meaning_model.specs.Settled.{IsSettled}
use Rattle.plain_run.specs.Gives.{Gives, IsDue}
use Rattle.plain_run.specs.declared.fault.PlainFault.{PlainFault}
use Rattle.plain_run.specs.Again.{TellsAgain}
use Rattle.plain_run.specs.Reasons.{IsReason}
use Rattle.plain_run.specs.Tells.{Tells}
use Rattle.plain_run.specs.Told.{is_some}
use Rattle.plain_run.specs.declared.run.Ran.{Ran}
use Rattle.plain_run.specs.declared.run.RanLines.{RanLines}
use Rattle.plain_run.specs.declared.run.Runner.{Runner}

-- the command's meaning on this input and the runner's files, by its profile: what it adds to the output, leaves of the input and of
-- the files, whether it is loose, and its soft names; and what is named and used again. Or a fault that is due. The profile stays
pub record Means {A : _} (old new : Runner A) (tree : Tree) (input : Bytes) (result : Result (Ran A) PlainFault) : Type 0 where
  pub profile : new.profile ≡ old.profile
  pub gives : IfOk result (λ ran. Gives (meaning old.profile tree input (files old.store)) old.out.items new.out.items ran.rest.now (files new.store))
  pub tells : IfOk result (λ ran. Tells (meaning old.profile tree input (files old.store)) ran.verdict.is_loose ran.verdict.soft.items)
  pub again : IfOk result (λ ran. TellsAgain old.profile tree input (files old.store) ran.verdict.again.items ran.verdict.reuses)
  pub large : IfErr result (IsDue (Outgrows old.profile tree input (files old.store)))

-- the same of lines; and why they aren't settled, but for & and clashes
pub record MeanLines {A : _} (old new : Runner A) (lines : List ScriptLine) (input : Bytes) (result : Result (RanLines A) PlainFault) : Type 0 where
  pub gives : IfOk result (λ ran. Gives (script_meaning old.profile lines input (files old.store)) old.out.items new.out.items ran.rest.now (files new.store))
  pub tells : IfOk result (λ ran. Tells (script_meaning old.profile lines input (files old.store)) (is_some ran.told.loose) ran.told.soft.items)
  pub settled : IfOk result (λ ran. IsTrue (is_empty ran.told.reasons.items) ↔ IsSettled old.profile (script_tree lines) no_names input (files old.store))
  pub each : IfOk result (λ ran. All (IsReason old.profile lines input (files old.store)) ran.told.reasons.items)
  pub large : IfErr result (IsDue (Outgrows old.profile (script_tree lines) input (files old.store)))
