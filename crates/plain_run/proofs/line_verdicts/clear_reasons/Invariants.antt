use Rattle.std.proofs.Common.{List, ℕ, drop}
use Rattle.std.specs.Prelude.{All, map}
use Rattle.mem_files.specs.Files.{FileMap}
use Rattle.prog_parts.specs.Program.{is_empty}
use Rattle.script_load.specs.declared.profile.Profile.{Profile}
use Rattle.script_load.specs.Line.{line_of}
use Rattle.plain_run.specs.Reasons.{IsReason}
use Rattle.plain_run.proofs.Telling.{ClearTo}
use Rattle.plain_run.proofs.line_verdicts.clear_reasons.Given as goal

-- the reasons of the lines so far, and the lines that are left
abbrev pub invariant-loop-i : goal.invariant-loop-i
invariant-loop-i g l = record {
  each : (profile : Profile) (input : List ℕ) (F : FileMap) → All (IsReason profile (map line_of l.lines) input F) l.reasons.items;
  none : ClearTo (map line_of l.lines) (is_empty l.reasons.items) (map line_of (drop l.i l.lines));
}
