use Rattle.std.proofs.Common.{◌≡◌, drop, take}
use Rattle.std.specs.Prelude.{All, map, IfSome}
use Rattle.mem_files.specs.Files.{files}
use Rattle.prog_parts.specs.Program.{is_empty}
use Rattle.script_load.specs.Line.{line_of}
use Rattle.plain_run.proofs.Lines.{IsRunTo, IsToldTo}
use Rattle.plain_run.specs.Reasons.{IsReason}
use Rattle.plain_run.specs.Spans.{all_names, AreSpans}
use Rattle.plain_run.specs.Told.{is_some}
use Rattle.plain_run.proofs.SettledLines.{IsSettledTo}
use Rattle.plain_run.proofs.Telling.{AreLoose, IsBefore}
use Rattle.plain_run.proofs.run.Runner.run_lines.Given as goal

-- the profile stays, the lines that are left complete what was done and its verdict, and the reasons so far are reasons
abbrev pub invariant-loop-i : goal.invariant-loop-i
invariant-loop-i g l = record {
  profile : l.self.profile ≡ l.fn.self.profile;
  runs : IsRunTo l.fn.self.profile (map line_of l.lines) l.fn.input (files l.fn.self.store) l.fn.self.out.items (map line_of (drop l.i l.lines)) l.rest (files l.self.store) l.self.out.items;
  tells : IsToldTo l.fn.self.profile (map line_of l.lines) l.fn.input (files l.fn.self.store) (map line_of (drop l.i l.lines)) l.rest (files l.self.store) (is_some l.told.loose) l.told.soft.items;
  spans : IfSome l.spans (AreSpans l.lines);
  settled : IsSettledTo l.fn.self.profile (map line_of l.lines) l.fn.input (files l.fn.self.store) (all_names (take l.i l.lines)) (map line_of (drop l.i l.lines)) l.rest (files l.self.store) (is_empty l.told.reasons.items) (is_some l.told.loose);
  before : IsBefore l.fn.self.profile (map line_of l.lines) l.fn.input (files l.fn.self.store) l.i l.rest (files l.self.store);
  loose : AreLoose l.fn.self.profile (map line_of l.lines) l.fn.input (files l.fn.self.store) l.i l.told.loose;
  each : All (IsReason l.fn.self.profile (map line_of l.lines) l.fn.input (files l.fn.self.store)) l.told.reasons.items;
}
