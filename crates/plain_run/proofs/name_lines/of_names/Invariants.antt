use Rattle.std.proofs.Common.{◌≡◌, ◌+◌, not, drop, take}
use Rattle.std.specs.Prelude.{All}
use Rattle.std.specs.List.{list_any}
use Rattle.prog_parts.specs.NameSets.{both}
use Rattle.prog_parts.specs.Program.{is_empty}
use Rattle.plain_run.specs.Spans.{all_names}
use Rattle.plain_run.specs.Told.{IsBeside}
use Rattle.plain_run.proofs.name_lines.of_names.Given as goal

-- the reasons of the names so far
abbrev pub invariant-loop-name : goal.invariant-loop-name
invariant-loop-name g l = record {
  each : All (IsBeside l.lines l.at l.names) l.reasons.items;
  met : is_empty l.reasons.items ≡ not (list_any (both (all_names (drop (l.at + 1) l.lines)) (all_names (take l.at l.lines))) (take l.name-index l.names));
}
