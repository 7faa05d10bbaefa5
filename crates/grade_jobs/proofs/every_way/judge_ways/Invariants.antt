use Rattle.std.proofs.Common.{All, take}
use Rattle.script_load.specs.Line.{lines_of}
use Rattle.grade_jobs.specs.Ways.{RunsRight}
use Rattle.grade_jobs.proofs.every_way.judge_ways.Given as goal

abbrev pub invariant-loop-way : goal.invariant-loop-way
invariant-loop-way g l = All (RunsRight l.task (lines_of l.script.lines)) (take l.way-index l.ways)
