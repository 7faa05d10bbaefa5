use Rattle.mem_files.specs.Files.{files}
use Rattle.script_mends.specs.Mended.{AreMends}
use Rattle.script_mends.proofs.rounds.mend.Given as goal

-- so many mends led here
abbrev pub invariant-loop-mends : goal.invariant-loop-mends
invariant-loop-mends l = AreMends l.task.profile l.task.stdin.now (files l.task.files.now) l.mends l.bytes l.text.items
