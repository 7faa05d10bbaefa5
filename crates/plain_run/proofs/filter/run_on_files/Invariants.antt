use Rattle.std.proofs.Common.{◌≡◌, ◌++◌, drop}
use Rattle.mem_files.specs.Files.{files}
use Rattle.meaning_model.specs.Inputs.{of_files}
use Rattle.plain_run.specs.Gives.{Extends}
use Rattle.plain_run.proofs.filter.run_on_files.Given as goal

-- the files that are left complete what is written
abbrev pub invariant-loop-name : goal.invariant-loop-name
invariant-loop-name g l =
    (l.out.items ++ of_files (g.P.Filter.written l.program) (drop l.name-index l.names) (files l.store) ≡ l.fn.out.items ++ of_files (g.P.Filter.written l.program) l.names (files l.store))
    × Extends l.fn.out.items l.out.items
