use Rattle.std.proofs.Common.{◌≡◌, drop}
use Rattle.mem_files.specs.Files.{files}
use Rattle.meaning_model.specs.Limits.{FillOutgrows}
use Rattle.meaning_model.specs.Tee.{filled}
use Rattle.plain_run.specs.Gives.{SameBeside}
use Rattle.plain_run.proofs.tee.fill.Given as goal

-- the files that are left complete those that were given, and a limit that they pass is passed on the whole way
abbrev pub invariant-loop-name : goal.invariant-loop-name
invariant-loop-name g l =
    (filled (drop l.name-index l.names) l.bytes (files l.store) ≡ filled l.names l.bytes (files l.fn.store))
    × (FillOutgrows (drop l.name-index l.names) l.bytes (files l.store) → FillOutgrows l.names l.bytes (files l.fn.store))
    × SameBeside l.names (files l.fn.store) (files l.store)
