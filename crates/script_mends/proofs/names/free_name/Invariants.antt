use Rattle.std.proofs.Common.{ℕ, ◌<◌, ◌≤◌}
use Rattle.mem_files.specs.Files.{files}
use Rattle.script_mends.specs.Mended.{IsTaken, new_name}
use Rattle.script_mends.proofs.names.free_name.Given as goal

-- each name before this one is taken
abbrev pub invariant-loop-number : goal.invariant-loop-number
invariant-loop-number l = (number : ℕ) → 1 ≤ number → number < l.number → IsTaken (files l.given) l.bytes (new_name number)
