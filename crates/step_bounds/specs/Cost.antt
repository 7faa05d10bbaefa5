-- The cost of a command: how many bytes it writes at most and how many steps it makes, as far as these are few enough to be reported.
use Rattle.std.specs.Prelude.{◌≡◌, ℕ, ◌+◌, ◌<◌, ◌≤◌, List, Option, Some, None}
use Rattle.mem_files.specs.Name.{Bytes, Name}
use Rattle.mem_files.specs.Files.{files}
use Rattle.sh_tree.specs.Tree.{Tree}
use Rattle.tree_model.specs.FilesAhead.{Sizes, sizes}
use Rattle.tree_model.specs.Bound.{grown, tree_bytes, tree_steps}
use Rattle.step_bounds.specs.declared.capped.TheConstants.{MAX_STEPS}
use Rattle.step_bounds.specs.declared.cost.Cost.{Cost}

-- the number, or None where it is more than are reported
abbrev pub IsCapped : ℕ → Option ℕ → Type 0
IsCapped n None = MAX_STEPS < n
IsCapped n (Some m) = (m ≡ n) × (n ≤ MAX_STEPS)

-- the sizes of the files on this list, each grown by so many bytes
abbrev pub sizes_grown : List (Name × Bytes) → ℕ → Sizes
sizes_grown list more = grown (sizes (files list)) more

-- the cost of so many bytes and steps; or None, where the steps and what files have grown by before are too many
abbrev pub IsCost : ℕ → ℕ → ℕ → Option Cost → Type 0
IsCost more bytes steps None = MAX_STEPS < more + steps
IsCost more bytes steps (Some cost) = (cost.bytes ≡ bytes) × (cost.steps ≡ steps)

-- that of a command on so many bytes of input, where files have grown by so many bytes
abbrev pub IsCostOf : Tree → ℕ → List (Name × Bytes) → ℕ → Option Cost → Type 0
IsCostOf tree input list more cost = IsCost more (tree_bytes tree input (sizes_grown list more)) (tree_steps tree input (sizes_grown list more)) cost

-- by so many bytes files have grown at most once a command has run on so many bytes of input, where they have grown by so many before
abbrev pub IsGrownBy : Tree → ℕ → List (Name × Bytes) → ℕ → Option ℕ → Type 0
IsGrownBy tree input list more after = IsCapped (more + tree_bytes tree input (sizes_grown list more)) after
