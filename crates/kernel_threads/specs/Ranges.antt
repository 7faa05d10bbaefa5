-- Which numbers of harts and of turns a run can't have.
use Rattle.std.specs.Prelude.{◌≡◌, ◌<◌, ◌⊎◌, ℕ}
use Rattle.script_load.specs.declared.limits.TheConstants.{MAX_TURNS}
use Rattle.kernel_threads.specs.declared.faults.TheConstants.{MAX_HARTS}

-- no harts, or too many
abbrev pub AreBadHarts : ℕ → Type 0
AreBadHarts harts = (harts ≡ 0) ⊎ (MAX_HARTS < harts)

-- no turns, or too many
abbrev pub AreBadTurns : ℕ → Type 0
AreBadTurns turns = (turns ≡ 0) ⊎ (MAX_TURNS < turns)
