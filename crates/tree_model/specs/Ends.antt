-- How many steps a run has.
use Rattle.std.specs.Prelude.{ℕ, suc}
use Rattle.script_load.specs.declared.profile.Profile.{Profile}
use Rattle.tree_model.specs.Runs.{Stage, Reaches, reached, goes_on}

-- how many steps a run has
abbrev pub steps_of : {profile : Profile} {stage last : Stage} → Reaches profile stage last → ℕ
steps_of reached = 0
steps_of (goes_on step later) = suc (steps_of later)
