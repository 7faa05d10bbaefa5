-- What `>>` means in a task.
use Rattle.std.specs.Prelude.{ℕ, ◌==◌, if◌then◌else◌}
use Rattle.script_load.specs.declared.profile.Profile.{Profile}
use Rattle.script_load.specs.declared.profile.Profile.TheVariants.{Xv6, Append}

-- 0 is xv6's, any other number appends
abbrev pub profile_by : ℕ → Profile
profile_by appends = if appends == 0 then Xv6 else Append
