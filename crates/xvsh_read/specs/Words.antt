-- What the words of the command line mean.
use Rattle.std.specs.Prelude.{Bool, true, false}
use Rattle.script_load.specs.declared.profile.Profile.{Profile}
use Rattle.script_load.specs.declared.profile.Profile.TheVariants.{Xv6, Append}

-- what >> means, by whether `--append` is given
abbrev pub profile_of : Bool → Profile
profile_of true = Append
profile_of false = Xv6
