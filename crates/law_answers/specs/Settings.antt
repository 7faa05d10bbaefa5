-- What runs of the program on one host have in common, and what each of them prints and writes.
use Rattle.std.specs.Prelude.{◌≢◌, ℕ, Bool, false, true, List, Option, None, codes}
use Rattle.std.specs.Borrow.{Bor}
use Rattle.std.specs.Io.KnownBytes.{Appends}
use Rattle.mem_files.specs.Name.{Bytes}
use Rattle.script_load.specs.declared.profile.Profile.{Profile}
use Rattle.xvsh_read.specs.Path.{Path}
use Rattle.xvsh_runs.specs.declared.report.Lists.{Lists}
use Rattle.xvsh_plain.specs.Running.{RanPlain}
use Rattle.xvsh_ends.specs.Ends.{Asked, Ends, How, RanBy, asks_plain, asks_run, asks_strict, by_schedule}
use Rattle.law_answers.specs.Told.{IsSettledAt, IsTold}
use Rattle.law_answers.specs.Written.{AddsTheSame, IsMeaningAt, no_lists}

-- a host, as far as its standard input and its files are known, the path of a script with its profile, and the paths of its files
pub record Setting : Type 0 where
  pub input : Option Bytes
  pub file : Path → Option Bytes
  pub profile : Profile
  pub script : Path
  pub paths : List (Bor Path)

-- what standard output and standard error hold before a run and after it, where it is known
pub record Outputs : Type 0 where
  pub out : Option Bytes
  pub out_after : Option Bytes
  pub err : Option Bytes
  pub err_after : Option Bytes

-- all that is read is known
abbrev pub IsKnown : Setting → Type 0
IsKnown s = IsTold s.input s.file s.script s.paths

-- the script is settled on what is read
abbrev pub IsSettledIn : Setting → Type 0
IsSettledIn s = IsSettledAt s.input s.file s.profile s.script s.paths

-- the run's schedule, if it has one, isn't read from standard input
abbrev pub LeavesInput : How → Type 0
LeavesInput how = how ≢ by_schedule (codes "-")

-- a run by processes, in which nothing was full, prints this text, without lists, and these diagnostics
abbrev pub RanIn : Setting → How → Bytes → Bytes → Type 0
RanIn s how = RanBy s.input s.file how s.profile s.script s.paths no_lists None

-- a run by meaning that found the script settled prints this text, without lists
abbrev pub MeantIn : Setting → Bytes → Type 0
MeantIn s = RanPlain s.input s.file s.profile s.script s.paths false true

-- the program ended so
abbrev pub EndsIn : Setting → Outputs → Asked → ℕ → Type 0
EndsIn s o asked status = Ends s.input s.file o.out o.out_after o.err o.err_after asked status

-- it was asked for a run without lists: by processes, strictly, or by meaning
abbrev pub run_in : Setting → How → Asked
run_in s how = asks_run s.profile s.script s.paths how no_lists

abbrev pub strict_in : Setting → ℕ → Option ℕ → Lists → Asked
strict_in s harts turns lists = asks_strict s.profile s.script s.paths harts turns lists

abbrev pub plain_in : Setting → Bool → Asked
plain_in s strict = asks_plain s.profile s.script s.paths false strict

-- the script's meaning was added to standard output, with these lists
abbrev pub WritesMeaningIn : Setting → Lists → Outputs → Type 0
WritesMeaningIn s lists o = (text : Bytes) × IsMeaningAt s.input s.file s.profile s.script s.paths lists text × Appends o.out o.out_after text

-- both runs added the same to standard output
abbrev pub WriteTheSame : Outputs → Outputs → Type 0
WriteTheSame one two = AddsTheSame one.out one.out_after two.out two.out_after
