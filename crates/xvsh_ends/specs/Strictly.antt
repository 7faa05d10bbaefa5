-- What a strict run prints: a run by processes, and the sentence of a reason why its script isn't settled (own).
use Rattle.std.specs.Prelude.{◌↔◌, ℕ, Bool, true, IsTrue, List, Option}
use Rattle.std.specs.Borrow.{Bor}
use Rattle.mem_files.specs.Name.{Bytes}
use Rattle.mem_files.specs.Files.{files}
use Rattle.script_load.specs.declared.profile.Profile.{Profile}
use Rattle.meaning_model.specs.Settled.{IsSettledScript}
use Rattle.reason_sentences.specs.Whys.{IsWhy}
use Rattle.kernel_model.specs.declared.events.Full.{Full}
use Rattle.xvsh_read.specs.Path.{Path}
use Rattle.xvsh_runs.specs.declared.report.Lists.{Lists}
use Rattle.xvsh_runs.specs.Runs.{RanRun}

-- by what the host states of standard input and of the files at paths, the script at a path under a profile and on the files at these
-- paths was run on so many harts, in at most so many turns or as many as it may have, and printed this; and this is whether it is
-- settled on what the run began with, and the sentence of a reason, where it isn't
pub record RanStrictly (input : Option Bytes) (file : Path → Option Bytes) (profile : Profile) (script : Path) (paths : List (Bor Path)) (harts : ℕ) (turns : Option ℕ) (lists : Lists) (full : Option Full) (is_settled : Bool) (why text diag : Bytes) : Type 0 where
  pub ran : RanRun input file profile script paths harts turns lists full text diag
  pub settled : IsTrue is_settled ↔ IsSettledScript profile ran.lines ran.stdin (files ran.given)
  pub told : IsWhy profile ran.lines ran.stdin (files ran.given) true is_settled why
