-- What is due of a strict run, by the values that it gave.
use Rattle.std.proofs.Common.{ℕ, Bool, List, Option, map}
use Rattle.std.specs.Borrow.{Bor}
use Rattle.mem_files.specs.Name.{Bytes}
use Rattle.mem_files.specs.Files.{files}
use Rattle.script_load.specs.declared.profile.Profile.{Profile}
use Rattle.plain_run.specs.declared.reason.Reason.{Reason}
use Rattle.reason_sentences.specs.Sentences.{first_text, reason_text}
use Rattle.reason_sentences.proofs.Told.{all_told, first_told}
use Rattle.kernel_model.specs.declared.events.Full.{Full}
use Rattle.xvsh_read.specs.Path.{Path}
use Rattle.xvsh_runs.specs.declared.report.Lists.{Lists}
use Rattle.xvsh_runs.specs.Strict.{RanStrict}
use Rattle.xvsh_ends.specs.Strictly.{RanStrictly}

-- the first reason is reported
pub strictly : {A : _} (input : Option Bytes) (file : Path → Option Bytes) (profile : Profile) (script : Path) (paths : List (Bor Path)) (harts : ℕ) (turns : Option ℕ) (lists : Lists) (full : Option Full) (is_settled : Bool) (reasons : List (Reason A)) (text diag : Bytes)
    → RanStrict input file profile script paths harts turns lists full is_settled reasons text diag → RanStrictly input file profile script paths harts turns lists full is_settled (first_text (map reason_text reasons)) text diag
strictly input file profile script paths harts turns lists full is_settled reasons text diag ran = record {
  ran = ran.ran;
  settled = ran.settled;
  told = first_told profile ran.ran.lines ran.ran.stdin (files ran.ran.given) is_settled (map reason_text reasons) ran.settled (all_told profile ran.ran.lines ran.ran.stdin (files ran.ran.given) reasons ran.why.each ran.why.none);
}
