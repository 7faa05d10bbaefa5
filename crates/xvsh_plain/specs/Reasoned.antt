-- The values of a run of a script by its meaning.
use Rattle.std.specs.Prelude.{◌≡◌, ◌↔◌, Bool, true, false, IsTrue, List, Contains, Option, Some, None}
use Rattle.std.specs.Borrow.{Bor}
use Rattle.mem_files.specs.Name.{Name, Bytes}
use Rattle.mem_files.specs.Files.{FileMap, files}
use Rattle.mem_files.specs.Listing.{AreFiles}
use Rattle.script_load.specs.declared.profile.Profile.{Profile}
use Rattle.script_load.specs.Line.{ScriptLine}
use Rattle.meaning_model.specs.Meaning.{script_meaning}
use Rattle.meaning_model.specs.Settled.{IsSettledScript}
use Rattle.plain_run.specs.declared.outcome.Reasoned.{Reasoned}
use Rattle.plain_run.specs.Reasons.{AreReasons}
use Rattle.every_order.specs.Known.{IsKnown}
use Rattle.every_order.specs.declared.known.Diagnostics.{Diagnostics}
use Rattle.xvsh_read.specs.Path.{Path}
use Rattle.xvsh_read.specs.Starting.{Starts}
use Rattle.xvsh_plain.specs.declared.request.PlainRequest.{PlainRequest}
use Rattle.xvsh_plain.specs.declared.running.PlainRun.{PlainRun}

-- the output, the files and the soft names are those of the script's meaning, and the reasons are why it isn't settled
pub record IsReasoned {A : _} (profile : Profile) (lines : List ScriptLine) (input : Bytes) (F : FileMap) (run : Reasoned A) : Type 0 where
  pub out : run.plain.out ≡ (script_meaning profile lines input F).out
  pub listed : AreFiles run.plain.files
  pub left : (name : Name) → files run.plain.files name ≡ (script_meaning profile lines input F).files name
  pub soft : (name : Name) → Contains run.plain.soft name ↔ ((script_meaning profile lines input F).soft name ≡ true)
  pub settled : IsTrue run.plain.settled ↔ IsSettledScript profile lines input F
  pub why : AreReasons profile lines input F run.reasons.items

-- by what the host states of standard input and of the files at paths, the script at a path was run under a profile on the
-- files at these paths, which gave these values
pub record RanReasoned {A : _} (input : Option Bytes) (file : Path → Option Bytes) (profile : Profile) (script : Path) (paths : List (Bor Path)) (run : Reasoned A) : Type 0 where
  pub lines : List ScriptLine
  pub given : List (Name × Bytes)
  pub stdin : Bytes
  pub starts : Starts input file false script paths lines given stdin
  pub gives : IsReasoned profile lines stdin (files given) run

-- this is known of the diagnostics of a script's runs by processes, where it was asked for
abbrev pub IsKnownIf : Bool → Profile → List ScriptLine → Bytes → List (Name × Bytes) → Option Diagnostics → Type 0
IsKnownIf false profile lines input given known = known ≡ None
IsKnownIf true profile lines input given known = (found : Diagnostics) × (known ≡ Some found) × IsKnown profile lines input given found

-- a request was carried out, and gave this: the values of the run, and what is known of the diagnostics of the same lines, files and
-- input
pub record DidPlain (input : Option Bytes) (file : Path → Option Bytes) (request : PlainRequest) (run : PlainRun) : Type 0 where
  pub ran : RanReasoned input file request.source.profile request.source.script.now request.source.files.now run.reasoned
  pub known : IsKnownIf request.finds_diagnostics request.source.profile ran.lines ran.stdin ran.given run.known
