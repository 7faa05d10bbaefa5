-- With which status the program ends, why, and what it prints by then.
use Rattle.std.specs.Prelude.{◌≡◌, ◌⊎◌, ℕ, Bool, true, false, if◌then◌else◌, List, [], ◌∷◌, ◌++◌, Option, Some, None, codes, string_bytes}
use Rattle.std.specs.Str.{bytes_eq}
use Rattle.std.specs.Fmt.{decimal}
use Rattle.std.specs.Borrow.{Bor}
use Rattle.std.specs.Io.KnownBytes.{Appends, Keeps}
use Rattle.mem_files.specs.Name.{Bytes}
use Rattle.mem_files.specs.Files.{files}
use Rattle.script_load.specs.declared.profile.Profile.{Profile}
use Rattle.reason_sentences.specs.Whys.{IsWhy}
use Rattle.kernel_model.specs.declared.events.Full.{Full}
use Rattle.xvsh_read.specs.declared.fault.Fault.{Fault}
use Rattle.xvsh_read.specs.declared.fault.Fault.TheVariants.{Memory}
use Rattle.xvsh_read.specs.Path.{Path}
use Rattle.xvsh_read.specs.Reading.{IsReadFault, max_input, told_at}
use Rattle.xvsh_read.specs.Status.{check_status, status_code, status_of, fault_told}
use Rattle.xvsh_read.specs.Writing.{AppendsPart, out_text}
use Rattle.xvsh_runs.specs.declared.fault.ProcessFault.{ProcessFault}
use Rattle.xvsh_runs.specs.declared.report.Lists.{Lists}
use Rattle.xvsh_runs.specs.Runs.{RanRun, RanReplay}
use Rattle.xvsh_runs.specs.Status.{run_status, run_fault_told, full_told}
use Rattle.xvsh_runs.specs.Why.{IsRunFault, IsReplayingFault}
use Rattle.xvsh_plain.specs.Running.{RanPlain, IsPlainFault}
use Rattle.every_order.specs.Known.{IsKnown}
use Rattle.every_order.specs.declared.known.Diagnostics.{Diagnostics}
use Rattle.xvsh_checks.specs.Check.{RanCheck, IsCheckFault}
use Rattle.xvsh_checks.specs.declared.found.Finding.{Finding}
use Rattle.xvsh_checks.specs.declared.noting.Noted.{Noted}
use Rattle.xvsh_checks.specs.declared.room_found.RoomFound.{RoomFound}
use Rattle.xvsh_checks.specs.declared.whys.NotedWhys.{NotedWhys}
use Rattle.xvsh_checks.specs.Explain.{RanExplain}
use Rattle.xvsh_checks.specs.Turns.{RanTurns, IsTurnsFault}
use Rattle.xvsh_checks.specs.Room.{RanRoom, IsRoomFault}
use Rattle.xvsh_checks.specs.Whys.{RanWhys, IsWhysFault}
use Rattle.check_texts.specs.Explanations.{noted_text, whys_text}
use Rattle.check_texts.specs.Findings.{findings_text}
use Rattle.check_texts.specs.Rooms.{room_report}
use Rattle.check_texts.specs.Turns.{turns_text}
use Rattle.xvsh_checks.specs.Fixes.{RanFix, RanNoFix}
use Rattle.script_outcomes.specs.declared.concluding.Conclusion.{Conclusion}
use Rattle.script_outcomes.specs.declared.concluding.Conclusion.TheVariants.{OneOutput, SeveralOutputs, Stuck, Full as Filled, Part}
use Rattle.script_outcomes.specs.declared.finding.Found.{Found}
use Rattle.script_outcomes.specs.Found.{Concludes}
use Rattle.xvsh_explores.specs.Explores.{RanExplore, IsExploreFault}
use Rattle.xvsh_runs.specs.Strict.{IsStrictFault}
use Rattle.xvsh_traces.specs.Lined.{IsLined}
use Rattle.xvsh_ends.specs.Reports.{diagnostics_text}
use Rattle.xvsh_ends.specs.Strictly.{RanStrictly}
use Rattle.xvsh_ends.specs.declared.ending.Ending.{Ending}
use Rattle.xvsh_ends.specs.declared.ending.Line.{Line}
use Rattle.xvsh_ends.specs.declared.ending.Line.TheVariants.{Fixed, Made}

-- how a script is run by its processes: on so many harts in at most so many turns, or where no number is asked for in as many as it may
-- have, or by the schedule at a path
pub data How : Type 0 where
  on_harts : ℕ → Option ℕ → How
  by_schedule : Path → How

-- what the words of the command line ask for: a run of the script at a path under a profile, on the files at these paths,
-- by its meaning, with a list of the files or without, and strictly or not, or by its processes, with lists or without, or
-- strictly on so many harts in at most so many turns, if a number is asked for; a check of the script at a path, or one that reports its turns on these
-- files too; notes on the script at a path in sentences, or these and why it is settled on these files or isn't, or the script mended so that it is; its outcomes in every order, found among at most so many states, with every
-- order tried of a settled script too or not; the help; or no command
pub data Asked : Type 0 where
  asks_plain : Profile → Path → List (Bor Path) → Bool → Bool → Asked
  -- the same, with the diagnostics that every order of the script's processes writes
  asks_diagnosed : Profile → Path → List (Bor Path) → Bool → Bool → Asked
  asks_run : Profile → Path → List (Bor Path) → How → Lists → Asked
  asks_strict : Profile → Path → List (Bor Path) → ℕ → Option ℕ → Lists → Asked
  asks_check : Path → Bool → Asked
  asks_turns : Path → List (Bor Path) → Bool → Asked
  -- the same with the room that it needs
  asks_room : Path → List (Bor Path) → Bool → Asked
  asks_explain : Path → Asked
  asks_whys : Profile → Path → List (Bor Path) → Asked
  asks_fix : Profile → Path → List (Bor Path) → Asked
  asks_explore : Profile → Path → List (Bor Path) → ℕ → Bool → Asked
  -- the same, with a trace of the run at a path
  asks_traced : Asked → Path → Asked
  -- the same, where a page to play can be made
  asks_played : Asked → Asked
  -- the same, with a schedule of each outcome in the folder at a path
  asks_witnessed : Asked → Path → Asked
  -- the same, of the two outcomes that a word names
  asks_paired : Asked → Path → Asked
  -- the same, with a file for each that the run leaves, in a folder
  asks_filed : Asked → Path → Asked
  -- the same, with the numbers of the script's lines before those of its diagnostics
  asks_lined : Asked → Asked
  -- the same, with one object of JSON in place of what is printed
  asks_json : Asked → Asked
  -- a page that draws traces
  asks_draw : Asked
  -- a standard input at a path, which can't be read
  asks_input : Path → Asked
  help : Asked
  misuse : Asked

-- the text of the verdict
abbrev pub verdict_text : Bool → Bytes
verdict_text true = codes "settled\n"
verdict_text false = codes "not settled\n"

-- the status of a script that ran: where it is requested strictly, one that isn't settled has 3
abbrev pub verdict_status : Bool → Bool → ℕ
verdict_status false is_settled = 0
verdict_status true true = 0
verdict_status true false = 3

-- what is reported where no mends make a script settled
abbrev pub unmended_told : Bytes
unmended_told = codes "xvsh: no mend by rule makes this script settled\n"

-- the status of an exploration, by what was found as a whole: 0 where each order leaves one output and one set of files and ends with
-- nothing full
abbrev pub explore_status : Conclusion → ℕ
explore_status OneOutput = 0
explore_status SeveralOutputs = 3
explore_status Stuck = 3
explore_status Filled = 4
explore_status Part = 4

-- what is reported of what was full in a run, and its status: 4, or this one where nothing was
abbrev pub full_text : Option Full → Bytes
full_text None = []
full_text (Some full) = full_told full

abbrev pub full_status : Option Full → ℕ → ℕ
full_status None status = status
full_status (Some full) status = 4

-- what goes to standard output beside a trace at this path: nothing where the trace goes there
abbrev pub beside_trace : Path → Bytes → Bytes
beside_trace path text = if bytes_eq path (codes "-") then [] else text

-- what is reported of a trace that can't be written at a path
abbrev pub untraced_told : Path → Bytes
untraced_told path = codes "xvsh: cannot write " ++ (path ++ 10 ∷ [])

-- the folder at this path, or a schedule in it
pub data IsOfWitness (path : Path) : Path → Type 0 where
  itself : IsOfWitness path path
  numbered : (number : ℕ) → IsOfWitness path (path ++ (codes "/" ++ (decimal number ++ codes ".schedule")))

-- the folder at this path, or what is under a name in it
pub data IsInFolder (path : Path) : Path → Type 0 where
  folder : IsInFolder path path
  inside : (name : Bytes) → IsInFolder path (path ++ (codes "/" ++ name))

-- the status of a word that names no two outcomes, and of one that names an outcome which isn't there
abbrev pub IsPairStatus : ℕ → Type 0
IsPairStatus status = (status ≡ 2) ⊎ (status ≡ 1)

-- an object is printed with this status
abbrev pub IsObjectStatus : ℕ → Type 0
IsObjectStatus status = (status ≡ 0) ⊎ ((status ≡ 1) ⊎ ((status ≡ 3) ⊎ (status ≡ 4)))

-- what follows is by what the host states of standard input and of the files at paths
module _ (input : Option Bytes) (file : Path → Option Bytes) where
  -- the script at a path, run so by its processes, prints this text and these diagnostics, and this was full
  abbrev pub RanBy : How → Profile → Path → List (Bor Path) → Lists → Option Full → Bytes → Bytes → Type 0
  RanBy (on_harts harts turns) profile script paths = RanRun input file profile script paths harts turns
  RanBy (by_schedule schedule) profile script paths = RanReplay input file profile script paths schedule

  -- why it doesn't run
  abbrev pub IsFaultBy : How → Profile → Path → List (Bor Path) → ProcessFault → Type 0
  IsFaultBy (on_harts harts turns) profile script paths fault = IsRunFault input file profile script paths harts turns fault
  IsFaultBy (by_schedule schedule) profile script paths fault = IsReplayingFault input file profile script paths schedule fault

  -- what is due for what was asked: a text on standard output, one on standard error, and a status
  pub data Due : Asked → Bytes → Bytes → ℕ → Type 0 where
    -- the script's run by its meaning, and whether it is settled, and where that was asked strictly a reason why it isn't; or why there is none
    plain_ran : {profile : Profile} {script : Path} {paths : List (Bor Path)} {lists strict : Bool} {text : Bytes} (is_settled : Bool) (why : Bytes) (gave : RanPlain input file profile script paths lists is_settled text) → IsWhy profile gave.lines gave.stdin (files gave.given) strict is_settled why → Due (asks_plain profile script paths lists strict) text (verdict_text is_settled ++ why) (verdict_status strict is_settled)
    no_plain : {profile : Profile} {script : Path} {paths : List (Bor Path)} {lists strict : Bool} (fault : Fault) → IsPlainFault input file profile script paths fault → Due (asks_plain profile script paths lists strict) [] (fault_told fault) (status_of fault)
    -- the same, with what is known of the diagnostics of all runs of the lines that were read, on the same files and input, before its verdict
    diagnosed : {profile : Profile} {script : Path} {paths : List (Bor Path)} {lists strict : Bool} {text : Bytes} (is_settled : Bool) (why : Bytes) (known : Diagnostics) (gave : RanPlain input file profile script paths lists is_settled text) → IsWhy profile gave.lines gave.stdin (files gave.given) strict is_settled why → IsKnown profile gave.lines gave.stdin gave.given known → Due (asks_diagnosed profile script paths lists strict) text (diagnostics_text known ++ (verdict_text is_settled ++ why)) (verdict_status strict is_settled)
    not_diagnosed : {profile : Profile} {script : Path} {paths : List (Bor Path)} {lists strict : Bool} (fault : Fault) → IsPlainFault input file profile script paths fault → Due (asks_diagnosed profile script paths lists strict) [] (fault_told fault) (status_of fault)
    -- its run by its processes, with its diagnostics and then what was full, if something was; or why there is none
    ran : {profile : Profile} {script : Path} {paths : List (Bor Path)} {how : How} {lists : Lists} {text : Bytes} (diag : Bytes) (full : Option Full) → RanBy how profile script paths lists full text diag → Due (asks_run profile script paths how lists) text (diag ++ full_text full) (full_status full 0)
    no_run : {profile : Profile} {script : Path} {paths : List (Bor Path)} {how : How} {lists : Lists} (fault : ProcessFault) → IsFaultBy how profile script paths fault → Due (asks_run profile script paths how lists) [] (run_fault_told fault) (run_status fault)
    -- the same of a strict run, with a reason behind its diagnostics why the script isn't settled, whose status says that too, where nothing was full
    ran_strict : {profile : Profile} {script : Path} {paths : List (Bor Path)} {harts : ℕ} {turns : Option ℕ} {lists : Lists} {text : Bytes} (diag why : Bytes) (is_settled : Bool) (full : Option Full) → RanStrictly input file profile script paths harts turns lists full is_settled why text diag → Due (asks_strict profile script paths harts turns lists) text ((diag ++ why) ++ full_text full) (full_status full (verdict_status true is_settled))
    no_strict : {profile : Profile} {script : Path} {paths : List (Bor Path)} {harts : ℕ} {turns : Option ℕ} {lists : Lists} (fault : ProcessFault) → IsStrictFault input file profile script paths harts turns fault → Due (asks_strict profile script paths harts turns lists) [] (run_fault_told fault) (run_status fault)
    -- the report of a check, by whether the script holds no `&` and no clash, and strictly no line that is no command; or why there is none
    checked : {script : Path} {strict : Bool} {findings : List Finding} (is_harmless : Bool) → RanCheck input file script strict is_harmless findings → Due (asks_check script strict) (findings_text findings) [] (check_status is_harmless)
    no_check : {script : Path} {strict : Bool} (fault : Fault) → IsCheckFault input file script fault → Due (asks_check script strict) [] (fault_told fault) (status_of fault)
    -- the same with its turns after its lines
    counted : {script : Path} {paths : List (Bor Path)} {strict : Bool} {findings : List Finding} {turns : Option ℕ} (is_harmless : Bool) → RanTurns input file script paths strict is_harmless findings turns → Due (asks_turns script paths strict) (findings_text findings ++ turns_text turns) [] (check_status is_harmless)
    not_counted : {script : Path} {paths : List (Bor Path)} {strict : Bool} (fault : Fault) → IsTurnsFault input file script paths fault → Due (asks_turns script paths strict) [] (fault_told fault) (status_of fault)
    -- the same with its room after its lines, by whether it has room, too
    room_told : {script : Path} {paths : List (Bor Path)} {strict : Bool} {findings : List Finding} {found : RoomFound} (is_fine : Bool) → RanRoom input file script paths strict is_fine findings found → Due (asks_room script paths strict) (findings_text findings ++ room_report found) [] (check_status is_fine)
    no_room_told : {script : Path} {paths : List (Bor Path)} {strict : Bool} (fault : Fault) → IsRoomFault input file script paths fault → Due (asks_room script paths strict) [] (fault_told fault) (status_of fault)
    -- the notes on a script in sentences; or why there are none
    explained : {script : Path} (noted : Noted) → RanExplain input file script noted → Due (asks_explain script) (noted_text noted) [] (check_status noted.is_fine)
    not_explained : {script : Path} (fault : Fault) → IsCheckFault input file script fault → Due (asks_explain script) [] (fault_told fault) (status_of fault)
    -- the same with why the script is settled, or isn't, after its notes
    whys_told : {profile : Profile} {script : Path} {paths : List (Bor Path)} (noted : NotedWhys) → RanWhys input file profile script paths noted → Due (asks_whys profile script paths) (whys_text noted) [] (check_status noted.is_fine)
    no_whys_told : {profile : Profile} {script : Path} {paths : List (Bor Path)} (fault : Fault) → IsWhysFault input file profile script paths fault → Due (asks_whys profile script paths) [] (fault_told fault) (status_of fault)
    -- the script mended by rules, so that it is settled; that no mends make it so; or why that isn't known
    fixed : {profile : Profile} {script : Path} {paths : List (Bor Path)} {text : Bytes} → RanFix input file profile script paths text → Due (asks_fix profile script paths) text [] 0
    unfixed : {profile : Profile} {script : Path} {paths : List (Bor Path)} → RanNoFix input file profile script paths → Due (asks_fix profile script paths) [] unmended_told 1
    no_fix : {profile : Profile} {script : Path} {paths : List (Bor Path)} (fault : Fault) → IsWhysFault input file profile script paths fault → Due (asks_fix profile script paths) [] (fault_told fault) (status_of fault)
    -- the outcomes in every order; or why none is reported
    explored : {profile : Profile} {script : Path} {paths : List (Bor Path)} {states : ℕ} {all : Bool} {text : Bytes} (found : Found) (conclusion : Conclusion) → RanExplore input file profile script paths states all found → Concludes found conclusion → Due (asks_explore profile script paths states all) text [] (explore_status conclusion)
    not_explored : {profile : Profile} {script : Path} {paths : List (Bor Path)} {states : ℕ} {all : Bool} (fault : Fault) → IsExploreFault input file script paths fault → Due (asks_explore profile script paths states all) [] (fault_told fault) (status_of fault)
    -- the same of a request with a trace or a page, beside this; or that it can't be written
    traced : {what : Asked} {path : Path} {text told : Bytes} {status : ℕ} → Due what text told status → Due (asks_traced what path) (beside_trace path text) told status
    untraced : {what : Asked} {path : Path} → Due (asks_traced what path) [] (untraced_told path) 1
    -- the same of a request with a page to play; or some report that there is none, since not every order could be tried
    played : {what : Asked} {text told : Bytes} {status : ℕ} → Due what text told status → Due (asks_played what) text told status
    unplayed : {what : Asked} (told : Bytes) → Due (asks_played what) [] told 4
    -- the same of a request with schedules in a folder, beside these; or that the folder or one of them can't be written
    witnessed : {what : Asked} {path : Path} {text told : Bytes} {status : ℕ} → Due what text told status → Due (asks_witnessed what path) text told status
    unwitnessed : {what : Asked} {path place : Path} → IsOfWitness path place → Due (asks_witnessed what path) [] (untraced_told place) 1
    -- the same of a request with the word of a pair; or some report that it names no two outcomes, or one that isn't there
    paired : {what : Asked} {word : Path} {text told : Bytes} {status : ℕ} → Due what text told status → Due (asks_paired what word) text told status
    unpaired : {what : Asked} {word : Path} (told : Bytes) (status : ℕ) → IsPairStatus status → Due (asks_paired what word) [] told status
    -- the same of a request with files in a folder, beside these; or that the folder or one of them can't be written
    filed : {what : Asked} {path : Path} {text told : Bytes} {status : ℕ} → Due what text told status → Due (asks_filed what path) text told status
    unfiled : {what : Asked} {path place : Path} → IsInFolder path place → Due (asks_filed what path) [] (untraced_told place) 1
    -- the same of a request with the numbers of lines, which stand between the bytes of what is reported
    lined : {what : Asked} {text told marked : Bytes} {status : ℕ} → IsLined told marked → Due what text told status → Due (asks_lined what) text marked status
    -- an object of what is due without it, or that itself where it has another status
    valued : {what : Asked} {text told : Bytes} {status : ℕ} (object : Bytes) → IsObjectStatus status → Due what text told status → Due (asks_json what) object [] status
    unvalued : {what : Asked} {text told : Bytes} {status : ℕ} → (IsObjectStatus status → ⊥) → Due what text told status → Due (asks_json what) text told status
    -- some page, or some report of why there is none
    drawn : (text : Bytes) → Due asks_draw text [] 0
    undrawn : (told : Bytes) (status : ℕ) → Due asks_draw [] told status
    -- why the standard input at a path can't be read
    unread : {path : Path} (fault : Fault) → IsReadFault max_input (told_at input file path) path fault → Due (asks_input path) [] (fault_told fault) (status_of fault)
    -- some text, of words that are no command line on standard error
    helped : (text : Bytes) → Due help text [] 0
    misused : (text : Bytes) → Due misuse [] text 2
    -- that memory was refused
    no_memory : {asked : Asked} → Due asked [] (fault_told Memory) 4

-- this was due on both outputs with this status, and was written, by what is known of both before and after; or one of them took
-- no more: then it holds a beginning of what was due, nothing more is written, and the status is 1
pub data Writes (text told : Bytes) (status : ℕ) (out out' err err' : Option Bytes) : ℕ → Type 0 where
  whole : Appends out out' text → Appends err err' told → Writes text told status out out' err err' status
  out_stopped : AppendsPart out out' text → Keeps err err' → Writes text told status out out' err err' 1
  err_stopped : Appends out out' text → AppendsPart err err' told → Writes text told status out out' err err' 1

-- the program ends with this status after what was asked: it wrote what is due
pub record Ends (input : Option Bytes) (file : Path → Option Bytes) (out out' err err' : Option Bytes) (asked : Asked) (result : ℕ) : Type 0 where
  pub text : Bytes
  pub told : Bytes
  pub status : ℕ
  pub due : Due input file asked text told status
  pub writes : Writes text told status out out' err err' result

-- what goes to standard error after the diagnostics, and both
abbrev pub line_text : Line → Bytes
line_text (Fixed text) = text.now
line_text (Made text) = string_bytes text

abbrev pub told_text : Ending → Bytes
told_text ending = ending.output.err.items ++ line_text ending.line

-- the ending is the one that is due for what was asked
abbrev pub IsDue : Option Bytes → (Path → Option Bytes) → Asked → Ending → Type 0
IsDue input file asked ending = Due input file asked (out_text ending.output) (told_text ending) (status_code ending.status)

-- it prints nothing to standard output, and this to standard error, with this status
pub record Tells (text : Bytes) (status : ℕ) (ending : Ending) : Type 0 where
  pub nothing : out_text ending.output ≡ []
  pub reported : told_text ending ≡ text
  pub with : status_code ending.status ≡ status

-- it prints this to standard output, and nothing to standard error, with this status
pub record PrintsAlone (text : Bytes) (status : ℕ) (ending : Ending) : Type 0 where
  pub out : out_text ending.output ≡ text
  pub reported : told_text ending ≡ []
  pub with : status_code ending.status ≡ status

-- the same, or that memory was refused
pub data TellsOr (text : Bytes) (status : ℕ) (ending : Ending) : Type 0 where
  tells : Tells text status ending → TellsOr text status ending
  lacks_memory : Tells (fault_told Memory) 4 ending → TellsOr text status ending
