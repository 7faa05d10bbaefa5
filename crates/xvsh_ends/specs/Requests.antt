-- What the program is asked for, and how it ends, by what is known of its console.
use Rattle.std.specs.Prelude.{◌≢◌, ℕ, Bool, true, false, IsTrue, Option, Some, None}
use Rattle.std.specs.Borrow.{Bor}
use Rattle.xvsh_read.specs.Path.{Path}
use Rattle.xvsh_read.specs.Console.{Known}
use Rattle.xvsh_runs.specs.declared.request.RunRequest.{RunRequest}
use Rattle.xvsh_runs.specs.declared.request.ReplayRequest.{ReplayRequest}
use Rattle.xvsh_plain.specs.declared.request.PlainRequest.{PlainRequest}
use Rattle.xvsh_checks.specs.declared.request.CheckRequest.{CheckRequest}
use Rattle.xvsh_checks.specs.declared.request.ExplainRequest.{ExplainRequest}
use Rattle.xvsh_explores.specs.declared.request.ExploreRequest.{ExploreRequest}
use Rattle.xvsh_ends.specs.declared.request.Request.{Request}
use Rattle.xvsh_ends.specs.declared.request.Request.TheVariants.{Run, Replay, Plain, Check, Explain, Explore, Draw}
use Rattle.xvsh_ends.specs.Ends.{Asked, asks_plain, asks_diagnosed, asks_run, asks_strict, asks_check, asks_turns, asks_room, asks_explain, asks_whys, asks_fix, asks_explore, help, misuse, on_harts, by_schedule, Ends, asks_traced, asks_played, asks_witnessed, asks_paired, asks_filed, asks_lined, asks_json, asks_draw, asks_input}

-- a run by processes, strictly or not
abbrev pub run_asked : Bool → RunRequest → Asked
run_asked false request = asks_run request.source.profile request.source.script.now request.source.files.now (on_harts request.harts request.turns) request.lists
run_asked true request = asks_strict request.source.profile request.source.script.now request.source.files.now request.harts request.turns request.lists

abbrev pub replay_asked : ReplayRequest → Asked
replay_asked request = asks_run request.source.profile request.source.script.now request.source.files.now (by_schedule request.schedule.now) request.lists

-- a run by meaning, strictly or not
abbrev pub plain_asked : PlainRequest → Asked
plain_asked request = asks_plain request.source.profile request.source.script.now request.source.files.now request.lists_files request.is_strict

-- the same, with what is known of its diagnostics or without
abbrev pub diagnosed_asked : Bool → PlainRequest → Asked
diagnosed_asked false request = plain_asked request
diagnosed_asked true request = asks_diagnosed request.source.profile request.source.script.now request.source.files.now request.lists_files request.is_strict

-- the same as an object, which has no diagnostics, or as a text
abbrev pub plain_printed_asked : Bool → PlainRequest → Asked
plain_printed_asked false request = diagnosed_asked request.finds_diagnostics request
plain_printed_asked true request = asks_json (plain_asked request)

-- a check, with its turns, with its room or with neither
abbrev pub check_asked : Bool → Bool → CheckRequest → Asked
check_asked false false request = asks_check request.script.now request.is_strict
check_asked false true request = asks_room request.script.now request.files.now request.is_strict
check_asked true room request = asks_turns request.script.now request.files.now request.is_strict

-- notes, with why the script is settled or without
abbrev pub explain_asked : Bool → ExplainRequest → Asked
explain_asked false request = asks_explain request.source.script.now
explain_asked true request = asks_whys request.source.profile request.source.script.now request.source.files.now

-- the script mended by rules
abbrev pub fix_asked : ExplainRequest → Asked
fix_asked request = asks_fix request.source.profile request.source.script.now request.source.files.now

-- the same, with schedules in a folder, if there is to be one
abbrev pub witnessed_asked : Option (Bor Path) → Asked → Asked
witnessed_asked None what = what
witnessed_asked (Some path) what = asks_witnessed what path.now

-- the same, with files in a folder, if there is to be one
abbrev pub filed_asked : Option (Bor Path) → Asked → Asked
filed_asked None what = what
filed_asked (Some path) what = asks_filed what path.now

-- the same, with the numbers of lines before those of the diagnostics, or without
abbrev pub lined_asked : Bool → Asked → Asked
lined_asked false what = what
lined_asked true what = asks_lined what

-- the same, with an object or without
abbrev pub json_asked : Bool → Asked → Asked
json_asked false what = what
json_asked true what = asks_json what

-- the same, of two outcomes, if a word names them
abbrev pub paired_asked : Option (Bor Path) → Asked → Asked
paired_asked None what = what
paired_asked (Some word) what = asks_paired what word.now

-- an exploration, of two outcomes that are named or of no such, and with schedules or without
abbrev pub explore_alone_asked : ExploreRequest → Asked
explore_alone_asked request = asks_explore request.source.profile request.source.script.now request.source.files.now request.states request.is_thorough

abbrev pub explore_plainly_asked : ExploreRequest → Asked
explore_plainly_asked request = paired_asked request.pair (explore_alone_asked request)

abbrev pub explore_told_asked : ExploreRequest → Asked
explore_told_asked request = witnessed_asked request.witness (explore_plainly_asked request)

-- the same, with a trace of the run, its schedule or a page of the exploration, if there is to be one
abbrev pub traced_asked : Option (Bor Path) → Asked → Asked
traced_asked None what = what
traced_asked (Some path) what = asks_traced what path.now

-- the same, with a page to play at a path, if there is to be one
abbrev pub played_asked : Option (Bor Path) → Asked → Asked
played_asked None what = what
played_asked (Some path) what = asks_played (asks_traced what path.now)

abbrev pub explore_asked : ExploreRequest → Asked
explore_asked request = played_asked request.play (traced_asked request.draw (json_asked request.is_json (explore_told_asked request)))

-- notes, as an object or as a text; or the script mended in their place
abbrev pub explain_told_asked : Bool → ExplainRequest → Asked
explain_told_asked false request = json_asked request.is_json (explain_asked request.tells_why request)
explain_told_asked true request = fix_asked request

-- what a request asks for
abbrev pub asked : Request → Asked
asked (Run request) = traced_asked request.trace (traced_asked request.schedule_to (filed_asked request.files_to (lined_asked request.is_lined (json_asked request.is_json (run_asked request.is_strict request)))))
asked (Replay request) = traced_asked request.trace (filed_asked request.files_to (lined_asked request.is_lined (json_asked request.is_json (replay_asked request))))
asked (Plain request) = filed_asked request.files_to (plain_printed_asked request.is_json request)
asked (Check request) = json_asked request.is_json (check_asked request.counts_turns request.tells_room request)
asked (Explain request) = explain_told_asked request.fixes request
asked (Explore request) = explore_asked request
asked (Draw request) = asks_draw

-- whether a request asks for an object of JSON
abbrev pub wants_json : Request → Bool
wants_json (Run request) = request.is_json
wants_json (Replay request) = request.is_json
wants_json (Plain request) = request.is_json
wants_json (Check request) = request.is_json
wants_json (Explain request) = request.is_json
wants_json (Explore request) = request.is_json
wants_json (Draw request) = false

-- a request whose standard input, at a path, can't be read
abbrev pub unread_asked : Request → Path → Asked
unread_asked request path = json_asked (wants_json request) (asks_input path)

-- this holds, unless what is due has a status with which something goes to standard output: 0; 3 of a strict run, of a check, of
-- notes and of an exploration; and 4 of a run by processes, where something was full, and of an exploration of a part; and each
-- with which an object is printed
abbrev pub UnlessPrinted : Asked → ℕ → Type 0 → Type 0
UnlessPrinted (asks_plain profile script paths lists strict) status same = status ≢ 0 → (IsTrue strict → status ≢ 3) → same
UnlessPrinted (asks_diagnosed profile script paths lists strict) status same = status ≢ 0 → (IsTrue strict → status ≢ 3) → same
UnlessPrinted (asks_run profile script paths how lists) status same = status ≢ 0 → status ≢ 4 → same
UnlessPrinted (asks_strict profile script paths harts turns lists) status same = status ≢ 0 → status ≢ 3 → status ≢ 4 → same
UnlessPrinted (asks_check script strict) status same = status ≢ 0 → status ≢ 3 → same
UnlessPrinted (asks_turns script paths strict) status same = status ≢ 0 → status ≢ 3 → same
UnlessPrinted (asks_room script paths strict) status same = status ≢ 0 → status ≢ 3 → same
UnlessPrinted (asks_explain script) status same = status ≢ 0 → status ≢ 3 → same
UnlessPrinted (asks_whys profile script paths) status same = status ≢ 0 → status ≢ 3 → same
UnlessPrinted (asks_fix profile script paths) status same = status ≢ 0 → same
UnlessPrinted (asks_explore profile script paths states all) status same = status ≢ 0 → status ≢ 3 → status ≢ 4 → same
UnlessPrinted (asks_traced what path) status same = UnlessPrinted what status same
UnlessPrinted (asks_played what) status same = UnlessPrinted what status same
UnlessPrinted (asks_witnessed what path) status same = UnlessPrinted what status same
UnlessPrinted (asks_paired what word) status same = UnlessPrinted what status same
UnlessPrinted (asks_filed what path) status same = UnlessPrinted what status same
UnlessPrinted (asks_lined what) status same = UnlessPrinted what status same
UnlessPrinted (asks_json what) status same = status ≢ 0 → status ≢ 1 → status ≢ 3 → status ≢ 4 → same
UnlessPrinted asks_draw status same = status ≢ 0 → same
UnlessPrinted (asks_input path) status same = same
UnlessPrinted help status same = status ≢ 0 → same
UnlessPrinted misuse status same = same

-- the program ends with this status after what was asked, by what is known of its console before and after
abbrev pub EndsAt : Known → Known → Asked → ℕ → Type 0
EndsAt old new asked status = Ends old.input old.file old.out new.out old.err new.err asked status
