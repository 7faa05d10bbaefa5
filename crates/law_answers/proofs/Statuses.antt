-- What the statuses of two runs say: a run that ends with status 0 ran, and what was reported as settled is.
use Rattle.std.proofs.Common.{◌≡◌, ◌≢◌, ℕ, Bool, true, false, List, ◌++◌, codes, length, Option, Some, None, refl, ◌∙◌, ap, subst, arith}
use Rattle.std.specs.Borrow.{Bor}
use Rattle.std.specs.Io.KnownBytes.{Appends}
use Rattle.std.proofs.lemmas.List.{append-nil, append_cancel_left}
use Rattle.mem_files.specs.Name.{Bytes}
use Rattle.mem_files.specs.Files.{FileMap, files}
use Rattle.script_load.specs.declared.profile.Profile.{Profile}
use Rattle.script_load.specs.Line.{ScriptLine}
use Rattle.reason_sentences.specs.Whys.{IsWhy}
use Rattle.xvsh_read.specs.Path.{Path}
use Rattle.xvsh_ends.specs.Ends.{verdict_text, Asked, asks_plain, asks_diagnosed, asks_run, asks_strict, asks_check, asks_turns, asks_room, asks_explain, asks_whys, asks_fix, asks_explore, asks_traced, asks_played, asks_witnessed, asks_paired, asks_filed, asks_lined, asks_json, asks_draw, drawn, undrawn, asks_input, verdict_status, help, misuse, How, by_schedule, RanBy, Due, plain_ran, no_plain, diagnosed, not_diagnosed, ran, no_run, ran_strict, no_strict, checked, no_check, counted, not_counted, room_told, no_room_told, explained, not_explained, whys_told, no_whys_told, fixed, unfixed, no_fix, explored, not_explored, traced, untraced, played, unplayed, witnessed, unwitnessed, paired, unpaired, filed, unfiled, lined, valued, unvalued, unread, helped, misused, no_memory, Writes, whole, out_stopped, err_stopped, Ends}
use Rattle.xvsh_plain.specs.Running.{RanPlain}
use Rattle.xvsh_ends.specs.Strictly.{RanStrictly}
use Rattle.xvsh_ends.proofs.Dues.{some_status, some_run_status}
use Rattle.law_answers.specs.Told.{IsTold, IsSettledAt}
use Rattle.law_answers.specs.Written.{AddsTheSame, no_lists}
use Rattle.law_answers.proofs.Agreeing.{agrees, runs_agree}

-- a script is settled where a run of it that was requested strictly ends with status 0
strictly_settled : (is_settled : Bool) → verdict_status true is_settled ≡ 0 → is_settled ≡ true
strictly_settled true zero = refl
strictly_settled false zero = cc

-- with status 0 all that is due was written, and it is due with that status
pub written_well : (text told : Bytes) (status : ℕ) (out out' err err' : Option Bytes) (result : ℕ) → Writes text told status out out' err err' result → result ≡ 0 → (status ≡ 0) × Appends out out' text × Appends err err' told
written_well text told status out out' err err' result (whole printed reported) zero = (zero, printed, reported)
written_well text told status out out' err err' result (out_stopped part kept) zero = cc
written_well text told status out out' err err' result (err_stopped printed part) zero = cc

-- with status 0 no reason is reported
told_well : (profile : Profile) (lines : List ScriptLine) (stdin : Bytes) (F : FileMap) (strict is_settled : Bool) (why : Bytes) → verdict_status strict is_settled ≡ 0 → IsWhy profile lines stdin F strict is_settled why → verdict_text is_settled ++ why ≡ verdict_text is_settled
told_well profile lines stdin F false is_settled why zero is = ap (λ w. verdict_text is_settled ++ w) is ∙ append-nil (verdict_text is_settled)
told_well profile lines stdin F true true why zero is = ap (λ w. verdict_text true ++ w) is ∙ append-nil (verdict_text true)
told_well profile lines stdin F true false why zero is = cc

module _ (input : Option Bytes) (file : Path → Option Bytes) where
  -- what a run of the request did that ended well
  abbrev pub DidRun : Asked → Bytes → Bytes → Type 0
  DidRun (asks_plain profile script paths lists strict) text told = (is_settled : Bool) × RanPlain input file profile script paths lists is_settled text × (told ≡ verdict_text is_settled) × (verdict_status strict is_settled ≡ 0)
  DidRun (asks_diagnosed profile script paths lists strict) text told = Unit {0}
  DidRun (asks_run profile script paths how lists) text told = (diag : Bytes) × RanBy input file how profile script paths lists None text diag
  DidRun (asks_strict profile script paths harts turns lists) text told = (why : Bytes) × (diag : Bytes) × RanStrictly input file profile script paths harts turns lists None true why text diag
  DidRun (asks_check script strict) text told = Unit {0}
  DidRun (asks_turns script paths strict) text told = Unit {0}
  DidRun (asks_room script paths strict) text told = Unit {0}
  DidRun (asks_explain script) text told = Unit {0}
  DidRun (asks_whys profile script paths) text told = Unit {0}
  DidRun (asks_fix profile script paths) text told = Unit {0}
  DidRun (asks_explore profile script paths states all) text told = Unit {0}
  DidRun (asks_traced what path) text told = Unit {0}
  DidRun (asks_played what) text told = Unit {0}
  DidRun (asks_witnessed what path) text told = Unit {0}
  DidRun (asks_paired what word) text told = Unit {0}
  DidRun (asks_filed what path) text told = Unit {0}
  DidRun (asks_lined what) text told = Unit {0}
  DidRun (asks_json what) text told = Unit {0}
  DidRun asks_draw text told = Unit {0}
  DidRun (asks_input path) text told = ⊥
  DidRun help text told = Unit {0}
  DidRun misuse text told = Unit {0}

  due_well : (request : Asked) (text told : Bytes) (status : ℕ) → Due input file request text told status → status ≡ 0 → DidRun request text told
  due_well request text told status (plain_ran {profile = profile} {strict = strict} is_settled why gave told_why) zero = (is_settled, gave, told_well profile gave.lines gave.stdin (files gave.given) strict is_settled why zero told_why, zero)
  due_well request text told status (no_plain fault why) zero = absurd (some_status fault zero)
  due_well request text told status (diagnosed is_settled why known gave told_why is_known) zero = tt
  due_well request text told status (not_diagnosed fault why) zero = tt
  due_well request text told status (ran diag None gave) zero = (diag, gave)
  due_well request text told status (ran diag (Some full) gave) zero = cc
  due_well request text told status (no_run fault why) zero = absurd (some_run_status fault zero)
  due_well request text told status (ran_strict {profile = profile} {script = script} {paths = paths} {harts = harts} {turns = turns} {lists = lists} diag why is_settled None gave) zero = (why, diag, subst (λ is. RanStrictly input file profile script paths harts turns lists None is why text diag) (strictly_settled is_settled zero) gave)
  due_well request text told status (ran_strict diag why is_settled (Some full) gave) zero = cc
  due_well request text told status (no_strict fault why) zero = absurd (some_run_status fault zero)
  due_well request text told status (checked is_harmless gave) zero = tt
  due_well request text told status (no_check fault why) zero = tt
  due_well request text told status (counted is_harmless gave) zero = tt
  due_well request text told status (not_counted fault why) zero = tt
  due_well request text told status (room_told is_fine gave) zero = tt
  due_well request text told status (no_room_told fault why) zero = tt
  due_well request text told status (explained noted gave) zero = tt
  due_well request text told status (not_explained fault why) zero = tt
  due_well request text told status (whys_told noted gave) zero = tt
  due_well request text told status (no_whys_told fault why) zero = tt
  due_well request text told status (fixed gave) zero = tt
  due_well request text told status (unfixed gave) zero = tt
  due_well request text told status (no_fix fault why) zero = tt
  due_well request text told status (explored found conclusion gave concludes) zero = tt
  due_well request text told status (not_explored fault why) zero = tt
  due_well request text told status (traced due) zero = tt
  due_well request text told status untraced zero = tt
  due_well request text told status (played due) zero = tt
  due_well request text told status (unplayed report) zero = tt
  due_well request text told status (witnessed due) zero = tt
  due_well request text told status (unwitnessed of) zero = tt
  due_well request text told status (paired due) zero = tt
  due_well request text told status (unpaired report number is) zero = tt
  due_well request text told status (filed due) zero = tt
  due_well request text told status (lined is due) zero = tt
  due_well request text told status (unfiled of) zero = tt
  due_well request text told status (valued object is due) zero = tt
  due_well request text told status (unvalued is due) zero = tt
  due_well request text told status (drawn page) zero = tt
  due_well request text told status (undrawn report number) zero = tt
  due_well request text told status (unread fault why) zero = absurd (some_status fault zero)
  due_well request text told status (helped shown) zero = tt
  due_well request text told status (misused shown) zero = tt
  due_well request text told status no_memory zero = cc

  module _ (out out' err err' : Option Bytes) where
    -- a run that ended well, and what it wrote
    pub record EndedWell (request : Asked) : Type 0 where
      pub text : Bytes
      pub told : Bytes
      pub did : DidRun request text told
      pub printed : Appends out out' text
      pub reported : Appends err err' told

    pub ended_well : (request : Asked) → Ends input file out out' err err' request 0 → EndedWell request
    ended_well request ends =
        let wrote = written_well ends.text ends.told ends.status out out' err err' 0 ends.writes refl in
        record { text = ends.text; told = ends.told; did = due_well request ends.text ends.told ends.status ends.due wrote.0; printed = wrote.1; reported = wrote.2 }

settled_told : (before : Bytes) (is_settled : Bool) → before ++ codes "settled\n" ≡ before ++ verdict_text is_settled → is_settled ≡ true
settled_told before true same = refl
settled_told before false same =
    let text : codes "settled\n" ≡ codes "not settled\n" = append_cancel_left before (codes "settled\n") (codes "not settled\n") same in
    let long : length (codes "settled\n") ≡ length (codes "not settled\n") = ap length text in
    absurd (omega (arith, long))

module _ (input : Option Bytes) (file : Path → Option Bytes) (profile : Profile) (script : Path) (paths : List (Bor Path)) (told : IsTold input file script paths) (how : How) (apart : how ≢ by_schedule (codes "-")) (out out' err err' old new : Option Bytes) (first : Ends input file out out' err err' (asks_run profile script paths how no_lists) 0) where
  gave : EndedWell input file out out' err err' (asks_run profile script paths how no_lists)
  gave = ended_well input file out out' err err' (asks_run profile script paths how no_lists) first

  adds : (text : Bytes) → gave.text ≡ text → Appends old new text → AddsTheSame out out' old new
  adds text same printed = (text, subst (Appends out out') same gave.printed, printed)

  -- a run by meaning that found the script settled
  agrees_settled : (is_settled : Bool) (text : Bytes) → is_settled ≡ true → RanPlain input file profile script paths false is_settled text → Appends old new text → AddsTheSame out out' old new
  agrees_settled is_settled text settled meant printed =
      adds text (agrees input file profile script paths told how gave.text text gave.did.0 apart gave.did.1 (subst (λ is. RanPlain input file profile script paths false is text) settled meant)) printed

  pub ends_agree : (strict : Bool) (before : Bytes) → Ends input file old new (Some before) (Some (before ++ codes "settled\n")) (asks_plain profile script paths false strict) 0 → AddsTheSame out out' old new
  ends_agree strict before second =
      let meant = ended_well input file old new (Some before) (Some (before ++ codes "settled\n")) (asks_plain profile script paths false strict) second in
      agrees_settled meant.did.0 meant.text (settled_told before meant.did.0 (meant.reported ∙ ap (λ t. before ++ t) meant.did.2)) meant.did.1 meant.printed

  pub strict_ends_agree : (said later : Option Bytes) → Ends input file old new said later (asks_plain profile script paths false true) 0 → AddsTheSame out out' old new
  strict_ends_agree said later second =
      let meant = ended_well input file old new said later (asks_plain profile script paths false true) second in
      agrees_settled meant.did.0 meant.text (strictly_settled meant.did.0 meant.did.3) meant.did.1 meant.printed

  pub runs_end_alike : (other : How) (said later : Option Bytes) → other ≢ by_schedule (codes "-") → IsSettledAt input file profile script paths → Ends input file old new said later (asks_run profile script paths other no_lists) 0 → AddsTheSame out out' old new
  runs_end_alike other said later aside settled second =
      let again = ended_well input file old new said later (asks_run profile script paths other no_lists) second in
      adds again.text (runs_agree input file profile script paths told settled how other gave.text again.text gave.did.0 again.did.0 apart aside gave.did.1 again.did.1) again.printed
