-- What is due, by what a command returned and what is reported of it.
use Rattle.std.proofs.Common.{◌≡◌, ◌≢◌, ℕ, Bool, true, false, [], Option, Some, None, Result, Ok, Err, inl, inr, refl, sym, subst}
use Rattle.std.specs.Prelude.{MatchResult, codes, if◌then◌else◌}
use Rattle.std.specs.Str.{bytes_eq}
use Rattle.std.specs.Io.KnownBytes.{Keeps}
use Rattle.mem_files.specs.Name.{Bytes}
use Rattle.kernel_model.specs.declared.events.Full.{Full}
use Rattle.xvsh_read.specs.declared.fault.Fault.{Fault}
use Rattle.xvsh_read.specs.declared.fault.Fault.TheVariants.{Unreadable, TooLong, LineTooLong, ByteZero, BadName, TakenName, TooManyFiles, TooLarge, Memory}
use Rattle.xvsh_read.specs.Path.{Path}
use Rattle.xvsh_read.specs.Status.{check_status, fault_told, status_code, status_of}
use Rattle.xvsh_read.specs.Writing.{out_text}
use Rattle.xvsh_runs.specs.declared.fault.ProcessFault.{ProcessFault}
use Rattle.xvsh_runs.specs.declared.fault.ProcessFault.TheVariants.{Common, BadHarts, BadTurns, BadOrder, Spent, SharedInput, NoEvent, NotRunnable, NotRunning, Unfinished}
use Rattle.xvsh_runs.specs.Status.{run_status}
use Rattle.script_outcomes.specs.declared.concluding.Conclusion.{Conclusion}
use Rattle.script_outcomes.specs.declared.concluding.Conclusion.TheVariants.{OneOutput, SeveralOutputs, Stuck, Full as Filled, Part}
use Rattle.xvsh_ends.specs.Ends.{Asked, asks_plain, asks_diagnosed, asks_run, asks_strict, asks_check, asks_turns, asks_room, asks_explain, asks_whys, asks_fix, asks_explore, help, misuse, verdict_status, explore_status, full_status, told_text, Due, plain_ran, no_plain, diagnosed, not_diagnosed, ran, no_run, ran_strict, no_strict, checked, no_check, counted, not_counted, room_told, no_room_told, explained, not_explained, whys_told, no_whys_told, fixed, unfixed, no_fix, explored, not_explored, helped, misused, no_memory, IsDue, Tells, TellsOr, tells, lacks_memory, asks_traced, traced, untraced, asks_played, played, unplayed, beside_trace, asks_witnessed, asks_paired, asks_filed, asks_lined, asks_json, asks_draw, drawn, undrawn, asks_input, unread, witnessed, unwitnessed, paired, unpaired, filed, unfiled, lined, valued, unvalued, IsObjectStatus, PrintsAlone}
use Rattle.std.specs.Borrow.{Bor}
use Rattle.xvsh_ends.specs.Requests.{UnlessPrinted, witnessed_asked, paired_asked}
use Rattle.xvsh_ends.specs.declared.ending.Ending.{Ending}

-- what is known stays where nothing changes
pub keeps_same : (known : Option Bytes) → Keeps known known
keeps_same None = tt
keeps_same (Some bytes) = refl

-- no status of a fault is 0
pub some_status : (fault : Fault) → status_of fault ≢ 0
some_status (Unreadable path) is = cc
some_status (TooLong path) is = cc
some_status (LineTooLong n) is = cc
some_status (ByteZero n) is = cc
some_status (BadName path) is = cc
some_status (TakenName path) is = cc
some_status TooManyFiles is = cc
some_status TooLarge is = cc
some_status Memory is = cc

pub some_run_status : (fault : ProcessFault) → run_status fault ≢ 0
some_run_status (Common fault) is = some_status fault is
some_run_status BadHarts is = cc
some_run_status BadTurns is = cc
some_run_status (BadOrder word) is = cc
some_run_status Spent is = cc
some_run_status SharedInput is = cc
some_run_status (NoEvent path line) is = cc
some_run_status (NotRunnable number pid) is = cc
some_run_status (NotRunning number pid hart) is = cc
some_run_status (Unfinished count) is = cc

module _ (input : Option Bytes) (file : Path → Option Bytes) (asked : Asked) where
  -- an ending with these texts and this status is due where they are
  pub due_by : (text told : Bytes) (status : ℕ) (ending : Ending) → out_text ending.output ≡ text → told_text ending ≡ told → status_code ending.status ≡ status → Due input file asked text told status → IsDue input file asked ending
  due_by text told status ending same_out same_err same_status due =
      subst (Due input file asked (out_text ending.output) (told_text ending)) (sym same_status)
      (subst (λ t. Due input file asked (out_text ending.output) t status) (sym same_err)
      (subst (λ t. Due input file asked t told status) (sym same_out) due))

  -- a report is due where it is, and that memory was refused always is
  pub due_told : (told : Bytes) (status : ℕ) (ending : Ending) → TellsOr told status ending → Due input file asked [] told status → IsDue input file asked ending
  due_told told status ending (tells is) due = due_by [] told status ending is.nothing is.reported is.with due
  due_told told status ending (lacks_memory is) due = due_by [] (fault_told Memory) 4 ending is.nothing is.reported is.with no_memory

  pub due_memory : (ending : Ending) → Tells (fault_told Memory) 4 ending → IsDue input file asked ending
  due_memory ending is = due_by [] (fault_told Memory) 4 ending is.nothing is.reported is.with no_memory

  -- so is one that was made, or for which memory was refused
  pub due_made : {T E : Type 0} (made : Result T E) (bytes : T → Bytes) (status : ℕ) (ending : Ending) → MatchResult made (λ text. Tells (bytes text) status ending) (λ _. Tells (fault_told Memory) 4 ending) → ((text : T) → Due input file asked [] (bytes text) status) → IsDue input file asked ending
  due_made (Ok text) bytes status ending is due = due_by [] (bytes text) status ending is.nothing is.reported is.with (due text)
  due_made (Err refused) bytes status ending is due = due_memory ending is

module _ (input : Option Bytes) (file : Path → Option Bytes) (what : Asked) where
  -- what is due without schedules is due with them too
  pub due_witnessed : (witness : Option (Bor Path)) (text told : Bytes) (status : ℕ) → Due input file what text told status → Due input file (witnessed_asked witness what) text told status
  due_witnessed None text told status due = due
  due_witnessed (Some path) text told status due = witnessed due

  -- what is due without the word of a pair is due with it too
  pub due_paired : (word : Option (Bor Path)) (text told : Bytes) (status : ℕ) → Due input file what text told status → Due input file (paired_asked word what) text told status
  due_paired None text told status due = due
  due_paired (Some word) text told status due = paired due

verdict_prints : {X : Type 0} (strict is_settled : Bool) → verdict_status strict is_settled ≢ 0 → (strict ≡ true → verdict_status strict is_settled ≢ 3) → X
verdict_prints false is_settled some three = absurd (some refl)
verdict_prints true true some three = absurd (some refl)
verdict_prints true false some three = absurd (three refl refl)

full_prints : {X : Type 0} (full : Option Full) (status : ℕ) → (full_status full status ≢ 4) → (full ≡ None → X) → X
full_prints None status four other = other refl
full_prints (Some full) status four other = absurd (four refl)

check_prints : {X : Type 0} (is : Bool) → check_status is ≢ 0 → check_status is ≢ 3 → X
check_prints true some three = absurd (some refl)
check_prints false some three = absurd (three refl)

explore_prints : {X : Type 0} (conclusion : Conclusion) → explore_status conclusion ≢ 0 → explore_status conclusion ≢ 3 → explore_status conclusion ≢ 4 → X
explore_prints OneOutput some three four = absurd (some refl)
explore_prints SeveralOutputs some three four = absurd (three refl)
explore_prints Stuck some three four = absurd (three refl)
explore_prints Filled some three four = absurd (four refl)
explore_prints Part some three four = absurd (four refl)

unless : (asked : Asked) (status : ℕ) (same : Type 0) → same → UnlessPrinted asked status same
unless (asks_plain profile script paths lists strict) status same is = λ some three. is
unless (asks_diagnosed profile script paths lists strict) status same is = λ some three. is
unless (asks_run profile script paths how lists) status same is = λ some four. is
unless (asks_strict profile script paths harts turns lists) status same is = λ some three four. is
unless (asks_check script strict) status same is = λ some three. is
unless (asks_turns script paths strict) status same is = λ some three. is
unless (asks_room script paths strict) status same is = λ some three. is
unless (asks_explain script) status same is = λ some three. is
unless (asks_whys profile script paths) status same is = λ some three. is
unless (asks_fix profile script paths) status same is = λ some. is
unless (asks_explore profile script paths states all) status same is = λ some three four. is
unless (asks_traced what path) status same is = unless what status same is
unless (asks_played what) status same is = unless what status same is
unless (asks_witnessed what path) status same is = unless what status same is
unless (asks_paired what word) status same is = unless what status same is
unless (asks_filed what path) status same is = unless what status same is
unless (asks_lined what) status same is = unless what status same is
unless (asks_json what) status same is = λ some one three four. is
unless asks_draw status same is = λ some. is
unless (asks_input path) status same is = is
unless help status same is = λ some. is
unless misuse status same is = is

unless_implied : (asked : Asked) (status : ℕ) (same other : Type 0) → (same → other) → UnlessPrinted asked status same → UnlessPrinted asked status other
unless_implied (asks_plain profile script paths lists strict) status same other implies is = λ some three. implies (is some three)
unless_implied (asks_diagnosed profile script paths lists strict) status same other implies is = λ some three. implies (is some three)
unless_implied (asks_run profile script paths how lists) status same other implies is = λ some four. implies (is some four)
unless_implied (asks_strict profile script paths harts turns lists) status same other implies is = λ some three four. implies (is some three four)
unless_implied (asks_check script strict) status same other implies is = λ some three. implies (is some three)
unless_implied (asks_turns script paths strict) status same other implies is = λ some three. implies (is some three)
unless_implied (asks_room script paths strict) status same other implies is = λ some three. implies (is some three)
unless_implied (asks_explain script) status same other implies is = λ some three. implies (is some three)
unless_implied (asks_whys profile script paths) status same other implies is = λ some three. implies (is some three)
unless_implied (asks_fix profile script paths) status same other implies is = λ some. implies (is some)
unless_implied (asks_explore profile script paths states all) status same other implies is = λ some three four. implies (is some three four)
unless_implied (asks_traced what path) status same other implies is = unless_implied what status same other implies is
unless_implied (asks_played what) status same other implies is = unless_implied what status same other implies is
unless_implied (asks_witnessed what path) status same other implies is = unless_implied what status same other implies is
unless_implied (asks_paired what word) status same other implies is = unless_implied what status same other implies is
unless_implied (asks_filed what path) status same other implies is = unless_implied what status same other implies is
unless_implied (asks_lined what) status same other implies is = unless_implied what status same other implies is
unless_implied (asks_json what) status same other implies is = λ some one three four. implies (is some one three four)
unless_implied asks_draw status same other implies is = λ some. implies (is some)
unless_implied (asks_input path) status same other implies is = implies is
unless_implied help status same other implies is = λ some. implies (is some)
unless_implied misuse status same other implies is = implies is

-- where nothing is printed but with the statuses of a request, nothing is with others than these
pub unless_any : (asked : Asked) (status : ℕ) (same : Type 0) → UnlessPrinted asked status same → status ≢ 0 → status ≢ 1 → status ≢ 3 → status ≢ 4 → same
unless_any (asks_plain profile script paths lists strict) status same is some one three four = is some (λ _. three)
unless_any (asks_diagnosed profile script paths lists strict) status same is some one three four = is some (λ _. three)
unless_any (asks_run profile script paths how lists) status same is some one three four = is some four
unless_any (asks_strict profile script paths harts turns lists) status same is some one three four = is some three four
unless_any (asks_check script strict) status same is some one three four = is some three
unless_any (asks_turns script paths strict) status same is some one three four = is some three
unless_any (asks_room script paths strict) status same is some one three four = is some three
unless_any (asks_explain script) status same is some one three four = is some three
unless_any (asks_whys profile script paths) status same is some one three four = is some three
unless_any (asks_fix profile script paths) status same is some one three four = is some
unless_any (asks_explore profile script paths states all) status same is some one three four = is some three four
unless_any (asks_traced what path) status same is some one three four = unless_any what status same is some one three four
unless_any (asks_played what) status same is some one three four = unless_any what status same is some one three four
unless_any (asks_witnessed what path) status same is some one three four = unless_any what status same is some one three four
unless_any (asks_paired what word) status same is some one three four = unless_any what status same is some one three four
unless_any (asks_filed what path) status same is some one three four = unless_any what status same is some one three four
unless_any (asks_lined what) status same is some one three four = unless_any what status same is some one three four
unless_any (asks_json what) status same is some one three four = is some one three four
unless_any asks_draw status same is some one three four = is some
unless_any (asks_input path) status same is some one three four = is
unless_any help status same is some one three four = is some
unless_any misuse status same is some one three four = is

object_prints : {X : Type 0} (status : ℕ) → IsObjectStatus status → status ≢ 0 → status ≢ 1 → status ≢ 3 → status ≢ 4 → X
object_prints status (inl is) some one three four = absurd (some is)
object_prints status (inr (inl is)) some one three four = absurd (one is)
object_prints status (inr (inr (inl is))) some one three four = absurd (three is)
object_prints status (inr (inr (inr is))) some one three four = absurd (four is)

beside_nothing : (b : Bool) (text : Bytes) → text ≡ [] → (if b then [] else text) ≡ []
beside_nothing true text is = refl
beside_nothing false text is = is

module _ (input : Option Bytes) (file : Path → Option Bytes) where
  -- nothing goes to standard output with another status than these
  pub nothing_due : (asked : Asked) (text told : Bytes) (status : ℕ) → Due input file asked text told status → UnlessPrinted asked status (text ≡ [])
  nothing_due asked text told status (plain_ran {strict = strict} is_settled why gave told_why) = λ some three. verdict_prints strict is_settled some three
  nothing_due asked text told status (no_plain fault why) = λ some three. refl
  nothing_due asked text told status (diagnosed {strict = strict} is_settled why known gave told_why is_known) = λ some three. verdict_prints strict is_settled some three
  nothing_due asked text told status (not_diagnosed fault why) = λ some three. refl
  nothing_due asked text told status (ran diag None gave) = λ some four. absurd (some refl)
  nothing_due asked text told status (ran diag (Some full) gave) = λ some four. absurd (four refl)
  nothing_due asked text told status (no_run fault why) = λ some four. refl
  nothing_due asked text told status (ran_strict diag why is_settled None gave) = λ some three four. verdict_prints true is_settled some (λ is. three)
  nothing_due asked text told status (ran_strict diag why is_settled (Some full) gave) = λ some three four. absurd (four refl)
  nothing_due asked text told status (no_strict fault why) = λ some three four. refl
  nothing_due asked text told status (checked is_harmless gave) = λ some three. check_prints is_harmless some three
  nothing_due asked text told status (no_check fault why) = λ some three. refl
  nothing_due asked text told status (counted is_harmless gave) = λ some three. check_prints is_harmless some three
  nothing_due asked text told status (not_counted fault why) = λ some three. refl
  nothing_due asked text told status (room_told is_fine gave) = λ some three. check_prints is_fine some three
  nothing_due asked text told status (no_room_told fault why) = λ some three. refl
  nothing_due asked text told status (explained noted gave) = λ some three. check_prints noted.is_fine some three
  nothing_due asked text told status (not_explained fault why) = λ some three. refl
  nothing_due asked text told status (whys_told noted gave) = λ some three. check_prints noted.is_fine some three
  nothing_due asked text told status (no_whys_told fault why) = λ some three. refl
  nothing_due asked text told status (fixed gave) = λ some. absurd (some refl)
  nothing_due asked text told status (unfixed gave) = λ some. refl
  nothing_due asked text told status (no_fix fault why) = λ some. refl
  nothing_due asked text told status (explored found conclusion gave concludes) = λ some three four. explore_prints conclusion some three four
  nothing_due asked text told status (not_explored fault why) = λ some three four. refl
  nothing_due asked text told status (traced {what = what} {path = path} {text = inner} due) = unless_implied what status (inner ≡ []) (beside_trace path inner ≡ []) (beside_nothing (bytes_eq path (codes "-")) inner) (nothing_due what inner told status due)
  nothing_due asked text told status (untraced {what = what}) = unless what 1 ([] ≡ []) refl
  nothing_due asked text told status (played {what = what} due) = nothing_due what text told status due
  nothing_due asked text told status (unplayed {what = what} report) = unless what 4 ([] ≡ []) refl
  nothing_due asked text told status (witnessed {what = what} due) = nothing_due what text told status due
  nothing_due asked text told status (unwitnessed {what = what} of) = unless what 1 ([] ≡ []) refl
  nothing_due asked text told status (paired {what = what} due) = nothing_due what text told status due
  nothing_due asked text told status (unpaired {what = what} report number is) = unless what status ([] ≡ []) refl
  nothing_due asked text told status (filed {what = what} due) = nothing_due what text told status due
  nothing_due asked text told status (lined {what = what} {told = plain} is due) = nothing_due what text plain status due
  nothing_due asked text told status (unfiled {what = what} of) = unless what 1 ([] ≡ []) refl
  nothing_due asked text told status (valued object is due) = object_prints status is
  nothing_due asked text told status (unvalued {what = what} is due) = unless_any what status (text ≡ []) (nothing_due what text told status due)
  nothing_due asked text told status (drawn page) = λ some. absurd (some refl)
  nothing_due asked text told status (undrawn report number) = λ some. refl
  nothing_due asked text told status (unread fault why) = refl
  nothing_due asked text told status (helped whole) = λ some. absurd (some refl)
  nothing_due asked text told status (misused whole) = refl
  nothing_due asked text told status no_memory = unless asked 4 ([] ≡ []) refl

module _ (input : Option Bytes) (file : Path → Option Bytes) (what : Asked) where
  -- an object that was made is due where the text is, or that memory was refused for it
  pub due_valued : {T E : Type 0} (made : Result T E) (bytes : T → Bytes) (text told : Bytes) (status : ℕ) (ending : Ending) → MatchResult made (λ json. PrintsAlone (bytes json) status ending) (λ _. Tells (fault_told Memory) 4 ending) → IsObjectStatus status → Due input file what text told status → IsDue input file (asks_json what) ending
  due_valued (Ok json) bytes text told status ending is with due = due_by input file (asks_json what) (bytes json) [] status ending is.out is.reported is.with (valued (bytes json) with due)
  due_valued (Err refused) bytes text told status ending is with due = due_memory input file (asks_json what) ending is

-- with another status nothing is printed in place of an object
pub object_or_nothing : {T E : Type 0} (made : Result T E) (bytes : T → Bytes) (status : ℕ) (ending : Ending) (what : Asked) → MatchResult made (λ json. PrintsAlone (bytes json) status ending) (λ _. Tells (fault_told Memory) 4 ending) → IsObjectStatus status → UnlessPrinted (asks_json what) (status_code ending.status) (out_text ending.output ≡ [])
object_or_nothing (Ok json) bytes status ending what is with = λ some one three four. object_prints (status_code ending.status) (subst IsObjectStatus (sym is.with) with) some one three four
object_or_nothing (Err refused) bytes status ending what is with = λ some one three four. is.nothing

-- a report prints nothing
pub reports_nothing : (told : Bytes) (status : ℕ) (ending : Ending) → TellsOr told status ending → out_text ending.output ≡ []
reports_nothing told status ending (tells is) = is.nothing
reports_nothing told status ending (lacks_memory is) = is.nothing

pub verdict_is_printed : (strict is_settled : Bool) → IsObjectStatus (verdict_status strict is_settled)
verdict_is_printed false is_settled = inl refl
verdict_is_printed true true = inl refl
verdict_is_printed true false = inr (inr (inl refl))

pub fault_is_printed : (fault : Fault) → IsObjectStatus (status_of fault)
fault_is_printed (Unreadable path) = inr (inl refl)
fault_is_printed (TooLong path) = inr (inl refl)
fault_is_printed (LineTooLong n) = inr (inl refl)
fault_is_printed (ByteZero n) = inr (inl refl)
fault_is_printed (BadName path) = inr (inl refl)
fault_is_printed (TakenName path) = inr (inl refl)
fault_is_printed TooManyFiles = inr (inl refl)
fault_is_printed TooLarge = inr (inr (inr refl))
fault_is_printed Memory = inr (inr (inr refl))

pub check_is_printed : (is_fine : Bool) → IsObjectStatus (check_status is_fine)
check_is_printed true = inl refl
check_is_printed false = inr (inr (inl refl))
