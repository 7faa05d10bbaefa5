-- What is due of a run by meaning, by the values that it gave.
use Rattle.std.proofs.Common.{◌≡◌, Bool, true, false, [], ◌++◌, Option, map, refl, sym, subst}
use Rattle.std.specs.Prelude.{◌↔◌, Contains}
use Rattle.mem_files.specs.Name.{Name, Bytes}
use Rattle.mem_files.specs.Files.{files}
use Rattle.mem_files.specs.Listing.{AreFiles}
use Rattle.meaning_model.specs.Meaning.{script_meaning}
use Rattle.meaning_model.specs.Value.{Value}
use Rattle.every_order.specs.declared.known.Diagnostics.{Diagnostics}
use Rattle.reason_sentences.specs.Sentences.{reason_text}
use Rattle.reason_sentences.specs.Whys.{IsWhy}
use Rattle.reason_sentences.proofs.Told.{all_told, first_told}
use Rattle.xvsh_read.specs.declared.fault.Fault.{Fault}
use Rattle.xvsh_read.specs.Listing.{list_text}
use Rattle.xvsh_read.specs.Path.{Path}
use Rattle.xvsh_read.specs.Status.{fault_told, status_of}
use Rattle.xvsh_plain.specs.Reasoned.{DidPlain, IsKnownIf}
use Rattle.xvsh_plain.specs.Running.{IsPlainRefusal, IsRunText, RanPlain}
use Rattle.xvsh_plain.specs.declared.request.PlainRequest.{PlainRequest}
use Rattle.xvsh_plain.specs.declared.running.PlainRun.{PlainRun}
use Rattle.xvsh_ends.specs.Ends.{Due, IsDue, asks_json, plain_ran, no_plain, diagnosed, not_diagnosed, verdict_status, verdict_text}
use Rattle.xvsh_ends.specs.Printed.{IsPrinted}
use Rattle.xvsh_ends.specs.Reports.{known_text, why_text}
use Rattle.xvsh_ends.specs.Requests.{diagnosed_asked, plain_asked, plain_printed_asked}
use Rattle.xvsh_ends.specs.declared.ending.Ending.{Ending}
use Rattle.xvsh_ends.proofs.Dues.{fault_is_printed, verdict_is_printed}
use Rattle.xvsh_ends.proofs.Made.{due_printed}

no_run_due : (input : Option Bytes) (file : Path → Option Bytes) (request : PlainRequest) (fault : Fault) → IsPlainRefusal input file request fault → (finds : Bool) → Due input file (diagnosed_asked finds request) [] (fault_told fault) (status_of fault)
no_run_due input file request fault why false = no_plain fault why
no_run_due input file request fault why true = not_diagnosed fault why

-- what is printed of a run's values is printed of each value that they are
abbrev pub Prints : PlainRun → Bool → Bytes → Type 0
Prints run lists text = (value : Value) → AreFiles run.reasoned.plain.files → run.reasoned.plain.out ≡ value.out → ((name : Name) → files run.reasoned.plain.files name ≡ value.files name) → ((name : Name) → Contains run.reasoned.plain.soft name ↔ (value.soft name ≡ true)) → IsRunText lists value text

module _ (input : Option Bytes) (file : Path → Option Bytes) (request : PlainRequest) (run : PlainRun) (did : DidPlain input file request run) where
  lines_gave : {text : Bytes} (lists : Bool) → IsRunText lists (script_meaning request.source.profile did.ran.lines did.ran.stdin (files did.ran.given)) text → RanPlain input file request.source.profile request.source.script.now request.source.files.now lists run.reasoned.plain.settled text
  lines_gave lists gives = record {
    lines = did.ran.lines;
    given = did.ran.given;
    stdin = did.ran.stdin;
    starts = did.ran.starts;
    gives = gives;
    settled = did.ran.gives.settled;
  }

  gave : (text : Bytes) → Prints run request.lists_files text → RanPlain input file request.source.profile request.source.script.now request.source.files.now request.lists_files run.reasoned.plain.settled text
  gave text prints =
      let gives = did.ran.gives in
      lines_gave request.lists_files (prints (script_meaning request.source.profile did.ran.lines did.ran.stdin (files did.ran.given)) gives.listed gives.out gives.left gives.soft)

  abbrev why : Bool → Bytes
  why strict = why_text strict (map reason_text run.reasoned.reasons.items)

  is_why : (strict : Bool) → IsWhy request.source.profile did.ran.lines did.ran.stdin (files did.ran.given) strict run.reasoned.plain.settled (why strict)
  is_why false = refl
  is_why true =
      let F = files did.ran.given in
      let reasons = run.reasoned.reasons.items in
      first_told request.source.profile did.ran.lines did.ran.stdin F run.reasoned.plain.settled (map reason_text reasons) did.ran.gives.settled
      (all_told request.source.profile did.ran.lines did.ran.stdin F reasons did.ran.gives.why.each did.ran.gives.why.none)

  due_if : (text : Bytes) → Prints run request.lists_files text → (finds : Bool) (known : Option Diagnostics) → IsKnownIf finds request.source.profile did.ran.lines did.ran.stdin did.ran.given known
      → Due input file (diagnosed_asked finds request) text (known_text known ++ (verdict_text run.reasoned.plain.settled ++ why request.is_strict)) (verdict_status request.is_strict run.reasoned.plain.settled)
  unfolding gave lines_gave
  due_if text prints false known none =
      subst (λ k. Due input file (plain_asked request) text (known_text k ++ (verdict_text run.reasoned.plain.settled ++ why request.is_strict)) (verdict_status request.is_strict run.reasoned.plain.settled)) (sym none)
      (plain_ran run.reasoned.plain.settled (why request.is_strict) (gave text prints) (is_why request.is_strict))
  due_if text prints true known (found, same, is) =
      subst (λ k. Due input file (diagnosed_asked true request) text (known_text k ++ (verdict_text run.reasoned.plain.settled ++ why request.is_strict)) (verdict_status request.is_strict run.reasoned.plain.settled)) (sym same)
      (diagnosed run.reasoned.plain.settled (why request.is_strict) found (gave text prints) (is_why request.is_strict) is)

  -- the text is due
  pub text_due : (text : Bytes) → Prints run request.lists_files text → Due input file (diagnosed_asked request.finds_diagnostics request) text (known_text run.known ++ (verdict_text run.reasoned.plain.settled ++ why_text request.is_strict (map reason_text run.reasoned.reasons.items))) (verdict_status request.is_strict run.reasoned.plain.settled)
  text_due text prints = due_if text prints request.finds_diagnostics run.known did.known

  some_text : (lists : Bool) → (text : Bytes) × IsRunText lists (script_meaning request.source.profile did.ran.lines did.ran.stdin (files did.ran.given)) text
  some_text false = ((script_meaning request.source.profile did.ran.lines did.ran.stdin (files did.ran.given)).out, refl)
  some_text true =
      let value = script_meaning request.source.profile did.ran.lines did.ran.stdin (files did.ran.given) in
      (value.out ++ list_text value.soft run.reasoned.plain.files, (run.reasoned.plain.files, did.ran.gives.listed, did.ran.gives.left, refl))

  -- and so is an object
  pub object_due : (ending : Ending) → ((text report : Bytes) → IsPrinted true text report (verdict_status request.is_strict run.reasoned.plain.settled) ending) → IsDue input file (asks_json (plain_asked request)) ending
  unfolding lines_gave
  object_due ending prints =
      let some = some_text request.lists_files in
      let report = verdict_text run.reasoned.plain.settled ++ why request.is_strict in
      due_printed input file (plain_asked request) true some.0 report (verdict_status request.is_strict run.reasoned.plain.settled) ending (prints some.0 report) (verdict_is_printed request.is_strict run.reasoned.plain.settled)
      (plain_ran run.reasoned.plain.settled (why request.is_strict) (lines_gave request.lists_files some.1) (is_why request.is_strict))

-- why there is no run is due, in an object or not
pub fault_due : (input : Option Bytes) (file : Path → Option Bytes) (request : PlainRequest) (fault : Fault) → IsPlainRefusal input file request fault → (is_json : Bool) (ending : Ending) → IsPrinted is_json [] (fault_told fault) (status_of fault) ending → IsDue input file (plain_printed_asked is_json request) ending
fault_due input file request fault why true ending prints = due_printed input file (plain_asked request) true [] (fault_told fault) (status_of fault) ending prints (fault_is_printed fault) (no_plain fault why)
fault_due input file request fault why false ending prints = due_printed input file (diagnosed_asked request.finds_diagnostics request) false [] (fault_told fault) (status_of fault) ending prints (fault_is_printed fault) (no_run_due input file request fault why request.finds_diagnostics)
