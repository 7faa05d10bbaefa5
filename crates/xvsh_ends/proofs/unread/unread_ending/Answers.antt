use Rattle.std.proofs.Common.{◌≡◌, [], true, false, sym, subst}
use Rattle.std.specs.Prelude.{MatchResult}
use Rattle.xvsh_read.specs.declared.fault.Fault.TheVariants.{Memory}
use Rattle.xvsh_read.specs.Status.{fault_told, status_code, status_of}
use Rattle.xvsh_read.specs.Writing.{out_text}
use Rattle.xvsh_ends.specs.Ends.{IsDue, PrintsAlone, Tells, asks_input, unread}
use Rattle.xvsh_ends.specs.Requests.{UnlessPrinted, json_asked, wants_json}
use Rattle.xvsh_ends.proofs.Dues.{due_told, due_valued, fault_is_printed, object_or_nothing, reports_nothing}
use Rattle.xvsh_ends.proofs.unread.unread_ending.Goals as goal

pub returns-in-Some-clause-due : goal.returns-in-Some-clause-due
returns-in-Some-clause-due c input file path why =
    let fault = c.args.fault in
    let ending = c.print_made.result in
    let want : wants_json c.args.request.now ≡ true = sym c.in-Some.ensures in
    subst (λ is. IsDue input file (json_asked is (asks_input path)) ending) (sym want)
    (due_valued input file (asks_input path) c.fault_result-made.result (λ text. text.items) [] (fault_told fault) (status_of fault) ending
    (subst (λ n. MatchResult c.fault_result-made.result (λ text. PrintsAlone text.items n ending) (λ _. Tells (fault_told Memory) 4 ending)) c.status.ensures c.print_made.ensures)
    (fault_is_printed fault) (unread fault why))

pub returns-in-Some-clause-nothing : goal.returns-in-Some-clause-nothing
returns-in-Some-clause-nothing c path =
    let fault = c.args.fault in
    let ending = c.print_made.result in
    let want : wants_json c.args.request.now ≡ true = sym c.in-Some.ensures in
    subst (λ is. UnlessPrinted (json_asked is (asks_input path)) (status_code ending.status) (out_text ending.output ≡ [])) (sym want)
    (object_or_nothing c.fault_result-made.result (λ text. text.items) (status_of fault) ending (asks_input path)
    (subst (λ n. MatchResult c.fault_result-made.result (λ text. PrintsAlone text.items n ending) (λ _. Tells (fault_told Memory) 4 ending)) c.status.ensures c.print_made.ensures)
    (fault_is_printed fault))

pub returns-in-None-clause-due : goal.returns-in-None-clause-due
returns-in-None-clause-due c input file path why =
    let fault = c.args.fault in
    let ending = c.report_fault.result in
    let want : wants_json c.args.request.now ≡ false = sym c.in-None.ensures in
    subst (λ is. IsDue input file (json_asked is (asks_input path)) ending) (sym want)
    (due_told input file (asks_input path) (fault_told fault) (status_of fault) ending c.report_fault.ensures (unread fault why))

pub returns-in-None-clause-nothing : goal.returns-in-None-clause-nothing
returns-in-None-clause-nothing c path =
    let fault = c.args.fault in
    let ending = c.report_fault.result in
    let want : wants_json c.args.request.now ≡ false = sym c.in-None.ensures in
    subst (λ is. UnlessPrinted (json_asked is (asks_input path)) (status_code ending.status) (out_text ending.output ≡ [])) (sym want) (reports_nothing (fault_told fault) (status_of fault) ending c.report_fault.ensures)
