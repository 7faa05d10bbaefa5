use Rattle.std.proofs.Common.{◌≡◌, [], refl}
use Rattle.std.specs.Prelude.{option_map}
use Rattle.xvsh_read.specs.Status.{status_code}
use Rattle.xvsh_read.specs.Writing.{out_text}
use Rattle.xvsh_ends.specs.Requests.{asked, unread_asked}
use Rattle.xvsh_ends.proofs.Dues.{unless_any}
use Rattle.xvsh_read.specs.Given.{file_by, input_by}
use Rattle.xvsh.specs.Drive.{due, ungiven}
use Rattle.xvsh.proofs.Sights.{sees}
use Rattle.xvsh.proofs.driver.given_ending.Goals as goal

pub returns-in-Ok-clause-due : goal.returns-in-Ok-clause-due
returns-in-Ok-clause-due g c =
    let given = option_map (λ bytes. bytes.items) c.in-Ok.input in
    let host = c.read_given.new.host in
    due
    (record { input = input_by given (g.H.Host.input host); file = file_by c.args.inputs.now.text (g.H.Host.file host) })
    (sees (g.H.Host.input c.args.host.now) (g.H.Host.file c.args.host.now) c.args.inputs.now given (g.H.Host.input host) (g.H.Host.file host) c.in-Ok.ensures.given c.read_given.ensures.input_stays c.read_given.ensures.files_stay)
    c.ending_of.ensures.due

pub returns-in-Ok-clause-nothing : goal.returns-in-Ok-clause-nothing
returns-in-Ok-clause-nothing g c some one three four =
    let ending = c.ending_of.result in
    unless_any (asked c.args.request.now) (status_code ending.status) (out_text ending.output ≡ []) c.ending_of.ensures.nothing some one three four

pub returns-in-Err-clause-due : goal.returns-in-Err-clause-due
returns-in-Err-clause-due g c =
    let why = c.in-Err.ensures.fault in
    ungiven why.1 (c.unread_ending.ensures.due (g.H.Host.input c.args.host.now) (g.H.Host.file c.args.host.now) why.0.now why.2)

pub returns-in-Err-clause-nothing : goal.returns-in-Err-clause-nothing
returns-in-Err-clause-nothing g c some one three four =
    let ending = c.unread_ending.result in
    let path = c.in-Err.ensures.fault.0.now in
    unless_any (unread_asked c.args.request.now path) (status_code ending.status) (out_text ending.output ≡ []) (c.unread_ending.ensures.nothing path) some one three four
