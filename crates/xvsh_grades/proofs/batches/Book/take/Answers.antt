use Rattle.std.proofs.Common.{◌<◌, IfSome, MatchOption, None, Some, length, refl, subst}
use Rattle.xvsh_read.specs.Reading.{Agree, max_input, told_at}
use Rattle.xvsh_grades.proofs.batches.Book.take.Goals as goal

pub returns-in_ok-take_too_large-in-None-clause-holds : goal.returns-in_ok-take_too_large-in-None-clause-holds
returns-in_ok-take_too_large-in-None-clause-holds g c =
    let told = told_at None (g.H.Host.file c.args.host.now) c.args.path.now in
    let read = subst (λ o. MatchOption o (IfSome told (λ bytes. max_input < length bytes)) (λ bytes. Agree told bytes.items)) c.in-None.is c.in_ok-script_at.ensures.read in
    (record { path = c.args.path.now; bytes = None }, record { path = refl; bytes = read }, λ own reads h. c.in_ok-take_too_large-in-None.ensures.holds own reads h)

pub returns-in_ok-take_script-in-Some-clause-holds : goal.returns-in_ok-take_script-in-Some-clause-holds
returns-in_ok-take_script-in-Some-clause-holds g c =
    let told = told_at None (g.H.Host.file c.args.host.now) c.args.path.now in
    let read = subst (λ o. MatchOption o (IfSome told (λ bytes. max_input < length bytes)) (λ bytes. Agree told bytes.items)) c.in-Some.is c.in_ok-script_at.ensures.read in
    (record { path = c.args.path.now; bytes = Some c.in-Some.bytes.items }, record { path = refl; bytes = read }, λ own reads h. c.in_ok-take_script-in-Some.ensures.holds own reads h)
