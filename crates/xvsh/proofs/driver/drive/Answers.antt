use Rattle.std.proofs.Common.{◌∙◌, [], false, codes, sym, subst}
use Rattle.xvsh_read.specs.Writing.{out_text}
use Rattle.xvsh_read.specs.Status.{status_code}
use Rattle.xvsh_ends.specs.Ends.{asks_plain, told_text}
use Rattle.xvsh_ends.specs.Requests.{EndsAt}
use Rattle.script_load.specs.declared.profile.Profile.TheVariants.{Xv6}
use Rattle.xvsh.specs.Drive.{EndsOn}
use Rattle.xvsh_read.specs.Console.{Known, known}
use Rattle.xvsh.proofs.Coming.{written}
use Rattle.xvsh.proofs.Meaning.{run_writes_meaning}
use Rattle.xvsh.proofs.Written.{status_due}
use Rattle.xvsh.proofs.driver.drive.Goals as goal

pub returns-clause-meaning : goal.returns-clause-meaning
returns-clause-meaning g c none zero =
    let ending = c.ending_on-ending.result in
    run_writes_meaning (g.H.Host.input c.args.console.now.host) (g.H.Host.file c.args.console.now.host) (g.W.Write.contents c.args.console.now.out) (g.W.Write.contents c.write_ending-status.new.out) (g.E.Write.contents c.args.console.now.err) (g.E.Write.contents c.write_ending-status.new.err) (status_code c.write_ending-status.result)
    (record { text = out_text ending.output; told = told_text ending; status = status_code ending.status; due = c.ending_on-ending.ensures.no_words none; writes = c.write_ending-status.ensures.writes })
    (sym c.code.ensures ∙ zero)

pub returns-clause-no_words : goal.returns-clause-no_words
returns-clause-no_words g c none =
    let ending = c.ending_on-ending.result in
    let old = known g.H.Host.input g.H.Host.file g.W.Write.contents g.E.Write.contents c.args.console.now in
    let new : Known = record { input = old.input; file = old.file; out = g.W.Write.contents c.write_ending-status.new.out; err = g.E.Write.contents c.write_ending-status.new.err } in
    subst (EndsAt old new (asks_plain Xv6 (codes "-") [] false false)) (sym c.code.ensures)
    (record { text = out_text ending.output; told = told_text ending; status = status_code ending.status; due = c.ending_on-ending.ensures.no_words none; writes = c.write_ending-status.ensures.writes })

pub returns-clause-ends : goal.returns-clause-ends
returns-clause-ends g c some =
    let old = known g.H.Host.input g.H.Host.file g.W.Write.contents g.E.Write.contents c.args.console.now in
    let new : Known = record { input = old.input; file = old.file; out = g.W.Write.contents c.write_ending-status.new.out; err = g.E.Write.contents c.write_ending-status.new.err } in
    subst (EndsOn old new _) (sym c.code.ensures) (written old new _ c.ending_on-ending.result (status_code c.write_ending-status.result) (c.ending_on-ending.ensures.due some) c.write_ending-status.ensures.writes)

pub returns-clause-nothing_written : goal.returns-clause-nothing_written
returns-clause-nothing_written g c some one three four =
    let ending = c.ending_on-ending.result in
    let same = status_due (out_text ending.output) (told_text ending) (status_code ending.status) (g.W.Write.contents c.args.console.now.out) (g.W.Write.contents c.write_ending-status.new.out) (g.E.Write.contents c.args.console.now.err) (g.E.Write.contents c.write_ending-status.new.err) (status_code c.write_ending-status.result) c.write_ending-status.ensures.writes (λ is. one (c.code.ensures ∙ is)) in
    c.write_ending-status.ensures.nothing (c.ending_on-ending.ensures.nothing (λ is. some (c.code.ensures ∙ same ∙ is)) (λ is. one (c.code.ensures ∙ same ∙ is)) (λ is. three (c.code.ensures ∙ same ∙ is)) (λ is. four (c.code.ensures ∙ same ∙ is)))

pub returns-clause-no_words_written : goal.returns-clause-no_words_written
returns-clause-no_words_written g c none some one =
    let ending = c.ending_on-ending.result in
    let same = status_due (out_text ending.output) (told_text ending) (status_code ending.status) (g.W.Write.contents c.args.console.now.out) (g.W.Write.contents c.write_ending-status.new.out) (g.E.Write.contents c.args.console.now.err) (g.E.Write.contents c.write_ending-status.new.err) (status_code c.write_ending-status.result) c.write_ending-status.ensures.writes (λ is. one (c.code.ensures ∙ is)) in
    c.write_ending-status.ensures.nothing (c.ending_on-ending.ensures.no_words_nothing none (λ is. some (c.code.ensures ∙ same ∙ is)))
