use Rattle.std.proofs.Common.{◌≡◌, [], sym, subst}
use Rattle.xvsh_read.specs.Status.{status_code}
use Rattle.xvsh_read.specs.Writing.{out_text}
use Rattle.xvsh_ends.specs.Ends.{asks_draw}
use Rattle.xvsh_ends.specs.Requests.{UnlessPrinted, asked, check_asked, explain_told_asked, explore_asked, filed_asked, json_asked, lined_asked, plain_printed_asked, run_asked, replay_asked, traced_asked}
use Rattle.xvsh_ends.proofs.Dues.{nothing_due}
use Rattle.xvsh_ends.proofs.request.ending_of.Goals as goal

pub returns-in-Run-clause-nothing : goal.returns-in-Run-clause-nothing
returns-in-Run-clause-nothing g c =
    let request = c.in-Run.run' in
    let input = g.H.Host.input c.args.host.now in
    let file = g.H.Host.file c.args.host.now in
    let plain = json_asked request.is_json (run_asked request.is_strict request) in
    let what = lined_asked request.is_lined plain in
    let kept = filed_asked request.files_to what in
    let listed = traced_asked request.schedule_to kept in
    let ending = c.traced.result in
    subst (λ r. UnlessPrinted (asked r) (status_code ending.status) (out_text ending.output ≡ [])) (sym c.in-Run.is)
    (nothing_due input file (traced_asked request.trace listed) _ _ _ (c.traced.ensures input file listed (c.scheduled-ending.ensures input file kept (c.filed-ending.ensures input file what (c.lined_if-ending.ensures input file plain c.run_ending-ending.ensures)))))

pub returns-in-Replay-clause-nothing : goal.returns-in-Replay-clause-nothing
returns-in-Replay-clause-nothing g c =
    let request = c.in-Replay.replay in
    let input = g.H.Host.input c.args.host.now in
    let file = g.H.Host.file c.args.host.now in
    let plain = json_asked request.is_json (replay_asked request) in
    let what = lined_asked request.is_lined plain in
    let kept = filed_asked request.files_to what in
    let ending = c.traced-in-Replay.result in
    subst (λ r. UnlessPrinted (asked r) (status_code ending.status) (out_text ending.output ≡ [])) (sym c.in-Replay.is)
    (nothing_due input file (traced_asked request.trace kept) _ _ _ (c.traced-in-Replay.ensures input file kept (c.filed-ending-in-Replay.ensures input file what (c.lined_if-ending-in-Replay.ensures input file plain c.replay_ending-ending.ensures))))

pub returns-in-Plain-clause-nothing : goal.returns-in-Plain-clause-nothing
returns-in-Plain-clause-nothing g c =
    let request = c.in-Plain.plain in
    let input = g.H.Host.input c.args.host.now in
    let file = g.H.Host.file c.args.host.now in
    let what = plain_printed_asked request.is_json request in
    let ending = c.filed.result in
    subst (λ r. UnlessPrinted (asked r) (status_code ending.status) (out_text ending.output ≡ [])) (sym c.in-Plain.is)
    (nothing_due input file (filed_asked request.files_to what) _ _ _ (c.filed.ensures input file what c.plain_ending-ending.ensures))

pub returns-in-Explore-clause-nothing : goal.returns-in-Explore-clause-nothing
returns-in-Explore-clause-nothing g c =
    let request = c.in-Explore.explore in
    let ending = c.explore_ending.result in
    subst (λ r. UnlessPrinted (asked r) (status_code ending.status) (out_text ending.output ≡ [])) (sym c.in-Explore.is)
    (nothing_due (g.H.Host.input c.args.host.now) (g.H.Host.file c.args.host.now) (explore_asked request) _ _ _ c.explore_ending.ensures)

pub returns-in-Check-clause-nothing : goal.returns-in-Check-clause-nothing
returns-in-Check-clause-nothing g c =
    let request = c.in-Check.check in
    let ending = c.check_ending.result in
    subst (λ r. UnlessPrinted (asked r) (status_code ending.status) (out_text ending.output ≡ [])) (sym c.in-Check.is)
    (nothing_due (g.H.Host.input c.args.host.now) (g.H.Host.file c.args.host.now) (json_asked request.is_json (check_asked request.counts_turns request.tells_room request)) _ _ _ c.check_ending.ensures)

pub returns-in-Explain-clause-nothing : goal.returns-in-Explain-clause-nothing
returns-in-Explain-clause-nothing g c =
    let request = c.in-Explain.explain in
    let ending = c.explain_ending.result in
    subst (λ r. UnlessPrinted (asked r) (status_code ending.status) (out_text ending.output ≡ [])) (sym c.in-Explain.is)
    (nothing_due (g.H.Host.input c.args.host.now) (g.H.Host.file c.args.host.now) (explain_told_asked request.fixes request) _ _ _ c.explain_ending.ensures)

pub returns-in-Draw-clause-nothing : goal.returns-in-Draw-clause-nothing
returns-in-Draw-clause-nothing g c =
    let ending = c.draw_ending.result in
    subst (λ r. UnlessPrinted (asked r) (status_code ending.status) (out_text ending.output ≡ [])) (sym c.in-Draw.is)
    (nothing_due (g.H.Host.input c.args.host.now) (g.H.Host.file c.args.host.now) asks_draw _ _ _ c.draw_ending.ensures)
