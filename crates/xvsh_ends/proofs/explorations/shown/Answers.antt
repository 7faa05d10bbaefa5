use Rattle.script_load.specs.Line.{lines_of}
use Rattle.xvsh_explores.specs.Explores.{RanExplore, no_memory}
use Rattle.xvsh_ends.specs.Ends.{explored}
use Rattle.xvsh_ends.specs.Requests.{explore_alone_asked, explore_plainly_asked, explore_told_asked}
use Rattle.xvsh_ends.proofs.Dues.{due_paired}
use Rattle.xvsh_ends.proofs.explorations.shown.Goals as goal

pub returns-in-Err : goal.returns-in-Err
returns-in-Err g c = c.refused.ensures (g.H.Host.input c.args.host.now) (g.H.Host.file c.args.host.now) c.in-Err.ensures.fault

pub returns-in-Err-show : goal.returns-in-Err-show
returns-in-Err-show g c = c.refused-in-Err-show.ensures (g.H.Host.input c.args.host.now) (g.H.Host.file c.args.host.now) no_memory

pub returns : goal.returns
returns g c =
    let input = g.H.Host.input c.args.host.now in
    let file = g.H.Host.file c.args.host.now in
    let request = c.args.request.now in
    let start = c.in-Ok.explored.start in
    let ran : RanExplore input file request.source.profile request.source.script.now request.source.files.now request.states request.is_thorough c.in-Ok.explored.found = record {
      lines = lines_of start.script.lines;
      given = start.files;
      stdin = start.stdin.items;
      starts = c.in-Ok.ensures.starts;
      is = c.in-Ok.ensures.found;
    } in
    c.valued_if.ensures input file (explore_told_asked request)
    (c.written-ending.ensures input file (explore_plainly_asked request) (λ text conclusion concludes. due_paired input file (explore_alone_asked request) request.pair _ _ _ (explored c.in-Ok.explored.found conclusion ran concludes)))
