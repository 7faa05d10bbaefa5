use Rattle.xvsh_ends.specs.Requests.{explore_told_asked, json_asked, traced_asked}
use Rattle.xvsh_ends.proofs.explorations.explore_ending.Goals as goal

pub returns : goal.returns
returns g c =
    let request = c.args.request.now in
    let input = g.H.Host.input c.args.host.now in
    let file = g.H.Host.file c.args.host.now in
    c.play.ensures input file (traced_asked request.draw (json_asked request.is_json (explore_told_asked request)))
    (c.drawn-drawn.ensures input file (json_asked request.is_json (explore_told_asked request)) c.shown-ending.ensures)
