use Rattle.std.proofs.Common.{subst}
use Rattle.script_load.specs.Line.{lines_of}
use Rattle.script_outcomes.specs.Found.{IsFound}
use Rattle.xvsh_explores.proofs.Limits.{found_as_asked}
use Rattle.xvsh_explores.proofs.exploring.explore_start.Goals as goal

pub returns-in-Ok-clause-found : goal.returns-in-Ok-clause-found
returns-in-Ok-clause-found g c =
    let start = c.args.start.now in
    let limits = c.limits_of.result in
    let request = c.args.request.now in
    let found = subst (λ (bytes : _). IsFound start.script.profile (lines_of start.script.lines) bytes start.files limits.states limits.is_thorough c.in-Ok.found) c.as_slice.ensures.value c.in-Ok.ensures.found in
    found_as_asked start.script.profile (lines_of start.script.lines) start.stdin.items start.files limits.states request.states limits.is_thorough request.is_thorough c.in-Ok.found c.limits_of.ensures.states c.limits_of.ensures.settled found
