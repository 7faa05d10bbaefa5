use Rattle.std.proofs.Common.{Some, refl, subst, sym}
use Rattle.script_load.specs.Line.{lines_of}
use Rattle.every_order.specs.Known.{IsKnown}
use Rattle.xvsh_plain.specs.Reasoned.{IsKnownIf}
use Rattle.xvsh_plain.proofs.running.known_of.Goals as goal

pub returns-in_ok-known : goal.returns-in_ok-known
returns-in_ok-known c =
    let start = c.args.start.now in
    let profile = start.script.profile in
    let lines = lines_of start.script.lines in
    let found = c.in_ok-known.known in
    subst (λ is. IsKnownIf is profile lines start.stdin.items start.files (Some found)) (sym c.if-is_asked.true)
    (found, refl, subst (λ s. IsKnown profile lines s start.files found) c.as_slice-stdin.ensures.value c.in_ok-known.ensures)
