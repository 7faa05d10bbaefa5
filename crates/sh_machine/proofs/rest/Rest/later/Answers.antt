use Rattle.std.proofs.Common.{subst, map}
use Rattle.script_load.specs.Line.{line_of}
use Rattle.sh_machine.specs.End.{IsEnd}
use Rattle.sh_machine.proofs.Ends.{end_tail}
use Rattle.sh_machine.proofs.rest.Rest.later.Goals as goal

pub invariant_of-result : goal.invariant_of-result
invariant_of-result g c =
    let script = g.N.Naming.script in
    let split = c.in-Some.ensures.cases.0 in
    let whole : IsEnd script (map line_of c.args.self.now.lines.now) = c.args.self.now.end in
    record { end = end_tail script (line_of c.in-Some.field-0-0.now) (map line_of c.in-Some.lines.now) (subst (λ ls. IsEnd script (map line_of ls)) split whole) }
