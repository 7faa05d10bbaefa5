use Rattle.std.proofs.Common.{◌≡◌, ℕ, true, length, sym, arith, rules}
use Rattle.std.specs.Prelude.{◌==◌}
use Rattle.std.proofs.lemmas.Bool.Decides.{nat_tests}
use Rattle.schedule_lines.specs.EventLines.{IsScheduleFault}
use Rattle.schedule_lines.proofs.Cutting.{at_fault, reading_first, reading_next, line_fault, all_lines}
use Rattle.schedule_lines.proofs.reading.read_schedule.Goals as goal

pub returns-in_err-add_line-clause-fault : goal.returns-in_err-add_line-clause-fault
returns-in_err-add_line-clause-fault c =
    at_fault c.from_residual.result _ (IsScheduleFault c.args.bytes.now) c.from_residual.ensures.1 (line_fault c.args.bytes.now c.loop-rest.rest.now c.first_line.result.0.now c.first_line.result.1.now c.loop-rest.count c.loop-rest.events.items c.loop-rest.invariant c.first_line.ensures _ c.in_err-add_line.ensures.fault)

pub loop-rest-init : goal.loop-rest-init
loop-rest-init c = reading_first c.args.bytes.now c.new-events.result.items (search rules)

pub loop-rest-preserved : goal.loop-rest-preserved
loop-rest-preserved c =
    reading_next c.args.bytes.now c.loop-rest.rest.now c.first_line.result.0.now c.first_line.result.1.now c.loop-rest.count c.loop-rest.events.items c.loop-rest.invariant c.first_line.ensures c.add_line.new.events.items c.in_ok-add_line.ensures.added

zero : (n : ℕ) → true ≡ (n == 0) → n ≡ 0
zero n is = let test : (n == 0) ≡ true = sym is in grind (arith, nat_tests)

pub returns-clause-lines : goal.returns-clause-lines
returns-clause-lines c =
    all_lines c.args.bytes.now c.loop-rest.rest.now c.loop-rest.count c.loop-rest.events.items c.loop-rest.invariant (zero (length c.loop-rest.rest.now) c.loop-rest-test.ensures)
