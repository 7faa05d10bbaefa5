use Rattle.std.proofs.Common.{arith}
use Rattle.std.specs.Prelude.{map}
use Rattle.std.proofs.lemmas.List.{map-append}
use Rattle.script_load.specs.Line.{line_of}
use Rattle.prog_parts.proofs.Cuts.{first_line_shorter}
use Rattle.script_load.proofs.Reading.{read_none, read_one, read_all}
use Rattle.script_load.proofs.SmallLines.{script_small}
use Rattle.script_load.proofs.loading.read_script.Goals as goal

pub loop-text-init : goal.loop-text-init
loop-text-init g c = rw c.new-lines.ensures.items (read_none c.args.bytes.now)

pub loop-text-smaller : goal.loop-text-smaller
loop-text-smaller g c = omega (arith, first_line_shorter c.loop-text.rest.now c.in-Some.text.now c.in-Some.after.now c.in-Some.ensures.some)

pub loop-text-preserved : goal.loop-text-preserved
loop-text-preserved g c =
    rw (c.in_ok-push.ensures.items, map-append line_of)
    (read_one c.args.bytes.now c.loop-text.rest.now c.in-Some.text.now c.in-Some.after.now (map line_of c.loop-text.lines.items) (line_of c.in_ok-read_line.field-0) c.loop-text.invariant c.in-Some.ensures.some c.in_ok-read_line.ensures)

pub invariant_of-result : goal.invariant_of-result
invariant_of-result g c =
    let script = read_all c.args.bytes.now c.loop-text.rest.now (map line_of c.loop-text.lines.items) c.loop-text.invariant c.in_default.ensures.none c.requires in
    record { small = rw c.from_vec.ensures (script_small c.args.bytes.now (map line_of c.loop-text.lines.items) script) }

pub returns-clause-script : goal.returns-clause-script
returns-clause-script g c =
    rw c.from_vec.ensures (read_all c.args.bytes.now c.loop-text.rest.now (map line_of c.loop-text.lines.items) c.loop-text.invariant c.in_default.ensures.none c.requires)
