use Rattle.std.proofs.Common.{◌+◌, drop, subst, arith}
use Rattle.std.specs.Prelude.{map}
use Rattle.script_load.specs.Line.{line_of}
use Rattle.script_notes.specs.Values.{values_of}
use Rattle.script_notes.proofs.Reading.{IsNotedTo, not_over, next_is, noted_one, noted_all, line_left, none_left}
use Rattle.script_notes.proofs.noting.notes_of.Goals as goal

pub unreachable-requires : goal.unreachable-requires
unreachable-requires c =
    let lines = c.as_slice-line-items.result.now in
    let i = c.loop-i.i in
    let line = c.line-item.result in
    let here = subst (λ ls. IsNotedTo c.args.bytes.now c.loop-i.rest.now ls (i + 1) (values_of c.loop-i.notes.list.items)) (line_left lines i line c.loop-i-test.true c.line-item.is) c.loop-i.invariant in
    not_over c.args.bytes.now c.loop-i.rest.now (line_of line) (map line_of (drop (i + 1) lines)) (i + 1) (values_of c.loop-i.notes.list.items) here c.in_default.ensures.none

pub add_line_notes-requires : goal.add_line_notes-requires
add_line_notes-requires c =
    let lines = c.as_slice-line-items.result.now in
    let i = c.loop-i.i in
    let line = c.line-item.result in
    let here = subst (λ ls. IsNotedTo c.args.bytes.now c.loop-i.rest.now ls (i + 1) (values_of c.loop-i.notes.list.items)) (line_left lines i line c.loop-i-test.true c.line-item.is) c.loop-i.invariant in
    next_is c.args.bytes.now c.loop-i.rest.now c.in-Some.text.now c.in-Some.after.now (line_of line) (map line_of (drop (i + 1) lines)) (i + 1) (values_of c.loop-i.notes.list.items) here c.in-Some.ensures.some

pub loop-i-preserved : goal.loop-i-preserved
loop-i-preserved c =
    let lines = c.as_slice-line-items.result.now in
    let i = c.loop-i.i in
    let line = c.line-item.result in
    let here = subst (λ ls. IsNotedTo c.args.bytes.now c.loop-i.rest.now ls (i + 1) (values_of c.loop-i.notes.list.items)) (line_left lines i line c.loop-i-test.true c.line-item.is) c.loop-i.invariant in
    let found = c.in_ok-add_line_notes.ensures in
    noted_one c.args.bytes.now c.loop-i.rest.now c.in-Some.text.now c.in-Some.after.now (line_of line) (map line_of (drop (i + 1) lines)) (i + 1) (values_of c.loop-i.notes.list.items) (values_of c.add_line_notes.new.notes.list.items) found.0 here c.in-Some.ensures.some found.1 found.2

pub returns-clause-notes : goal.returns-clause-notes
returns-clause-notes c =
    noted_all c.args.bytes.now c.loop-i.rest.now (map line_of (drop c.loop-i.i c.as_slice-line-items.result.now)) (c.loop-i.i + 1) (values_of c.loop-i.notes.list.items) (none_left c.as_slice-line-items.result.now c.loop-i.i (omega arith)) c.loop-i.invariant
