use Rattle.std.proofs.Common.{◌≡◌, ◌∙◌, ◌+◌, ◌<◌, true, false, length, get_or, drop, sym, ap, arith}
use Rattle.std.specs.Prelude.{◌||◌, map}
use Rattle.prog_parts.specs.NameSets.{among}
use Rattle.room_model.specs.Files.{names_written}
use Rattle.meaning_model.specs.Meaning.{line_tree}
use Rattle.script_load.specs.Line.{line_of}
use Rattle.room_bounds.specs.Growth.{is_written}
use Rattle.room_bounds.proofs.Names.{next_line, no_line, some_line}
use Rattle.room_bounds.proofs.grown.is_written.Goals as goal

pub returns-then-line_writes : goal.returns-then-line_writes
returns-then-line_writes g c =
    let lines = c.args.lines.now in
    let name = c.args.name.now in
    let i = c.loop-line.line-index in
    let item = c.line-item.result in
    let inside : i < length lines = omega arith in
    let later = map line_of (drop (i + 1) lines) in
    let here : among (names_written (line_tree (line_of (get_or lines i item)))) name ≡ true =
    ap (λ l. among (names_written (line_tree (line_of l))) name) (sym c.line-item.is) ∙ (sym c.line_writes.ensures ∙ c.if-line_writes.true) in
    sym (ap (λ b. b || is_written later name) here) ∙ (sym (some_line name (line_of (get_or lines i item)) later) ∙ (ap (λ ls. is_written ls name) (sym (next_line lines i item inside)) ∙ c.loop-line.invariant))

pub loop-line-preserved : goal.loop-line-preserved
loop-line-preserved g c =
    let lines = c.args.lines.now in
    let name = c.args.name.now in
    let i = c.loop-line.line-index in
    let item = c.line-item.result in
    let inside : i < length lines = omega arith in
    let later = map line_of (drop (i + 1) lines) in
    let here : among (names_written (line_tree (line_of (get_or lines i item)))) name ≡ false =
    ap (λ l. among (names_written (line_tree (line_of l))) name) (sym c.line-item.is) ∙ (sym c.line_writes.ensures ∙ c.if-line_writes.false) in
    sym (ap (λ b. b || is_written later name) here) ∙ (sym (some_line name (line_of (get_or lines i item)) later) ∙ (ap (λ ls. is_written ls name) (sym (next_line lines i item inside)) ∙ c.loop-line.invariant))

pub returns : goal.returns
returns g c = sym (ap (λ ls. is_written ls c.args.name.now) (no_line c.args.lines.now c.loop-line.line-index c.loop-line-test.false)) ∙ c.loop-line.invariant
