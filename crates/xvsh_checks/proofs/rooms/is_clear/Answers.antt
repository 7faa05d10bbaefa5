use Rattle.std.proofs.Common.{◌≡◌, ◌+◌, ◌<◌, true, false, length, drop, subst, arith, refl}
use Rattle.std.specs.Prelude.{map, ◌↔◌, IsTrue}
use Rattle.script_load.specs.Line.{line_of}
use Rattle.script_notes.proofs.Reading.{line_left, none_left}
use Rattle.xvsh_checks.specs.Check.{IsHarmless}
use Rattle.xvsh_checks.proofs.Adding.{Decides, harmless_one, harmless_all}
use Rattle.xvsh_checks.proofs.rooms.is_clear.Goals as goal

pub loop-line-init : goal.loop-line-init
loop-line-init c = (λ p. p.1, λ q. (refl, q))

pub returns-then-not-is_clear_line : goal.returns-then-not-is_clear_line
returns-then-not-is_clear_line c =
    let lines = c.args.lines.now in
    let inside : c.loop-line.line-index < length lines = omega arith in
    let cut = line_left lines c.loop-line.line-index c.line-item.result inside c.line-item.is in
    let before = subst (λ ls. Decides false (map line_of lines) ls true) cut c.loop-line.invariant in
    let no : c.is_clear_line.result ≡ false = cc in
    let here = subst (λ b. IsTrue b ↔ IsHarmless false (line_of c.line-item.result)) no c.is_clear_line.ensures in
    let after = harmless_one false (map line_of lines) (map line_of (drop (c.loop-line.line-index + 1) lines)) (line_of c.line-item.result) true false before here in
    (λ yes. absurd (let z : false ≡ true = yes in let w : ⊥ = cc in w), λ all. (after.1 all).0)

pub loop-line-preserved : goal.loop-line-preserved
loop-line-preserved c =
    let lines = c.args.lines.now in
    let inside : c.loop-line.line-index < length lines = omega arith in
    let cut = line_left lines c.loop-line.line-index c.line-item.result inside c.line-item.is in
    let before = subst (λ ls. Decides false (map line_of lines) ls true) cut c.loop-line.invariant in
    let yes : c.is_clear_line.result ≡ true = cc in
    let here = subst (λ b. IsTrue b ↔ IsHarmless false (line_of c.line-item.result)) yes c.is_clear_line.ensures in
    harmless_one false (map line_of lines) (map line_of (drop (c.loop-line.line-index + 1) lines)) (line_of c.line-item.result) true true before here

pub returns : goal.returns
returns c =
    harmless_all false (map line_of c.args.lines.now) (map line_of (drop c.loop-line.line-index c.args.lines.now)) true (none_left c.args.lines.now c.loop-line.line-index (omega arith)) c.loop-line.invariant
