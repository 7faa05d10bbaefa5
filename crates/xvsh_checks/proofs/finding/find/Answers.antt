use Rattle.std.proofs.Common.{◌≡◌, ◌∙◌, ◌&&◌, ◌+◌, ◌<◌, length, drop, ap, sym, subst, arith, refl}
use Rattle.std.specs.Prelude.{map, ◌↔◌, IsTrue}
use Rattle.script_load.specs.Line.{line_of}
use Rattle.script_notes.proofs.Reading.{line_left, none_left}
use Rattle.xvsh_checks.specs.Check.{AreHarmless}
use Rattle.xvsh_checks.specs.Findings.{AreFindings}
use Rattle.xvsh_checks.proofs.Adding.{Completes, Decides, found_none, found_one, found_all, harmless_one, harmless_all}
use Rattle.xvsh_checks.proofs.finding.find.Goals as goal
use Rattle.xvsh_checks.proofs.finding.find.Goals.{then-is_harmless, else-is_harmless}

pub loop-i-init : goal.loop-i-init
loop-i-init c = (found_none (map line_of c.as_slice-line-items.result.now) c.new-list.result.items c.new-list.ensures.items, (λ p. p.1, λ q. (refl, q)))

pub loop-i-preserved : goal.loop-i-preserved
loop-i-preserved c =
    let lines = c.as_slice-line-items.result.now in
    let line = line_of c.line-item.result in
    let inside : c.loop-i.i < length lines = omega arith in
    let cut = line_left lines c.loop-i.i c.line-item.result inside c.line-item.is in
    let later = map line_of (drop (c.loop-i.i + 1) lines) in
    let found = subst (λ ls. Completes (map line_of lines) (c.loop-i.i + 1) ls c.loop-i.list.items) cut c.loop-i.invariant.0 in
    let fine = subst (λ ls. Decides c.args.is_strict (map line_of lines) ls c.loop-i.is_harmless) cut c.loop-i.invariant.1 in
    let first = c.in_ok-is_fine.ensures.added in
    let joined : c.if-is_harmless.is_harmless ≡ (c.loop-i.is_harmless && c.in_ok-is_fine.is_fine) = elim c.if-is_harmless.branch [ then-is_harmless w ↦ w.is_harmless-is ∙ ap (λ b. b && c.in_ok-is_fine.is_fine) (sym w.if-is_harmless.true) | else-is_harmless w ↦ w.is_harmless-is ∙ w.if-is_harmless.false ∙ ap (λ b. b && c.in_ok-is_fine.is_fine) (sym w.if-is_harmless.false) ] in (
      found_one (map line_of lines) later line (c.loop-i.i + 1) c.loop-i.list.items first.0 c.find_in_line.new.found.items found first.1 first.2,
      subst (Decides c.args.is_strict (map line_of lines) later) (sym joined) (harmless_one c.args.is_strict (map line_of lines) later line c.loop-i.is_harmless c.in_ok-is_fine.is_fine fine c.in_ok-is_fine.ensures.harmless),
    )

pub returns-clause-found : goal.returns-clause-found
returns-clause-found c =
    subst (λ ls. AreFindings 1 ls c.loop-i.list.items) c.as_slice-line-items.ensures
    (found_all (map line_of c.as_slice-line-items.result.now) (map line_of (drop c.loop-i.i c.as_slice-line-items.result.now)) (c.loop-i.i + 1) c.loop-i.list.items (none_left c.as_slice-line-items.result.now c.loop-i.i (omega arith)) c.loop-i.invariant.0)

pub returns-clause-harmless : goal.returns-clause-harmless
returns-clause-harmless c =
    subst (λ ls. IsTrue c.loop-i.is_harmless ↔ AreHarmless c.args.is_strict ls) c.as_slice-line-items.ensures
    (harmless_all c.args.is_strict (map line_of c.as_slice-line-items.result.now) (map line_of (drop c.loop-i.i c.as_slice-line-items.result.now)) c.loop-i.is_harmless (none_left c.as_slice-line-items.result.now c.loop-i.i (omega arith)) c.loop-i.invariant.1)
