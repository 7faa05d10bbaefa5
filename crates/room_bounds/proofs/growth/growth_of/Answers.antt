use Rattle.std.proofs.Common.{ℕ, ◌≤◌, ◌<◌, sym, subst, arith}
use Rattle.std.specs.Prelude.{IfNone}
use Rattle.mem_files.specs.Files.{files}
use Rattle.script_load.specs.Line.{lines_of}
use Rattle.room_bounds.specs.Growth.{IsGrowth}
use Rattle.room_bounds.specs.declared.capped_growth.TheConstants.{MAX_GROWTH}
use Rattle.room_bounds.proofs.Growths.{after, first_least, least, never}
use Rattle.room_bounds.proofs.growth.growth_of.Goals as goal

pub returns-in_err-first-clause-none : goal.returns-in_err-first-clause-none
returns-in_err-first-clause-none g c =
    let lines = lines_of c.args.script.now.lines in
    let input = c.args.stdin.now in
    let F = files c.args.store.now in
    let none : (other : ℕ) → IsGrowth lines input F other → MAX_GROWTH < other = λ other enough. omega (arith, c.in_err-first.ensures, first_least lines input F other enough) in
    subst (λ r. IfNone r ((other : ℕ) → IsGrowth lines input F other → MAX_GROWTH < other)) (sym c.from_residual.ensures) none

pub returns-in_err-second-clause-none : goal.returns-in_err-second-clause-none
returns-in_err-second-clause-none g c =
    let lines = lines_of c.args.script.now.lines in
    let input = c.args.stdin.now in
    let F = files c.args.store.now in
    let first = c.in_ok-first.first in
    let more : first < after lines input F first = omega (arith, c.in_err-second.ensures, c.in_ok-first.ensures.0, c.in_ok-first.ensures.1) in
    let none : (other : ℕ) → IsGrowth lines input F other → MAX_GROWTH < other = λ other enough. absurd (never lines input F first c.in_ok-first.ensures.0 more other enough) in
    subst (λ r. IfNone r ((other : ℕ) → IsGrowth lines input F other → MAX_GROWTH < other)) (sym c.from_residual-in_err-second.ensures) none

pub returns-then-second-first-clause-some : goal.returns-then-second-first-clause-some
returns-then-second-first-clause-some g c =
    let lines = lines_of c.args.script.now.lines in
    let input = c.args.stdin.now in
    let F = files c.args.store.now in
    let first = c.in_ok-first.first in
    let enough : after lines input F first ≤ first = omega (arith, c.in_ok-second.ensures.0, c.if-second-first.true) in
    least lines input F first c.in_ok-first.ensures.0 enough

pub returns-else-second-first-clause-none : goal.returns-else-second-first-clause-none
returns-else-second-first-clause-none g c other enough =
    let lines = lines_of c.args.script.now.lines in
    let input = c.args.stdin.now in
    let F = files c.args.store.now in
    let first = c.in_ok-first.first in
    let more : first < after lines input F first = omega (arith, c.in_ok-second.ensures.0, c.if-second-first.false) in
    absurd (never lines input F first c.in_ok-first.ensures.0 more other enough)
