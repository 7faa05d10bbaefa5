use Rattle.std.proofs.Common.{◌≡◌, ◌↔◌, ◌<◌, ◌+◌, false, length, drop, get_or, ap, arith, subst}
use Rattle.std.specs.Prelude.{map}
use Rattle.conflict_check.specs.Clear.{has_back, IsClear}
use Rattle.script_load.specs.Line.{line_of}
use Rattle.meaning_model.specs.Meaning.{line_tree}
use Rattle.plain_run.proofs.Lines.{next_line}
use Rattle.plain_run.proofs.SettledLines.{AreClearLines, clear_more}
use Rattle.plain_run.proofs.line_verdicts.are_clear.Goals as goal

pub loop-line-preserved : goal.loop-line-preserved
loop-line-preserved g c =
    let lines = c.args.lines.now in
    let i = c.loop-line.line-index in
    let d = c.line-item.result in
    let inside : i < length lines = omega arith in
    clear_more (map line_of lines) (line_of (get_or lines i d)) (map line_of (drop (i + 1) lines))
    (subst (λ ls. AreClearLines (map line_of lines) ↔ AreClearLines ls) (next_line lines i d inside) c.loop-line.invariant)
    (subst (λ l. (has_back (line_tree l) ≡ false) × IsClear (line_tree l)) (ap line_of c.line-item.is) (c.is_clear.ensures.0 c.if-not-is_clear.false))
