use Rattle.std.proofs.Common.{◌↔◌, ◌<◌, ◌+◌, ◌∙◌, [], length, drop, get_or, sym, ap, arith, subst}
use Rattle.std.specs.Prelude.{IfSome, IsNone, map, All}
use Rattle.std.proofs.lemmas.List.{get_or-map, length-map}
use Rattle.std.proofs.lemmas.List.Elements.{All-nil}
use Rattle.conflict_check.specs.Clash.{IsFirstClash}
use Rattle.conflict_check.specs.Clear.{has_back, IsClear}
use Rattle.prog_parts.specs.Program.{is_empty}
use Rattle.script_load.specs.Line.{line_of, cd}
use Rattle.meaning_model.specs.Meaning.{line_tree}
use Rattle.plain_run.specs.Reasons.{IsReason}
use Rattle.plain_run.proofs.Lines.{next_line, no_line}
use Rattle.plain_run.proofs.Telling.{ClearTo, clear_all, clear_each, clear_none, clear_one}
use Rattle.plain_run.proofs.line_verdicts.clear_reasons.Goals as goal

pub loop-i-init : goal.loop-i-init
loop-i-init g c = record {
  each = λ profile input F. subst (All (IsReason profile (map line_of c.args.lines.now) input F)) (sym c.new-reasons.ensures.items) (All-nil (IsReason profile (map line_of c.args.lines.now) input F));
  none = clear_none (map line_of c.args.lines.now) c.new-reasons.result.items c.new-reasons.ensures.items;
}

pub loop-i-preserved : goal.loop-i-preserved
loop-i-preserved g c =
    let lines = c.args.lines.now in
    let i = c.loop-i.i in
    let line = c.index-lines-i.result in
    let inside : i < length lines = omega arith in
    let here = ap line_of c.index-lines-i.is in
    let at = here ∙ sym (get_or-map line_of lines i line (cd []) inside) in
    let clash = c.line_clash.result in
    record {
      each = λ profile input F. clear_each profile (map line_of lines) input F i c.line_has_back.result clash c.loop-i.reasons.items c.add_background.new.reasons.items c.add_clash.new.reasons.items
          (subst (λ n. i < n) (sym (length-map lines line_of)) inside)
          (c.line_has_back.ensures ∙ ap (λ l. has_back (line_tree l)) at)
          (subst (λ l. IfSome clash (λ one. IsFirstClash (line_tree l) one.kind one.name.now)) at c.line_clash.ensures.some)
          c.in_ok-add_background.ensures c.in_ok-add_clash.ensures (c.loop-i.invariant.each profile input F);
      none = clear_one (map line_of lines) (line_of (get_or lines i line)) (map line_of (drop (i + 1) lines)) (i + 1) c.line_has_back.result clash c.loop-i.reasons.items c.add_background.new.reasons.items c.add_clash.new.reasons.items
          (c.line_has_back.ensures ∙ ap (λ l. has_back (line_tree l)) here)
          (subst (λ l. IsNone clash ↔ IsClear (line_tree l)) here c.line_clash.ensures.none)
          c.in_ok-add_background.ensures c.in_ok-add_clash.ensures
          (subst (λ ls. ClearTo (map line_of lines) (is_empty c.loop-i.reasons.items) ls) (next_line lines i line inside) c.loop-i.invariant.none);
    }

pub returns : goal.returns
returns g c = record {
  each = c.loop-i.invariant.each;
  none = clear_all (map line_of c.args.lines.now) (map line_of (drop c.loop-i.i c.args.lines.now)) (is_empty c.loop-i.reasons.items) (no_line c.args.lines.now c.loop-i.i (omega arith)) c.loop-i.invariant.none;
}
