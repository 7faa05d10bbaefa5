use Rattle.std.proofs.Common.{◌≡◌, ◌∙◌, sym, ap, subst, arith, length, []}
use Rattle.std.specs.Ordering.{is_eq, nat_cmp}
use Rattle.std.specs.Cmp.Lexicographic.{slice_cmp}
use Rattle.std.specs.Map.{lookup}
use Rattle.std.proofs.lemmas.List.{get_or-map}
use Rattle.conflict_check.specs.Names.{names}
use Rattle.script_load.specs.Line.{line_of, cd}
use Rattle.meaning_model.specs.Meaning.{line_tree}
use Rattle.plain_run.specs.Spans.{Reaches, has_at, span_of}
use Rattle.plain_run.proofs.Spans.{reaches_more}
use Rattle.plain_run.proofs.name_lines.NameLines.of.Goals as goal

pub loop-at-init : goal.loop-at-init
loop-at-init g c = λ name.
    subst (Reaches (has_at c.args.lines.now name) 0) (sym (ap (lookup (λ k. is_eq (slice_cmp nat_cmp name k.items))) c.new.ensures.empty)) (λ k low. absurd (omega arith))

pub loop-at-preserved : goal.loop-at-preserved
loop-at-preserved g c = λ name.
    let lines = c.args.lines.now in
    let i = c.loop-at.at in
    let line = c.index-lines-at.result in
    let here : names (line_tree (line_of line)) name ≡ has_at lines name i = ap (λ l. names (line_tree l) name) (ap line_of c.index-lines-at.is ∙ sym (get_or-map line_of lines i line (cd []) (omega arith))) in
    reaches_more (has_at lines name) i (names (line_tree (line_of line)) name) (span_of c.loop-at.index name) (span_of c.reach_line.new.self name) here (c.in_ok-reach_line.ensures name) (c.loop-at.invariant name)

pub returns : goal.returns
returns g c = λ name.
    let all : c.loop-at.at ≡ length c.args.lines.now = omega arith in
    subst (λ n. Reaches (has_at c.args.lines.now name) n (span_of c.loop-at.index name)) all (c.loop-at.invariant name)
