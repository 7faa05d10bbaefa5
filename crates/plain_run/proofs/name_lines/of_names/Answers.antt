use Rattle.std.proofs.Common.{◌≡◌, ◌∙◌, ◌+◌, true, refl, sym, ap, subst, arith, drop, take, get_or, length}
use Rattle.std.specs.Prelude.{All}
use Rattle.prog_parts.specs.NameSets.{among, both}
use Rattle.plain_run.specs.Spans.{all_names, has_at, other_line, span_of}
use Rattle.plain_run.specs.Told.{IsBeside, is_some}
use Rattle.plain_run.proofs.Beside.{among_here, each_beside, met_more, other_fits}
use Rattle.plain_run.proofs.Spans.{AreOther, other_is, other_told}
use Rattle.plain_run.proofs.name_lines.of_names.Goals as goal

pub add_beside-requires : goal.add_beside-requires
add_beside-requires g c =
    let lines = c.args.lines.now in
    let name = c.as_slice.result.now in
    let found = subst (AreOther (has_at lines name) (length lines) c.args.at) (sym c.other_line-other.ensures) (other_is (has_at lines name) (length lines) c.args.at (span_of c.args.spans.now name) (c.requires.told name)) in
    other_fits (has_at lines name) (length lines) c.args.at c.other_line-other.result found (omega arith)

pub loop-name-preserved : goal.loop-name-preserved
loop-name-preserved g c =
    let lines = c.args.lines.now in
    let at = c.args.at in
    let soft = c.args.names.now in
    let i = c.loop-name.name-index in
    let name = c.as_slice-in-loop-name.result.now in
    let span = span_of c.args.spans.now name in
    let other = c.other_line-other.result in
    let here : name ≡ get_or soft i c.name-item.result = c.as_slice-in-loop-name.ensures ∙ c.name-item.is in
    let is : other ≡ other_line at span = c.other_line-other.ensures ∙ ap (λ n. other_line at (span_of c.args.spans.now n)) (c.as_slice.ensures ∙ sym c.as_slice-in-loop-name.ensures) in
    let found = subst (AreOther (has_at lines name) (length lines) at) (sym is) (other_is (has_at lines name) (length lines) at span (c.requires.told name)) in
    let one = subst (λ n. among soft n ≡ true) (sym here) (among_here soft i c.name-item.result (omega arith)) in
    record {
      each = subst (All (IsBeside lines at soft)) (sym c.in_ok-add_beside.ensures) (each_beside lines at soft name other (at + 1) c.loop-name.reasons.items refl one found c.loop-name.invariant.each);
      met = met_more (both (all_names (drop (at + 1) lines)) (all_names (take at lines))) soft i c.name-item.result name other (at + 1) c.loop-name.reasons.items c.add_beside.new.reasons.items (omega arith) here c.in_ok-add_beside.ensures (ap is_some is ∙ other_told lines name at span (c.requires.told name)) c.loop-name.invariant.met;
    }
