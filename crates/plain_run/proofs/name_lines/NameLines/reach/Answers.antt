-- The span that is put in reaches from the first line so far to this one.
use Rattle.std.proofs.Common.{rules, ◌≡◌, ◌∙◌, ap, cond, Some}
use Rattle.std.specs.Str.{bytes_eq}
use Rattle.std.specs.Ordering.{is_eq, nat_cmp}
use Rattle.std.specs.Cmp.Lexicographic.{slice_cmp}
use Rattle.std.specs.Map.{lookup}
use Rattle.std.specs.BTreeMap.{insert_entry}
use Rattle.std.proofs.lemmas.Slice.Eq.{bytes_eq-Decides}
use Rattle.plain_run.specs.Spans.{span_of, reach}
use Rattle.plain_run.proofs.Spans.{put_in, put_span, from_to, from_held, from_none}
use Rattle.plain_run.proofs.name_lines.NameLines.reach.Goals.{in-Some, in-None}
use Rattle.plain_run.proofs.name_lines.NameLines.reach.Goals as goal

pub returns : goal.returns
returns g c =
    let key = c.in_ok-to_vec.field-0 in
    let line = c.args.line in
    let name = c.args.name.now in
    let old = c.args.self.now in
    let span = from_to c.match-get.first line in
    let items : key.items ≡ name = search rules in
    let begun : c.match-get.self ≡ old = elim c.match-get.branch [
      | in-Some w ↦ w.self-is
      | in-None w ↦ w.self-is
    ] in
    let is : span ≡ reach line (span_of old name) = elim c.match-get.branch [
      | in-Some w ↦ from_held c.match-get.first line w.in-Some.span.now (span_of old name) w.first-is w.in-Some.ensures.value
      | in-None w ↦ from_none c.match-get.first line (span_of old name) w.first-is w.in-None.ensures.value
    ] in
    λ other. ap (lookup (λ k. is_eq (slice_cmp nat_cmp other k.items))) (c.in_ok-insert.ensures.entries ∙ ap (λ s. insert_entry (λ a b. slice_cmp nat_cmp a.items b.items) s.spans.entries key span) begun)
    ∙ put_in (λ k. k.items) other old.spans.entries key span
    ∙ ap (λ n. cond (bytes_eq other n) (Some span) (span_of old other)) items
    ∙ put_span line (bytes_eq other name) (span_of old other) (span_of old name) span (λ e. ap (span_of old) ((bytes_eq-Decides other name).0 e)) is
