use Rattle.std.proofs.Common.{◌≡◌, suc, ◌+◌, ◌<◌, ◌++◌, take, drop, length, ap, subst, sym, ◌∙◌, arith}
use Rattle.std.proofs.lemmas.Bool.{ne_eqb}
use Rattle.grep_match.specs.Pattern.{items_of}
use Rattle.grep_match.specs.Literal.{is_literal, ones}
use Rattle.grep_match.proofs.LiteralSearch.{byte_joins, items_join, literal_joins}
use Rattle.grep_match.proofs.literal.literal_len.Goals as goal

pub loop-byte-preserved : goal.loop-byte-preserved
loop-byte-preserved c =
    let byte = c.in-Some-One-default.byte in
    let items = c.args.items.now in
    let count = c.loop-byte.count in
    let rest = c.in-Some-One-default.rest.now in
    let one = c.in-Some-One-default.field-0-0-is in
    let cut = c.in-Some-One-default.ensures.one byte one in
    let before = c.loop-byte.invariant in
    let within : count < length items = omega (arith, ap length cut, before.passed) in
    let next : suc count ≡ count + 1 = omega arith in
    let joined = byte_joins byte items c.loop-byte.left.now rest count within before.rest cut in record {
      passed = omega (arith, ap length cut, before.passed);
      rest = joined.1 ∙ ap (λ n. drop n items) next;
      split = items_join byte c.in-Some-One-default.field-0-0 items (take count items) c.loop-byte.left.now rest before.split c.in-Some-One-default.ensures.split one
          ∙ ap (λ z. ones z ++ items_of rest) (sym joined.0 ∙ ap (λ n. take n items) next);
      literal = subst is_literal (sym joined.0 ∙ ap (λ n. take n items) next) (literal_joins byte (take count items) before.literal (ne_eqb byte 46 c.if-byte-eq46.false));
    }
