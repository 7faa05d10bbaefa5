use Rattle.std.proofs.Common.{◌≡◌, ◌++◌, ap, sym, ◌∙◌, take-append-drop, arith}
use Rattle.prog_parts.specs.Wc.{line_ends, words_after, ends_inside}
use Rattle.prog_parts.proofs.CountsOfParts.{line_ends_more, words_more, ends_more}
use Rattle.prog_parts.proofs.counts.count.Goals as goal

pub loop-left-preserved : goal.loop-left-preserved
loop-left-preserved c =
    let was = c.loop-left.counted.is_inside in
    let left = c.loop-left.left.now in
    let few = c.split_at.result.0.now in
    let rest = c.split_at.result.1.now in
    let before = c.loop-left.invariant in
    let parts = c.split_at.ensures in
    let counts = c.count_few-lines.ensures in
    let whole : left ≡ few ++ rest = sym (take-append-drop c.min.result left) ∙ (λ i. sym parts.front i ++ sym parts.back i) in record {
      lines = omega (arith, c.from.ensures, counts.lines, before.lines, ap line_ends whole, line_ends_more few rest);
      words = omega (
        arith,
        c.from-in-loop-left.ensures,
        counts.words,
        before.words,
        ap (words_after was) whole,
        words_more was few rest,
        ap (λ z. words_after z rest) counts.inside,
      );
      inside = ap (λ z. ends_inside z rest) counts.inside ∙ sym (ends_more was few rest) ∙ ap (ends_inside was) (sym whole) ∙ before.inside;
      few_lines = omega (arith, c.from.ensures, counts.few_lines, parts.front_len, parts.back_len, before.few_lines);
      few_words = omega (arith, c.from-in-loop-left.ensures, counts.few_words, parts.front_len, parts.back_len, before.few_words);
    }
