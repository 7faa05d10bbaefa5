use Rattle.std.proofs.Common.{◌≡◌, Ok, true, sym, ◌∙◌, ap, subst}
use Rattle.std.specs.Fmt.{decimal}
use Rattle.std.specs.Str.{IsAscii, bytes_eq}
use Rattle.std.proofs.lemmas.Bool.{false≢true}
use Rattle.std.proofs.lemmas.Fmt.{IsAscii-decimal, parse-decimal}
use Rattle.std.proofs.lemmas.Slice.Eq.{bytes_eq-Decides}
use Rattle.std.proofs.lemmas.Str.{IsUtf8-from_ascii}
use Rattle.schedule_lines.proofs.reading.number_of.Goals as goal

pub returns-in_default-clause-none : goal.returns-in_default-clause-none
returns-in_default-clause-none c number small is =
    c.in_default.ensures.cases.0 (IsUtf8-from_ascii c.args.text.now (subst IsAscii (sym is) (IsAscii-decimal number small)))

pub returns-in_default-parse-clause-none : goal.returns-in_default-parse-clause-none
returns-in_default-parse-clause-none c number small is =
    let read : c.parse.result ≡ Ok number = parse-decimal 64 number c.in-Ok.text.now c.parse.result small small (c.in-Ok.ensures.cases.0 ∙ is) c.parse.ensures.value.0 in
    cc

pub returns-else-eq-clause-none : goal.returns-else-eq-clause-none
returns-else-eq-clause-none c number small is =
    let read : c.parse.result ≡ Ok number = parse-decimal 64 number c.in-Ok.text.now c.parse.result small small (c.in-Ok.ensures.cases.0 ∙ is) c.parse.ensures.value.0 in
    let own : c.in-Ok-parse.number ≡ number = cc in
    let same : c.format.result.now ≡ c.in-Ok.text.now = c.format.ensures.text ∙ ap decimal own ∙ sym (c.in-Ok.ensures.cases.0 ∙ is) in
    let tests : c.eq.result ≡ bytes_eq c.format.result.now c.in-Ok.text.now = c.eq.ensures in
    false≢true (sym c.if-eq.false ∙ tests ∙ (bytes_eq-Decides c.format.result.now c.in-Ok.text.now).1 same)
