use Rattle.std.proofs.Common.{◌≡◌, ◌+◌, ◌-◌, ◌*◌, take, get_or, ap, ◌∙◌, arith}
use Rattle.std.specs.Str.Parse.{digits_value}
use Rattle.prog_parts.proofs.Digits.{one_digit}
use Rattle.prog_parts.proofs.head.number_of.Goals as goal

pub loop-byte-preserved : goal.loop-byte-preserved
loop-byte-preserved c =
    let more = one_digit c.args.bytes.now c.loop-byte.byte-index c.requires (omega arith) in
    ap (λ d. c.loop-byte.number * 10 + d) c.from.ensures ∙ ap (λ n. n * 10 + (get_or c.args.bytes.now c.loop-byte.byte-index 0 - 48)) c.loop-byte.invariant ∙ more.0

pub overflow_mul-number : goal.overflow_mul-number
overflow_mul-number c =
    let more = one_digit c.args.bytes.now c.loop-byte.byte-index c.requires (omega arith) in
    let number : c.loop-byte.number ≡ digits_value 10 (take c.loop-byte.byte-index c.args.bytes.now) = c.loop-byte.invariant in
    omega (arith, more.0, more.1, number)

pub overflow_add-number : goal.overflow_add-number
overflow_add-number c =
    let more = one_digit c.args.bytes.now c.loop-byte.byte-index c.requires (omega arith) in
    let number : c.loop-byte.number ≡ digits_value 10 (take c.loop-byte.byte-index c.args.bytes.now) = c.loop-byte.invariant in
    omega (arith, more.0, more.1, number, c.from.ensures)
