-- What a read gives goes from what the reader has left to what was read; a read of nothing shows that all was read.
use Rattle.std.proofs.Common.{◌≡◌, length, ℕ, List, ◌++◌, arith, take, drop, ap, ◌∙◌, subst, sym}
use Rattle.std.specs.Bool.{if◌then◌else◌}
use Rattle.std.proofs.lemmas.List.{take-append-le, length-append}
use Rattle.std.specs.Io.KnownBytes.{Consumes}
use Rattle.xvsh_read.proofs.Consumed.{consumes_both}
use Rattle.xvsh_read.proofs.collecting.read_all.Goals as goal

pub loop-count-preserved : goal.loop-count-preserved
loop-count-preserved g c =
    let both : Consumes (g.R.Read.remaining c.args.reader) (g.R.Read.remaining c.read.new.self) (c.loop-count.bytes.items ++ take c.in-Ok.count c.read.new.buf)
    = consumes_both (g.R.Read.remaining c.args.reader) (g.R.Read.remaining c.loop-count.reader) (g.R.Read.remaining c.read.new.self) c.loop-count.bytes.items (take c.in-Ok.count c.read.new.buf) c.loop-count.invariant.1 c.in-Ok.ensures.bytes.0 in
    let chunk : List ℕ = c.read.new.buf ++ drop c.min-asked.result c.loop-count.chunk in
    let grown : c.extend_from_slice.new.self.items ≡ c.loop-count.bytes.items ++ take c.in-Ok.count c.read.new.buf
    = c.extend_from_slice.ensures.items
    ∙ ap (λ b. if b then c.loop-count.bytes.items ++ take c.in-Ok.count chunk else c.loop-count.bytes.items) c.if-is_err.ensures.negation
    ∙ ap (λ t. c.loop-count.bytes.items ++ t) (take-append-le c.in-Ok.count c.read.new.buf (drop c.min-asked.result c.loop-count.chunk) c.in-Ok.ensures.bound.0) in (
      omega (arith, ap length grown, length-append c.loop-count.bytes.items (take c.in-Ok.count c.read.new.buf), c.in-Ok.ensures.bound.1, c.if-count-room.false, c.len.ensures, c.loop-count.invariant.0),
      subst (Consumes (g.R.Read.remaining c.args.reader) (g.R.Read.remaining c.read.new.self)) (sym grown) both,
    )
