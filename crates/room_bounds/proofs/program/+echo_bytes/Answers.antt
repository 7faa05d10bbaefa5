use Rattle.std.proofs.Common.{◌≡◌, ◌∙◌, ◌+◌, List, [], ◌∷◌, length, length-append, sym, ap, subst, arith}
use Rattle.mem_files.specs.Name.{Bytes}
use Rattle.meaning_model.specs.Programs.{echo_out}
use Rattle.room_bounds.specs.CappedGrowth.{IsCapped}
use Rattle.room_bounds.proofs.program.+echo_bytes.Goals as goal

one_word : (word : Bytes) (later : List Bytes) → length word + 1 + length (echo_out later) ≡ length (echo_out (word ∷ later))
one_word word [] = omega (arith, length-append word (10 ∷ []))
one_word word (w ∷ later) = omega (arith, length-append word (32 ∷ echo_out (w ∷ later)))

pub returns : goal.returns
returns g t c =
    let word = c.in-Some.argument.now in
    let later = c.in-Some.later.now in
    let both = c.sum.ensures (length c.as_slice.result.now + 1) (length (echo_out later)) c.capped.ensures c.echo_bytes.ensures in
    let same = ap (λ w. length w + 1 + length (echo_out later)) c.as_slice.ensures ∙ one_word word later ∙ ap (λ words. length (echo_out words)) (sym c.in-Some.ensures.cases.0) in
    subst (λ n. IsCapped n c.sum.result) same both
