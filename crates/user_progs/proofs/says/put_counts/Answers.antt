-- The parts of the line follow each other.
use Rattle.std.proofs.Common.{◌∙◌, ◌++◌, [], ◌∷◌, ap}
use Rattle.std.specs.Fmt.{decimal}
use Rattle.user_calls.specs.Slots.{call_longer}
use Rattle.user_calls.specs.declared.calls.Call.{Call}
use Rattle.user_calls.specs.declared.calls.Call.TheVariants.{Write}
use Rattle.user_progs.proofs.Said.{counts_said}
use Rattle.user_progs.proofs.says.put_counts.Goals as goal

pub returns : goal.returns
returns c =
    let counts = c.args.counts.now in
    let name = c.args.name.now in
    let one = c.put_count.ensures ∙ ap (λ (z : Call). call_longer z (decimal counts.lines ++ 32 ∷ [])) c.write.ensures in
    let two = c.put_count-2.ensures ∙ ap (λ (z : Call). call_longer z (decimal counts.words ++ 32 ∷ [])) one in
    let three = c.put_count-3.ensures ∙ ap (λ (z : Call). call_longer z (decimal counts.bytes ++ 32 ∷ [])) two in
    let four = c.append.ensures ∙ ap (λ (z : Call). call_longer z name) three in
    c.append-2.ensures
    ∙ ap (λ (z : Call). call_longer z (10 ∷ [])) four
    ∙ counts_said (Write 1 []) (decimal counts.lines) (decimal counts.words) (decimal counts.bytes) name
