-- The digits, and then a space.
use Rattle.std.proofs.Common.{◌≡◌, ◌∙◌, List, ℕ, [], ◌∷◌, ap}
use Rattle.std.specs.Fmt.{decimal}
use Rattle.user_calls.specs.Slots.{call_longer}
use Rattle.user_calls.specs.declared.calls.Call.{Call}
use Rattle.user_progs.proofs.Said.{longer_twice}
use Rattle.user_progs.proofs.says.put_count.Goals as goal

pub returns : goal.returns
returns c =
    let digits : c.as_bytes.result.now ≡ decimal c.args.count = c.as_bytes.ensures.value ∙ c.format.ensures.text in
    c.append-2.ensures
    ∙ ap (λ (z : Call). call_longer z (32 ∷ [])) (c.append.ensures ∙ ap (λ (d : List ℕ). call_longer c.args.call.now d) digits)
    ∙ longer_twice c.args.call.now (decimal c.args.count) (32 ∷ [])
