use Rattle.std.proofs.Common.{◌∙◌, List, ℕ, [], ◌∷◌, ap}
use Rattle.user_calls.specs.Limits.{block_size}
use Rattle.user_calls.specs.Slots.{call_longer}
use Rattle.user_calls.specs.declared.calls.Call.{Call}
use Rattle.user_calls.specs.declared.calls.Call.TheVariants.{Write}
use Rattle.user_progs.proofs.Blocks.{cut_again}
use Rattle.user_progs.proofs.says.put_line.Goals as goal

pub returns : goal.returns
returns c =
    c.append.ensures
    ∙ ap (λ (z : Call). call_longer z (10 ∷ [])) c.write.ensures
    ∙ ap (λ (b : List ℕ). Write 1 b) (cut_again block_size c.args.line.now (10 ∷ []))
