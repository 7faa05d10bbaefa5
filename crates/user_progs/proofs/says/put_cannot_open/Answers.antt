-- The parts of the message follow each other.
use Rattle.std.proofs.Common.{◌∙◌, List, ℕ, [], ◌∷◌, ap}
use Rattle.std.specs.Prelude.{codes}
use Rattle.user_calls.specs.Limits.{block_size}
use Rattle.user_calls.specs.Slots.{call_longer}
use Rattle.user_calls.specs.declared.calls.Call.{Call}
use Rattle.user_calls.specs.declared.calls.Call.TheVariants.{Write}
use Rattle.user_progs.proofs.Blocks.{cut_thrice}
use Rattle.user_progs.proofs.says.put_cannot_open.Goals as goal

pub returns : goal.returns
returns c =
    c.append-3.ensures
    ∙ ap (λ (z : Call). call_longer z (10 ∷ [])) (c.append-2.ensures ∙ ap (λ (z : Call). call_longer z c.args.name.now) (c.append.ensures ∙ ap (λ (z : Call). call_longer z (codes ": cannot open ")) c.write.ensures))
    ∙ ap (λ (b : List ℕ). Write 2 b) (cut_thrice block_size c.args.program.now (codes ": cannot open ") c.args.name.now (10 ∷ []))
