-- The parts of the message follow each other.
use Rattle.std.proofs.Common.{◌≡◌, ◌∙◌, ◌++◌, ap, append_assoc, take, List, ℕ}
use Rattle.user_calls.specs.Limits.{block_size}
use Rattle.user_calls.specs.Slots.{call_longer}
use Rattle.user_calls.specs.declared.calls.Call.{Call}
use Rattle.user_calls.specs.declared.calls.Call.TheVariants.{Write}
use Rattle.user_progs.proofs.Blocks.{cut_again}
use Rattle.sh_machine.proofs.says.put_within.Goals as goal

cut_twice : (n : ℕ) (a b c : List ℕ) → take n (take n (take n a ++ b) ++ c) ≡ take n (a ++ (b ++ c))
cut_twice n a b c = cut_again n (take n a ++ b) c ∙ ap (λ z. take n z) (append_assoc (take n a) b c) ∙ cut_again n a (b ++ c)

pub returns : goal.returns
returns c =
    c.append-2.ensures
    ∙ ap (λ (z : Call). call_longer z c.args.after.now) (c.append.ensures ∙ ap (λ (z : Call). call_longer z c.args.text.now) c.write.ensures)
    ∙ ap (λ (b : List ℕ). Write 2 b) (cut_twice block_size c.args.before.now c.args.text.now c.args.after.now)
