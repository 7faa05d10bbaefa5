-- Each entry is 0.
use Rattle.std.proofs.Common.{ℕ, ◌<◌, refl, sym, subst, arith}
use Rattle.std.proofs.lemmas.List.{get_or-replicate}
use Rattle.proc_table.proofs.queues.all_on_the_first.Goals as goal

pub returns : goal.returns
returns c = (refl, λ slot lt. subst (λ (n : ℕ). n < 8) (sym (get_or-replicate 64 slot 0 0 lt)) (omega arith))
