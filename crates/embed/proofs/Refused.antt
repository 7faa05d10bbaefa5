-- Why the program's exploration failed, as why one of a task did.
use Rattle.std.proofs.Common.{◌≡◌, ℕ, inl, inr, sym, subst}
use Rattle.std.specs.Prelude.{◌⊎◌}
use Rattle.xvsh_read.specs.declared.fault.Fault.{Fault}
use Rattle.xvsh_read.specs.declared.fault.Fault.TheVariants.{Memory, TooLarge}
use Rattle.embed.specs.declared.task.Task.{Task}
use Rattle.embed.specs.Explores.{IsExploreRefusal, explored_fault, too_many_turns, no_memory}

pub refused : (task : Task) (states : ℕ) (fault : Fault) → (fault ≡ Memory) ⊎ (fault ≡ TooLarge) → IsExploreRefusal task states (explored_fault fault)
refused task states fault (inl is) = subst (λ f. IsExploreRefusal task states (explored_fault f)) (sym is) no_memory
refused task states fault (inr is) = subst (λ f. IsExploreRefusal task states (explored_fault f)) (sym is) too_many_turns
