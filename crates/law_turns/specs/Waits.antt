-- A wait that frees a zombie's slot, and another process's turn, in either order.
use Rattle.std.specs.Prelude.{◌≡◌, ◌≢◌, ℕ, true, Some, None}
use Rattle.user_calls.specs.declared.calls.Call.{Call}
use Rattle.user_calls.specs.declared.calls.Call.TheVariants.{Fork, Wait}
use Rattle.user_calls.specs.declared.calls.Reply.{Reply}
use Rattle.proc_table.specs.declared.states.Status.TheVariants.{Runnable}
use Rattle.proc_table.specs.Slots.{Process, at, is_zombie_child_of}
use Rattle.proc_table.specs.Calls.{lowest_free}
use Rattle.kernel_model.specs.KernelState.{KernelState}
use Rattle.kernel_model.specs.Alike.{Alike}
use Rattle.kernel_model.specs.Turns.{after_turn}
use Rattle.kernel_model.specs.Slots.{SameButSlots}

module _ {S : Type 0} (call : S → Reply → Call) (next : S → Reply → S) where
  -- p's turn leads to a, and q's turn to l: each can take its turn then, and what both orders come to differs only in the numbers of
  -- slots, in what is left of zombies, in what pipes are called and in how many events there were
  pub record InEitherOrderButSlots (a l : KernelState S) (p q : ℕ) : Type 0 where
    pub after : KernelState S
    pub second : after_turn call next a q ≡ Some after
    pub both : KernelState S
    pub taken : after_turn call next l p ≡ Some both
    pub between : KernelState S
    pub alike : Alike after between
    pub same : SameButSlots between both
