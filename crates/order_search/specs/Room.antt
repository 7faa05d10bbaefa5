-- What a kernel has ahead.
use Rattle.std.specs.Prelude.{◌≡◌, true}
use Rattle.user_calls.specs.declared.calls.Call.{Call}
use Rattle.user_calls.specs.declared.calls.Reply.{Reply}
use Rattle.kernel_model.specs.KernelState.{KernelState}
use Rattle.kernel_model.specs.Closes.{HasRoomAhead}
use Rattle.kernel_model.specs.Giving.{HasSlotsAhead}
use Rattle.order_search.specs.declared.origin.Ahead.{Ahead}

-- whatever is opened finds free entries, and whoever forks a free slot, if that is said
pub record HasAhead {S : Type 0} (call : S → Reply → Call) (next : S → Reply → S) (ahead : Ahead) (k : KernelState S) : Type 0 where
  pub entries : ahead.entries ≡ true → HasRoomAhead call next k
  pub slots : ahead.slots ≡ true → HasSlotsAhead call next k
