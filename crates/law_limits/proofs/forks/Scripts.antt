-- A script's start has as many slots as all that the script comes to use.
use Rattle.std.proofs.Common.{◌≡◌, ◌+◌, List, ◌∷◌, None, arith}
use Rattle.std.proofs.lemmas.List.Sums.{sum_by-cons}
use Rattle.std.proofs.lemmas.List.Folds.{sum_by-replicate}
use Rattle.std.specs.Prelude.{replicate}
use Rattle.user_calls.specs.declared.calls.Reply.TheVariants.{Start}
use Rattle.mem_files.specs.Name.{Name, Bytes}
use Rattle.mem_files.specs.Listing.{AreFiles}
use Rattle.script_load.specs.declared.profile.Profile.{Profile}
use Rattle.script_load.specs.Line.{ScriptLine}
use Rattle.proc_table.specs.Slots.{Slot, at}
use Rattle.kernel_model.specs.KernelState.{KernelState}
use Rattle.run_model.specs.ScriptRun.{script_kernel}
use Rattle.sh_machine.specs.declared.state.Phase.TheVariants.{Starts}
use Rattle.sh_machine.specs.State.{User, init, shell, top}
use Rattle.sh_machine.specs.Turn.{call_of, next_of}
use Rattle.kernel_model.specs.Giving.{HasSlotsAhead}
use Rattle.law_turns.proofs.orders.Booted.{boot_still}
use Rattle.law_limits.proofs.opens.Left.{slot_left, table_left}
use Rattle.room_model.specs.Forks.{HasFewForks}
use Rattle.law_limits.proofs.forks.Slots.{nothing, slots_ahead as finds_slots}
use Rattle.law_limits.proofs.forks.Shells.{user_ahead, users_each, users_spend}

-- two processes, and 62 free slots
two_left : (x y : Slot User) → table_left call_of next_of nothing user_ahead (x ∷ y ∷ replicate 62 None) ≡ slot_left call_of next_of nothing user_ahead x + slot_left call_of next_of nothing user_ahead y
two_left x y =
    let f = slot_left call_of next_of nothing user_ahead in
    omega (arith, sum_by-cons f x (y ∷ replicate 62 None), sum_by-cons f y (replicate 62 None), sum_by-replicate f 62 None)

module _ (profile : Profile) (lines : List ScriptLine) (input : Bytes) (list : List (Name × Bytes)) where
  abbrev start : KernelState User
  start = script_kernel profile lines input list

  pub slots_ahead : AreFiles list → HasFewForks lines → HasSlotsAhead call_of next_of start
  slots_ahead are few =
      finds_slots call_of next_of user_ahead users_each users_spend start (boot_still init (shell profile (top Starts lines)) input list are)
      (omega (arith, two_left (at start.table 0) (at start.table 1), users_spend.each (shell profile (top Starts lines)) Start, few))
