-- A script's start has as many free entries as the script opens, and what is in use and still opened stays within that.
use Rattle.std.proofs.Common.{◌≡◌, ◌+◌, ◌≤◌, Bool, List, ◌∷◌, Some, None, refl, arith}
use Rattle.std.proofs.lemmas.List.Sums.{sum_by-cons}
use Rattle.std.proofs.lemmas.List.Folds.{sum_by-replicate}
use Rattle.std.specs.Prelude.{replicate}
use Rattle.user_calls.specs.declared.calls.Reply.TheVariants.{Start}
use Rattle.proc_table.specs.Slots.{Slot, at}
use Rattle.fd_table.specs.Entries.{free_count}
use Rattle.mem_files.specs.Name.{Name, Bytes}
use Rattle.mem_files.specs.Listing.{AreFiles}
use Rattle.script_load.specs.declared.profile.Profile.{Profile}
use Rattle.script_load.specs.Line.{ScriptLine}
use Rattle.kernel_model.specs.declared.events.Event.{Event}
use Rattle.kernel_model.specs.Events.{run}
use Rattle.kernel_model.specs.KernelState.{KernelState}
use Rattle.run_model.specs.ScriptRun.{script_kernel}
use Rattle.sh_machine.specs.declared.state.Phase.TheVariants.{Starts}
use Rattle.sh_machine.specs.State.{User, init, shell, top}
use Rattle.sh_machine.specs.Turn.{call_of, next_of}
use Rattle.kernel_model.specs.Closes.{HasRoomAhead}
use Rattle.law_turns.proofs.orders.Booted.{boot_still}
use Rattle.room_model.specs.Opens.{HasFewOpens}
use Rattle.law_limits.proofs.opens.Left.{slot_left, table_left}
use Rattle.law_limits.proofs.opens.Spending.{cost, enough_ahead, IsWithin, every_run_within}
use Rattle.law_limits.proofs.opens.Shells.{of_lines, user_ahead, users_spend}

-- two processes, and 62 free slots
two_left : (x y : Slot User) → table_left call_of next_of cost user_ahead (x ∷ y ∷ replicate 62 None) ≡ slot_left call_of next_of cost user_ahead x + slot_left call_of next_of cost user_ahead y
two_left x y =
    let f = slot_left call_of next_of cost user_ahead in
    omega (arith, sum_by-cons f x (y ∷ replicate 62 None), sum_by-cons f y (replicate 62 None), sum_by-replicate f 62 None)

module _ (profile : Profile) (lines : List ScriptLine) (input : Bytes) (list : List (Name × Bytes)) where
  abbrev start : KernelState User
  start = script_kernel profile lines input list

  free_at_start : free_count start.entries ≡ 97
  free_at_start = refl

  left_at_start : table_left call_of next_of cost user_ahead start.table ≤ of_lines lines
  left_at_start = omega (arith, two_left (at start.table 0) (at start.table 1), users_spend.each (shell profile (top Starts lines)) Start)

  pub room_ahead : AreFiles list → HasFewOpens lines → HasRoomAhead call_of next_of start
  room_ahead are few =
      enough_ahead call_of next_of user_ahead users_spend start (boot_still init (shell profile (top Starts lines)) input list are) (omega (arith, free_at_start, left_at_start, few))

  pub opens_within : (events : List Event) (notes : List Bool) (m : KernelState User) → run call_of next_of (Some start) events notes ≡ Some m → IsWithin call_of next_of user_ahead (3 + of_lines lines) m
  opens_within events notes m is = every_run_within call_of next_of user_ahead users_spend (3 + of_lines lines) start m events notes (omega (arith, free_at_start, left_at_start)) is
