-- So a run is as long as its calls that don't sleep.
use Rattle.std.proofs.Common.{◌≡◌, ◌+◌, ◌*◌, ◌≤◌, List, Bool, Some, length, arith}
use Rattle.user_calls.specs.declared.calls.Call.{Call}
use Rattle.user_calls.specs.declared.calls.Reply.{Reply}
use Rattle.mem_files.specs.Name.{Bytes, Name}
use Rattle.mem_files.specs.Listing.{AreFiles}
use Rattle.kernel_model.specs.declared.events.Event.{Event}
use Rattle.kernel_model.specs.KernelState.{KernelState}
use Rattle.kernel_model.specs.Boot.{boot_kernel}
use Rattle.kernel_model.specs.Events.{run}
use Rattle.law_kernel.specs.Kinds.{count_events, stays_awake}
use Rattle.law_kernel.proofs.lengths.Lengths.{every_run_spends, nobody_runs, nobody_sleeps, within}
use Rattle.law_kernel.proofs.lengths.Filling.{all_spend}

pub as_long : {S : Type 0} (call : S → Reply → Call) (next : S → Reply → S) (init shell : S) (input : Bytes) (list : List (Name × Bytes)) (m : KernelState S) (events : List Event) (notes : List Bool) → AreFiles list → run call next (Some (boot_kernel init shell input list)) events notes ≡ Some m
    → length events ≤ 192 + 260 * count_events call next stays_awake (Some (boot_kernel init shell input list)) events notes
as_long call next init shell input list m events notes are is =
    let spent = every_run_spends call next init shell input list are events notes m is in
    let few = within call next init shell input list are events notes m is in
    let more = all_spend call next events notes (Some (boot_kernel init shell input list)) in
    omega (arith, spent.kinds, spent.turns, spent.naps, few.0, few.1, nobody_runs call next init shell input list are, nobody_sleeps call next init shell input list are, more)
