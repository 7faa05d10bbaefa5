-- A run of a clear script is finished after so many events, and until then it can go on.
use Rattle.std.proofs.Common.{◌≡◌, ◌⊎◌, inl, inr, ◌<◌, ◌≤◌, Bool, List, [], Some, None, length, refl, arith}
use Rattle.mem_files.specs.Name.{Name, Bytes}
use Rattle.mem_files.specs.Files.{files}
use Rattle.mem_files.specs.Listing.{AreFiles}
use Rattle.script_load.specs.Line.{ScriptLine}
use Rattle.script_load.specs.declared.profile.Profile.{Profile}
use Rattle.tree_model.specs.Tidy.{IsClearScript}
use Rattle.kernel_model.specs.declared.events.Event.{Event}
use Rattle.kernel_model.specs.KernelState.{KernelState}
use Rattle.run_model.specs.ScriptRun.{script_kernel}
use Rattle.kernel_model.specs.Events.{run, IsFinished}
use Rattle.sh_machine.specs.State.{User, init, shell, top}
use Rattle.sh_machine.specs.Turn.{call_of, next_of}
use Rattle.sh_machine.specs.declared.state.Phase.TheVariants.{Starts}
use Rattle.law_kernel.specs.Kinds.{stays_awake, count_events}
use Rattle.law_kernel.proofs.lengths.Long.{as_long}
use Rattle.law_runs.specs.Walks.{calls_made}
use Rattle.law_runs.proofs.never_stuck.Never.{somebody_is_awake}
use Rattle.law_runs.proofs.bounds.CallsBounded.{so_many_calls}
use Rattle.step_bounds.specs.Most.{most_events}
use Rattle.law_runs.specs.GoingOn.{CanGoOn}
use Rattle.law_runs.proofs.bounds.Counted.{few}
use Rattle.law_runs.proofs.bounds.GoingOn.{goes_on}

module _ (profile : Profile) (lines : List ScriptLine) (input : Bytes) (list : List (Name × Bytes)) (are : AreFiles list) (clear : IsClearScript lines) where
  abbrev start : KernelState User
  start = script_kernel profile lines input list

  module _ (events : List Event) (notes : List Bool) (m : KernelState User) (is : run call_of next_of (Some start) events notes ≡ Some m) (full : m.full ≡ None) where
    abbrev pub IsShort : Type 0
    IsShort = length events ≤ most_events lines input (files list)

    pub finished_or_short : IsFinished m ⊎ IsShort
    finished_or_short = by (few profile lines input list are clear.no_back events notes start m (record { events = []; notes = []; runs = refl }) is full) where
      by : IsFinished m ⊎ (count_events call_of next_of stays_awake (Some start) events notes ≡ calls_made call_of next_of (Some start) events notes) → IsFinished m ⊎ IsShort
      by (inl alone) = inl alone
      by (inr same) = inr (omega (arith, as_long call_of next_of init (shell profile (top Starts lines)) input list m events notes are is, same, so_many_calls profile lines input list events notes m are clear is full))

    pub finished_then : most_events lines input (files list) < length events → IsFinished m
    finished_then long = by finished_or_short where
      by : IsFinished m ⊎ IsShort → IsFinished m
      by (inl finished) = finished
      by (inr short) = absurd (omega (arith, long, short))

    pub finished_or_goes : IsFinished m ⊎ (IsShort × CanGoOn m)
    finished_or_goes = by finished_or_short where
      by : IsFinished m ⊎ IsShort → IsFinished m ⊎ (IsShort × CanGoOn m)
      by (inl finished) = inl finished
      by (inr short) = inr (short, goes_on m (somebody_is_awake profile lines input list events notes m are clear.no_back is full))
