-- A run of a settled script that goes on gives the meaning after so many events; and so many turns are enough.
use Rattle.std.proofs.Common.{◌≡◌, ◌⊎◌, inl, inr, ℕ, ◌+◌, ◌<◌, ◌≤◌, Bool, List, Some, None, length, arith}
use Rattle.mem_files.specs.Name.{Name, Bytes}
use Rattle.mem_files.specs.Files.{files}
use Rattle.mem_files.specs.Listing.{AreFiles}
use Rattle.script_load.specs.Line.{ScriptLine}
use Rattle.script_load.specs.declared.profile.Profile.{Profile}
use Rattle.meaning_model.specs.Meaning.{script_meaning, script_tree}
use Rattle.meaning_model.specs.Settled.{IsSettledScript}
use Rattle.tree_model.specs.Residual.{done}
use Rattle.tree_model.specs.Runs.{Agrees}
use Rattle.tree_model.specs.Tidy.{HasShortCommands, IsClearScript}
use Rattle.kernel_model.specs.declared.events.Event.{Event}
use Rattle.kernel_model.specs.KernelState.{KernelState}
use Rattle.kernel_model.specs.Events.{run, IsFinished}
use Rattle.sh_machine.specs.State.{User}
use Rattle.sh_machine.specs.Turn.{call_of, next_of}
use Rattle.law_runs.proofs.standing.RunsEnd.{finished_means}
use Rattle.run_model.specs.ScriptRun.{IsSpentFrom, script_kernel}
use Rattle.law_runs.proofs.never_stuck.Turns.{spends_turns}
use Rattle.step_bounds.specs.Most.{most_events}
use Rattle.law_runs.specs.GoingOn.{CanGoOn}
use Rattle.law_runs.proofs.bounds.Bounded.{finished_or_goes, finished_or_short}

module _ (profile : Profile) (lines : List ScriptLine) (input : Bytes) (list : List (Name × Bytes)) (are : AreFiles list) where
  abbrev start : KernelState User
  start = script_kernel profile lines input list

  -- the run is finished, and has left what the script means
  abbrev pub Ends : KernelState User → Type 0
  Ends m = IsFinished m × Agrees (record { left = done; input = m.input; out = m.out; files = files m.files }) (script_meaning profile lines input (files list))

  module _ (settled : IsSettledScript profile lines input (files list)) (short : HasShortCommands (script_tree lines)) (events : List Event) (notes : List Bool) (m : KernelState User) (is : run call_of next_of (Some start) events notes ≡ Some m) (full : m.full ≡ None) where
    clear : IsClearScript lines
    clear = record { no_back = settled.0; clear = settled.1; short = short }

    ends : IsFinished m → Ends m
    ends finished = (finished, finished_means profile lines input list events notes m are settled short is full finished)

    abbrev IsShort : Type 0
    IsShort = length events ≤ most_events lines input (files list)

    pub ends_or_goes : Ends m ⊎ (IsShort × CanGoOn m)
    ends_or_goes = by (finished_or_goes profile lines input list are clear events notes m is full) where
      by : IsFinished m ⊎ (IsShort × CanGoOn m) → Ends m ⊎ (IsShort × CanGoOn m)
      by (inl finished) = inl (ends finished)
      by (inr on) = inr on

    pub ends_then : most_events lines input (files list) < length events → Ends m
    ends_then long = by ends_or_goes where
      by : Ends m ⊎ (IsShort × CanGoOn m) → Ends m
      by (inl end) = end
      by (inr on) = absurd (omega (arith, long, on.0))

  -- a run that is given up had fewer turns
  pub few_turns : IsClearScript lines → (turns : ℕ) → (s : IsSpentFrom (script_kernel profile lines input list) turns) → s.last.full ≡ None → turns < most_events lines input (files list) + 2
  few_turns clear turns s full = by (finished_or_short profile lines input list are clear s.events s.notes s.last s.runs full) where
    by : IsFinished s.last ⊎ (length s.events ≤ most_events lines input (files list)) → turns < most_events lines input (files list) + 2
    by (inl finished) = absurd (s.spent.unfinished finished)
    by (inr short) = omega (arith, short, spends_turns profile lines input list turns are clear.no_back s full)
