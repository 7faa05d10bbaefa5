-- In a run of a roomy script nothing but memory is ever full; so such a run of a settled script ends with the meaning.
use Rattle.std.proofs.Common.{◌≡◌, ◌⊎◌, inl, inr, ◌<◌, ◌≤◌, Bool, List, Option, Some, None, length, refl}
use Rattle.mem_files.specs.Name.{Name, Bytes}
use Rattle.mem_files.specs.Files.{files}
use Rattle.mem_files.specs.Listing.{AreFiles}
use Rattle.script_load.specs.Line.{ScriptLine}
use Rattle.script_load.specs.declared.profile.Profile.{Profile}
use Rattle.meaning_model.specs.Meaning.{script_tree}
use Rattle.meaning_model.specs.Settled.{IsSettledScript}
use Rattle.tree_model.specs.Tidy.{HasShortCommands, IsClearScript}
use Rattle.kernel_model.specs.declared.events.Event.{Event}
use Rattle.kernel_model.specs.declared.events.Full.{Full}
use Rattle.kernel_model.specs.declared.events.Full.TheVariants.{Procs, Open, Fds, Files, Size, Memory}
use Rattle.kernel_model.specs.KernelState.{KernelState}
use Rattle.kernel_model.specs.Events.{run}
use Rattle.run_model.specs.ScriptRun.{script_kernel}
use Rattle.sh_machine.specs.State.{User}
use Rattle.sh_machine.specs.Turn.{call_of, next_of}
use Rattle.step_bounds.specs.Most.{most_events}
use Rattle.law_runs.specs.GoingOn.{CanGoOn}
use Rattle.law_runs.proofs.bounds.Ending.{Ends, ends_or_goes, ends_then}
use Rattle.room_model.specs.Roomy.{IsRoomyScript}
use Rattle.law_runs.proofs.room.FewProcesses.{slot_is_free}
use Rattle.law_runs.proofs.room.FewEntries.{entry_is_free}
use Rattle.law_runs.proofs.room.FewDescriptors.{descriptor_is_free}
use Rattle.law_runs.proofs.room.FewFiles.{file_finds_place}
use Rattle.law_runs.proofs.room.SmallFiles.{file_stays_small}

module _ (profile : Profile) (lines : List ScriptLine) (input : Bytes) (list : List (Name × Bytes)) (are : AreFiles list) (roomy : IsRoomyScript lines input list)
    (events : List Event) (notes : List Bool) (m : KernelState User) (is : run call_of next_of (Some (script_kernel profile lines input list)) events notes ≡ Some m) where
  pub only_memory : IsClearScript lines → (m.full ≡ None) ⊎ (m.full ≡ Some Memory)
  only_memory clear = by m.full refl
    where
      by : (o : Option Full) → m.full ≡ o → (m.full ≡ None) ⊎ (m.full ≡ Some Memory)
      by None none = inl none
      by (Some Procs) full = absurd (slot_is_free profile lines input list are clear.no_back events notes m is roomy.processes full)
      by (Some Open) full = absurd (entry_is_free profile lines input list are clear.no_back events notes m is roomy.entries full)
      by (Some Fds) full = absurd (descriptor_is_free profile lines input list are clear.no_back events notes m is roomy.descriptors full)
      by (Some Files) full = absurd (file_finds_place profile lines input list are clear events notes m is roomy.files_few full)
      by (Some Size) full = absurd (file_stays_small profile lines input list are clear events notes m is roomy.files_small full)
      by (Some Memory) full = inr full

  module _ (settled : IsSettledScript profile lines input (files list)) (short : HasShortCommands (script_tree lines)) where
    clear : IsClearScript lines
    clear = record { no_back = settled.0; clear = settled.1; short = short }

    abbrev Goes : Type 0
    Goes = (length events ≤ most_events lines input (files list)) × CanGoOn m

    pub roomy_ends_or_goes : (Ends profile lines input list are m ⊎ Goes) ⊎ (m.full ≡ Some Memory)
    roomy_ends_or_goes = by (only_memory clear)
      where
        by : (m.full ≡ None) ⊎ (m.full ≡ Some Memory) → (Ends profile lines input list are m ⊎ Goes) ⊎ (m.full ≡ Some Memory)
        by (inl none) = inl (ends_or_goes profile lines input list are settled short events notes m is none)
        by (inr memory) = inr memory

    pub roomy_ends_then : most_events lines input (files list) < length events → Ends profile lines input list are m ⊎ (m.full ≡ Some Memory)
    roomy_ends_then long = by (only_memory clear)
      where
        by : (m.full ≡ None) ⊎ (m.full ≡ Some Memory) → Ends profile lines input list are m ⊎ (m.full ≡ Some Memory)
        by (inl none) = inl (ends_then profile lines input list are settled short events notes m is none long)
        by (inr memory) = inr memory
