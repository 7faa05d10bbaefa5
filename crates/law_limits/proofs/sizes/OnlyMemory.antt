-- In a run of a script that has room in any order nothing but memory is full.
use Rattle.std.proofs.Common.{◌≡◌, ◌⊎◌, inl, inr, List, Bool, Option, Some, None, refl}
use Rattle.mem_files.specs.Name.{Name, Bytes}
use Rattle.mem_files.specs.Listing.{AreFiles}
use Rattle.script_load.specs.declared.profile.Profile.{Profile}
use Rattle.script_load.specs.Line.{ScriptLine}
use Rattle.kernel_model.specs.declared.events.Event.{Event}
use Rattle.kernel_model.specs.declared.events.Full.{Full}
use Rattle.kernel_model.specs.declared.events.Full.TheVariants.{Procs, Open, Fds, Files, Size, Memory}
use Rattle.kernel_model.specs.KernelState.{KernelState}
use Rattle.kernel_model.specs.Events.{run}
use Rattle.run_model.specs.ScriptRun.{script_kernel}
use Rattle.sh_machine.specs.State.{User}
use Rattle.sh_machine.specs.Turn.{call_of, next_of}
use Rattle.law_limits.proofs.behind.FewBehind.{slot_is_free}
use Rattle.law_limits.proofs.behind.FewOpens.{entry_is_free}
use Rattle.law_limits.proofs.behind.FewPlaces.{descriptor_is_free}
use Rattle.law_limits.specs.Room.{HasRoomInAnyOrder}
use Rattle.law_limits.proofs.sizes.FewFiles.{file_finds_place}
use Rattle.law_limits.proofs.sizes.TooLarge.{file_stays_small}

pub only_memory : (profile : Profile) (lines : List ScriptLine) (input : Bytes) (list : List (Name × Bytes)) → AreFiles list → HasRoomInAnyOrder lines input list → (events : List Event) (notes : List Bool) (m : KernelState User)
    → run call_of next_of (Some (script_kernel profile lines input list)) events notes ≡ Some m → (m.full ≡ None) ⊎ (m.full ≡ Some Memory)
only_memory profile lines input list are room events notes m is = by m.full refl
  where
    by : (o : Option Full) → m.full ≡ o → (m.full ≡ None) ⊎ (m.full ≡ Some Memory)
    by None none = inl none
    by (Some Procs) full = absurd (slot_is_free profile lines input list are events notes m is room.processes full)
    by (Some Open) full = absurd (entry_is_free profile lines input list events notes m is room.entries full)
    by (Some Fds) full = absurd (descriptor_is_free profile lines input list are events notes m is room.descriptors full)
    by (Some Files) full = absurd (file_finds_place profile room.sizes lines input list are room.keeps events notes m is room.files_few full)
    by (Some Size) full = absurd (file_stays_small profile room.sizes lines input list are room.keeps room.small events notes m is full)
    by (Some Memory) full = inr full
