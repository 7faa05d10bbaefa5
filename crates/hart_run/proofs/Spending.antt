-- A run of a clear script that spends as many turns as are enough had something full.
use Rattle.std.proofs.Common.{◌≡◌, ◌+◌, ◌≤◌, ◌⊎◌, inl, inr, ℕ, false, true, List, Some, None, arith}
use Rattle.mem_files.specs.Name.{Name, Bytes}
use Rattle.mem_files.specs.Files.{files}
use Rattle.mem_files.specs.Listing.{AreFiles}
use Rattle.conflict_check.specs.Clear.{IsClear, has_back}
use Rattle.script_load.specs.Limits.{are_small}
use Rattle.script_load.specs.Line.{ScriptLine}
use Rattle.script_load.specs.declared.profile.Profile.{Profile}
use Rattle.meaning_model.specs.Meaning.{script_tree}
use Rattle.law_trees.proofs.trees.Short.{small_short}
use Rattle.run_model.specs.ScriptRun.{IsSpentFrom, script_kernel}
use Rattle.step_bounds.specs.Most.{most_events}
use Rattle.law_runs.proofs.bounds.Ending.{few_turns}
use Rattle.kernel_model.specs.declared.events.Full.TheVariants.{Memory}
use Rattle.room_model.specs.Roomy.{IsRoomyScript}
use Rattle.law_runs.proofs.room.Roomy.{only_memory}
use Rattle.hart_run.specs.Filled.{IsFilledFrom, IsRefusedFrom}

pub filled : (profile : Profile) (lines : List ScriptLine) (input : Bytes) (list : List (Name × Bytes)) (turns : ℕ) → AreFiles list → are_small lines ≡ true → has_back (script_tree lines) ≡ false → IsClear (script_tree lines)
    → IsSpentFrom (script_kernel profile lines input list) turns → most_events lines input (files list) + 2 ≤ turns → IsFilledFrom (script_kernel profile lines input list)
filled profile lines input list turns are small plain clear s enough = record {
  turns = turns;
  spends = s;
  filled = λ none. absurd (omega (arith, enough, few_turns profile lines input list are (record { no_back = plain; clear = clear; short = small_short lines small }) turns s none));
}

-- and where the script has room, it was memory
pub refused : (profile : Profile) (lines : List ScriptLine) (input : Bytes) (list : List (Name × Bytes)) → AreFiles list → are_small lines ≡ true → has_back (script_tree lines) ≡ false → IsClear (script_tree lines)
    → IsRoomyScript lines input list → IsFilledFrom (script_kernel profile lines input list) → IsRefusedFrom (script_kernel profile lines input list)
refused profile lines input list are small plain clear roomy f =
    by (only_memory profile lines input list are roomy f.spends.events f.spends.notes f.spends.last f.spends.runs (record { no_back = plain; clear = clear; short = small_short lines small }))
  where
    by : (f.spends.last.full ≡ None) ⊎ (f.spends.last.full ≡ Some Memory) → IsRefusedFrom (script_kernel profile lines input list)
    by (inl none) = absurd (f.filled none)
    by (inr memory) = record { turns = f.turns; spends = f.spends; refused = memory }
