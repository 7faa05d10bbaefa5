-- A script that passes by its meaning and has room is right in every run, unless memory was refused.
use Rattle.std.proofs.Common.{◌≡◌, ◌⊎◌, inl, inr, Bool, List, Some, None}
use Rattle.mem_files.specs.Name.{Bytes}
use Rattle.mem_files.specs.Listing.{AreFiles}
use Rattle.script_load.specs.Line.{ScriptLine}
use Rattle.script_load.specs.Script.{IsScript}
use Rattle.law_trees.proofs.trees.Short.{script_short}
use Rattle.sh_machine.specs.State.{User}
use Rattle.sh_machine.specs.Turn.{call_of, next_of}
use Rattle.kernel_model.specs.declared.events.Event.{Event}
use Rattle.kernel_model.specs.declared.events.Full.TheVariants.{Memory}
use Rattle.kernel_model.specs.Events.{run, IsFinished}
use Rattle.kernel_model.specs.KernelState.{KernelState}
use Rattle.kernel_model.specs.Outcome.{outcome_of}
use Rattle.room_model.specs.Roomy.{IsRoomyScript}
use Rattle.law_runs.proofs.room.Roomy.{only_memory}
use Rattle.grade_verdicts.specs.Agrees.{AgreesIn}
use Rattle.grade_verdicts.specs.Judged.{IsPassed, start_of}
use Rattle.grade_verdicts.specs.declared.expected.Task.{Task}
use Rattle.law_answers.specs.Unless.{IsRightUnlessRefused}

pub right_unless_refused : (t : Task) (bytes : Bytes) (lines : List ScriptLine) → AreFiles t.files.now → IsScript bytes lines → IsPassed t lines → IsRoomyScript lines t.stdin.now t.files.now → IsRightUnlessRefused t lines
right_unless_refused t bytes lines are cut passed roomy schedule notes last ran finished =
    let settled = passed.meant.settled in
    by (only_memory t.profile lines t.stdin.now t.files.now are roomy schedule notes last ran (record { no_back = settled.0; clear = settled.1; short = script_short bytes lines cut }))
  where
    by : (last.full ≡ None) ⊎ (last.full ≡ Some Memory) → ((last.full ≡ None) × AgreesIn t.expected.now (outcome_of last)) ⊎ (last.full ≡ Some Memory)
    by (inl none) = inl (none, passed.meant.runs schedule notes last ran none finished)
    by (inr memory) = inr memory
