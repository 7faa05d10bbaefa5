-- What a run leaves, unless memory was refused in it.
use Rattle.std.specs.Prelude.{◌≡◌, ◌⊎◌, Bool, List, Option, Some, None}
use Rattle.mem_files.specs.Name.{Bytes}
use Rattle.script_load.specs.Line.{ScriptLine}
use Rattle.sh_machine.specs.State.{User}
use Rattle.sh_machine.specs.Turn.{call_of, next_of}
use Rattle.kernel_model.specs.declared.events.Event.{Event}
use Rattle.kernel_model.specs.declared.events.Full.{Full}
use Rattle.kernel_model.specs.declared.events.Full.TheVariants.{Memory}
use Rattle.kernel_model.specs.Events.{run, IsFinished}
use Rattle.kernel_model.specs.KernelState.{KernelState}
use Rattle.kernel_model.specs.Outcome.{outcome_of}
use Rattle.grade_verdicts.specs.Agrees.{AgreesIn}
use Rattle.grade_verdicts.specs.Judged.{start_of}
use Rattle.grade_verdicts.specs.declared.expected.Task.{Task}

-- nothing was full and the text is this output, or memory was refused
abbrev pub PrintsUnlessRefused : Bytes → Option Full → Bytes → Type 0
PrintsUnlessRefused out full text = ((full ≡ None) × (text ≡ out)) ⊎ (full ≡ Some Memory)

-- in every finished run of the script nothing was full and it leaves what the test expects, or memory was refused: on any harts, in
-- any order and whenever memory was refused
abbrev pub IsRightUnlessRefused : Task → List ScriptLine → Type 0
IsRightUnlessRefused t lines = (schedule : List Event) (notes : List Bool) (last : KernelState User)
    → run call_of next_of (Some (start_of t lines)) schedule notes ≡ Some last → IsFinished last
    → ((last.full ≡ None) × AgreesIn t.expected.now (outcome_of last)) ⊎ (last.full ≡ Some Memory)
