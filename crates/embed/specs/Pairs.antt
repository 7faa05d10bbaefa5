-- What a page of two runs is of.
use Rattle.mem_files.specs.Name.{Bytes}
use Rattle.embed.specs.declared.task.Task.{Task}
use Rattle.embed.specs.declared.fault.EmbedFault.{EmbedFault}
use Rattle.embed.specs.declared.running.RunAnswer.{RunAnswer}
use Rattle.embed.specs.Runs.{IsReplayAnswer, IsReplayRefusal}

-- the task has a finished run by this schedule
abbrev pub CanReplay : Task → Bytes → Type 0
CanReplay task schedule = (told : RunAnswer) × IsReplayAnswer task schedule told

-- why there is no page: the first schedule gives no answer, or it does and the other gives none
pub data IsPairFault (task : Task) (one other : Bytes) (fault : EmbedFault) : Type 0 where
  of_first : IsReplayRefusal task one fault → IsPairFault task one other fault
  of_other : CanReplay task one → IsReplayRefusal task other fault → IsPairFault task one other fault
