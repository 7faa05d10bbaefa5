-- What a call of a run by processes leaves: what the library below reports of the task, or a fault that is due.
use Rattle.std.specs.Prelude.{◌≡◌, ◌⊎◌, ℕ, Option, None, Some}
use Rattle.kernel_model.specs.declared.events.Full.{Full}
use Rattle.kernel_model.specs.declared.events.Full.TheVariants.{Procs, Open, Fds, Files, Size, Memory}
use Rattle.mem_files.specs.Name.{Bytes}
use Rattle.embed.specs.declared.task.Task.{Task}
use Rattle.embed.specs.declared.fault.EmbedFault.{EmbedFault}
use Rattle.embed.specs.declared.fault.EmbedFault.TheVariants.{BadOrder}
use Rattle.embed.specs.declared.running.RunAnswer.{RunAnswer}
use Rattle.embed.specs.Orders.{order_by}
use Rattle.embed.specs.Runs.{IsRunAnswer, IsRunFault, IsReplayAnswer, IsReplayRefusal}
use Rattle.xvsh_c.specs.declared.answer.Answer.{Answer}
use Rattle.xvsh_c.specs.Answers.{TellsFault}

-- what was full, from 1 on, or 0
abbrev pub full_number : Option Full → ℕ
full_number None = 0
full_number (Some Procs) = 1
full_number (Some Open) = 2
full_number (Some Fds) = 3
full_number (Some Files) = 4
full_number (Some Size) = 5
full_number (Some Memory) = 6

-- the answer reports what a run leaves
pub record TellsRun (answer : Answer) (told : RunAnswer) : Type 0 where
  pub status : answer.status ≡ 0
  pub out : answer.out.now ≡ told.out.items
  pub diag : answer.diag.now ≡ told.diag.items
  pub events : answer.events.now ≡ told.schedule.items
  pub sizes : answer.sizes.now ≡ told.files.sizes.items
  pub block : answer.block.now ≡ told.files.block.items
  pub full : answer.full ≡ full_number told.full

-- a call of `xvsh_run_call` left this answer: there is no such order, or what its run reports
pub data RunCall (task : Task) (turns order number : ℕ) (answer : Answer) : Type 0 where
  no_order : order_by order number ≡ None → TellsFault answer BadOrder → RunCall task turns order number answer
  ran : (told : RunAnswer) → IsRunAnswer task told → TellsRun answer told → RunCall task turns order number answer
  failed : (fault : EmbedFault) → IsRunFault task turns fault → TellsFault answer fault → RunCall task turns order number answer

-- a call of `xvsh_replay_call` left this answer
abbrev pub ReplayCall : Task → Bytes → Answer → Type 0
ReplayCall task schedule answer =
    ((told : RunAnswer) × IsReplayAnswer task schedule told × TellsRun answer told) ⊎ ((fault : EmbedFault) × IsReplayRefusal task schedule fault × TellsFault answer fault)
