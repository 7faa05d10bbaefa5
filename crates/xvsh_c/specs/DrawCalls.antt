-- What a call of a drawing leaves: what the library below reports of the task, or a fault that is due.
use Rattle.std.specs.Prelude.{◌≡◌, ◌⊎◌, ℕ, None}
use Rattle.mem_files.specs.Name.{Bytes}
use Rattle.embed.specs.declared.task.Task.{Task}
use Rattle.embed.specs.declared.fault.EmbedFault.{EmbedFault}
use Rattle.embed.specs.declared.fault.EmbedFault.TheVariants.{BadOrder}
use Rattle.embed.specs.Orders.{order_by}
use Rattle.embed.specs.Runs.{IsReplayAnswer, IsRunAnswer, IsRunFault}
use Rattle.embed.specs.declared.drawing.DrawAnswer.{DrawAnswer}
use Rattle.embed.specs.Pairs.{CanReplay, IsPairFault}
use Rattle.xvsh_c.specs.declared.answer.Answer.{Answer}
use Rattle.xvsh_c.specs.Answers.{TellsFault}
use Rattle.xvsh_c.specs.RunCalls.{full_number}

-- the answer reports what a run leaves, and what draws it
pub record TellsDrawn (answer : Answer) (told : DrawAnswer) : Type 0 where
  pub status : answer.status ≡ 0
  pub out : answer.out.now ≡ told.run.out.items
  pub diag : answer.diag.now ≡ told.run.diag.items
  pub events : answer.events.now ≡ told.page.items
  pub sizes : answer.sizes.now ≡ told.run.files.sizes.items
  pub block : answer.block.now ≡ told.run.files.block.items
  pub full : answer.full ≡ full_number told.run.full

-- a call of `xvsh_draw_call` or `xvsh_draw_svg_call` left this answer: there is no such order, or what its run reports
pub data DrawCall (task : Task) (turns order number : ℕ) (answer : Answer) : Type 0 where
  no_order : order_by order number ≡ None → TellsFault answer BadOrder → DrawCall task turns order number answer
  drawn : (told : DrawAnswer) → IsRunAnswer task told.run → TellsDrawn answer told → DrawCall task turns order number answer
  failed : (fault : EmbedFault) → IsRunFault task turns fault → TellsFault answer fault → DrawCall task turns order number answer

-- a call of `xvsh_draw_two_call` or `xvsh_draw_two_svg_call` left this answer: what the run by the first schedule leaves, and what draws both,
-- where both can be replayed
abbrev pub DrawTwoCall : Task → Bytes → Bytes → Answer → Type 0
DrawTwoCall task one other answer =
    ((told : DrawAnswer) × IsReplayAnswer task one told.run × CanReplay task other × TellsDrawn answer told) ⊎ ((fault : EmbedFault) × IsPairFault task one other fault × TellsFault answer fault)
