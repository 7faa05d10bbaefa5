-- What a call of a trace or of a look leaves: what the library below reports of the task, or a fault that is due.
use Rattle.std.specs.Prelude.{◌≡◌, ◌⊎◌, ℕ, None}
use Rattle.mem_files.specs.Name.{Bytes}
use Rattle.embed.specs.declared.task.Task.{Task}
use Rattle.embed.specs.declared.fault.EmbedFault.{EmbedFault}
use Rattle.embed.specs.declared.fault.EmbedFault.TheVariants.{BadOrder}
use Rattle.embed.specs.Packing.{mark_of}
use Rattle.embed.specs.Orders.{order_by}
use Rattle.embed.specs.Runs.{IsRunAnswer, IsRunFault}
use Rattle.embed.specs.declared.traced_run.TraceAnswer.{TraceAnswer}
use Rattle.embed.specs.declared.looking.LookAnswer.{LookAnswer}
use Rattle.embed.specs.Looks.{IsLookAnswer, IsLookRefusal}
use Rattle.xvsh_c.specs.declared.answer.Answer.{Answer}
use Rattle.xvsh_c.specs.Answers.{TellsFault}
use Rattle.xvsh_c.specs.RunCalls.{full_number}

-- the answer reports what a run leaves, and its trace
pub record TellsTrace (answer : Answer) (told : TraceAnswer) : Type 0 where
  pub status : answer.status ≡ 0
  pub out : answer.out.now ≡ told.run.out.items
  pub diag : answer.diag.now ≡ told.run.diag.items
  pub events : answer.events.now ≡ told.lines.items
  pub sizes : answer.sizes.now ≡ told.run.files.sizes.items
  pub block : answer.block.now ≡ told.run.files.block.items
  pub full : answer.full ≡ full_number told.run.full

-- a call of `xvsh_trace_call` left this answer: there is no such order, or what its run reports
pub data TraceCall (task : Task) (turns order number : ℕ) (answer : Answer) : Type 0 where
  no_order : order_by order number ≡ None → TellsFault answer BadOrder → TraceCall task turns order number answer
  traced : (told : TraceAnswer) → IsRunAnswer task told.run → TellsTrace answer told → TraceCall task turns order number answer
  failed : (fault : EmbedFault) → IsRunFault task turns fault → TellsFault answer fault → TraceCall task turns order number answer

-- the answer reports how a run stands
pub record TellsLook (answer : Answer) (told : LookAnswer) : Type 0 where
  pub status : answer.status ≡ 0
  pub json : answer.json.now ≡ told.json.items
  pub fine : answer.fine ≡ mark_of told.is_finished

-- a call of `xvsh_look_call` left this answer
abbrev pub LookCall : Task → Bytes → Answer → Type 0
LookCall task schedule answer =
    ((told : LookAnswer) × IsLookAnswer task schedule told × TellsLook answer told) ⊎ ((fault : EmbedFault) × IsLookRefusal task schedule fault × TellsFault answer fault)
