-- What a call of a run by meaning leaves: what the library below reports of the task, or a fault that is due.
use Rattle.std.specs.Prelude.{◌≡◌, ◌⊎◌}
use Rattle.embed.specs.declared.task.Task.{Task}
use Rattle.embed.specs.declared.fault.EmbedFault.{EmbedFault}
use Rattle.embed.specs.Packing.{mark_of}
use Rattle.embed.specs.declared.plain.PlainAnswer.{PlainAnswer}
use Rattle.embed.specs.Plain.{IsPlainAnswer, IsPlainFault}
use Rattle.xvsh_c.specs.declared.answer.Answer.{Answer}
use Rattle.xvsh_c.specs.Answers.{TellsFault}

-- the answer reports what a script gives by its meaning
pub record TellsPlain (answer : Answer) (told : PlainAnswer) : Type 0 where
  pub status : answer.status ≡ 0
  pub out : answer.out.now ≡ told.out.items
  pub sizes : answer.sizes.now ≡ told.files.sizes.items
  pub block : answer.block.now ≡ told.files.block.items
  pub settled : answer.fine ≡ mark_of told.is_settled

-- a call of `xvsh_plain_call` on the task left this answer
abbrev pub PlainCall : Task → Answer → Type 0
PlainCall task answer =
    ((told : PlainAnswer) × IsPlainAnswer task told × TellsPlain answer told) ⊎ ((fault : EmbedFault) × IsPlainFault task fault × TellsFault answer fault)
