-- What a call of a check or an explanation leaves: what the library below reports of the task, or a fault that is due.
use Rattle.std.specs.Prelude.{◌≡◌, ◌⊎◌, ℕ, Bool, not, ◌==◌}
use Rattle.embed.specs.declared.task.Task.{Task}
use Rattle.embed.specs.declared.fault.EmbedFault.{EmbedFault}
use Rattle.embed.specs.Packing.{mark_of}
use Rattle.embed.specs.declared.answer.AskAnswer.{AskAnswer}
use Rattle.embed.specs.Asks.{IsAskFault, IsCheckAnswer, IsExplainAnswer}
use Rattle.xvsh_c.specs.declared.answer.Answer.{Answer}
use Rattle.xvsh_c.specs.Answers.{TellsFault}

-- 0 asks for nothing, any other number does
abbrev pub is_on : ℕ → Bool
is_on flag = not (flag == 0)

-- the answer has what is reported of a script before any run
pub record TellsAsked (answer : Answer) (told : AskAnswer) : Type 0 where
  pub status : answer.status ≡ 0
  pub json : answer.json.now ≡ told.json.items
  pub fine : answer.fine ≡ mark_of told.is_fine

-- a call of `xvsh_check_call` on the task left this answer
abbrev pub CheckCall : Task → ℕ → Answer → Type 0
CheckCall task strict answer =
    ((told : AskAnswer) × IsCheckAnswer task (is_on strict) told × TellsAsked answer told) ⊎ ((fault : EmbedFault) × IsAskFault task.script.now fault × TellsFault answer fault)

-- a call of `xvsh_explain_call` did
abbrev pub ExplainCall : Task → Answer → Type 0
ExplainCall task answer =
    ((told : AskAnswer) × IsExplainAnswer task told × TellsAsked answer told) ⊎ ((fault : EmbedFault) × IsAskFault task.script.now fault × TellsFault answer fault)
