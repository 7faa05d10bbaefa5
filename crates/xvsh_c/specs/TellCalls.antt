-- What a call leaves of a check or an explanation on files and input: what the library below reports of the task, or a fault that is due.
use Rattle.std.specs.Prelude.{◌≡◌, ◌⊎◌, ℕ, Bool}
use Rattle.mem_files.specs.Name.{Bytes}
use Rattle.embed.specs.declared.task.Task.{Task}
use Rattle.embed.specs.declared.fault.EmbedFault.{EmbedFault}
use Rattle.embed.specs.Packing.{mark_of}
use Rattle.embed.specs.declared.turns.TurnsAnswer.{TurnsAnswer}
use Rattle.embed.specs.declared.rooms.RoomAnswer.{RoomAnswer}
use Rattle.embed.specs.declared.whys.WhysAnswer.{WhysAnswer}
use Rattle.embed.specs.Tells.{IsRoomAnswer, IsTellFault, IsTurnsAnswer, IsWhysAnswer, IsWhysFault}
use Rattle.xvsh_c.specs.declared.answer.Answer.{Answer}
use Rattle.xvsh_c.specs.Answers.{TellsFault}
use Rattle.xvsh_c.specs.AskCalls.{is_on}

-- the answer has this object, and says whether all is fine
pub record TellsObject (answer : Answer) (object : Bytes) (is_fine : Bool) : Type 0 where
  pub status : answer.status ≡ 0
  pub json : answer.json.now ≡ object
  pub fine : answer.fine ≡ mark_of is_fine

-- a call of `xvsh_check_turns_call` on the task left this answer
abbrev pub TurnsCall : Task → ℕ → Answer → Type 0
TurnsCall task strict answer =
    ((told : TurnsAnswer) × IsTurnsAnswer task (is_on strict) told × TellsObject answer told.json.items told.findings.is_harmless) ⊎ ((fault : EmbedFault) × IsTellFault task fault × TellsFault answer fault)

-- a call of `xvsh_check_room_call` did
abbrev pub RoomCall : Task → ℕ → Answer → Type 0
RoomCall task strict answer =
    ((told : RoomAnswer) × IsRoomAnswer task (is_on strict) told × TellsObject answer told.json.items told.findings.is_harmless) ⊎ ((fault : EmbedFault) × IsTellFault task fault × TellsFault answer fault)

-- a call of `xvsh_explain_why_call` did
abbrev pub WhysCall : Task → Answer → Type 0
WhysCall task answer =
    ((told : WhysAnswer) × IsWhysAnswer task told × TellsObject answer told.json.items told.noted.is_fine) ⊎ ((fault : EmbedFault) × IsWhysFault task fault × TellsFault answer fault)
