-- What a call of an exploration leaves: what the library below reports of the task, or a fault that is due.
use Rattle.std.specs.Prelude.{◌≡◌, ◌⊎◌, ℕ}
use Rattle.embed.specs.declared.task.Task.{Task}
use Rattle.embed.specs.declared.fault.EmbedFault.{EmbedFault}
use Rattle.embed.specs.Packing.{mark_of}
use Rattle.embed.specs.declared.exploring.ExploreAnswer.{ExploreAnswer}
use Rattle.embed.specs.Explores.{IsExploreAnswer, IsExploreRefusal}
use Rattle.xvsh_c.specs.declared.answer.Answer.{Answer}
use Rattle.xvsh_c.specs.Answers.{TellsFault}
use Rattle.xvsh_c.specs.AskCalls.{is_on}

-- the answer reports what every order of a script leaves
pub record TellsExplored (answer : Answer) (told : ExploreAnswer) : Type 0 where
  pub status : answer.status ≡ 0
  pub json : answer.json.now ≡ told.json.items
  pub fine : answer.fine ≡ mark_of told.is_single
  pub whole : answer.whole ≡ mark_of told.is_whole

-- a call of `xvsh_explore_call` left this answer
abbrev pub ExploreCall : Task → ℕ → ℕ → Answer → Type 0
ExploreCall task states thorough answer =
    ((told : ExploreAnswer) × IsExploreAnswer task states (is_on thorough) told × TellsExplored answer told) ⊎ ((fault : EmbedFault) × IsExploreRefusal task states fault × TellsFault answer fault)
