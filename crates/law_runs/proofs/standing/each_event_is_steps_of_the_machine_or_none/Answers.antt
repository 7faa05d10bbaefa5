use Rattle.law_runs.proofs.standing.OneFurther.{goes_further}
use Rattle.law_runs.proofs.standing.each_event_is_steps_of_the_machine_or_none.Goals as goal

pub returns : goal.returns
returns c = λ r e n l plain happened roomy. goes_further r.profile r.lines r.input r.files r.schedule r.notes r.last e n l r.are plain r.runs happened roomy
