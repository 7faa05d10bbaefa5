use Rattle.process_model.specs.Seen.{reader, writer}
use Rattle.law_runs.proofs.standing.Kids.{keeps_read, keeps_write}
use Rattle.law_runs.proofs.standing.an_end_that_nobody_holds_was_given_up_by_its_side.Goals as goal

pub returns-clause-left : goal.returns-clause-left
returns-clause-left c = λ profile V a b old parent p i stage lost x y bytes has nobody. keeps_write profile V a (writer i) b p x has.3 nobody

pub returns-clause-right : goal.returns-clause-right
returns-clause-right c = λ profile V a b old parent p i stage lost x y bytes has nobody. keeps_read profile V (reader i) b a p y has.4 nobody
