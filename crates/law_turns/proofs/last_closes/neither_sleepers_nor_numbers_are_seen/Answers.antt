use Rattle.law_turns.proofs.last_closes.Anyhow.{following_anyhow}
use Rattle.law_turns.proofs.last_closes.neither_sleepers_nor_numbers_are_seen.Goals as goal

pub returns : goal.returns
returns g c = following_anyhow g.M.Machine.call_of g.M.Machine.next_of
