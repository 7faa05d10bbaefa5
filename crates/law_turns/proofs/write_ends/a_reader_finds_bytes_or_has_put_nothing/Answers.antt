use Rattle.law_turns.proofs.write_ends.Finding.{finds_or_put_nothing}
use Rattle.law_turns.proofs.write_ends.a_reader_finds_bytes_or_has_put_nothing.Goals as goal

pub returns : goal.returns
returns g c = finds_or_put_nothing g.M.Machine.call_of g.M.Machine.next_of
