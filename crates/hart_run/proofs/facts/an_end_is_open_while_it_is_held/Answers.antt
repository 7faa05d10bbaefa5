use Rattle.hart_run.proofs.Told as told
use Rattle.hart_run.proofs.facts.an_end_is_open_while_it_is_held.Goals as goal

pub returns-clause-reader : goal.returns-clause-reader
returns-clause-reader g c = λ id. told.reader_held g.M.Machine.call_of g.M.Machine.next_of c.args.kernel.now.boot c.args.kernel.now.now c.args.kernel.now.schedule c.args.kernel.now.notes c.replays.ensures c.is_booted.ensures id

pub returns-clause-writer : goal.returns-clause-writer
returns-clause-writer g c = λ id. told.writer_held g.M.Machine.call_of g.M.Machine.next_of c.args.kernel.now.boot c.args.kernel.now.now c.args.kernel.now.schedule c.args.kernel.now.notes c.replays.ensures c.is_booted.ensures id
