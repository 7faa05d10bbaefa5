use Rattle.room_bounds.proofs.needs.of_back.Goals as goal

pub returns : goal.returns
returns c tree body = record { processes = c.one_more.ensures _ body.processes; entries = body.entries; descriptors = body.descriptors; names = body.names }
