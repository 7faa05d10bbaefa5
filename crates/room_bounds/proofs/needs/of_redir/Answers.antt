use Rattle.room_bounds.proofs.needs.of_redir.Goals as goal

pub returns : goal.returns
returns c name tree body = record {
  processes = body.processes;
  entries = c.one_more.ensures _ body.entries;
  descriptors = body.descriptors;
  names = c.names_under.ensures name _ body.names;
}
