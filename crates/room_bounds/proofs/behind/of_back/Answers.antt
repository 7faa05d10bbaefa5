use Rattle.room_bounds.proofs.behind.of_back.Goals as goal

pub returns : goal.returns
returns c tree body = record { at_once = c.one_more.ensures _ body.at_once; behind = body.at_once }
