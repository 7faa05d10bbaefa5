use Rattle.embed.specs.Runs.{no_room}
use Rattle.embed.specs.Pairs.{of_first, of_other}
use Rattle.embed.proofs.drawing.draw_two_of.Goals as goal

pub returns-in-Err-replay_of-clause-fault : goal.returns-in-Err-replay_of-clause-fault
returns-in-Err-replay_of-clause-fault c = of_other (c.in-Ok.run', c.in-Ok.ensures.ran) c.in-Err-replay_of.ensures.fault

pub returns-in-None-clause-fault : goal.returns-in-None-clause-fault
returns-in-None-clause-fault c = of_first no_room
