use Rattle.std.proofs.Common.{◌≡◌, take, map}
use Rattle.kernel_model.specs.Idle.{renamed_pipe}
use Rattle.order_search.specs.Places.{place_among}
use Rattle.order_search.proofs.parts.read_pipes.Given as goal

abbrev pub invariant-loop-name : goal.invariant-loop-name
invariant-loop-name g l = l.pipes.items ≡ map (renamed_pipe (place_among l.names)) (take l.name-index l.state.pipes)
