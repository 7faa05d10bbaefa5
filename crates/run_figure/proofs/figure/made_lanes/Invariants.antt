-- the lanes of the events so far
use Rattle.std.proofs.Common.{◌≡◌, take}
use Rattle.std.specs.List.{filter_map}
use Rattle.run_figure.specs.Figure.{lane_of}
use Rattle.run_figure.proofs.figure.made_lanes.Given as goal

abbrev pub invariant-loop-event : goal.invariant-loop-event
invariant-loop-event g l = l.lanes.items ≡ filter_map lane_of (take l.event-index l.events)
