-- the bands of the events so far
use Rattle.std.proofs.Common.{◌≡◌, take}
use Rattle.std.specs.List.{filter_map}
use Rattle.run_figure.specs.Figure.{band_of}
use Rattle.run_figure.proofs.figure.bands.Given as goal

abbrev pub invariant-loop-event : goal.invariant-loop-event
invariant-loop-event g l = l.bands.items ≡ filter_map band_of (take l.event-index l.events)
