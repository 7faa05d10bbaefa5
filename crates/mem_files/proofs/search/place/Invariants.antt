-- The place lies between the two ends.
use Rattle.std.proofs.Common.{◌-◌, ◌≤◌, length}
use Rattle.mem_files.specs.Place.{place}
use Rattle.mem_files.proofs.search.place.Given as goal

abbrev pub invariant-loop-low : goal.invariant-loop-low
invariant-loop-low g l = record {
  low : l.low ≤ place l.entries l.name;
  high : place l.entries l.name ≤ l.high;
  within : l.high ≤ length l.entries;
}

abbrev pub decreases-loop-low : goal.decreases-loop-low
decreases-loop-low g l = l.high - l.low
