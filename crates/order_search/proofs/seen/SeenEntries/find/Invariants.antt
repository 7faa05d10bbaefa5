use Rattle.closed_search.proofs.Growing.{left_of}
use Rattle.order_search.proofs.seen.SeenEntries.find.Given as goal

abbrev pub decreases-loop-found : goal.decreases-loop-found
decreases-loop-found l = left_of l.found
