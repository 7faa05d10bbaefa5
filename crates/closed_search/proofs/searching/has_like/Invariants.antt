use Rattle.closed_search.proofs.Growing.{left_of}
use Rattle.closed_search.proofs.searching.has_like.Given as goal

abbrev pub decreases-loop-found : goal.decreases-loop-found
decreases-loop-found g l = left_of l.found
