use Rattle.std.proofs.Common.{◌≡◌, length}
use Rattle.grep_match.specs.Pattern.{items_of}
use Rattle.grep_match.specs.Match.{can_fit_somewhere}
use Rattle.grep_match.proofs.search.fits_somewhere.Given as goal

abbrev pub invariant-loop-unread : goal.invariant-loop-unread
invariant-loop-unread l = can_fit_somewhere (items_of l.items) l.unread ≡ can_fit_somewhere (items_of l.items) l.text

abbrev pub decreases-loop-unread : goal.decreases-loop-unread
decreases-loop-unread l = length l.unread
