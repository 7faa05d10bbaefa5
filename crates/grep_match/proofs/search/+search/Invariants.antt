use Rattle.std.proofs.Common.{◌≡◌, ◌∷◌, ◌+◌, ◌*◌, ◌≤◌, length}
use Rattle.grep_match.specs.declared.item.Item.TheVariants.{Star}
use Rattle.grep_match.specs.Pattern.{items_of}
use Rattle.grep_match.specs.Match.{can_fit}
use Rattle.grep_match.proofs.search.+search.Given as goal

abbrev pub decreases-fits : goal.decreases-fits
decreases-fits l = 2 * length l.items.now

abbrev pub decreases-fits_star : goal.decreases-fits_star
decreases-fits_star l = 2 * length l.items.now + 1

-- what is left can fit the rest just where all could fit the text
abbrev pub invariant-fits-loop-item : goal.invariant-fits-loop-item
invariant-fits-loop-item l = record {
  fewer : length l.left ≤ length l.items;
  same : can_fit (items_of l.left) l.unread ≡ can_fit (items_of l.items) l.text;
}

abbrev pub decreases-fits-loop-item : goal.decreases-fits-loop-item
decreases-fits-loop-item l = length l.left

abbrev pub invariant-fits_star-loop-unread : goal.invariant-fits_star-loop-unread
invariant-fits_star-loop-unread l = can_fit (Star l.byte ∷ items_of l.items) l.unread ≡ can_fit (Star l.byte ∷ items_of l.items) l.text

abbrev pub decreases-fits_star-loop-unread : goal.decreases-fits_star-loop-unread
decreases-fits_star-loop-unread l = length l.unread
