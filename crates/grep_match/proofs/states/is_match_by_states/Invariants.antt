use Rattle.std.proofs.Common.{◌≡◌, ◌&&◌, ◌||◌, drop, not}
use Rattle.grep_match.specs.Pattern.{items_of}
use Rattle.grep_match.specs.Match.{can_fit_somewhere, matches}
use Rattle.grep_match.specs.States.{alive}
use Rattle.grep_match.proofs.states.is_match_by_states.Given as goal

-- what the states and later starts find in the rest is the answer
abbrev pub invariant-loop-other : goal.invariant-loop-other
invariant-loop-other l =
    (alive l.states (items_of l.items) (drop l.other-index l.text) || not l.anchored && can_fit_somewhere (items_of l.items) (drop l.other-index l.text)) ≡ matches l.pattern l.text
