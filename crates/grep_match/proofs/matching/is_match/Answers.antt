use Rattle.grep_match.proofs.Pieces.{answers}
use Rattle.grep_match.proofs.matching.is_match.Goals as goal

pub returns-in-Some-clause-pieces : goal.returns-in-Some-clause-pieces
returns-in-Some-clause-pieces c = answers c.in-Some.answer c.args.pattern.now c.args.text.now c.in-Some.ensures

pub returns-then-text-lt-ROOM-clause-pieces : goal.returns-then-text-lt-ROOM-clause-pieces
returns-then-text-lt-ROOM-clause-pieces c = answers c.is_match_in_marks.result c.args.pattern.now c.args.text.now c.is_match_in_marks.ensures

pub returns-then-pattern-lt-ROOM-clause-pieces : goal.returns-then-pattern-lt-ROOM-clause-pieces
returns-then-pattern-lt-ROOM-clause-pieces c = answers c.is_match_in_states.result c.args.pattern.now c.args.text.now c.is_match_in_states.ensures

pub returns-else-pattern-lt-ROOM-clause-pieces : goal.returns-else-pattern-lt-ROOM-clause-pieces
returns-else-pattern-lt-ROOM-clause-pieces c = answers c.is_match_by_cuts.result c.args.pattern.now c.args.text.now c.is_match_by_cuts.ensures
