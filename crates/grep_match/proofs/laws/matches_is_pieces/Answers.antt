use Rattle.grep_match.proofs.Pieces.{matches_is_pieces}
use Rattle.grep_match.proofs.laws.matches_is_pieces.Goals as goal

pub returns : goal.returns
returns c = matches_is_pieces
