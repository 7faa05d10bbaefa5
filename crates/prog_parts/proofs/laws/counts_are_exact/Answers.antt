use Rattle.prog_parts.proofs.ExactCounts.{ends_exact, words_exact, bytes_exact}
use Rattle.prog_parts.proofs.laws.counts_are_exact.Goals as goal

pub returns-clause-lines : goal.returns-clause-lines
returns-clause-lines c bytes below = ends_exact bytes below

pub returns-clause-words : goal.returns-clause-words
returns-clause-words c bytes below = words_exact bytes below

pub returns-clause-bytes : goal.returns-clause-bytes
returns-clause-bytes c bytes below = bytes_exact bytes below
