use Rattle.prog_parts.proofs.WordRuns.{counted, some_words}
use Rattle.prog_parts.proofs.laws.words_are_the_longest_runs.Goals as goal

pub returns-clause-exist : goal.returns-clause-exist
returns-clause-exist c bytes = some_words bytes

pub returns-clause-counted : goal.returns-clause-counted
returns-clause-counted c bytes runs are = counted bytes runs are
