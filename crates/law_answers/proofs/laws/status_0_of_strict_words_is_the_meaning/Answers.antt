use Rattle.law_answers.proofs.FromWords.{wrote_meaning}
use Rattle.law_answers.proofs.laws.status_0_of_strict_words_is_the_meaning.Goals as goal

pub returns : goal.returns
returns c = wrote_meaning
