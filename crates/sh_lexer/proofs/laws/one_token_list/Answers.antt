use Rattle.sh_lexer.proofs.Exists.{exists}
use Rattle.sh_lexer.proofs.Unique.{unique}
use Rattle.sh_lexer.proofs.laws.one_token_list.Goals as goal

pub returns-clause-exists : goal.returns-clause-exists
returns-clause-exists c line = exists line

pub returns-clause-unique : goal.returns-clause-unique
returns-clause-unique c line ts us p q = unique line 0 ts us p q
