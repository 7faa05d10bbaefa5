use Rattle.meaning_model.proofs.Firm.{firm_words}
use Rattle.meaning_model.proofs.laws.a_simple_command_is_firm.Goals as goal

pub returns : goal.returns
returns c words input F = firm_words words input F
