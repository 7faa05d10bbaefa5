use Rattle.prog_parts.specs.NameSets.{no_names}
use Rattle.meaning_model.specs.Meaning.{script_tree}
use Rattle.meaning_model.proofs.NothingMet.{meets_nothing}
use Rattle.meaning_model.proofs.laws.a_settled_script_meets_nothing.Goals as goal

pub returns : goal.returns
returns c profile lines input F settled = (meets_nothing profile (script_tree lines) no_names input F settled.2).met
