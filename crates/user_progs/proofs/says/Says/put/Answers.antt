use Rattle.std.proofs.Common.{◌∙◌, ap, sym}
use Rattle.user_progs.specs.View.{says_of}
use Rattle.user_progs.proofs.says.Says.put.Goals as goal

pub returns-in-CannotOpen : goal.returns-in-CannotOpen
returns-in-CannotOpen c = c.put_cannot_open.ensures ∙ sym (ap says_of c.in-CannotOpen.is)
