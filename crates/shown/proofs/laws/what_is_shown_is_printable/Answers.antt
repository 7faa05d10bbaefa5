use Rattle.shown.proofs.Printable.{all_printable, all_readable}
use Rattle.shown.proofs.laws.what_is_shown_is_printable.Goals as goal

pub returns-clause-bytes : goal.returns-clause-bytes
returns-clause-bytes c = all_printable

pub returns-clause-names : goal.returns-clause-names
returns-clause-names c = all_readable
