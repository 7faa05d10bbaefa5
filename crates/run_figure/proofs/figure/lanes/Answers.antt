use Rattle.std.proofs.Common.{sym, subst}
use Rattle.run_figure.specs.Figure.{AreApart}
use Rattle.run_figure.proofs.Apart.{all_apart}
use Rattle.run_figure.proofs.figure.lanes.Goals as goal

pub returns-clause-apart : goal.returns-clause-apart
returns-clause-apart g c rise = subst AreApart (sym c.in_ok-lanes.ensures) (all_apart c.args.events.now rise)
