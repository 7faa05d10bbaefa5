use Rattle.xvsh_checks.proofs.whys.find_whys.Goals as goal

pub returns-clause-none : goal.returns-clause-none
returns-clause-none c = c.in_ok-reasons.ensures.none
