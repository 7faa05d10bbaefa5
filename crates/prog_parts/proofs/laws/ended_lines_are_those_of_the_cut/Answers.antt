use Rattle.prog_parts.proofs.EndedCut.{ended_cut}
use Rattle.prog_parts.proofs.laws.ended_lines_are_those_of_the_cut.Goals as goal

pub returns : goal.returns
returns c bytes = let end = ended_cut bytes in (end.0, end.1.no_lf, end.1.whole, end.1.cut)
