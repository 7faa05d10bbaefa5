use Rattle.std.proofs.Common.{List, map, ◌++◌, sym, subst}
use Rattle.std.specs.List.{AllZip}
use Rattle.xvsh_grades.specs.Jobs.{IsMarkOf, read_of}
use Rattle.xvsh_grades.specs.Marks.{AreMarks}
use Rattle.xvsh_grades.specs.declared.marks.Mark.{Mark}
use Rattle.xvsh_grades.proofs.Judged.{judged}
use Rattle.xvsh_grades.proofs.batches.judge_scripts.Goals as goal

pub returns : goal.returns
returns g c =
    let others = map (λ test. test.now) c.args.plan.now.tests.now in
    let found = c.in_ok-mark_all.ensures in
    λ own reads marks. subst (AreMarks own others (reads ++ map read_of c.args.scripts.now)) (sym {A = List Mark} found.1)
    (judged own others reads c.args.marks.now.items marks c.in_ok-pieces.ensures found.0 (subst (λ pieces. AllZip IsMarkOf pieces found.0) c.as_slice.ensures.value found.2))
