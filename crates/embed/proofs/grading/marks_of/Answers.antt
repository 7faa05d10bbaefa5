use Rattle.std.proofs.Common.{Bool, List, ◌++◌, false, subst, sym}
use Rattle.xvsh_grades.specs.Marks.{AreMarks, of_own, of_script, other_tests, own_tests}
use Rattle.xvsh_grades.specs.declared.marks.Mark.{Mark}
use Rattle.embed.specs.Grades.{reads_of, script_at}
use Rattle.embed.proofs.grading.marks_of.Goals as goal

pub returns-then-is_alone-clause-marks : goal.returns-then-is_alone-clause-marks
returns-then-is_alone-clause-marks c =
    let tests = c.args.tests.now in
    subst (λ (on : Bool). AreMarks (own_tests tests) (other_tests tests) (reads_of on c.args.script.now) c.in_ok-marks.marks.items) (sym c.if-is_alone.true) (of_own c.in_ok-marks.ensures.marks)

pub returns-clause-marks : goal.returns-clause-marks
returns-clause-marks c =
    let tests = c.args.tests.now in
    let own = c.in_ok-marks.marks.items in
    let others = c.in_ok-others.others.items in
    let all : AreMarks (own_tests tests) (other_tests tests) (reads_of false c.args.script.now) (own ++ others) =
    of_script (script_at c.args.script.now) others (of_own c.in_ok-marks.ensures.marks) c.in_ok-others.ensures.marks in
    subst (λ (on : Bool). AreMarks (own_tests tests) (other_tests tests) (reads_of on c.args.script.now) c.append.new.self.items) (sym c.if-is_alone.false)
    (subst (λ (marks : List Mark). AreMarks (own_tests tests) (other_tests tests) (reads_of false c.args.script.now) marks) (sym c.in_ok-append.ensures.items) all)
