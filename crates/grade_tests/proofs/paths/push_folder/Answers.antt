use Rattle.grade_tests.proofs.Folders.{pushed, unpushed}
use Rattle.grade_tests.proofs.paths.push_folder.Goals as goal

pub returns-in-None : goal.returns-in-None
returns-in-None c = unpushed c.args.suite.now _ c.in-None.ensures.cases

pub returns-in_ok-push_str-in-Some-2 : goal.returns-in_ok-push_str-in-Some-2
returns-in_ok-push_str-in-Some-2 c =
    pushed c.args.suite.now c.in-Some.folder.now c.in-Some.field-0-1.now _ _ _ c.in-Some.ensures.cases c.in_ok-push_str-in-Some.ensures.bytes c.in_ok-push_str-in-Some-2.ensures.bytes
