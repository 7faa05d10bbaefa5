use Rattle.std.proofs.Common.{◌<◌, length, arith}
use Rattle.mem_files.specs.Listing.{max_files}
use Rattle.xvsh_read.specs.Reading.{max_input}
use Rattle.embed.specs.Grades.{long_suite, many_files}
use Rattle.embed.proofs.grading.check_lengths.Goals as goal

pub returns-then-suite-gt-MAX_INPUT-clause-fault : goal.returns-then-suite-gt-MAX_INPUT-clause-fault
returns-then-suite-gt-MAX_INPUT-clause-fault c =
    let long : max_input < length c.args.suite.now = omega arith in
    long_suite long

pub returns-then-task-gt-MAX_FILES-clause-fault : goal.returns-then-task-gt-MAX_FILES-clause-fault
returns-then-task-gt-MAX_FILES-clause-fault c =
    let many : max_files < length c.args.task.now.files.now = omega arith in
    many_files many
