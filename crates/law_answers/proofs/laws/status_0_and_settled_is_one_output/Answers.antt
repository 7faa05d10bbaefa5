use Rattle.std.proofs.Common.{◌++◌, Some, codes, subst}
use Rattle.xvsh_ends.specs.Ends.{Ends}
use Rattle.law_answers.specs.Settings.{plain_in}
use Rattle.law_answers.proofs.Statuses.{ends_agree, strict_ends_agree, runs_end_alike}
use Rattle.law_answers.proofs.laws.status_0_and_settled_is_one_output.Goals as goal

pub returns-clause-by_processes : goal.returns-clause-by_processes
returns-clause-by_processes c = λ s how other one two known settled apart aside first second. runs_end_alike s.input s.file s.profile s.script s.paths known how apart one.out one.out_after one.err one.err_after two.out two.out_after first other two.err two.err_after aside settled second

pub returns-clause-by_meaning : goal.returns-clause-by_meaning
returns-clause-by_meaning c = λ s how one two strict before known apart first second was now.
    let plain = subst (λ err. Ends s.input s.file two.out two.out_after err (Some (before ++ codes "settled\n")) (plain_in s strict) 0) was (subst (λ after. Ends s.input s.file two.out two.out_after two.err after (plain_in s strict) 0) now second) in
    ends_agree s.input s.file s.profile s.script s.paths known how apart one.out one.out_after one.err one.err_after two.out two.out_after first strict before plain

pub returns-clause-by_strict_meaning : goal.returns-clause-by_strict_meaning
returns-clause-by_strict_meaning c = λ s how one two known apart first second. strict_ends_agree s.input s.file s.profile s.script s.paths known how apart one.out one.out_after one.err one.err_after two.out two.out_after first two.err two.err_after second
