use Rattle.law_answers.specs.Written.{no_lists}
use Rattle.law_answers.proofs.Strictly.{strict_means, meant_alike}
use Rattle.law_answers.proofs.laws.status_0_of_a_strict_run_is_the_meaning.Goals as goal

pub returns-clause-meaning : goal.returns-clause-meaning
returns-clause-meaning c = λ s harts turns lists o ends. strict_means s.input s.file s.profile s.script s.paths harts turns lists o.out o.out_after o.err o.err_after ends

pub returns-clause-two : goal.returns-clause-two
returns-clause-two c = λ s harts others turns more one two known first second.
    meant_alike s.input s.file s.profile s.script s.paths known one.out one.out_after two.out two.out_after
    (strict_means s.input s.file s.profile s.script s.paths harts turns no_lists one.out one.out_after one.err one.err_after first)
    (strict_means s.input s.file s.profile s.script s.paths others more no_lists two.out two.out_after two.err two.err_after second)
