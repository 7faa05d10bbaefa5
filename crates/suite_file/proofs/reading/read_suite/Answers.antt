use Rattle.std.proofs.Common.{◌∙◌, sym}
use Rattle.std.proofs.lemmas.Option.{same_Some}
use Rattle.std.proofs.lemmas.Result.{err_from_is_err_and}
use Rattle.suite_file.proofs.reading.read_suite.Goals as goal

pub returns-in_err-tests-clause-refused : goal.returns-in_err-tests-clause-refused
returns-in_err-tests-clause-refused c =
    let p = err_from_is_err_and c.from_residual-in_err-tests.result c.from_residual-in_err-tests.ensures.1 in
    rw (p.1, p.2) (λ at tests r.
    let same = same_Some r.said _ (sym r.parsed ∙ c.in_ok-table.ensures.ok.1) in
    c.in_err-tests.ensures.refused at tests (rw same at r.suite))
