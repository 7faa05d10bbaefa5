use Rattle.std.proofs.Common.{◌∙◌, sym}
use Rattle.std.proofs.lemmas.Bool.{true≢false}
use Rattle.std.proofs.lemmas.Result.{err_from_is_err_and}
use Rattle.toml.specs.View.{table_view}
use Rattle.suite_file.specs.Suites.{first_limits}
use Rattle.suite_file.proofs.Tests.{no_tables, same_array, same_limits}
use Rattle.suite_file.proofs.Data.{text_there}
use Rattle.suite_file.proofs.reading.suite_of.Goals as goal

pub returns : goal.returns
returns c = record {
  ok = record {
    keys = rw (← c.of_suite.ensures) c.in_ok-check_keys.ensures.keys;
    title = text_there _ _ c.in_ok-text_at.ensures.ok;
    metadata = c.in_ok-check_keys.ensures.metadata;
    seconds = c.in_ok-check_number.ensures.ok;
    limits = c.in_ok-limits.limits;
    says = c.in_ok-limits.ensures.ok;
    tables = _;
    list = c.in_ok-list_of.ensures.ok;
    each = c.in_ok-tests.ensures.each;
    some = λ e. true≢false (sym (c.is_nothing.ensures.1 (c.as_slice.ensures.value ∙ e)) ∙ c.if-is_nothing.false);
    names = c.in_ok-tests.ensures.names;
  };
  refused = tt;
}

pub returns-in_err-tests-clause-refused : goal.returns-in_err-tests-clause-refused
returns-in_err-tests-clause-refused c =
    let p = err_from_is_err_and c.from_residual-in_err-tests.result c.from_residual-in_err-tests.ensures.1 in
    rw (p.1, p.2) (λ at tests r.
    let limits = same_limits (table_view c.args.suite.now.table.now) first_limits r.limits c.in_ok-limits.limits r.says c.in_ok-limits.ensures.ok in
    let tables = same_array r.tables _ (sym r.list ∙ c.in_ok-list_of.ensures.ok) in
    c.in_err-tests.ensures.refused at tests (rw (limits, tables) at r.each) r.names)

pub returns-then-is_nothing-clause-refused : goal.returns-then-is_nothing-clause-refused
returns-then-is_nothing-clause-refused c _ tests r =
    let tables = same_array r.tables _ (sym r.list ∙ c.in_ok-list_of.ensures.ok) in
    let nothing = sym c.as_slice.ensures.value ∙ c.is_nothing.ensures.0 c.if-is_nothing.true in
    let none = no_tables c.in_ok-limits.limits _ (rw nothing at c.in_ok-tests.ensures.each) in
    r.some (rw (tables ∙ none) at r.each)
