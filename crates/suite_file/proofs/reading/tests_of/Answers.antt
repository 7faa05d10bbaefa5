use Rattle.std.proofs.Common.{◌∷◌, [], refl, append_assoc, append-nil}
use Rattle.std.proofs.lemmas.List.{drop_all}
use Rattle.std.proofs.lemmas.Result.{err_from_is_err_and}
use Rattle.toml.specs.View.{table_view, view}
use Rattle.suite_file.proofs.Data.{table-from}
use Rattle.suite_file.proofs.Tests.{no_own_name, no_test, none_of, no_test_table, tests_left, tests_step}
use Rattle.suite_file.proofs.reading.tests_of.Goals as goal

pub returns-in_default-clause-refused : goal.returns-in_default-clause-refused
returns-in_default-clause-refused c _ all are own =
    let more = c.loop-value.invariant.left all are in
    no_test_table c.args.limits c.args.values.now c.loop-value.value-index c.value-item.result more.0 c.loop-value-test.true c.value-item.is (rw (none_of c.as_table.result c.in_default.not-Some) at c.as_table.ensures) more.1

pub returns-in_err-test-clause-refused : goal.returns-in_err-test-clause-refused
returns-in_err-test-clause-refused c =
    let p = err_from_is_err_and c.from_residual.result c.from_residual.ensures.1 in
    let is = table-from (view c.value-item.result) (table_view c.in-Some.table.now) (rw c.in-Some.is at c.as_table.ensures) in
    rw (p.1, p.2) (λ at all are own.
    let more = c.loop-value.invariant.left all are in
    no_test c.args.limits c.args.values.now c.loop-value.value-index c.value-item.result _ more.0 c.loop-value-test.true c.value-item.is is (c.in_err-test.ensures.refused at) more.1)

pub returns-in_err-add-clause-refused : goal.returns-in_err-add-clause-refused
returns-in_err-add-clause-refused c =
    let p = err_from_is_err_and c.from_residual-in_err-add.result c.from_residual-in_err-add.ensures.1 in
    let is = table-from (view c.value-item.result) (table_view c.in-Some.table.now) (rw c.in-Some.is at c.as_table.ensures) in
    rw (p.1, p.2) (λ at all are own.
    let more = c.loop-value.invariant.left all are in
    no_own_name c.args.limits c.args.values.now c.loop-value.value-index c.value-item.result _ c.in_ok-test.test c.loop-value.tests.items all more.0 c.loop-value-test.true c.value-item.is is c.in_ok-test.ensures.ok more.1 more.2 (c.in_err-add.ensures.refused at) own)

pub loop-value-preserved : goal.loop-value-preserved
loop-value-preserved c =
    let is = table-from (view c.value-item.result) (table_view c.in-Some.table.now) (rw c.in-Some.is at c.as_table.ensures) in
    record {
      each = λ more left.
          let longer = tests_step c.args.limits c.args.values.now c.loop-value.value-index c.value-item.result _ c.in_ok-test.test more c.loop-value-test.true c.value-item.is is c.in_ok-test.ensures.ok left in
          rw (c.in_ok-add.ensures.items, append_assoc c.loop-value.tests.items (c.in_ok-test.test ∷ []) more) (c.loop-value.invariant.each (c.in_ok-test.test ∷ more) longer);
      left = λ all are.
          let more = c.loop-value.invariant.left all are in
          rw c.in_ok-add.ensures.items (tests_left c.args.limits c.args.values.now c.loop-value.value-index c.value-item.result _ c.in_ok-test.test c.loop-value.tests.items all more.0 c.loop-value-test.true c.value-item.is is c.in_ok-test.ensures.ok more.1 more.2);
      own = c.in_ok-add.ensures.names;
    }

pub returns-clause-each : goal.returns-clause-each
returns-clause-each c =
    rw (append-nil c.loop-value.tests.items) at (c.loop-value.invariant.each [] (rw (drop_all c.loop-value.value-index c.args.values.now c.loop-value-test.false) refl))
