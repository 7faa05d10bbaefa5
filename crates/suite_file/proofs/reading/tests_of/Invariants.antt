use Rattle.std.proofs.Common.{◌≡◌, List, ◌++◌, drop}
use Rattle.toml.specs.View.{items_view}
use Rattle.suite_file.specs.Suites.{AreTests, HaveOwnNames}
use Rattle.suite_file.specs.declared.suite.SuiteTest.{SuiteTest}
use Rattle.suite_file.proofs.Tests.{names}
use Rattle.suite_file.proofs.reading.tests_of.Given as goal

-- the tests of what is left complete those of all, and where all have tests, what is left has some, with the names that are left
abbrev pub invariant-loop-value : goal.invariant-loop-value
invariant-loop-value l = record {
  each : (more : List SuiteTest) → AreTests l.limits (items_view (drop l.value-index l.values)) more → AreTests l.limits (items_view l.values) (l.tests.items ++ more);
  left : (all : List SuiteTest) → AreTests l.limits (items_view l.values) all → (more : List SuiteTest) × AreTests l.limits (items_view (drop l.value-index l.values)) more × (names all ≡ names l.tests.items ++ names more);
  own : HaveOwnNames l.tests.items;
}
