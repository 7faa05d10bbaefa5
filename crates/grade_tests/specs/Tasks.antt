-- A test, as a script is judged by it.
use Rattle.std.specs.Prelude.{◌≡◌}
use Rattle.grade_verdicts.specs.declared.expected.Task.{Task}
use Rattle.grade_tests.specs.declared.test.Loaded.{Loaded}

-- the task is the test: it gives what the test has, expects what it does, and has its limits
pub record IsTaskOf (test : Loaded) (t : Task) : Type 0 where
  pub profile : t.profile ≡ test.profile
  pub stdin : t.stdin.now ≡ test.stdin.items
  pub files : t.files.now ≡ test.files
  pub expected : t.expected.now ≡ test.expected
  pub bytes : t.bytes ≡ test.bytes
  pub states : t.states ≡ test.states
  pub turns : t.turns ≡ test.turns
