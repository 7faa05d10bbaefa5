-- The tests of a suite with all that they name.
use Rattle.std.specs.Prelude.{◌≡◌, ℕ, List, [], ◌∷◌, ◌++◌, Option, Some, None, min, IsSomeAnd, MatchOption, string_bytes}
use Rattle.std.specs.List.{AllZip}
use Rattle.mem_files.specs.Name.{Name, Bytes}
use Rattle.mem_files.specs.Listing.{with_entry}
use Rattle.suite_file.specs.Suites.{IsSuiteText}
use Rattle.suite_file.specs.declared.suite.NamedSource.{NamedSource}
use Rattle.suite_file.specs.declared.suite.Source.{Source}
use Rattle.suite_file.specs.declared.suite.Source.TheVariants.{Inline, Beside}
use Rattle.suite_file.specs.declared.suite.SuiteTest.{SuiteTest}
use Rattle.xvsh_read.specs.Path.{Path}
use Rattle.xvsh_read.specs.Reading.{Agree, told_at}
use Rattle.xvsh_read.specs.Words.{profile_of}
use Rattle.grade_verdicts.specs.declared.expected.ExpectedFile.{ExpectedFile}
use Rattle.grade_tests.specs.Paths.{IsPlaceOf}
use Rattle.grade_tests.specs.declared.test.Loaded.{Loaded}

-- the most states of a test that allows this many, where there may be an upper bound for all tests
abbrev pub most_states : Option ℕ → ℕ → ℕ
most_states None own = own
most_states (Some most) own = min own most

-- what follows is by the path of the suite, and what the host states of the files at paths
module _ (file : Path → Option Bytes) (suite : Path) where
  -- the bytes are the source's own, or those of the file at its path
  abbrev pub AreBytesOf : Source → Bytes → Type 0
  AreBytesOf (Inline own) bytes = bytes ≡ own.items
  AreBytesOf (Beside path) bytes = (place : Path) × IsPlaceOf suite (string_bytes path) place × Agree (file place) bytes

  -- the files once those of the sources were put in order, each under its name
  pub data ArePutFrom : List NamedSource → List (Name × Bytes) → Type 0 where
    none_put : ArePutFrom [] []
    one_put : {sources : List NamedSource} {given : List (Name × Bytes)} (source : NamedSource) (bytes : Bytes) → ArePutFrom sources given → AreBytesOf source.source bytes → ArePutFrom (sources ++ source ∷ []) (with_entry given source.name.items bytes)

  -- a file that is expected
  pub record IsExpectedFrom (source : NamedSource) (expected : ExpectedFile) : Type 0 where
    pub name : expected.name.items ≡ source.name.items
    pub bytes : AreBytesOf source.source expected.bytes.items

  -- it is the test, with all bytes that it names; orders are tried through so many states at most
  pub record IsLoaded (most : Option ℕ) (test : SuiteTest) (loaded : Loaded) : Type 0 where
    pub name : string_bytes loaded.name ≡ string_bytes test.name
    pub points : loaded.points ≡ test.points
    pub script : MatchOption test.given.script (loaded.script ≡ None) (λ source. IsSomeAnd loaded.script (λ bytes. AreBytesOf source bytes.items))
    pub stdin : AreBytesOf test.given.stdin loaded.stdin.items
    pub files : ArePutFrom test.given.files.items loaded.files
    pub output : AreBytesOf test.wanted.output loaded.expected.out.items
    pub expect : AllZip IsExpectedFrom test.wanted.files.items loaded.expected.files.items
    pub profile : loaded.profile ≡ profile_of test.limits.appends
    pub bytes : loaded.bytes ≡ test.limits.bytes
    pub states : loaded.states ≡ most_states most test.limits.states
    pub turns : loaded.turns ≡ test.limits.turns
    pub every_way : loaded.every_way ≡ test.limits.every_way

  -- they are the tests of the suite at its path, in order
  pub record AreTestsAt (input : Option Bytes) (most : Option ℕ) (tests : List Loaded) : Type 0 where
    pub text : Bytes
    pub told : Agree (told_at input file suite) text
    pub said : List SuiteTest
    pub says : IsSuiteText text said
    pub each : AllZip (IsLoaded most) said tests
