-- The tests of a suite, as its text says them.
use Rattle.std.specs.Prelude.{◌≡◌, ◌≢◌, ℕ, false, List, [], ◌∷◌, AllPairs, Some, IsUtf8, codes, string_bytes}
use Rattle.toml.specs.Data.{string, array, table, Items, no_items, item, Members, get_member}
use Rattle.toml.specs.Parse.{parse_document}
use Rattle.suite_file.specs.Entries.{HasOnlyKeys, IsTextIfThere, IsTableIfThere, IsNumber, IsNumberIfThere, IsTruth, IsSource, IsSourceOrEmpty, AreFiles}
use Rattle.suite_file.specs.declared.suite.Given.{Given}
use Rattle.suite_file.specs.declared.suite.Limits.{Limits}
use Rattle.suite_file.specs.declared.suite.SuiteTest.{SuiteTest}
use Rattle.suite_file.specs.declared.suite.Wanted.{Wanted}

-- the keys of a suite, and those of a test
abbrev pub suite_keys : List (List ℕ)
suite_keys = codes "append" ∷ codes "bytes" ∷ codes "every_way" ∷ codes "metadata" ∷ codes "seconds" ∷ codes "states" ∷ codes "test" ∷ codes "title" ∷ codes "turns" ∷ []

abbrev pub test_keys : List (List ℕ)
test_keys = codes "append" ∷ codes "bytes" ∷ codes "every_way" ∷ codes "expect" ∷ codes "files" ∷ codes "input" ∷ codes "input_file" ∷ codes "metadata" ∷ codes "name" ∷ codes "output" ∷ codes "output_file" ∷ codes "points" ∷ codes "script" ∷ codes "script_file" ∷ codes "states" ∷ codes "turns" ∷ []

-- the limits where neither the suite nor the test says any; no turns: as many as it takes
abbrev pub first_limits : Limits
first_limits = record { appends = false; bytes = 1048576; states = 40000; turns = 0; every_way = false }

-- the limits are those that the table says, and each of which it says nothing is that of the others
pub record AreLimits (said : Members) (others limits : Limits) : Type 0 where
  pub appends : IsTruth (get_member (codes "append") said) others.appends limits.appends
  pub bytes : IsNumber 1 1048576 (get_member (codes "bytes") said) others.bytes limits.bytes
  pub states : IsNumber 1 10000000 (get_member (codes "states") said) others.states limits.states
  pub turns : IsNumber 1 1000000000 (get_member (codes "turns") said) others.turns limits.turns
  pub every_way : IsTruth (get_member (codes "every_way") said) others.every_way limits.every_way

-- it is what the test's table gives to a script
pub record IsGiven (said : Members) (given : Given) : Type 0 where
  pub script : IsSource (get_member (codes "script") said) (get_member (codes "script_file") said) given.script
  pub input : IsSourceOrEmpty (get_member (codes "input") said) (get_member (codes "input_file") said) given.stdin
  pub files : AreFiles (get_member (codes "files") said) given.files.items

-- it is what the test's table wants of a script
pub record IsWanted (said : Members) (wanted : Wanted) : Type 0 where
  pub output : IsSource (get_member (codes "output") said) (get_member (codes "output_file") said) (Some wanted.output)
  pub expect : AreFiles (get_member (codes "expect") said) wanted.files.items

-- the test is what its table says; each limit of which it says nothing is that of the suite
pub record IsTest (suite : Limits) (said : Members) (test : SuiteTest) : Type 0 where
  pub keys : HasOnlyKeys test_keys said
  pub metadata : IsTableIfThere (get_member (codes "metadata") said)
  pub name : get_member (codes "name") said ≡ Some (string (string_bytes test.name))
  pub named : string_bytes test.name ≢ []
  pub points : IsNumber 0 1000000 (get_member (codes "points") said) 1 test.points
  pub limits : AreLimits said suite test.limits
  pub given : IsGiven said test.given
  pub wanted : IsWanted said test.wanted

-- they are the tests that these tables say, in order
abbrev pub AreTests : Limits → Items → List SuiteTest → Type 0
AreTests suite no_items tests = tests ≡ []
AreTests suite (item (table said) rest) (test ∷ tests) = IsTest suite said test × AreTests suite rest tests
AreTests suite (item _ rest) tests = ⊥

-- both have other names
abbrev pub HaveOtherNames : SuiteTest → SuiteTest → Type 0
HaveOtherNames test other = string_bytes test.name ≢ string_bytes other.name

-- no two have one name
abbrev pub HaveOwnNames : List SuiteTest → Type 0
HaveOwnNames tests = AllPairs HaveOtherNames tests

-- the tests are those that the table of a suite says, of which there is one at least
pub record AreTestsOf (said : Members) (tests : List SuiteTest) : Type 0 where
  pub keys : HasOnlyKeys suite_keys said
  pub title : IsTextIfThere (get_member (codes "title") said)
  pub metadata : IsTableIfThere (get_member (codes "metadata") said)
  pub seconds : IsNumberIfThere 1 1000000 (get_member (codes "seconds") said)
  pub limits : Limits
  pub says : AreLimits said first_limits limits
  pub tables : Items
  pub list : get_member (codes "test") said ≡ Some (array tables)
  pub each : AreTests limits tables tests
  pub some : tests ≢ []
  pub names : HaveOwnNames tests

-- the text is TOML in UTF-8, and the tests are those of the suite that it is
pub record IsSuiteText (text : List ℕ) (tests : List SuiteTest) : Type 0 where
  pub said : Members
  pub utf8 : IsUtf8 text
  pub parsed : parse_document text ≡ Some said
  pub suite : AreTestsOf said tests
