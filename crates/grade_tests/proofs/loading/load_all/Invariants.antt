use Rattle.std.proofs.Common.{◌≡◌, take}
use Rattle.std.specs.List.{AllZip}
use Rattle.grade_tests.specs.Loads.{IsLoaded}
use Rattle.grade_tests.proofs.loading.load_all.Given as goal

-- the tests so far are loaded, and what the host states stayed
abbrev pub invariant-loop-test : goal.invariant-loop-test
invariant-loop-test g l = record {
  each : AllZip (IsLoaded (g.H.Host.file l.fn.host) l.spot.suite.now l.most) (take l.test-index l.tests) l.loaded.items;
  input_stays : g.H.Host.input l.host ≡ g.H.Host.input l.fn.host;
  files_stay : g.H.Host.file l.host ≡ g.H.Host.file l.fn.host;
}
