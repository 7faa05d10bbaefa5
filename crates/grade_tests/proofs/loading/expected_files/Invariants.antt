use Rattle.std.proofs.Common.{◌≡◌, take}
use Rattle.std.specs.List.{AllZip}
use Rattle.grade_tests.specs.Loads.{IsExpectedFrom}
use Rattle.grade_tests.proofs.loading.expected_files.Given as goal

-- so it is of the sources so far, and what the host states stayed
abbrev pub invariant-loop-source : goal.invariant-loop-source
invariant-loop-source g l = record {
  each : AllZip (IsExpectedFrom (g.H.Host.file l.fn.host) l.spot.suite.now) (take l.source-index l.sources) l.files.items;
  input_stays : g.H.Host.input l.host ≡ g.H.Host.input l.fn.host;
  files_stay : g.H.Host.file l.host ≡ g.H.Host.file l.fn.host;
}
