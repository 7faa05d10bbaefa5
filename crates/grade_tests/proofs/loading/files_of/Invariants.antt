use Rattle.std.proofs.Common.{◌≡◌, take}
use Rattle.grade_tests.specs.Loads.{ArePutFrom}
use Rattle.grade_tests.proofs.loading.files_of.Given as goal

-- the files of the sources so far were put, and what the host states stayed
abbrev pub invariant-loop-source : goal.invariant-loop-source
invariant-loop-source g l = record {
  put : ArePutFrom (g.H.Host.file l.fn.host) l.spot.suite.now (take l.source-index l.sources) l.files;
  input_stays : g.H.Host.input l.host ≡ g.H.Host.input l.fn.host;
  files_stay : g.H.Host.file l.host ≡ g.H.Host.file l.fn.host;
}
