use Rattle.std.proofs.Common.{◌≡◌, List, [], None, map, take}
use Rattle.std.specs.List.{AllZip}
use Rattle.xvsh_read.specs.Reading.{told_at}
use Rattle.grade_tests.specs.declared.test.Loaded.{Loaded}
use Rattle.xvsh_grades.specs.Jobs.{Holds}
use Rattle.xvsh_grades.specs.Marks.{IsReadAt, ScriptRead}
use Rattle.xvsh_grades.proofs.batches.Book.take_all.Given as goal

-- the book holds what was read at the paths so far
abbrev pub invariant-loop-path : goal.invariant-loop-path
invariant-loop-path g l = record {
  reads : List ScriptRead;
  read : AllZip (IsReadAt (told_at None (g.H.Host.file l.fn.host))) (take l.path-index l.paths) reads;
  holds : (own : List Loaded) → Holds own (map (λ test. test.now) l.plan.tests.now) [] l.fn.self → Holds own (map (λ test. test.now) l.plan.tests.now) reads l.self;
  stays : g.H.Host.file l.host ≡ g.H.Host.file l.fn.host;
}
