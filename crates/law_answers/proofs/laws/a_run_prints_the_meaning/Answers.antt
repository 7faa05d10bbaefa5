use Rattle.std.proofs.Common.{false, codes}
use Rattle.std.specs.Str.{bytes_eq}
use Rattle.law_answers.proofs.Meant.{means}
use Rattle.law_answers.proofs.laws.a_run_prints_the_meaning.Goals as goal

pub returns-clause-run : goal.returns-clause-run
returns-clause-run c = λ s harts turns lists text diag r settled. means s.profile r.lines r.stdin r.given settled r.on.events lists text diag r.on.prints s.input s.file false s.script s.paths r.starts

pub returns-clause-replay : goal.returns-clause-replay
returns-clause-replay c = λ s schedule lists text diag r settled. means s.profile r.lines r.stdin r.given settled r.events lists text diag r.prints s.input s.file (bytes_eq schedule (codes "-")) s.script s.paths r.starts
