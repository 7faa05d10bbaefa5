use Rattle.std.proofs.Common.{false, codes}
use Rattle.std.specs.Str.{bytes_eq}
use Rattle.law_answers.proofs.Meant.{only_memory_was_full}
use Rattle.law_answers.proofs.laws.a_printed_run_of_a_roomy_script_fills_nothing_but_memory.Goals as goal

pub returns-clause-run : goal.returns-clause-run
returns-clause-run c = λ s harts turns lists full text diag r settled roomy. only_memory_was_full s.profile r.lines r.stdin r.given settled roomy r.on.events lists full text diag r.on.prints s.input s.file false s.script s.paths r.starts

pub returns-clause-replay : goal.returns-clause-replay
returns-clause-replay c = λ s schedule lists full text diag r settled roomy. only_memory_was_full s.profile r.lines r.stdin r.given settled roomy r.events lists full text diag r.prints s.input s.file (bytes_eq schedule (codes "-")) s.script s.paths r.starts
