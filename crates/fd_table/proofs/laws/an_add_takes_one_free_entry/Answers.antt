use Rattle.std.proofs.Common.{arith}
use Rattle.fd_table.specs.Entries.{is_free, added}
use Rattle.fd_table.proofs.Free.{found, add_taken}
use Rattle.fd_table.proofs.laws.an_add_takes_one_free_entry.Goals as goal

pub returns-clause-found : goal.returns-clause-found
returns-clause-found c = λ t. found is_free t

pub returns-clause-taken : goal.returns-clause-taken
returns-clause-taken c = add_taken

pub returns-clause-two : goal.returns-clause-two
returns-clause-two c = λ t object two.
    ((found is_free t).1 (omega (arith, two)), (found is_free (added t object)).1 (omega (arith, two, add_taken t object)))
