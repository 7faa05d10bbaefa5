use Rattle.std.proofs.Common.{arith}
use Rattle.fd_table.specs.Entries.{is_free}
use Rattle.fd_table.specs.Descriptors.{installed}
use Rattle.fd_table.proofs.Free.{found, install_taken}
use Rattle.fd_table.proofs.laws.an_install_takes_one_free_place.Goals as goal

pub returns-clause-found : goal.returns-clause-found
returns-clause-found c = λ fds. found is_free fds

pub returns-clause-taken : goal.returns-clause-taken
returns-clause-taken c = install_taken

pub returns-clause-two : goal.returns-clause-two
returns-clause-two c = λ fds e two.
    ((found is_free fds).1 (omega (arith, two)), (found is_free (installed fds e)).1 (omega (arith, two, install_taken fds e)))
