use Rattle.std.proofs.Common.{◌≡◌, take}
use Rattle.fd_table.specs.Descriptors.{all_held}
use Rattle.fd_table.proofs.descriptors.Fds.fork_copy.Given as goal

abbrev pub invariant-loop-place : goal.invariant-loop-place
invariant-loop-place l = l.files ≡ all_held l.fn.files (take l.place-index l.self-inside.places)
