-- Which descriptors hold an entry, or an end of a pipe.
use Rattle.std.specs.Prelude.{◌≡◌, ℕ, Bool, true, Some}
use Rattle.fd_table.specs.declared.names.Object.{Object}
use Rattle.fd_table.specs.Entries.{entry_at}
use Rattle.fd_table.specs.Descriptors.{entry_of}
use Rattle.kernel_model.specs.KernelState.{KernelState, fds_at}
use Rattle.law_kernel.specs.Ends.{has_object}

-- some descriptor of some process holds an entry that has such an object open
pub record IsHeld {S : Type 0} (k : KernelState S) (test : Object → Bool) : Type 0 where
  pub pid : ℕ
  pub fd : ℕ
  pub entry : ℕ
  pub holds : entry_of (fds_at k pid) fd ≡ Some entry
  pub has : has_object test (entry_at k.entries entry) ≡ true

-- some descriptor of some process holds the entry e
pub record HasHolder {S : Type 0} (k : KernelState S) (e : ℕ) : Type 0 where
  pub pid : ℕ
  pub fd : ℕ
  pub holds : entry_of (fds_at k pid) fd ≡ Some e
