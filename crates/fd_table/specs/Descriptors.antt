-- What contracts see of a process's descriptors, and what each call on them does.
use Rattle.std.specs.Prelude.{ℕ, ◌+◌, ◌<◌, ◌^◌, ◌==◌, Bool, false, List, [], ◌∷◌, Option, Some, None, Result, Ok, Err, ok_or, position, count_by, slice_index_or, slice_set}
use Rattle.fd_table.specs.declared.faults.FdFault.{FdFault}
use Rattle.fd_table.specs.declared.faults.FdFault.TheVariants.{BadFd, FullFds}
use Rattle.fd_table.specs.declared.names.Object.{Object}
use Rattle.fd_table.specs.Entries.{Entries, entry_at, IsInUse, is_free, count_of, more_held, held, last_object, released}

-- the places in order, each with the entry that its descriptor holds: None where the descriptor isn't open
abbrev pub Descriptors : Type 0
Descriptors = List (Option ℕ)

-- the entry that the descriptor fd holds, None also past the last place
abbrev pub entry_of : Descriptors → ℕ → Option ℕ
entry_of fds fd = slice_index_or fds fd None

-- the lowest free place
abbrev pub lowest_free : Descriptors → Option ℕ
lowest_free fds = position is_free fds

-- the descriptors after one at the place, if there is one, holds e
abbrev pub installed_at : Descriptors → Option ℕ → ℕ → Descriptors
installed_at fds None e = fds
installed_at fds (Some place) e = slice_set fds place (Some e)

-- the descriptors after one at the lowest free place holds e; the same where none is free
abbrev pub installed : Descriptors → ℕ → Descriptors
installed fds e = installed_at fds (lowest_free fds) e

-- the descriptors after fd was closed
abbrev pub without : Descriptors → ℕ → Descriptors
without fds fd = slice_set fds fd None

-- the result of a dup, by the entry of its descriptor and the lowest free place
abbrev pub dup_answer : Option ℕ → Option ℕ → Result ℕ FdFault
dup_answer None place = Err BadFd
dup_answer (Some e) place = ok_or place FullFds

-- the descriptors after a dup, by the same
abbrev pub after_dup : Descriptors → Option ℕ → Option ℕ → Descriptors
after_dup fds None place = fds
after_dup fds (Some e) place = installed_at fds place e

-- the entries after a dup, by the same
abbrev pub held_by_dup : Entries → Option ℕ → Option ℕ → Entries
held_by_dup t None place = t
held_by_dup t (Some e) None = t
held_by_dup t (Some e) (Some place) = held t e

-- the result of a close, by the entry of its descriptor, with the object where the entry counts no other holder. In every run it
-- counts the descriptors of all processes that hold it (`an_entry_is_open_while_a_descriptor_holds_it` of law_kernel/src/kernel.rt)
abbrev pub close_answer : Entries → Option ℕ → Result (Option Object) FdFault
close_answer t None = Err BadFd
close_answer t (Some e) = Ok (last_object (entry_at t e))

-- the descriptors after a close of fd, by its entry
abbrev pub after_close : Descriptors → ℕ → Option ℕ → Descriptors
after_close fds fd None = fds
after_close fds fd (Some e) = without fds fd

-- the entries after a close, by the entry of its descriptor, which counts one holder less: by the same law it is free once no descriptor holds it
abbrev pub released_by_close : Entries → Option ℕ → Entries
released_by_close t None = t
released_by_close t (Some e) = released t e

-- the descriptor holds the entry e
abbrev pub is_entry : ℕ → Option ℕ → Bool
is_entry e None = false
is_entry e (Some other) = e == other

-- how many descriptors of the table hold the entry e
abbrev pub holders_in : Descriptors → ℕ → ℕ
holders_in fds e = count_by (is_entry e) fds

-- the entries from number e on after each was held by the descriptors of fds too
abbrev pub all_held_from : ℕ → Entries → Descriptors → Entries
all_held_from e [] fds = []
all_held_from e (x ∷ t) fds = more_held (holders_in fds e) x ∷ all_held_from (e + 1) t fds

-- the entries after a copy of the descriptors was made: each is held once more for each descriptor that holds it
abbrev pub all_held : Entries → Descriptors → Entries
all_held t fds = all_held_from 0 t fds

-- the entry that a descriptor holds, if any, is in use
abbrev pub HoldsInUse : Entries → Option ℕ → Type 0
HoldsInUse t None = Unit {0}
HoldsInUse t (Some e) = IsInUse t e

-- the entry that a descriptor holds, if any, can count one descriptor more
abbrev pub CanCountMore : Entries → Option ℕ → Type 0
CanCountMore t None = Unit {0}
CanCountMore t (Some e) = count_of (entry_at t e) + 1 < 2 ^ 32

-- the count of each entry fits its 32 bits
abbrev pub CountsFit : Entries → Type 0
CountsFit t = (e : ℕ) → count_of (entry_at t e) < 2 ^ 32
