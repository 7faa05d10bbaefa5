-- Which descriptors hold which entry, over any list of tables of descriptors.
use Rattle.std.specs.Prelude.{◌≡◌, ℕ, ◌<◌, List, Option, Some, None, sum_by}
use Rattle.fd_table.specs.Entries.{Entries, OpenFile, entry_at}
use Rattle.fd_table.specs.Descriptors.{Descriptors, holders_in}

-- how many descriptors of all the tables hold the entry e
abbrev pub holders : List Descriptors → ℕ → ℕ
holders tables e = sum_by (λ fds. holders_in fds e) tables

-- an entry with n holders: a free one has none, and one in use has as many as it counts, at least one
abbrev pub HasHolders : Option OpenFile → ℕ → Type 0
HasHolders None n = n ≡ 0
HasHolders (Some f) n = (f.count ≡ n) × (0 < n)

-- each entry counts the descriptors of the tables that hold it
abbrev pub CountHolders : Entries → List Descriptors → Type 0
CountHolders t tables = (e : ℕ) → HasHolders (entry_at t e) (holders tables e)
