-- Entries under the numbers of a list. No public clause cites this module.
use Rattle.std.specs.Prelude.{◌≡◌, ℕ, List, slice_index_or}
use Rattle.fd_table.specs.Entries.{Entries}
use Rattle.proc_table.specs.Slots.{Table}
use Rattle.kernel_model.specs.Numbers.{Numbering, AreRenumbered, renumbered_table}

-- the number that the list has at this place; past its end each keeps its own
abbrev pub number_under : List ℕ → ℕ → ℕ
number_under numbers e = slice_index_or numbers e e

-- each number goes back
abbrev pub GoBack : List ℕ → List ℕ → Type 0
GoBack to back = (e : ℕ) → number_under back (number_under to e) ≡ e

-- slots and entries that become others when entries get other numbers
pub record AreRenumberedParts {S : Type 0} (t u : Table S) (E F : Entries) : Type 0 where
  pub numbering : Numbering
  pub entries : AreRenumbered numbering E F
  pub slots : renumbered_table numbering.to t ≡ u
