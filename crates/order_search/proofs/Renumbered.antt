-- Slots and entries that are the same under the numbers of a list.
use Rattle.std.proofs.Common.{◌≡◌, ℕ, List, refl, sym, ap, ◌∙◌, map}
use Rattle.fd_table.specs.Entries.{Entries, entry_at, free_count}
use Rattle.proc_table.specs.Slots.{Table}
use Rattle.kernel_model.specs.KernelState.{KernelState}
use Rattle.kernel_model.specs.Woke.{woke_slot, woke}
use Rattle.kernel_model.specs.Numbers.{renumbered_table, SameButNumbers}
use Rattle.order_search.specs.Under.{number_under, GoBack, AreRenumberedParts}
use Rattle.law_turns.proofs.entry_numbers.Numberings.{unchanged, table_none}

pub parts_by : {S : Type 0} (to back : List ℕ) (t u : Table S) (E F : Entries) → GoBack to back → GoBack back to → renumbered_table (number_under to) t ≡ u
    → ((e : ℕ) → entry_at F (number_under to e) ≡ entry_at E e) → free_count F ≡ free_count E → AreRenumberedParts t u E F
parts_by to back t u E F there here slots entries free =
    record {
      numbering = record { to = number_under to; back = number_under back; there = there; here = here };
      entries = record { same = entries; free = free };
      slots = slots;
    }

-- slots and entries that are equal
pub parts_same : {S : Type 0} (t u : Table S) (E F : Entries) → t ≡ u → E ≡ F → AreRenumberedParts t u E F
parts_same t u E F slots entries =
    record {
      numbering = unchanged;
      entries = record { same = λ e. ap (λ (G : Entries). entry_at G e) (sym entries); free = ap (λ (G : Entries). free_count G) (sym entries) };
      slots = table_none (λ e. e) (λ e. refl) t ∙ slots;
    }

-- kernels whose slots and entries are so, and whose rest is equal
pub same_by : {S : Type 0} (k l : KernelState S) → record k { table = l.table; entries = l.entries } ≡ l → AreRenumberedParts (map woke_slot k.table) (map woke_slot l.table) k.entries l.entries → SameButNumbers (woke k) (woke l)
same_by k l rest parts =
    record {
      numbering = parts.numbering;
      is = record {
        entries = parts.entries;
        rest = (λ i. record k { table = parts.slots i; entries = l.entries }) ∙ ap woke rest;
      };
    }
