-- What a script needs, table by table, and whether that is there.
use Rattle.std.proofs.Common.{ℕ, ◌+◌, ◌≤◌, List, Option, Some, None, arith}
use Rattle.mem_files.specs.Name.{Name, Bytes}
use Rattle.mem_files.specs.Files.{files}
use Rattle.script_load.specs.Line.{ScriptLine}
use Rattle.tree_model.specs.Bound.{most_bytes}
use Rattle.room_model.specs.Processes.{script_processes}
use Rattle.room_model.specs.Entries.{script_entries}
use Rattle.room_model.specs.Descriptors.{script_descriptors}
use Rattle.room_model.specs.Files.{script_files}
use Rattle.room_model.specs.Roomy.{IsRoomyScript}
use Rattle.room_bounds.specs.Given.{IsLargestOf}
use Rattle.room_bounds.specs.Room.{IsLargest, IsNeedOf, IsTooMuch}
use Rattle.room_bounds.specs.declared.table.Table.{Table}
use Rattle.room_bounds.specs.declared.table.Table.TheVariants.{Processes, Entries, Descriptors, Files, Size}
use Rattle.room_bounds.specs.declared.table.TheConstants.{MOST_PROCESSES, MOST_ENTRIES, MOST_DESCRIPTORS, MOST_FILES, MOST_BYTES}

module _ (lines : List ScriptLine) (input : Bytes) (list : List (Name × Bytes)) where
  pub largest_with : (most : ℕ) → IsLargestOf list most → IsLargest lines input list (most + most_bytes lines input (files list))
  largest_with most is = record { enough = λ name. omega (arith, is.enough name); met = (is.met.0, omega (arith, is.met.1)) }

  pub roomy : script_processes lines ≤ MOST_PROCESSES → script_entries lines ≤ MOST_ENTRIES → script_descriptors lines ≤ MOST_DESCRIPTORS → script_files lines list ≤ MOST_FILES
      → (most : ℕ) → IsLargest lines input list most → most ≤ MOST_BYTES → IsRoomyScript lines input list
  roomy processes entries descriptors few most largest small = record {
    processes = processes;
    entries = entries;
    descriptors = descriptors;
    files_few = omega (arith, few);
    files_small = λ name. omega (arith, largest.enough name, small);
  }

  -- where one need is too much there is no room
  pub not_roomy : (table : Table) (need : Option ℕ) → IsNeedOf table lines input list need → IsTooMuch table need → IsRoomyScript lines input list → ⊥
  not_roomy Processes None is much room = omega (arith, is, room.processes)
  not_roomy Processes (Some n) is much room = omega (arith, is.0, much, room.processes)
  not_roomy Entries None is much room = omega (arith, is, room.entries)
  not_roomy Entries (Some n) is much room = omega (arith, is.0, much, room.entries)
  not_roomy Descriptors None is much room = omega (arith, is, room.descriptors)
  not_roomy Descriptors (Some n) is much room = omega (arith, is.0, much, room.descriptors)
  not_roomy Files None is much room = omega (arith, is, room.files_few)
  not_roomy Files (Some n) is much room = omega (arith, is.0, much, room.files_few)
  not_roomy Size None is much room = omega (arith, is.2, is.1.met.1, room.files_small is.1.met.0)
  not_roomy Size (Some n) is much room = omega (arith, is.2.0, much, is.1.met.1, room.files_small is.1.met.0)
