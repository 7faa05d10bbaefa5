-- What commands and lines need at most, as far as it is reported.
use Rattle.std.specs.Prelude.{ℕ, List, length, Option}
use Rattle.sh_tree.specs.Tree.{Tree}
use Rattle.mem_files.specs.Name.{Name, Bytes}
use Rattle.mem_files.specs.Files.{files}
use Rattle.script_load.specs.Line.{ScriptLine}
use Rattle.meaning_model.specs.Meaning.{script_tree}
use Rattle.tree_model.specs.Bound.{most_bytes}
use Rattle.room_model.specs.Processes.{most_processes}
use Rattle.room_model.specs.Entries.{most_entries}
use Rattle.room_model.specs.Descriptors.{most_descriptors}
use Rattle.room_model.specs.Files.{names_written}
use Rattle.step_bounds.specs.Cost.{IsCapped as IsFew}
use Rattle.room_bounds.specs.Capped.{IsCapped}
use Rattle.room_bounds.specs.declared.needs.Needs.{Needs}
use Rattle.room_bounds.specs.declared.beginning.Beginning.{Beginning}

-- these are what a command needs
pub record AreNeeds (tree : Tree) (needs : Needs) : Type 0 where
  pub processes : IsCapped (most_processes tree) needs.processes
  pub entries : IsCapped (most_entries tree) needs.entries
  pub descriptors : IsCapped (most_descriptors tree) needs.descriptors
  pub names : IsCapped (length (names_written tree)) needs.names

-- so many bytes these lines write at most, on this input and these files
abbrev pub IsWritten : List ScriptLine → Bytes → List (Name × Bytes) → Option ℕ → Type 0
IsWritten lines input list written = IsFew (most_bytes lines input (files list)) written

-- this is what these lines need
pub record IsNeedOfLines (lines : List ScriptLine) (input : Bytes) (list : List (Name × Bytes)) (beginning : Beginning) : Type 0 where
  pub needs : AreNeeds (script_tree lines) beginning.needs
  pub written : IsWritten lines input list beginning.written
