-- Two reports of one script.
use Rattle.std.specs.Prelude.{◌≡◌, false}
use Rattle.mem_files.specs.Name.{Name}
use Rattle.mem_files.specs.Files.{files}
use Rattle.prog_parts.specs.NameSets.{Names}
use Rattle.kernel_events.specs.declared.report.Report.{Report}

-- the two reports have one output, and the same files but for these
pub record AreAlike {A B : _} (soft : Names) (first : Report A) (second : Report B) : Type 0 where
  pub out : first.out.items ≡ second.out.items
  pub files : (name : Name) → soft name ≡ false → files first.files name ≡ files second.files name
