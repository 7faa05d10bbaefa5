-- What `explain` finds in a script (own).
use Rattle.std.specs.Prelude.{◌≡◌, ◌↔◌, IsTrue, Option, None}
use Rattle.mem_files.specs.Name.{Bytes}
use Rattle.script_notes.specs.Noted.{IsNoted, HasNoNotes}
use Rattle.script_notes.specs.Values.{values_of}
use Rattle.xvsh_read.specs.Path.{Path}
use Rattle.xvsh_read.specs.Reading.{Agree, told_at}
use Rattle.xvsh_checks.specs.declared.noting.Noted.{Noted}
use Rattle.xvsh_checks.specs.Lacks.{IsLackOfText}

-- these are the notes on the script, and with which line first it may not have room; and whether there is neither
pub record RanExplain (input : Option Bytes) (file : Path → Option Bytes) (script : Path) (noted : Noted) : Type 0 where
  pub bytes : Bytes
  pub own : Agree (told_at input file script) bytes
  pub notes : IsNoted bytes (values_of noted.notes.items)
  pub room : IsLackOfText bytes noted.lack
  pub fine : IsTrue noted.is_fine ↔ (HasNoNotes bytes × (noted.lack ≡ None))
