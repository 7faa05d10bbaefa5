-- What a run prints on standard output, by the value of its script.
use Rattle.std.specs.Prelude.{◌≡◌, false, List, Option}
use Rattle.std.specs.Borrow.{Bor}
use Rattle.std.specs.Io.KnownBytes.{Appends}
use Rattle.mem_files.specs.Name.{Name, Bytes}
use Rattle.mem_files.specs.Files.{files}
use Rattle.mem_files.specs.Listing.{AreFiles}
use Rattle.script_load.specs.declared.profile.Profile.{Profile}
use Rattle.script_load.specs.Line.{ScriptLine}
use Rattle.meaning_model.specs.Meaning.{script_meaning}
use Rattle.meaning_model.specs.Settled.{IsSettledScript}
use Rattle.meaning_model.specs.Value.{Value}
use Rattle.kernel_model.specs.declared.events.Event.{Event}
use Rattle.xvsh_read.specs.Path.{Path}
use Rattle.xvsh_read.specs.Starting.{Starts}
use Rattle.xvsh_runs.specs.Lists.{run_text}
use Rattle.xvsh_runs.specs.declared.report.Lists.{Lists}

abbrev pub no_lists : Lists
no_lists = record { files = false; events = false }

-- the text is the output of a value, and then the lists that are requested: of files that are the value's but for soft ones, and
-- of these events; where none is asked for it is the output alone
pub record IsValueText (value : Value) (lists : Lists) (events : List Event) (text : Bytes) : Type 0 where
  pub left : List (Name × Bytes)
  pub are : AreFiles left
  pub same : (name : Name) → value.soft name ≡ false → files left name ≡ value.files name
  pub prints : text ≡ run_text lists value.out left events
  pub alone : lists ≡ no_lists → text ≡ value.out

-- what was read of the script at a path is settled under a profile, and the text is its meaning in this way
pub record IsMeaningAt (input : Option Bytes) (file : Path → Option Bytes) (profile : Profile) (script : Path) (paths : List (Bor Path)) (lists : Lists) (text : Bytes) : Type 0 where
  pub lines : List ScriptLine
  pub given : List (Name × Bytes)
  pub stdin : Bytes
  pub starts : Starts input file false script paths lines given stdin
  pub settled : IsSettledScript profile lines stdin (files given)
  pub events : List Event
  pub prints : IsValueText (script_meaning profile lines stdin (files given)) lists events text

-- the same bytes were added to two writers
abbrev pub AddsTheSame : Option Bytes → Option Bytes → Option Bytes → Option Bytes → Type 0
AddsTheSame old new other later = (text : Bytes) × Appends old new text × Appends other later text
