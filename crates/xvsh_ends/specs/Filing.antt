-- Why the files of a run aren't in a folder.
use Rattle.std.specs.Prelude.{string_bytes}
use Rattle.xvsh_read.specs.Path.{Path}
use Rattle.xvsh_ends.specs.Ends.{IsInFolder}
use Rattle.xvsh_ends.specs.declared.witnesses.WitnessFault.{WitnessFault}
use Rattle.xvsh_ends.specs.declared.witnesses.WitnessFault.TheVariants.{Unwritten, Memory}

-- the folder, or a file in it, can't be written, or memory was refused
abbrev pub IsFilingFault : Path → WitnessFault → Type 0
IsFilingFault path (Unwritten place) = IsInFolder path (string_bytes place)
IsFilingFault path Memory = Unit {0}
