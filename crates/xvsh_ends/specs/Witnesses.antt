-- Why there is no folder of schedules.
use Rattle.std.specs.Prelude.{string_bytes}
use Rattle.xvsh_read.specs.Path.{Path}
use Rattle.xvsh_ends.specs.Ends.{IsOfWitness}
use Rattle.xvsh_ends.specs.declared.witnesses.WitnessFault.{WitnessFault}
use Rattle.xvsh_ends.specs.declared.witnesses.WitnessFault.TheVariants.{Unwritten, Memory}

-- the folder, or a schedule in it, can't be written, or memory was refused
abbrev pub IsWitnessFault : Path → WitnessFault → Type 0
IsWitnessFault folder (Unwritten place) = IsOfWitness folder (string_bytes place)
IsWitnessFault folder Memory = Unit {0}
