-- What becomes of a script in a round of mending, and why it can't be mended.
use Rattle.std.specs.Prelude.{ℕ, List}
use Rattle.mem_files.specs.Name.{Bytes}
use Rattle.mem_files.specs.Files.{FileMap}
use Rattle.script_load.specs.declared.profile.Profile.{Profile}
use Rattle.script_load.specs.Line.{ScriptLine}
use Rattle.script_load.specs.Script.{HasLoadFault, IsScript}
use Rattle.meaning_model.specs.Limits.{Outgrows}
use Rattle.meaning_model.specs.Meaning.{script_tree}
use Rattle.plain_run.specs.declared.fault.PlainFault.TheVariants.{TooLarge, Memory}
use Rattle.script_mends.specs.Mended.{HasNoMend, IsMend, IsSettledText}
use Rattle.script_mends.specs.declared.rounds.MendFault.{MendFault}
use Rattle.script_mends.specs.declared.rounds.MendFault.TheVariants.{Load, Plain}
use Rattle.script_mends.specs.declared.rounds.Round.{Round}
use Rattle.script_mends.specs.declared.rounds.Round.TheVariants.{Settled, Mended, Unmended}

-- the most mends that are made
abbrev pub most_mends : ℕ
most_mends = 100

-- it is settled, or a line of it is mended, or has no mend
abbrev pub IsRound : Profile → Bytes → FileMap → Bytes → Round → Type 0
IsRound profile input F bytes Settled = IsSettledText profile input F bytes
IsRound profile input F bytes (Mended new) = IsMend profile input F bytes new.items
IsRound profile input F bytes Unmended = HasNoMend profile input F bytes

-- it is refused, or its meaning is too large; or memory was refused
abbrev pub IsMendFault : Profile → Bytes → FileMap → Bytes → MendFault → Type 0
IsMendFault profile input F bytes (Load fault) = HasLoadFault bytes fault
IsMendFault profile input F bytes (Plain TooLarge) = (lines : List ScriptLine) × IsScript bytes lines × Outgrows profile (script_tree lines) input F
IsMendFault profile input F bytes (Plain Memory) = Unit {0}
