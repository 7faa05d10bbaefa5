use Rattle.std.proofs.Common.{subst}
use Rattle.mem_files.specs.Files.{files}
use Rattle.xvsh_plain.specs.Running.{IsMeaningFault}
use Rattle.embed.specs.Tells.{too_large, no_reasons_memory}
use Rattle.embed.proofs.whys.of_whys_fault.Goals as goal

pub returns-in-TooLarge : goal.returns-in-TooLarge
returns-in-TooLarge c profile lines stdin given due = too_large (subst (IsMeaningFault profile lines stdin (files given)) c.in-TooLarge.is due)

pub returns-in_default : goal.returns-in_default
returns-in_default c profile lines stdin given due = no_reasons_memory
