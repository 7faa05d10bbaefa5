-- What comes of words, by what their parse comes to.
use Rattle.std.proofs.Common.{ℕ, List, Option, subst}
use Rattle.xvsh_read.specs.Path.{Path}
use Rattle.xvsh_read.specs.Console.{Known}
use Rattle.xvsh_read.specs.Status.{fault_told, status_code}
use Rattle.xvsh_read.specs.declared.fault.Fault.TheVariants.{Memory}
use Rattle.xvsh_read.specs.Writing.{out_text}
use Rattle.xvsh_ends.specs.Ends.{Asked, Tells, Writes, told_text}
use Rattle.xvsh_ends.specs.declared.ending.Ending.{Ending}
use Rattle.xvsh_read.specs.Given.{Sight}
use Rattle.xvsh.specs.Drive.{ComesOf, EndsOn, IsDueOn, of_command, of_help, of_misuse, of_no_memory}
use Rattle.xvsh.specs.Parsing.{IsUnparsed, for_help, for_memory, for_misuse}

pub unparsed : (input : Option (List ℕ)) (file : Path → Option (List ℕ)) (words : List (List ℕ)) (ending : Ending) → IsUnparsed input file words ending → IsDueOn input file words ending
unparsed input file words ending (for_help are due) = of_help are due
unparsed input file words ending (for_misuse are due) = of_misuse are due
unparsed input file words ending (for_memory tells) = of_no_memory tells

-- an ending that was due was written
pub written : (old new : Known) (words : List (List ℕ)) (ending : Ending) (status : ℕ) → IsDueOn old.input old.file words ending → Writes (out_text ending.output) (told_text ending) (status_code ending.status) old.out new.out old.err new.err status → EndsOn old new words status
written old new words ending status (of_command matches sight what parse asked due) writes = of_command matches sight what parse asked (record { text = out_text ending.output; told = told_text ending; status = (status_code ending.status); due = due; writes = writes })
written old new words ending status (of_help are due) writes = of_help are (record { text = out_text ending.output; told = told_text ending; status = (status_code ending.status); due = due; writes = writes })
written old new words ending status (of_misuse are due) writes = of_misuse are (record { text = out_text ending.output; told = told_text ending; status = (status_code ending.status); due = due; writes = writes })
written old new words ending status (of_no_memory tells) writes =
    of_no_memory
    (subst (λ text. Writes text (fault_told Memory) 4 old.out new.out old.err new.err status) tells.nothing
    (subst (λ told. Writes (out_text ending.output) told 4 old.out new.out old.err new.err status) tells.reported
    (subst (λ number. Writes (out_text ending.output) (told_text ending) number old.out new.out old.err new.err status) tells.with writes)))
