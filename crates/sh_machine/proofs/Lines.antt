-- The calls of a top shell over all its lines, and of a process that has nothing more to do.
use Rattle.std.proofs.Common.{◌≡◌, List, [], ◌∷◌, ◌++◌, length, refl, ap}
use Rattle.std.specs.Prelude.{replicate}
use Rattle.script_load.specs.declared.profile.Profile.{Profile}
use Rattle.script_load.specs.Line.{ScriptLine, command, bad, cd}
use Rattle.user_calls.specs.declared.calls.Call.TheVariants.{Fork, Exit, Wait}
use Rattle.user_calls.specs.declared.calls.Reply.{Reply}
use Rattle.user_calls.specs.declared.calls.Reply.TheVariants.{Done}
use Rattle.sh_machine.specs.CallsOn.{calls_from, calls_on}
use Rattle.sh_machine.specs.Held.{calls_of_line, calls_of_lines}
use Rattle.sh_machine.specs.State.{ended, init, shell}
use Rattle.sh_machine.specs.Turn.{takes_first}

pub every_line : (profile : Profile) (lines : List ScriptLine)
    → calls_from profile (takes_first lines) (replicate (length (calls_of_lines lines)) Done) ≡ calls_of_lines lines ++ Exit ∷ []
every_line profile [] = refl
every_line profile (command tree ∷ later) = ap (λ calls. Fork ∷ Wait ∷ calls) (every_line profile later)
every_line profile (bad fault text ∷ later) = ap (λ calls. Fork ∷ Wait ∷ calls) (every_line profile later)
every_line profile (cd text ∷ later) = ap (λ calls. calls_of_line (cd text) ++ calls) (every_line profile later)

pub exits_on : (profile : Profile) (replies : List Reply) → calls_on (shell profile ended) replies ≡ replicate (length replies) Exit
exits_on profile [] = refl
exits_on profile (reply ∷ replies) = ap (λ calls. Exit ∷ calls) (exits_on profile replies)

pub waits_on : (replies : List Reply) → calls_on init replies ≡ replicate (length replies) Wait
waits_on [] = refl
waits_on (reply ∷ replies) = ap (λ calls. Wait ∷ calls) (waits_on replies)
