-- What was found within the limits of a search is what the request asks for.
use Rattle.std.proofs.Common.{◌≡◌, ℕ, Bool, false, List, subst}
use Rattle.mem_files.specs.Name.{Name, Bytes}
use Rattle.script_load.specs.declared.profile.Profile.{Profile}
use Rattle.script_load.specs.Line.{ScriptLine}
use Rattle.script_outcomes.specs.Found.{IsFound}
use Rattle.script_outcomes.specs.declared.finding.Found.{Found}
use Rattle.script_outcomes.specs.declared.finding.Found.TheVariants.{Settled, Tried}

pub found_as_asked : (profile : Profile) (lines : List ScriptLine) (stdin : Bytes) (given : List (Name × Bytes)) (states asked : ℕ) (thorough all : Bool) (found : Found) → states ≡ asked → (thorough ≡ false → all ≡ false) → IsFound profile lines stdin given states thorough found → IsFound profile lines stdin given asked all found
found_as_asked profile lines stdin given states asked thorough all (Settled value) same settled is = (settled is.0, is.1)
found_as_asked profile lines stdin given states asked thorough all (Tried t) same settled is = subst (λ (n : ℕ). IsFound profile lines stdin given n all (Tried t)) same is
