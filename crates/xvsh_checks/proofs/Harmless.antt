-- Lines that are harmless, and a script that has room, too.
use Rattle.std.proofs.Common.{◌≡◌, Bool, true, false, List, [], ◌∷◌, IsTrue, refl}
use Rattle.std.specs.Prelude.{◌↔◌, ◌&&◌}
use Rattle.mem_files.specs.Name.{Name, Bytes}
use Rattle.script_load.specs.Line.{ScriptLine, command, bad, cd}
use Rattle.room_model.specs.Roomy.{IsRoomyScript}
use Rattle.xvsh_checks.specs.Check.{IsHarmless, AreHarmless}

-- lines that are strictly harmless are harmless
harmless_line : (strict : Bool) (line : ScriptLine) → IsHarmless strict line → IsHarmless false line
harmless_line strict (bad fault whole) is = refl
harmless_line strict (cd folder) is = tt
harmless_line strict (command tree) is = is

harmless_lines : (strict : Bool) (lines : List ScriptLine) → AreHarmless strict lines → AreHarmless false lines
harmless_lines strict [] are = tt
harmless_lines strict (line ∷ lines) are = (harmless_line strict line are.0, harmless_lines strict lines are.1)

-- all is fine where the lines are harmless and have room
pub fine : (strict : Bool) (lines : List ScriptLine) (input : Bytes) (list : List (Name × Bytes)) (harmless room : Bool) → (IsTrue harmless ↔ AreHarmless strict lines)
    → (IsTrue room ↔ (AreHarmless false lines × IsRoomyScript lines input list)) → IsTrue (harmless && room) ↔ (AreHarmless strict lines × IsRoomyScript lines input list)
fine strict lines input list true room one other = (λ both. (one.0 refl, (other.0 both).1), λ both. other.1 (harmless_lines strict lines both.0, both.1))
fine strict lines input list false room one other = (λ no. absurd (let z : false ≡ true = no in let w : ⊥ = cc in w), λ both. one.1 both.0)
