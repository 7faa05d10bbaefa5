-- What follows the first line of an end of a script is an end of it too.
use Rattle.std.proofs.Common.{◌≡◌, ◌∙◌, ℕ, zero, suc, ◌-◌, List, [], ◌∷◌, length, drop, ap, arith, length-drop}
use Rattle.script_load.specs.Line.{ScriptLine}
use Rattle.sh_machine.specs.End.{IsEnd}

pub drop_more : {X : Type 0} → (n : ℕ) (xs : List X) (x : X) (rest : List X) → drop n xs ≡ x ∷ rest → drop (suc n) xs ≡ rest
drop_more zero xs x rest e = ap (λ ys. drop 1 ys) e
drop_more (suc n) [] x rest e = ap (λ ys. drop 1 ys) e
drop_more (suc n) (y ∷ ys) x rest e = drop_more n ys x rest e

pub end_tail : (script : List ScriptLine) (line : ScriptLine) (later : List ScriptLine) → IsEnd script (line ∷ later) → IsEnd script later
end_tail script line later e =
    let k : ℕ = length script - length (line ∷ later) in
    let one : length (drop k script) ≡ length script - k = length-drop k script in
    let two : length (drop k script) ≡ length (line ∷ later) = ap (λ ls. length ls) e in
    let place : length script - length later ≡ suc k = omega (arith, one, two) in
    ap (λ n. drop n script) place ∙ drop_more k script line later e
