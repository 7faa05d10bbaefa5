-- What follows the last `/` of a path is the name of its file.
use Rattle.std.proofs.Common.{◌≡◌, ℕ, suc, ◌+◌, ◌-◌, ◌<◌, ◌==◌, true, List, ◌∷◌, ◌++◌, length, take, drop, get_or, sym, ◌∙◌, ap, subst, arith, inr}
use Rattle.std.proofs.Math.Seq.{drop-cons}
use Rattle.std.proofs.lemmas.Bool.Decides.{nat_tests}
use Rattle.std.proofs.lemmas.Grind.{get_or_default_zero}
use Rattle.std.proofs.lemmas.List.{take-append-drop, get_or-drop, length-drop, take_all}
use Rattle.memchr.specs.Find.{NoneAfter, Passes, is_byte}
use Rattle.xvsh_read.specs.Path.{IsLastPart}

-- a byte that is 47 passes the search
passes : (path : List ℕ) (k d : ℕ) → k < length path → get_or path k d ≡ 47 → Passes (is_byte 47) path k
passes path k d inside is = ap (λ b. b == 47) (sym (get_or_default_zero path k d inside) ∙ is)

is_slash : (b : ℕ) → (b == 47) ≡ true → b ≡ 47
is_slash b is = grind (arith, nat_tests)

last_name : (path : List ℕ) (k : ℕ) → NoneAfter (Passes (is_byte 47) path) 0 (length path) k → Passes (is_byte 47) path k → IsLastPart path (drop (k + 1) path)
last_name path k none is =
    let next : suc k ≡ k + 1 = omega arith in
    let slash : get_or path k 0 ≡ 47 = is_slash (get_or path k 0) is in (
      λ i d inside same.
          let far : k + 1 + i < length path = omega (arith, length-drop (k + 1) path) in
          none.after (k + 1 + i) (omega arith) far (passes path (k + 1 + i) d far (sym (get_or-drop (k + 1) path i d) ∙ same)),
      inr (take k path, sym (take-append-drop k path) ∙ ap (λ r. take k path ++ r) (drop-cons path k 0 none.high ∙ ap (λ b. b ∷ drop (suc k) path) slash ∙ ap (λ n. 47 ∷ drop n path) next)),
    )

-- the same of the slice that the code takes
pub sliced_name : (path : List ℕ) (k : ℕ) → NoneAfter (Passes (is_byte 47) path) 0 (length path) k → Passes (is_byte 47) path k → IsLastPart path (take (length path - (k + 1)) (drop (k + 1) path))
sliced_name path k none is =
    subst (IsLastPart path) (sym (take_all (length path - (k + 1)) (drop (k + 1) path) (omega (arith, length-drop (k + 1) path)))) (last_name path k none is)
