-- What a path has before its last `/`, with it.
use Rattle.std.proofs.Common.{◌≡◌, ◌≢◌, ℕ, refl, List, [], ◌∷◌, ◌++◌, All, None, take, drop, sym, ◌∙◌, ap, inl, inr, lit<, append_assoc, append-nil}
use Rattle.std.proofs.lemmas.List.{take-append-drop}
use Rattle.std.proofs.lemmas.List.Elements.{All-from_get_or}
use Rattle.std.proofs.lemmas.Str.Pattern.{NoCharPasses-char, drop_at_char}
use Rattle.std.specs.Str.{NoCharPasses}
use Rattle.std.specs.Str.Pattern.{HasCharAt, RFindsChar, SplitsAroundMatch}
use Rattle.std.specs.Prelude.{◌==◌}
use Rattle.grade_tests.specs.Paths.{IsFolderOf}

no_slash : (s : List ℕ) → NoCharPasses (λ d. d == 47) s → All (λ byte. byte ≢ 47) s
no_slash s none = All-from_get_or (λ byte. byte ≢ 47) s 0 (λ i inside. NoCharPasses-char 47 s i none (lit< tt) inside)

-- a path round its last `/`
parted : (s : List ℕ) (i j : ℕ) → HasCharAt 47 s i j → s ≡ take i s ++ 47 ∷ drop j s
parted s i j at = sym (take-append-drop i s) ∙ ap (λ r. take i s ++ r) (drop_at_char 47 s i j at (lit< tt))

-- the front of that and a `/` are pushed
pub pushed : (s front back old one two : List ℕ) → SplitsAroundMatch (RFindsChar 47) s front back → one ≡ old ++ front → two ≡ one ++ 47 ∷ []
    → (folder : List ℕ) × IsFolderOf s folder × (two ≡ old ++ folder)
pushed s front back old one two h first then =
    let i = h.0 in
    let j = h.1 in
    let split : s ≡ take i s ++ 47 ∷ drop j s = parted s i j h.2.1 in (
      take i s ++ 47 ∷ [],
      (drop j s, (no_slash (drop j s) h.2.0, inr (take i s, split)), split ∙ sym (append_assoc (take i s) (47 ∷ []) (drop j s))),
      then ∙ ap (λ t. t ++ 47 ∷ []) (first ∙ ap (λ t. old ++ t) h.3) ∙ append_assoc old (take i s) (47 ∷ []),
    )

-- a path without one has no folder
pub unpushed : (s old : List ℕ) → RFindsChar 47 s None → (folder : List ℕ) × IsFolderOf s folder × (old ≡ old ++ folder)
unpushed s old none = ([], (s, (no_slash s none, inl refl), refl), sym (append-nil old))
