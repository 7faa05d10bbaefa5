-- A FILE gives its file one name.
use Rattle.std.proofs.Common.{◌≡◌, ◌≢◌, ◌⊎◌, inl, inr, ℕ, Bool, true, false, List, [], ◌∷◌, ◌++◌, All, MatchBool, refl, sym, ◌∙◌, subst}
use Rattle.std.proofs.lemmas.List.Elements.{All-head, All-tail}
use Rattle.xvsh_read.specs.Path.{Path, IsLastPart, IsNameOf, before_equals, is_renamed}

abbrev HasNoSlash : List ℕ → Type 0
HasNoSlash name = All (λ byte. byte ≢ 47) name

no_slash : (folder name : List ℕ) → HasNoSlash (folder ++ 47 ∷ name) → ⊥
no_slash [] name none = All-head (λ byte. byte ≢ 47) 47 name none refl
no_slash (byte ∷ folder) name none = no_slash folder name (All-tail (λ b. b ≢ 47) byte (folder ++ 47 ∷ name) none)

same_end : (folder other name later : List ℕ) → HasNoSlash name → HasNoSlash later → folder ++ 47 ∷ name ≡ other ++ 47 ∷ later → name ≡ later
same_end [] [] name later none never same = cc
same_end [] (byte ∷ other) name later none never same =
    let tail : name ≡ other ++ 47 ∷ later = cc in
    absurd (no_slash other later (subst HasNoSlash tail none))
same_end (byte ∷ folder) [] name later none never same =
    let tail : folder ++ 47 ∷ name ≡ later = cc in
    absurd (no_slash folder name (subst HasNoSlash (sym tail) never))
same_end (byte ∷ folder) (head ∷ other) name later none never same =
    let tail : folder ++ 47 ∷ name ≡ other ++ 47 ∷ later = cc in
    same_end folder other name later none never tail

one_part : (path : Path) (name other : List ℕ) → IsLastPart path name → IsLastPart path other → name ≡ other
one_part path name other first second = by first.1 second.1
  where
    by : (path ≡ name) ⊎ ((folder : List ℕ) × (path ≡ folder ++ 47 ∷ name)) → (path ≡ other) ⊎ ((folder : List ℕ) × (path ≡ folder ++ 47 ∷ other)) → name ≡ other
    by (inl a) (inl b) = sym a ∙ b
    by (inl a) (inr b) = absurd (no_slash b.0 other (subst HasNoSlash (sym a ∙ b.1) first.0))
    by (inr a) (inl b) = absurd (no_slash a.0 name (subst HasNoSlash (sym b ∙ a.1) second.0))
    by (inr a) (inr b) = same_end a.0 b.0 name other first.0 second.0 (sym a.1 ∙ b.1)

by_renamed : (path : Path) (name other : List ℕ) (renamed : Bool) → MatchBool renamed (name ≡ before_equals path) (IsLastPart path name) → MatchBool renamed (other ≡ before_equals path) (IsLastPart path other) → name ≡ other
by_renamed path name other true first second = first ∙ sym second
by_renamed path name other false first second = one_part path name other first second

pub one_name : (path : Path) (name other : List ℕ) → IsNameOf path name → IsNameOf path other → name ≡ other
one_name path name other first second = by_renamed path name other (is_renamed path) first second
