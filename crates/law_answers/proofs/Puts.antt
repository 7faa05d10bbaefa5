-- Where the host states the bytes of each file, the files at some paths are put in one way.
use Rattle.std.proofs.Common.{◌≡◌, ◌≢◌, true, is_some, List, [], ◌∷◌, ◌++◌, All, Option, Some, None, refl, sym, ◌∙◌, subst}
use Rattle.std.specs.Borrow.{Bor}
use Rattle.std.proofs.lemmas.Bool.{false≢true}
use Rattle.std.proofs.lemmas.List.Elements.{All-pop}
use Rattle.mem_files.specs.Name.{Name, Bytes}
use Rattle.mem_files.specs.Listing.{with_entry}
use Rattle.xvsh_read.specs.Path.{Path, IsNameOf, place_of}
use Rattle.xvsh_read.specs.Reading.{Agree, ArePut, none_put, one_put}
use Rattle.law_answers.proofs.Names.{one_name}

pub one_told : (told : Option Bytes) (bytes other : Bytes) → is_some told ≡ true → Agree told bytes → Agree told other → bytes ≡ other
one_told None bytes other is first second = absurd (false≢true is)
one_told (Some own) bytes other is first second = first ∙ sym second

some_at_end : {X : Type 0} (before : List X) (last : X) → before ++ last ∷ [] ≢ []
some_at_end [] last is = cc
some_at_end (first ∷ before) last is = cc

same_last : {X : Type 0} (before earlier : List X) (last final : X) → before ++ last ∷ [] ≡ earlier ++ final ∷ [] → (before ≡ earlier) × (last ≡ final)
same_last [] [] last final same = (refl, cc)
same_last [] (b ∷ earlier) last final same =
    let rest : earlier ++ final ∷ [] ≡ [] = cc in
    absurd (some_at_end earlier final rest)
same_last (a ∷ before) [] last final same =
    let rest : before ++ last ∷ [] ≡ [] = cc in
    absurd (some_at_end before last rest)
same_last (a ∷ before) (b ∷ earlier) last final same =
    let first : a ≡ b = cc in
    let rest : before ++ last ∷ [] ≡ earlier ++ final ∷ [] = cc in
    let both = same_last before earlier last final rest in
    (λ i. first i ∷ both.0 i, both.1)

module _ (file : Path → Option Bytes) where
  abbrev Tells : Bor Path → Type 0
  Tells path = is_some (file (place_of path.now)) ≡ true

  pub put_alike : (paths others : List (Bor Path)) (given other : List (Name × Bytes)) → paths ≡ others → All Tells paths → ArePut file paths given → ArePut file others other → given ≡ other
  put_alike paths others given other same told none_put none_put = refl
  put_alike paths others given other same told none_put (one_put {paths = earlier} path name bytes put is fresh own) = absurd (some_at_end earlier path (sym same))
  put_alike paths others given other same told (one_put {paths = before} path name bytes put is fresh own) none_put = absurd (some_at_end before path same)
  put_alike paths others given other same told (one_put {paths = before} {given = sooner} path name bytes put is fresh own) (one_put {paths = earlier} {given = held} last called read puts named new has) =
      let ends = same_last before earlier path last same in
      let parts = All-pop Tells (before ++ path ∷ []) before (Some path) refl told in
      let one : name ≡ called = one_name path.now name called is (subst (λ p. IsNameOf p.now called) (sym ends.1) named) in
      let content : bytes ≡ read = one_told (file (place_of path.now)) bytes read parts.1 own (subst (λ p. Agree (file (place_of p.now)) read) (sym ends.1) has) in
      let rest : sooner ≡ held = put_alike before earlier sooner held ends.0 parts.0 put puts in
      λ i. with_entry (rest i) (one i) (content i)
