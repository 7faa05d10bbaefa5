-- Files that are put one after the other.
use Rattle.std.proofs.Common.{◌≡◌, ℕ, ◌+◌, ◌<◌, List, ◌∷◌, ◌++◌, length, take, get_or, Option, [], ap, sym, subst, ◌∙◌}
use Rattle.std.specs.List.{AllZip}
use Rattle.std.proofs.lemmas.List.{take_more}
use Rattle.std.proofs.lemmas.Slice.Zip.{all_zipped_more}
use Rattle.mem_files.specs.Name.{Name, Bytes}
use Rattle.mem_files.specs.Listing.{with_entry}
use Rattle.suite_file.specs.declared.suite.NamedSource.{NamedSource}
use Rattle.xvsh_read.specs.Path.{Path}
use Rattle.grade_tests.specs.Loads.{AreBytesOf, ArePutFrom, one_put}

-- one file more
pub put_more : (file : Path → Option Bytes) (suite : Path) (sources : List NamedSource) (n : ℕ) (x : NamedSource) → n < length sources → x ≡ get_or sources n x
    → (given later : List (Name × Bytes)) (bytes : Bytes) → ArePutFrom file suite (take n sources) given → AreBytesOf file suite x.source bytes → later ≡ with_entry given x.name.items bytes
    → ArePutFrom file suite (take (n + 1) sources) later
put_more file suite sources n x within is given later bytes put own gives =
    let front : take (n + 1) sources ≡ take n sources ++ x ∷ [] = take_more sources n x within ∙ ap (λ z. take n sources ++ z ∷ []) (sym is) in
    subst (λ s. ArePutFrom file suite s later) (sym front) (subst (ArePutFrom file suite (take n sources ++ x ∷ [])) (sym gives) (one_put x bytes put own))

-- one item more on both sides
pub one_more : {A B : Type 0} (R : A → B → Type 0) (xs : List A) (ys more : List B) (n : ℕ) (x : A) (y : B)
    → n < length xs → x ≡ get_or xs n x → AllZip R (take n xs) ys → R x y → more ≡ ys ++ y ∷ [] → AllZip R (take (n + 1) xs) more
one_more R xs ys more n x y within is before now added =
    let front : take (n + 1) xs ≡ take n xs ++ x ∷ [] = take_more xs n x within ∙ ap (λ z. take n xs ++ z ∷ []) (sym is) in
    subst (λ zs. AllZip R zs more) (sym front) (subst (AllZip R (take n xs ++ x ∷ [])) (sym added) (all_zipped_more R (take n xs) ys x y before now))
