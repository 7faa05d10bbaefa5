-- Two trees are apart where neither writes, at one of its places, a name of the other; else the first name of the left that clashes is found.
use Rattle.std.proofs.Common.{◌≡◌, ℕ, Bool, true, false, ◌||◌, ◌&&◌, cond, List, [], ◌∷◌, ◌++◌, Option, Some, None, All, refl, sym, ap, ap₂, ◌∙◌}
use Rattle.std.specs.List.{find, list_any}
use Rattle.std.specs.Borrow.{Bor}
use Rattle.std.specs.Str.{bytes_eq}
use Rattle.std.proofs.lemmas.List.Elements.{All-cons, All-nil}
use Rattle.std.proofs.lemmas.List.Folds.{find-append}
use Rattle.std.specs.Option.{IfNone, IfSome, option_copied, option_or}
use Rattle.std.proofs.lemmas.Slice.Eq.{bytes_eq-Decides}
use Rattle.sh_tree.specs.Tree.{Tree}
use Rattle.conflict_check.specs.Clash.{shared, IsFirstShared}
use Rattle.conflict_check.specs.Clear.{AreApart}
use Rattle.prog_parts.specs.NameSets.{among}
use Rattle.conflict_check.specs.Names.{names, reads, writes}
use Rattle.conflict_check.specs.Occurrences.{occurrences, share_a_name, written}
use Rattle.conflict_check.proofs.Listed.{names_listed, names_parts, writes_listed}

pub never : true ≡ false → ⊥
never e = cc

or_first : (a b : Bool) → a ≡ true → (a || b) ≡ true
or_first true b h = refl
or_first false b h = absurd (never (sym h))

or_second : (a b : Bool) → b ≡ true → (a || b) ≡ true
or_second true b h = refl
or_second false b h = h

pub or_none : (a b : Bool) → (a || b) ≡ false → (a ≡ false) × (b ≡ false)
or_none true b h = absurd (never h)
or_none false b h = (refl, h)

is_none : (a b : Bool) → a ≡ false → b ≡ false → (a || b) ≡ false
is_none true b h k = absurd (never h)
is_none false b h k = k

-- a list of which no name passes has no name that passes
pub none_pass : (test : List ℕ → Bool) (words : List (List ℕ)) (name : List ℕ) → list_any test words ≡ false → among words name ≡ true → test name ≡ false
none_pass test [] name none is = absurd (never (sym is))
none_pass test (word ∷ words) name none is =
    let parts = or_none (test word) (list_any test words) none in
    go (bytes_eq name word) refl parts.0 (λ h. none_pass test words name parts.1 h)
  where
    go : (same : Bool) → bytes_eq name word ≡ same → test word ≡ false → (among words name ≡ true → test name ≡ false) → test name ≡ false
    go true e first rest = ap test ((bytes_eq-Decides name word).0 e) ∙ first
    go false e first rest = rest (ap (λ b. b || among words name) (sym e) ∙ is)

-- one that passes is the name of one that passes
pub record Passes (test : List ℕ → Bool) (words : List (List ℕ)) : Type 0 where
  pub name : List ℕ
  pub is : among words name ≡ true
  pub passes : test name ≡ true

pub some_passes : (test : List ℕ → Bool) (words : List (List ℕ)) → list_any test words ≡ true → Passes test words
some_passes test [] some = absurd (never (sym some))
some_passes test (word ∷ words) some = go (test word) refl (λ h. some_passes test words h)
  where
    go : (first : Bool) → test word ≡ first → (list_any test words ≡ true → Passes test words) → Passes test (word ∷ words)
    go true e rest = record { name = word; is = or_first (bytes_eq word word) (among words word) ((bytes_eq-Decides word word).1 refl); passes = e }
    go false e rest = let p = rest (ap (λ b. b || list_any test words) (sym e) ∙ some) in record { name = p.name; is = or_second (bytes_eq p.name word) (among words p.name) p.is; passes = p.passes }

-- a name that one side writes and the other names clashes
shared_by_left : (left right : Tree) (name : List ℕ) → writes left name ≡ true → names right name ≡ true → shared left right name ≡ true
shared_by_left left right name w n = or_first (writes left name && names right name) (reads left name && writes right name) (ap₂ ◌&&◌ w n)

pub shared_by_right : (left right : Tree) (name : List ℕ) → writes right name ≡ true → names left name ≡ true → shared left right name ≡ true
shared_by_right left right name w n = go (writes left name) refl
  where
    named : names right name ≡ true
    named = names_parts right name ∙ or_second (reads right name) (writes right name) w

    either : (reads left name || writes left name) ≡ true
    either = sym (names_parts left name) ∙ n

    no_other : (a b : Bool) → (a || b) ≡ true → b ≡ false → a ≡ true
    no_other true b h k = refl
    no_other false b h k = absurd (never (sym h ∙ k))

    go : (b : Bool) → writes left name ≡ b → shared left right name ≡ true
    go true e = shared_by_left left right name e named
    go false e = or_second (writes left name && names right name) (reads left name && writes right name) (ap₂ ◌&&◌ (no_other (reads left name) (writes left name) either e) w)

-- where neither side writes a name of the other, they are apart
pub no_pairs : (left right : Tree) → share_a_name left right ≡ false → AreApart left right
no_pairs left right none =
    let parts = or_none (list_any (names right) (written left)) (list_any (names left) (written right)) none in (
      λ name w. none_pass (names right) (written left) name parts.0 (sym (writes_listed left name) ∙ w),
      λ name w. none_pass (names left) (written right) name parts.1 (sym (writes_listed right name) ∙ w),
    )

-- the first of the names that passes
pub record IsFirst (test : List ℕ → Bool) (words : List (List ℕ)) (name : List ℕ) : Type 0 where
  pub before : List (List ℕ)
  pub after : List (List ℕ)
  pub split : words ≡ before ++ name ∷ after
  pub passes : test name ≡ true
  pub earlier : All (λ other. test other ≡ false) before

no_name : {P : Type 0} (name : List ℕ) → None ≡ Some name → P
no_name name e = cc

pub same_name : (one other : List ℕ) → Some one ≡ Some other → one ≡ other
same_name one other e = cc

pub first_found : (test : List ℕ → Bool) (words : List (List ℕ)) (name : List ℕ) → find test words ≡ Some name → IsFirst test words name
first_found test [] name e = no_name name e
first_found test (word ∷ words) name e = go (test word) refl (λ h. first_found test words name h)
  where
    go : (b : Bool) → test word ≡ b → (find test words ≡ Some name → IsFirst test words name) → IsFirst test (word ∷ words) name
    go true t rest = let same = same_name word name (ap (λ b. cond b (Some word) (find test words)) (sym t) ∙ e) in
        record { before = []; after = words; split = ap (λ w. w ∷ words) same; passes = ap test (sym same) ∙ t; earlier = All-nil (λ other. test other ≡ false) }
    go false t rest = let first = rest (ap (λ b. cond b (Some word) (find test words)) (sym t) ∙ e) in
        record { before = word ∷ first.before; after = first.after; split = ap (λ ws. word ∷ ws) first.split; passes = first.passes; earlier = All-cons (λ other. test other ≡ false) word first.before t first.earlier }

-- a name that passes isn't missed
not_missed : (test : List ℕ → Bool) (words : List (List ℕ)) (name : List ℕ) → among words name ≡ true → test name ≡ true → find test words ≡ None → ⊥
not_missed test [] name is passes e = never (sym is)
not_missed test (word ∷ words) name is passes e = go (test word) refl (λ h k. not_missed test words name h passes k)
  where
    other : test word ≡ false → (same : Bool) → bytes_eq name word ≡ same → among words name ≡ true
    other t true s = absurd (never (sym passes ∙ ap test ((bytes_eq-Decides name word).0 s) ∙ t))
    other t false s = ap (λ b. b || among words name) (sym s) ∙ is

    go : (b : Bool) → test word ≡ b → (among words name ≡ true → find test words ≡ None → ⊥) → ⊥
    go true t rest = no_name word (sym e ∙ ap (λ b. cond b (Some word) (find test words)) t)
    go false t rest = rest (other t (bytes_eq name word) refl) (ap (λ b. cond b (Some word) (find test words)) (sym t) ∙ e)

either_side : {P : Type 0} (a b : Bool) → (a || b) ≡ true → (a ≡ true → P) → (b ≡ true → P) → P
either_side true b h p q = p refl
either_side false b h p q = q h

-- where one side writes a name of the other, a name of the left side clashes
pub pair_found : (left right : Tree) → share_a_name left right ≡ true → find (shared left right) (occurrences left) ≡ None → ⊥
pair_found left right some missed =
    either_side _ _ some
    (λ one. let p = some_passes (names right) (written left) one in
    let w = writes_listed left p.name ∙ p.is in
    let n = names_parts left p.name ∙ or_second (reads left p.name) (writes left p.name) w in
    not_missed (shared left right) (occurrences left) p.name (sym (names_listed left p.name) ∙ n) (shared_by_left left right p.name w p.passes) missed)
    (λ other. let p = some_passes (names left) (written right) other in
    let w = writes_listed right p.name ∙ p.is in
    not_missed (shared left right) (occurrences left) p.name (sym (names_listed left p.name) ∙ p.passes) (shared_by_right left right p.name w p.passes) missed)

-- the name that a search finds is the first that clashes
pub first_shared : (left right : Tree) (name : List ℕ) → find (shared left right) (occurrences left) ≡ Some name → IsFirstShared left right name
first_shared left right name e = let first = first_found (shared left right) (occurrences left) name e in
    record { before = first.before; after = first.after; split = first.split; clashes = first.passes; earlier = first.earlier }

-- sides that are apart share no name
apart_bits : (w n r v : Bool) → (w ≡ true → n ≡ false) → (v ≡ true → (r || w) ≡ false) → ((w && n) || (r && v)) ≡ true → ⊥
apart_bits true true r v p q h = never (p refl)
apart_bits true false true true p q h = never (q refl)
apart_bits true false true false p q h = never (sym h)
apart_bits true false false v p q h = never (sym h)
apart_bits false n true true p q h = never (q refl)
apart_bits false n true false p q h = never (sym h)
apart_bits false n false v p q h = never (sym h)

pub apart_shares_none : (left right : Tree) (name : List ℕ) → AreApart left right → shared left right name ≡ true → ⊥
apart_shares_none left right name apart h =
    apart_bits (writes left name) (names right name) (reads left name) (writes right name) (apart.0 name) (λ v. sym (names_parts left name) ∙ apart.1 name v) h

-- a name that is found in the first of two lists is found in both, and else the second is searched
pub found_early : (test : List ℕ → Bool) (xs ys : List (List ℕ)) (name : List ℕ) → Some name ≡ find test xs → Some name ≡ find test (xs ++ ys)
found_early test xs ys name e = ap (λ o. option_or o (find test ys)) e ∙ sym (find-append test xs ys)

pub found_late : (test : List ℕ → Bool) (xs ys : List (List ℕ)) (answer : Option (List ℕ)) → None ≡ find test xs → answer ≡ find test ys → answer ≡ find test (xs ++ ys)
found_late test xs ys answer none e = e ∙ ap (λ o. option_or o (find test ys)) none ∙ sym (find-append test xs ys)

-- what a search for the first shared name finds
pub told_none : (left right : Tree) (answer : Option (Bor (List ℕ))) → option_copied answer ≡ find (shared left right) (occurrences left) → share_a_name left right ≡ true → IfNone answer (AreApart left right)
told_none left right None e some = absurd (pair_found left right some (sym e))
told_none left right (Some name) e some = tt

pub told_some : (left right : Tree) (answer : Option (Bor (List ℕ))) → option_copied answer ≡ find (shared left right) (occurrences left) → IfSome answer (λ name. IsFirstShared left right name.now)
told_some left right None e = tt
told_some left right (Some name) e = first_shared left right name.now (sym e)
