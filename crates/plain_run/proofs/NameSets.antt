-- Names in byte order: what a set of keys with names is as a list, and what such a list contains.
use Rattle.std.proofs.Common.{◌≡◌, ℕ, zero, suc, ◌<◌, Bool, true, false, ◌||◌, List, [], ◌∷◌, ◌++◌, length, get_or, refl, sym, ap, ◌∙◌, arith, Contains}
use Rattle.std.specs.Prelude.{map}
use Rattle.std.specs.declared.cmp.Ordering.{Ordering}
use Rattle.std.specs.declared.cmp.Ordering.TheVariants.{Less, Equal, Greater}
use Rattle.std.specs.Ordering.{nat_cmp, match_ordering}
use Rattle.std.specs.Cmp.Lexicographic.{slice_cmp}
use Rattle.std.specs.FinMap.{slice_cmp-IsAntisymmetric, nat_cmp-IsAntisymmetric}
use Rattle.std.specs.BTreeSet.{insert_key}
use Rattle.std.specs.List.{AllByRecursion}
use Rattle.std.specs.List.Sorted.{IsStrictlySortedBy}
use Rattle.std.specs.Str.{bytes_eq}
use Rattle.std.proofs.lemmas.Bool.{false≢true, or_left}
use Rattle.std.proofs.lemmas.List.{append-nil}
use Rattle.std.proofs.lemmas.Slice.Eq.{bytes_eq-Decides}
use Rattle.mem_files.specs.Name.{Name, name_cmp}
use Rattle.prog_parts.specs.NameSets.{among}

-- only equal names tie
pub same : (m n : Name) → name_cmp m n ≡ Equal → m ≡ n
same = slice_cmp-IsAntisymmetric nat_cmp-IsAntisymmetric

twice : (a b : Bool) → (a || b) ≡ (a || (a || b))
twice true b = refl
twice false b = refl

pub exchanged : (a b c : Bool) → (a || (b || c)) ≡ (b || (a || c))
exchanged true true c = refl
exchanged true false c = refl
exchanged false b c = refl

module _ {K : Type 0} (items : K → Name) where
  abbrev key_cmp : K → K → Ordering
  key_cmp a b = slice_cmp nat_cmp (items a) (items b)

  -- a key more has its name, and the others have theirs
  pub among_put : (keys : List K) (key : K) (other : Name) → among (map items (insert_key key_cmp keys key)) other ≡ (bytes_eq other (items key) || among (map items keys) other)
  among_put [] key other = refl
  among_put (k ∷ ks) key other =
      elim (key_cmp key k) as (λ o. key_cmp key k ≡ o → among (map items (match_ordering o (key ∷ k ∷ ks) (k ∷ ks) (k ∷ insert_key key_cmp ks key))) other ≡ (bytes_eq other (items key) || among (map items (k ∷ ks)) other)) [
        | Less ↦ λ o. refl
        | Equal ↦ λ o. twice (bytes_eq other (items k)) (among (map items ks) other) ∙ ap (λ n. bytes_eq other n || (bytes_eq other (items k) || among (map items ks) other)) (sym (same (items key) (items k) o))
        | Greater ↦ λ o. ap (λ b. bytes_eq other (items k) || b) (among_put ks key other) ∙ exchanged (bytes_eq other (items k)) (bytes_eq other (items key)) (among (map items ks) other)
      ] refl

  all_items : (k : K) (ks : List K) → AllByRecursion (λ n. key_cmp k n ≡ Less) ks → AllByRecursion (λ n. name_cmp (items k) n ≡ Less) (map items ks)
  all_items k [] each = tt
  all_items k (n ∷ ns) each = (each.0, all_items k ns each.1)

  -- keys in order have names in order
  pub sorted_items : (keys : List K) → IsStrictlySortedBy key_cmp keys → IsStrictlySortedBy name_cmp (map items keys)
  unfolding IsStrictlySortedBy
  sorted_items [] up = tt
  sorted_items (k ∷ ks) up = (all_items k ks up.0, sorted_items ks up.1)

  -- no key is left
  pub all_listed : (list : List Name) (left begun keys : List K) → left ≡ [] → list ++ map items left ≡ map items begun → begun ≡ keys → list ≡ map items keys
  all_listed list left begun keys none so_far is = sym (append-nil list) ∙ ap (λ ks. list ++ map items ks) (sym none) ∙ so_far ∙ ap (map items) is

right_too : (a b : Bool) → b ≡ true → (a || b) ≡ true
right_too true b e = refl
right_too false b e = e

among_at : (names : List Name) (name : Name) (k : ℕ) → k < length names → get_or names k name ≡ name → among names name ≡ true
among_at [] name k h e = absurd (omega arith)
among_at (n ∷ ns) name zero h e = or_left (bytes_eq name n) (among ns name) ((bytes_eq-Decides name n).1 (sym e))
among_at (n ∷ ns) name (suc k) h e = right_too (bytes_eq name n) (among ns name) (among_at ns name k (omega arith) e)

-- what a list contains is what is among its names
pub contained : (names : List Name) (name : Name) → Contains names name → among names name ≡ true
contained names name (k, inside, is) = among_at names name k inside is

one_later : (n name : Name) (ns : List Name) → Contains ns name → Contains (n ∷ ns) name
one_later n name ns (k, inside, is) = (suc k, omega arith, is)

first_or_later : (n name : Name) (ns : List Name) (t : Bool) → bytes_eq name n ≡ t → (t || among ns name) ≡ true → (among ns name ≡ true → Contains ns name) → Contains (n ∷ ns) name
first_or_later n name ns true is e later = (0, omega arith, sym ((bytes_eq-Decides name n).0 is))
first_or_later n name ns false is e later = one_later n name ns (later e)

pub contains : (names : List Name) (name : Name) → among names name ≡ true → Contains names name
contains [] name e = absurd (false≢true e)
contains (n ∷ ns) name e = first_or_later n name ns (bytes_eq name n) refl e (contains ns name)
