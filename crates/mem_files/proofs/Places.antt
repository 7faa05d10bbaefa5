-- The list of files in order of names: what a name finds in it, where a name stands, and what stays
-- after the file of a name was given bytes.
use Rattle.std.proofs.Common.{◌≡◌, ◌≢◌, ℕ, zero, suc, ◌+◌, ◌<◌, ◌≤◌, Bool, true, false, cond, List, [], ◌∷◌, length, Some, None, IsTrue, is_some, get_or, set, refl, sym, ap, subst, ◌∙◌, arith}
use Rattle.std.specs.declared.cmp.Ordering.{Ordering}
use Rattle.std.specs.declared.cmp.Ordering.TheVariants.{Less, Equal, Greater}
use Rattle.std.specs.Ordering.{is_gt, is_lt, is_eq, ordering_reverse}
use Rattle.std.specs.Cmp.{IsTotalOrder}
use Rattle.std.specs.Cmp.Lexicographic.{nat_list_cmp_total}
use Rattle.std.specs.FinMap.{slice_cmp-IsAntisymmetric, nat_cmp-IsAntisymmetric}
use Rattle.std.specs.FinMap.Entries.{put, find, below_all, is_sorted, by_order, find-put, length-put, is_sorted-put}
use lib.Dec.{T}
use Rattle.std.proofs.lemmas.Bool.{and_parts, false≢true}
use Rattle.std.proofs.lemmas.Cmp.{tied_itself}
use Rattle.std.specs.List.{insert}
use Rattle.std.specs.Str.{bytes_eq}
use Rattle.std.proofs.lemmas.Slice.Eq.{bytes_eq-Decides}
use Rattle.std.proofs.lemmas.Map.Text.{is_eq-slice_cmp}
use Rattle.std.proofs.lemmas.List.{get_or_default, set-get_or}
use Rattle.mem_files.specs.Name.{Name, Bytes, name_cmp}
use Rattle.mem_files.specs.Files.{files, with_file, bytes_of}
use Rattle.mem_files.specs.Listing.{with_entry, count_with, Holds}
use Rattle.mem_files.specs.Place.{place, StandsAt}

abbrev File : Type 0
File = Name × Bytes

pub total : IsTotalOrder name_cmp
total = nat_list_cmp_total

no_Less : Less ≡ Equal → ⊥
no_Less e = cc

some_none : (bytes : Bytes) → Some bytes ≡ None → ⊥
some_none bytes e = cc

-- only equal names tie
same : (m n : Name) → name_cmp m n ≡ Equal → m ≡ n
same = slice_cmp-IsAntisymmetric nat_cmp-IsAntisymmetric

-- a look-up by `==` is one by order
pub files_find : (list : List File) (name : Name) → files list name ≡ find name_cmp name list
files_find [] name = refl
files_find (f ∷ fs) name = λ i. cond (sym (is_eq-slice_cmp name f.0) i) (Some f.1) (files_find fs name i)

pub files-with_entry : (list : List File) (name : Name) (bytes : Bytes) (n : Name) → files (with_entry list name bytes) n ≡ with_file (files list) name bytes n
files-with_entry list name bytes n =
    files_find (with_entry list name bytes) n ∙ find-put name_cmp total n name bytes list
    ∙ (λ i. cond (is_eq-slice_cmp n name i) (Some bytes) (sym (files_find list n) i))

-- a test that passed, as `T` has it
pub passed : (b : Bool) → b ≡ true → T b
passed b e = subst T (sym e) tt

pub less : (o : Ordering) → is_lt o ≡ true → o ≡ Less
less Less e = refl
less Equal e = absurd (false≢true e)
less Greater e = absurd (false≢true e)

greater : (o : Ordering) → is_gt o ≡ true → o ≡ Greater
greater Less e = absurd (false≢true e)
greater Equal e = absurd (false≢true e)
greater Greater e = refl

pub turned : (m n : Name) (o : Ordering) → name_cmp m n ≡ o → name_cmp n m ≡ ordering_reverse o
turned m n o e = total.antisymm n m ∙ ap ordering_reverse e

pub length-with_entry : (list : List File) (name : Name) (bytes : Bytes) → IsTrue (is_sorted name_cmp list) → length (with_entry list name bytes) ≡ count_with list name
length-with_entry list name bytes up =
    length-put name_cmp total name bytes list (passed _ up)
    ∙ ap (λ o. cond (is_some o) (length list) (length list + 1)) (sym (files_find list name))

from_T : (b : Bool) → T b → b ≡ true
from_T true h = refl
from_T false h = absurd h

pub ascending-with_entry : (list : List File) (name : Name) (bytes : Bytes) → IsTrue (is_sorted name_cmp list) → IsTrue (is_sorted name_cmp (with_entry list name bytes))
ascending-with_entry list name bytes up = from_T _ (is_sorted-put name_cmp total name bytes list (passed _ up))

pub place_within : (list : List File) (name : Name) → place list name ≤ length list
place_within [] name = omega arith
place_within (f ∷ fs) name =
    let rest = place_within fs name in
    elim (is_gt (name_cmp name f.0)) as (λ b. cond b (suc (place fs name)) 0 ≤ suc (length fs)) [
      | true ↦ omega arith
      | false ↦ omega arith
    ]

-- a name that isn't above that at i stands at i or before
pub place_upto : (list : List File) (name : Name) (i : ℕ) (d : File) → i < length list → is_gt (name_cmp name (get_or list i d).0) ≡ false → place list name ≤ i
place_upto [] name i d h e = absurd (omega arith)
place_upto (f ∷ fs) name zero d h e = subst (λ b. cond b (suc (place fs name)) 0 ≤ 0) (sym e) (omega arith)
place_upto (f ∷ fs) name (suc i) d h e =
    let rest = place_upto fs name i d (omega arith) e in
    elim (is_gt (name_cmp name f.0)) as (λ b. cond b (suc (place fs name)) 0 ≤ suc i) [
      | true ↦ omega arith
      | false ↦ omega arith
    ]

-- each name of the rest is above one that is below all of it
below_at : (m : Name) (fs : List File) (i : ℕ) (d : File) → below_all name_cmp m fs ≡ true → i < length fs → name_cmp m (get_or fs i d).0 ≡ Less
below_at m [] i d b h = absurd (omega arith)
below_at m (f ∷ fs) zero d b h = less _ (and_parts _ _ b).0
below_at m (f ∷ fs) (suc i) d b h = below_at m fs i d (and_parts _ _ b).1 (omega arith)

-- a name above that at i stands behind i
pub place_above : (list : List File) (name : Name) (i : ℕ) (d : File) → IsTrue (is_sorted name_cmp list) → i < length list → is_gt (name_cmp name (get_or list i d).0) ≡ true → i < place list name
place_above [] name i d up h e = absurd (omega arith)
place_above (f ∷ fs) name zero d up h e = subst (λ b. 0 < cond b (suc (place fs name)) 0) (sym e) (omega arith)
place_above (f ∷ fs) name (suc i) d up h e =
    let at = get_or fs i d in
    let parts = and_parts (below_all name_cmp f.0 fs) (is_sorted name_cmp fs) up in
    let rest : i < place fs name = place_above fs name i d parts.1 (omega arith) e in
    let low : name_cmp f.0 name ≡ Less = total.trans f.0 at.0 name (below_at f.0 fs i d parts.0 (omega arith)) (turned name at.0 Greater (greater _ e)) in
    let head : is_gt (name_cmp name f.0) ≡ true = ap is_gt (turned f.0 name Less low) in
    subst (λ b. suc i < cond b (suc (place fs name)) 0) (sym head) (omega arith)

-- a name below all names is not found
find_below : (name m : Name) (fs : List File) → name_cmp name m ≡ Less → below_all name_cmp m fs ≡ true → find name_cmp name fs ≡ None
find_below name m [] e b = refl
find_below name m (f ∷ fs) e b =
    let parts = and_parts (is_lt (name_cmp m f.0)) (below_all name_cmp m fs) b in
    ap (λ o. cond (is_eq o) (Some f.1) (find name_cmp name fs)) (total.trans name m f.0 e (less _ parts.0)) ∙ find_below name m fs e parts.1

-- where the file at the place of a name has another name, there is no file of that name
find_missed : (list : List File) (name : Name) (d : File) → IsTrue (is_sorted name_cmp list) → (place list name < length list → (get_or list (place list name) d).0 ≢ name) → find name_cmp name list ≡ None
find_missed [] name d up other = refl
find_missed (f ∷ fs) name d up other =
    let parts = and_parts (below_all name_cmp f.0 fs) (is_sorted name_cmp fs) up in
    elim (name_cmp name f.0) as (λ o. name_cmp name f.0 ≡ o → (cond (is_gt o) (suc (place fs name)) 0 < suc (length fs) → (get_or (f ∷ fs) (cond (is_gt o) (suc (place fs name)) 0) d).0 ≢ name) → cond (is_eq o) (Some f.1) (find name_cmp name fs) ≡ None) [
      | Less ↦ λ e other. find_below name f.0 fs e parts.0
      | Equal ↦ λ e other. absurd (other (omega arith) (sym (same name f.0 e)))
      | Greater ↦ λ e other. find_missed fs name d parts.1 (λ h. other (omega arith))
    ] refl other

pub files_missed : (list : List File) (name : Name) (d : File) → IsTrue (is_sorted name_cmp list) → (place list name < length list → (get_or list (place list name) d).0 ≢ name) → files list name ≡ None
files_missed list name d up other = files_find list name ∙ find_missed list name d up other

tied : (m n : Name) → m ≡ n → name_cmp m n ≡ Equal
tied m n e = ap (name_cmp m) (sym e) ∙ tied_itself total m

-- the file that stands at the place of a name and has this name
find_here : (list : List File) (name : Name) (d : File) → place list name < length list → (get_or list (place list name) d).0 ≡ name → find name_cmp name list ≡ Some (get_or list (place list name) d).1
find_here [] name d h e = absurd (omega arith)
find_here (f ∷ fs) name d h e =
    elim (name_cmp name f.0) as (λ o. name_cmp name f.0 ≡ o → cond (is_gt o) (suc (place fs name)) 0 < suc (length fs) → (get_or (f ∷ fs) (cond (is_gt o) (suc (place fs name)) 0) d).0 ≡ name → cond (is_eq o) (Some f.1) (find name_cmp name fs) ≡ Some (get_or (f ∷ fs) (cond (is_gt o) (suc (place fs name)) 0) d).1) [
      | Less ↦ λ is h e. absurd (no_Less (sym is ∙ tied name f.0 (sym e)))
      | Equal ↦ λ is h e. refl
      | Greater ↦ λ is h e. find_here fs name d (omega arith) e
    ] refl h e

files_here : (list : List File) (name : Name) (at : ℕ) (d : File) → at ≡ place list name → at < length list → (get_or list at d).0 ≡ name → files list name ≡ Some (get_or list at d).1
files_here list name at d here within named =
    files_find list name ∙ find_here list name d (subst (λ k. k < length list) here within) (ap (λ k. (get_or list k d).0) (sym here) ∙ named)
    ∙ ap (λ k. Some (get_or list k d).1) (sym here)

pub stands : (list : List File) (name : Name) (at : ℕ) (d : File) → at < length list → at ≡ place list name → (get_or list at d).0 ≡ name → StandsAt list name at
stands list name at d within here named = record {
  within = within;
  here = here;
  named = λ e. ap (λ f. f.0) (get_or_default list at e d within) ∙ named;
  known = λ none. some_none (get_or list at d).1 (sym (files_here list name at d here within named) ∙ none);
  found = λ e. files_here list name at d here within named ∙ ap (λ f. Some f.1) (sym (get_or_default list at e d within));
}

put_here : (list : List File) (name : Name) (bytes : Bytes) (d : File) → place list name < length list → (get_or list (place list name) d).0 ≡ name → put name_cmp name bytes list ≡ set list (place list name) (name, bytes)
put_here [] name bytes d h e = absurd (omega arith)
put_here (f ∷ fs) name bytes d h e =
    elim (name_cmp name f.0) as (λ o. name_cmp name f.0 ≡ o → cond (is_gt o) (suc (place fs name)) 0 < suc (length fs) → (get_or (f ∷ fs) (cond (is_gt o) (suc (place fs name)) 0) d).0 ≡ name → by_order o ((name, bytes) ∷ f ∷ fs) ((f.0, bytes) ∷ fs) (f ∷ put name_cmp name bytes fs) ≡ set (f ∷ fs) (cond (is_gt o) (suc (place fs name)) 0) (name, bytes)) [
      | Less ↦ λ is h e. absurd (no_Less (sym is ∙ tied name f.0 (sym e)))
      | Equal ↦ λ is h e i. (e i, bytes) ∷ fs
      | Greater ↦ λ is h e. ap (λ rest. f ∷ rest) (put_here fs name bytes d (omega arith) e)
    ] refl h e

-- bytes given to the file that stands at the place of its name
with_entry_here : (list : List File) (name : Name) (bytes : Bytes) (at : ℕ) (d : File) → StandsAt list name at → set list at ((get_or list at d).0, bytes) ≡ with_entry list name bytes
with_entry_here list name bytes at d s =
    ap (λ n. set list at (n, bytes)) (s.named d) ∙ ap (λ k. set list k (name, bytes)) s.here
    ∙ sym (put_here list name bytes d (subst (λ k. k < length list) s.here s.within) (ap (λ k. (get_or list k d).0) (sym s.here) ∙ s.named d))

put_gap : (list : List File) (name : Name) (bytes : Bytes) → find name_cmp name list ≡ None → put name_cmp name bytes list ≡ insert list (place list name) (name, bytes)
put_gap [] name bytes none = refl
put_gap (f ∷ fs) name bytes none =
    elim (name_cmp name f.0) as (λ o. cond (is_eq o) (Some f.1) (find name_cmp name fs) ≡ None → by_order o ((name, bytes) ∷ f ∷ fs) ((f.0, bytes) ∷ fs) (f ∷ put name_cmp name bytes fs) ≡ insert (f ∷ fs) (cond (is_gt o) (suc (place fs name)) 0) (name, bytes)) [
      | Less ↦ λ none. refl
      | Equal ↦ λ none. absurd (some_none f.1 none)
      | Greater ↦ λ none. ap (λ rest. f ∷ rest) (put_gap fs name bytes none)
    ] none

-- a new file, put in at the place of its name
with_entry_gap : (list : List File) (name : Name) (bytes : Bytes) → files list name ≡ None → insert list (place list name) (name, bytes) ≡ with_entry list name bytes
with_entry_gap list name bytes none = sym (put_gap list name bytes (sym (files_find list name) ∙ none))

holds : (list : List File) (name : Name) (bytes : Bytes) → IsTrue (is_sorted name_cmp list) → Holds list (with_entry list name bytes) name bytes
holds list name bytes up = record {
  entry = refl;
  map = files-with_entry list name bytes;
  count = length-with_entry list name bytes up;
}

-- a new file e was put in at the place of its name
pub holds_added : (list now new : List File) (name : Name) (bytes : Bytes) (at : ℕ) (e : File) → IsTrue (is_sorted name_cmp list) → list ≡ now → files now name ≡ None → at ≡ place list name → e ≡ (name, bytes) → new ≡ insert list at e → Holds now new name bytes
holds_added list now new name bytes at e up view none here made is =
    let entry : new ≡ with_entry list name bytes = is ∙ ap (insert list at) made ∙ ap (λ k. insert list k (name, bytes)) here ∙ with_entry_gap list name bytes (ap (λ l. files l name) view ∙ none) in
    subst (λ l. Holds l new name bytes) view (subst (λ l. Holds list l name bytes) (sym entry) (holds list name bytes up))

-- d is the file that stands at the place of a name
module _ (list now : List File) (name : Name) (at : ℕ) (d : File) (up : IsTrue (is_sorted name_cmp list)) (view : list ≡ now) (s : StandsAt list name at) (is : d ≡ get_or list at d) where
  pub found_bytes : files now name ≡ Some d.1
  found_bytes = ap (λ l. files l name) (sym view) ∙ s.found d ∙ ap (λ f. Some f.1) (sym is)

  -- it was given bytes
  changed : (new : File) (bytes : Bytes) → new ≡ (d.0, bytes) → set list at new ≡ with_entry list name bytes
  changed new bytes given =
      ap (set list at) given ∙ ap (λ f. set list at (f.0, bytes)) is ∙ with_entry_here list name bytes at d s

  pub holds_changed : (new : File) (bytes : Bytes) → new ≡ (d.0, bytes) → Holds now (set list at new) name bytes
  holds_changed new bytes given =
      subst (λ l. Holds l (set list at new) name bytes) view
      (subst (λ l. Holds list l name bytes) (sym (changed new bytes given)) (holds list name bytes up))

  -- nothing was changed
  pub holds_same : Holds now now name (bytes_of (files now name))
  holds_same =
      let same_entry : set list at d ≡ list = ap (set list at) is ∙ set-get_or list at d in
      subst (λ o. Holds now now name (bytes_of o)) (sym found_bytes)
      (subst (λ l. Holds now l name d.1) (same_entry ∙ view) (holds_changed d d.1 refl))

-- what a search reads: seen is the name of the file d that stands at i
module _ (list : List File) (name seen : Name) (i : ℕ) (d : File) (own : seen ≡ d.0) (is : d ≡ get_or list i d) where
  pub read_name : seen ≡ (get_or list i d).0
  read_name = own ∙ ap (λ f. f.0) is

  pub compared : (o : Ordering) (t b : Bool) → t ≡ b → t ≡ is_gt o → o ≡ name_cmp name seen → is_gt (name_cmp name (get_or list i d).0) ≡ b
  compared o t b e f h = ap (λ n. is_gt (name_cmp name n)) (sym read_name) ∙ ap is_gt (sym h) ∙ sym f ∙ e

  pub unlike : (t : Bool) → i ≡ place list name → t ≡ false → t ≡ bytes_eq seen name → (get_or list (place list name) d).0 ≢ name
  unlike t at differs tested e =
      false≢true (sym differs ∙ tested ∙ (bytes_eq-Decides seen name).1 (read_name ∙ ap (λ k. (get_or list k d).0) at ∙ e))

  pub alike : (t : Bool) → t ≡ true → t ≡ bytes_eq seen name → (get_or list i d).0 ≡ name
  alike t equal tested = sym read_name ∙ (bytes_eq-Decides seen name).0 (sym tested ∙ equal)
