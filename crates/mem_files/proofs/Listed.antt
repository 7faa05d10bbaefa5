-- What a list of files shows of each name: a file is found where it is listed, and two lists with the
-- same files are one.
use Rattle.std.proofs.Common.{◌≡◌, ◌≢◌, ℕ, zero, suc, ◌<◌, true, false, cond, List, [], ◌∷◌, Some, None, IsTrue, refl, sym, ap, subst, ◌∙◌, arith}
use Rattle.std.specs.declared.cmp.Ordering.TheVariants.{Less}
use Rattle.std.specs.Ordering.{is_eq, is_lt}
use Rattle.std.specs.FinMap.{slice_cmp-IsAntisymmetric, nat_cmp-IsAntisymmetric}
use Rattle.std.specs.FinMap.Entries.{find, below_all, is_sorted, same_entries}
use Rattle.std.specs.List.{slice_get}
use Rattle.std.specs.Str.{bytes_eq}
use Rattle.std.proofs.lemmas.Bool.{and_parts}
use Rattle.std.proofs.lemmas.Cmp.{tied_itself}
use Rattle.std.proofs.lemmas.Slice.Eq.{bytes_eq-Decides}
use Rattle.mem_files.specs.Name.{Name, Bytes, name_cmp}
use Rattle.mem_files.specs.Files.{FileMap, files, with_file}
use Rattle.mem_files.specs.Listing.{AreFiles}
use Rattle.mem_files.proofs.Places.{files_find, total, less, passed, turned}

abbrev File : Type 0
File = Name × Bytes

pub at_other : (F : FileMap) (name other : Name) (bytes : Bytes) → other ≢ name → with_file F name bytes other ≡ F other
at_other F name other bytes apart =
    elim (bytes_eq other name) as (λ b. bytes_eq other name ≡ b → cond b (Some bytes) (F other) ≡ F other) [
      | true ↦ λ e. absurd (apart ((bytes_eq-Decides other name).0 e))
      | false ↦ λ _. refl
    ] refl

pub its_own : (F : FileMap) (name other : Name) (bytes : Bytes) → F name ≡ Some bytes → with_file F name bytes other ≡ F other
its_own F name other bytes is =
    elim (bytes_eq other name) as (λ b. bytes_eq other name ≡ b → cond b (Some bytes) (F other) ≡ F other) [
      | true ↦ λ e. sym is ∙ ap F (sym ((bytes_eq-Decides other name).0 e))
      | false ↦ λ _. refl
    ] refl

pub one_list : (left right : List File) → AreFiles left → AreFiles right → ((name : Name) → files left name ≡ files right name) → left ≡ right
one_list left right l r is =
    same_entries name_cmp total (slice_cmp-IsAntisymmetric nat_cmp-IsAntisymmetric) left right (passed _ l.ascending) (passed _ r.ascending)
    (λ q. sym (files_find left q) ∙ is q ∙ files_find right q)

no_file : {X : Type 0} (x : X) → None ≡ Some x → ⊥
no_file x e = cc

same_file : (x y : File) → Some x ≡ Some y → x ≡ y
same_file x y e = cc

-- a name below all names is below that at i
below_get : (m : Name) (list : List File) (i : ℕ) (e : File) → below_all name_cmp m list ≡ true → slice_get list i ≡ Some e → name_cmp m e.0 ≡ Less
below_get m [] i e b is = absurd (no_file e is)
below_get m (f ∷ fs) zero e b is = ap (λ x. name_cmp m x.0) (sym (same_file f e is)) ∙ less _ (and_parts (is_lt (name_cmp m f.0)) (below_all name_cmp m fs) b).0
below_get m (f ∷ fs) (suc i) e b is = below_get m fs i e (and_parts (is_lt (name_cmp m f.0)) (below_all name_cmp m fs) b).1 is

find_listed : (list : List File) (i : ℕ) (e : File) → IsTrue (is_sorted name_cmp list) → slice_get list i ≡ Some e → find name_cmp e.0 list ≡ Some e.1
find_listed [] i e up is = absurd (no_file e is)
find_listed (f ∷ fs) zero e up is =
    subst (λ x. find name_cmp x.0 (f ∷ fs) ≡ Some x.1) (same_file f e is)
    (ap (λ o. cond (is_eq o) (Some f.1) (find name_cmp f.0 fs)) (tied_itself total f.0))
find_listed (f ∷ fs) (suc i) e up is =
    let parts = and_parts (below_all name_cmp f.0 fs) (is_sorted name_cmp fs) up in
    ap (λ o. cond (is_eq o) (Some f.1) (find name_cmp e.0 fs)) (turned f.0 e.0 Less (below_get f.0 fs i e parts.0 is))
    ∙ find_listed fs i e parts.1 is

pub listed_found : (list : List File) (i : ℕ) (e : File) → AreFiles list → slice_get list i ≡ Some e → files list e.0 ≡ Some e.1
listed_found list i e kept is = files_find list e.0 ∙ find_listed list i e kept.ascending is

pub found_listed : (list : List File) (name : Name) (bytes : Bytes) → files list name ≡ Some bytes → (i : ℕ) × (slice_get list i ≡ Some (name, bytes))
found_listed [] name bytes is = absurd (no_file bytes is)
found_listed (f ∷ fs) name bytes is =
    elim (bytes_eq name f.0) as (λ b. bytes_eq name f.0 ≡ b → cond b (Some f.1) (files fs name) ≡ Some bytes → (i : ℕ) × (slice_get (f ∷ fs) i ≡ Some (name, bytes))) [
      | true ↦ λ e is. (0, (let own : name ≡ f.0 = (bytes_eq-Decides name f.0).0 e in let held : f.1 ≡ bytes = cc in λ i. Some (sym own i, held i)))
      | false ↦ λ e is. let rest = found_listed fs name bytes is in (suc rest.0, rest.1)
    ] refl is

pub ascends : (list : List File) (i j : ℕ) (low high : File) → IsTrue (is_sorted name_cmp list) → i < j → slice_get list i ≡ Some low → slice_get list j ≡ Some high → name_cmp low.0 high.0 ≡ Less
ascends [] i j low high up h a b = absurd (no_file low a)
ascends (f ∷ fs) i zero low high up h a b = absurd (omega arith)
ascends (f ∷ fs) zero (suc j) low high up h a b =
    let parts = and_parts (below_all name_cmp f.0 fs) (is_sorted name_cmp fs) up in
    subst (λ x. name_cmp x.0 high.0 ≡ Less) (same_file f low a) (below_get f.0 fs j high parts.0 b)
ascends (f ∷ fs) (suc i) (suc j) low high up h a b =
    let parts = and_parts (below_all name_cmp f.0 fs) (is_sorted name_cmp fs) up in
    ascends fs i j low high parts.1 (omega arith) a b
