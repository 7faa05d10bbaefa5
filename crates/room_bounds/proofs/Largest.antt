-- The size of the largest file, file by file.
use Rattle.std.proofs.Common.{◌≡◌, ◌⊎◌, inl, inr, ℕ, ◌+◌, ◌<◌, ◌≤◌, List, [], Option, Some, None, length, refl, sym, ap, ◌∙◌, arith}
use Rattle.std.specs.Prelude.{max, option_map}
use Rattle.std.specs.List.{slice_get}
use Rattle.std.proofs.Math.Nat.{le-max_left, le-max_right, max-eq_left, max-eq_right}
use Rattle.std.proofs.lemmas.Bool.{cases_lt}
use Rattle.std.proofs.lemmas.Option.{slice_get_within}
use Rattle.mem_files.specs.Name.{Name, Bytes}
use Rattle.mem_files.specs.Files.{files, bytes_of}
use Rattle.mem_files.specs.Listing.{AreFiles}
use Rattle.mem_files.proofs.Listed.{found_listed}
use Rattle.tree_model.specs.FilesAhead.{sizes}
use Rattle.room_bounds.specs.Given.{IsLargestOf, IsLargestTo}

abbrev File : Type 0
File = Name × Bytes

pub named : (o : Option File) (name : Name) → Some name ≡ option_map (λ (e : File). e.0) o → (file : File) × (o ≡ Some file) × (file.0 ≡ name)
named None name is = absurd (let z : ⊥ = cc in z)
named (Some file) name is = (file, refl, let z : file.0 ≡ name = cc in z)

pub not_named : (o : Option File) → None ≡ option_map (λ (e : File). e.0) o → o ≡ None
not_named None is = refl
not_named (Some file) is = absurd (let z : ⊥ = cc in z)

module _ (list : List File) where
  pub at_first : AreFiles list → IsLargestTo list 0 0
  at_first are = record { enough = λ j file low at. absurd (omega (arith, low)); met = ([], ap (λ o. length (bytes_of o)) (are.openable [] refl)) }

  module _ (i most : ℕ) (so_far : IsLargestTo list i most) where
    pub one_more : (file : File) (size : ℕ) → slice_get list i ≡ Some file → size ≡ sizes (files list) file.0 → IsLargestTo list (i + 1) (max most size)
    one_more file size here is = record { enough = λ j f low at. each j f low at (cases_lt j i); met = largest (cases_lt most size) }
      where
        each : (j : ℕ) (f : File) → j < i + 1 → slice_get list j ≡ Some f → (j < i) ⊎ (i ≤ j) → sizes (files list) f.0 ≤ max most size
        each j f low at (inl before) = omega (arith, so_far.enough j f before at, le-max_left most size)
        each j f low at (inr after) =
            let j_is : j ≡ i = omega (arith, low, after) in
            let same : Some file ≡ Some f = sym here ∙ (ap (slice_get list) (sym j_is) ∙ at) in
            let name : file ≡ f = cc in
            omega (arith, is, ap (λ (g : File). sizes (files list) g.0) name, le-max_right most size)

        largest : (most < size) ⊎ (size ≤ most) → (name : Name) × (sizes (files list) name ≡ max most size)
        largest (inl less) = (file.0, sym is ∙ sym (max-eq_right (let z : most ≤ size = omega (arith, less) in z)))
        largest (inr more) = (so_far.met.0, so_far.met.1 ∙ sym (max-eq_left more))

    pub none_more : slice_get list i ≡ None → IsLargestTo list (i + 1) most
    none_more none = record { enough = λ j f low at. each j f low at (cases_lt j i); met = so_far.met }
      where
        each : (j : ℕ) (f : File) → j < i + 1 → slice_get list j ≡ Some f → (j < i) ⊎ (i ≤ j) → sizes (files list) f.0 ≤ most
        each j f low at (inl before) = so_far.enough j f before at
        each j f low at (inr after) =
            let j_is : j ≡ i = omega (arith, low, after) in
            let wrong : None ≡ Some f = sym none ∙ (ap (slice_get list) (sym j_is) ∙ at) in
            absurd (let z : ⊥ = cc in z)

  pub at_last : (i most : ℕ) → length list ≤ i → IsLargestTo list i most → IsLargestOf list most
  at_last i most all so_far = record { enough = λ name. each name (files list name) refl; met = so_far.met }
    where
      each : (name : Name) (o : Option Bytes) → files list name ≡ o → sizes (files list) name ≤ most
      each name None is = omega (arith, ap (λ o. length (bytes_of o)) is)
      each name (Some bytes) is =
          let at = found_listed list name bytes is in
          let few = so_far.enough at.0 (name, bytes) (omega (arith, slice_get_within list at.0 (name, bytes) at.1, all)) at.1 in
          omega (arith, few, ap (λ o. length (bytes_of o)) is)
