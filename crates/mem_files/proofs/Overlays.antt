-- Writes over the bytes of a file: one after the other, their lengths, and a write over the front.
use Rattle.std.proofs.Common.{◌≡◌, ℕ, ◌+◌, ◌<◌, ◌≤◌, Bool, true, false, cond, [], ◌++◌, length, take, drop, max, refl, sym, ap, ◌∙◌, leb, append_assoc, length-append, zero-add, add-zero, take-append-drop, length-drop, append-nil, arith}
use Rattle.std.proofs.lemmas.Bool.{leb-true, leb-false, le-leb, lt-leb}
use Rattle.std.proofs.lemmas.List.{length-take-le, take_all, drop_all}
use Rattle.std.proofs.lemmas.Slice.{drop-append-drop}
use Rattle.std.proofs.Math.Seq.{take-append_seam}
use Rattle.mem_files.specs.Name.{Bytes}
use Rattle.mem_files.specs.Overlay.{overlay, written}

pub written_in : (b : Bytes) (at : ℕ) (o : Bytes) → at ≤ length b → written b at o ≡ take at b ++ (o ++ drop (at + length o) b)
written_in b at o h = ap (λ t. cond t (take at b ++ (o ++ drop (at + length o) b)) b) (le-leb at (length b) h)

pub written_gap : (b : Bytes) (at : ℕ) (o : Bytes) → length b < at → written b at o ≡ b
written_gap b at o h = ap (λ t. cond t (take at b ++ (o ++ drop (at + length o) b)) b) (lt-leb at (length b) h)

pub written_start : (b o : Bytes) → written b 0 o ≡ overlay o b
written_start b o = written_in b 0 o (omega arith) ∙ ap (λ k. o ++ drop k b) (zero-add (length o))

pub written_none : (b : Bytes) (at : ℕ) → written b at [] ≡ b
written_none b at = go (leb at (length b))
  where
    go : (t : Bool) → cond t (take at b ++ drop (at + 0) b) b ≡ b
    go true = ap (λ k. take at b ++ drop k b) (add-zero at) ∙ take-append-drop at b
    go false = refl

pub written_end : (b o : Bytes) → written b (length b) o ≡ b ++ o
written_end b o =
    written_in b (length b) o (omega arith)
    ∙ (λ i. take_all (length b) b (omega arith) i ++ (o ++ drop_all (length b + length o) b (omega arith) i))
    ∙ ap (λ x. b ++ x) (append-nil o)

pub length-written : (b : Bytes) (at : ℕ) (o : Bytes) → at ≤ length b → length (written b at o) ≡ max (length b) (at + length o)
length-written b at o h =
    ap length (written_in b at o h) ∙ omega (arith, length-append (take at b) (o ++ drop (at + length o) b), length-append o (drop (at + length o) b), length-take-le at b h, length-drop (at + length o) b)

by_gap : (b : Bytes) (at : ℕ) (K : Type 0) → (length b < at → K) → (at ≤ length b → K) → K
by_gap b at K f g = go (leb at (length b)) refl
  where
    go : (t : Bool) → leb at (length b) ≡ t → K
    go true e = g (leb-true at (length b) e)
    go false e = f (leb-false at (length b) e)

module _ (b : Bytes) (at : ℕ) (w x : Bytes) (h : at ≤ length b) where
  front_length : length (take at b ++ w) ≡ at + length w
  front_length = omega (arith, length-append (take at b) w, length-take-le at b h)

  first : written b at w ≡ (take at b ++ w) ++ drop (at + length w) b
  first = written_in b at w h ∙ sym (append_assoc (take at b) w (drop (at + length w) b))

  first_length : at + length w ≤ length (written b at w)
  first_length = omega (arith, front_length, length-append (take at b ++ w) (drop (at + length w) b), ap length first)

  behind : (n : ℕ) → at + length w ≤ n → drop n (written b at w) ≡ drop n b
  behind n g = ap (drop n) first ∙ drop-append-drop (at + length w) b (take at b ++ w) n g front_length

  twice_in : written (written b at w) (at + length w) x ≡ written b at (w ++ x)
  twice_in =
      let A = take at b in
      let D = drop (at + length w) b in
      let front : take (at + length w) (written b at w) ≡ A ++ w = ap (λ n. take n (written b at w)) (sym front_length) ∙ ap (take (length (A ++ w))) first ∙ take-append_seam (A ++ w) D in
      let rest : drop (at + length w + length x) (written b at w) ≡ drop (at + length (w ++ x)) b = behind (at + length w + length x) (omega arith) ∙ ap (λ n. drop n b) (omega (arith, length-append w x)) in
      written_in (written b at w) (at + length w) x first_length ∙ (λ t. front t ++ (x ++ rest t)) ∙ append_assoc A w (x ++ drop (at + length (w ++ x)) b) ∙ ap (λ z. A ++ z) (sym (append_assoc w x (drop (at + length (w ++ x)) b))) ∙ sym (written_in b at (w ++ x) h)

  again_in : written (written b at w) at (w ++ x) ≡ written b at (w ++ x)
  again_in =
      let A = take at b in
      let D = drop (at + length w) b in
      let n : length A ≡ at = length-take-le at b h in
      let front : take at (written b at w) ≡ A = ap (λ n. take n (written b at w)) (sym n) ∙ ap (take (length A)) (written_in b at w h) ∙ take-append_seam A (w ++ D) in
      let rest : drop (at + length (w ++ x)) (written b at w) ≡ drop (at + length (w ++ x)) b = behind (at + length (w ++ x)) (omega (arith, length-append w x)) in
      written_in (written b at w) at (w ++ x) (omega (arith, first_length)) ∙ (λ t. front t ++ ((w ++ x) ++ rest t)) ∙ sym (written_in b at (w ++ x) h)

-- two writes in a row are one
pub written_twice : (b : Bytes) (at : ℕ) (w x : Bytes) → written (written b at w) (at + length w) x ≡ written b at (w ++ x)
written_twice b at w x =
    by_gap b at _
    (λ g. ap (λ z. written z (at + length w) x) (written_gap b at w g) ∙ written_gap b (at + length w) x (omega arith) ∙ sym (written_gap b at (w ++ x) g))
    (λ h. twice_in b at w x h)

-- a write over one that it begins with
pub written_again : (b : Bytes) (at : ℕ) (w x : Bytes) → written (written b at w) at (w ++ x) ≡ written b at (w ++ x)
written_again b at w x =
    by_gap b at _
    (λ g. ap (λ z. written z at (w ++ x)) (written_gap b at w g))
    (λ h. again_in b at w x h)
