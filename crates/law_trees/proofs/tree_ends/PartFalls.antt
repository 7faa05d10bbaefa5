-- A step of a part makes less of the numbers of the whole.
use Rattle.std.proofs.Common.{◌≡◌, ◌∙◌, ◌⊎◌, inl, inr, ℕ, ◌+◌, ◌-◌, ◌≤◌, Bool, true, false, length, Option, Some, None, refl, sym, ap, arith}
use Rattle.std.specs.Prelude.{if◌then◌else◌}
use Rattle.std.specs.Str.{bytes_eq}
use Rattle.std.proofs.lemmas.Slice.Eq.{bytes_eq-Decides}
use Rattle.sh_tree.specs.Tree.{Tree}
use Rattle.mem_files.specs.Name.{Name, Bytes}
use Rattle.mem_files.specs.Files.{FileMap, bytes_of}
use Rattle.tree_model.specs.FilesAhead.{sizes}
use Rattle.tree_model.specs.Residual.{Residual, seq, piped, from, into, Position, byte_in, left_names, left_writes}
use Rattle.tree_model.specs.Rules.{patch, patched}
use Rattle.tree_model.specs.Tidy.{IsTidy}
use Rattle.law_trees.proofs.trees.Progress.{After}
use Rattle.tree_model.specs.Bound.{grown, bytes_left}
use Rattle.law_trees.proofs.tree_ends.More.{tree_more, left_more}
use Rattle.law_trees.proofs.tree_ends.Growing.{written_size}
use Rattle.law_trees.proofs.tree_ends.RunFalls.{Falls}
use Rattle.meaning_model.proofs.Bools.{apart}

-- steps of parts
pub seq_falls : (X X' : Residual) (T : Tree) (F G : FileMap) (n took wrote : ℕ) → Falls X F n took wrote X' G → Falls (seq X T) F n took wrote (seq X' T) G
seq_falls X X' T F G n took wrote h =
    let t = tree_more T (n - took) n (grown (sizes G) (bytes_left X' (n - took) (sizes G))) (grown (sizes F) (bytes_left X n (sizes F))) (omega arith) (λ f e. h.grow f) in
    record { bytes = omega (arith, h.bytes, t.bytes); grow = λ f. let g = h.grow f in omega (arith, g, t.bytes); steps = omega (arith, h.steps, t.steps) }

pub left_falls : (lost lost' : Bool) (X X' Y : Residual) (q q' : Bytes) (F G : FileMap) (n took wrote : ℕ) → IsTidy (piped lost X q Y) F → After X F X' G → length q' ≤ length q + wrote → Falls X F n took wrote X' G → Falls (piped lost X q Y) F n took 0 (piped lost' X' q' Y) G
left_falls lost lost' X X' Y q q' F G n took wrote tidy a room h =
    let L = sizes F in
    let M = sizes G in
    let y = left_more Y (length q' + bytes_left X' (n - took) M) (length q + bytes_left X n L) M L (omega (arith, room, h.bytes)) (λ f e. untouched f e) in
    record { bytes = omega (arith, h.bytes, y.bytes); grow = λ f. let g = h.grow f in omega (arith, g, y.bytes); steps = omega (arith, h.steps, y.steps) }
  where
    untouched : (f : Name) → left_names Y f ≡ true → sizes G f ≤ sizes F f
    untouched f e = omega (arith, ap (λ o. length (bytes_of o)) (a.only f (apart (left_writes X f) (left_names Y f) (tidy.2 f) e)))

pub right_falls : (lost : Bool) (X Y Y' : Residual) (q q' : Bytes) (F G : FileMap) (n took wrote : ℕ) → IsTidy (piped lost X q Y) F → After Y F Y' G → took + length q' ≡ length q → Falls Y F (length q + bytes_left X n (sizes F)) took wrote Y' G → Falls (piped lost X q Y) F n 0 wrote (piped lost X q' Y') G
right_falls lost X Y Y' q q' F G n took wrote tidy a cut h =
    let L = sizes F in
    let M = sizes G in
    let x = left_more X (n - 0) n M L (omega arith) (λ f e. untouched f e) in
    let y = left_more Y' (length q' + bytes_left X (n - 0) M) ((length q + bytes_left X n L) - took) M M (omega (arith, cut, x.bytes)) (λ f e. omega arith) in
    record { bytes = omega (arith, h.bytes, x.bytes, y.bytes); grow = λ f. let g = h.grow f in omega (arith, g, x.bytes, y.bytes); steps = omega (arith, h.steps, x.steps, y.steps) }
  where
    untouched : (f : Name) → left_names X f ≡ true → sizes G f ≤ sizes F f
    untouched f e = omega (arith, ap (λ o. length (bytes_of o)) (a.only f (apart (left_writes Y f) (left_names X f) (tidy.3 f) e)))

pub from_falls : (X X' : Residual) (name : Name) (at at' : ℕ) (F G : FileMap) (n took wrote : ℕ) → left_writes X name ≡ false → After X F X' G → at' ≡ at + took → Falls X F (sizes F name - at) took wrote X' G → Falls (from name at X) F n 0 wrote (from name at' X') G
from_falls X X' name at at' F G n took wrote unwritten a is h =
    let L = sizes F in
    let M = sizes G in
    let same : M name ≡ L name = ap (λ o. length (bytes_of o)) (a.only name unwritten) in
    let x = left_more X' (M name - at') ((L name - at) - took) M M (omega (arith, same, is)) (λ f e. omega arith) in
    record { bytes = omega (arith, h.bytes, x.bytes); grow = λ f. let g = h.grow f in omega (arith, g, x.bytes); steps = omega (arith, h.steps, x.steps) }

-- the file that is written grows by what is written, and is not named in the body
abbrev pub Made : Residual → FileMap → FileMap → FileMap → ℕ → Name → Type 0
Made X' F G H wrote f = (H f ≡ G f) ⊎ ((left_names X' f ≡ false) × (sizes H f ≤ sizes F f + wrote))

pub into_falls : (X X' : Residual) (name : Name) (at at' : Position) (F G H : FileMap) (n took wrote : ℕ) → ((f : Name) → Made X' F G H wrote f) → Falls X F n took wrote X' G → Falls (into name at X) F n took 0 (into name at' X') H
into_falls X X' name at at' F G H n took wrote made h =
    let x = left_more X' (n - took) (n - took) (sizes H) (sizes G) (omega arith) (λ f e. untouched f e (made f)) in
    record { bytes = omega (arith, h.bytes, x.bytes); grow = λ f. grow f x.bytes (made f); steps = omega (arith, h.steps, x.steps) }
  where
    untouched : (f : Name) → left_names X' f ≡ true → Made X' F G H wrote f → sizes H f ≤ sizes G f
    untouched f e (inl same) = omega (arith, ap (λ o. length (bytes_of o)) same)
    untouched f e (inr (none, size)) = let never : true ≡ false = sym e ∙ none in cc

    grow : (f : Name) → bytes_left X' (n - took) (sizes H) ≤ bytes_left X' (n - took) (sizes G) → Made X' F G H wrote f → sizes H f + bytes_left X' (n - took) (sizes H) ≤ sizes F f + bytes_left X n (sizes F)
    grow f x (inl same) = let g = h.grow f in omega (arith, g, x, ap (λ o. length (bytes_of o)) same)
    grow f x (inr (none, size)) = omega (arith, size, x, h.bytes)

pub as_it_was : (X' : Residual) (F G : FileMap) (f : Name) → Made X' F G G 0 f
as_it_was X' F G f = inl refl

pub one_patched : (X' : Residual) (name : Name) (at : Position) (bytes : Bytes) (F G : FileMap) → left_names X' name ≡ false → G name ≡ F name → (f : Name) → Made X' F G (patched G name at bytes) (length bytes) f
one_patched X' name at bytes F G none same f = go (bytes_eq f name) (λ e. (bytes_eq-Decides f name).0 e)
  where
    larger : (o : Option Bytes) → length (bytes_of (patch o at bytes)) ≤ length (bytes_of o) + length bytes
    larger None = omega arith
    larger (Some b) = written_size b (byte_in at b) bytes

    go : (t : Bool) → (t ≡ true → f ≡ name) → ((if t then patch (G f) at bytes else G f) ≡ G f) ⊎ ((left_names X' f ≡ false) × (length (bytes_of (if t then patch (G f) at bytes else G f)) ≤ sizes F f + length bytes))
    go true e =
        let is = e refl in
        inr (ap (left_names X') is ∙ none, omega (arith, larger (G f), ap (λ o. length (bytes_of o)) (ap G is ∙ same ∙ ap F (sym is))))
    go false e = inl refl
