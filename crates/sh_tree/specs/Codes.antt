-- A code for trees, different for different trees: a ghost field that speaks of a tree needs one.
use Rattle.std.specs.Prelude.{◌≡◌, refl, ℕ, zero, suc}
use Rattle.std.specs.Coded.{Coded, coded_list, coded_ℕ}
use mathlib.Core.Path.{ap, subst}
use base.Stored.{Gv, gnil, gnum, gcons}
use Rattle.sh_tree.specs.declared.tree.Mode.{Mode}
use Rattle.sh_tree.specs.declared.tree.Mode.TheVariants.{Input, Fresh, Over}
use Rattle.sh_tree.specs.Tree.{Tree, exec, redir, pipe, list, back}

abbrev num : Gv → ℕ
num gnil = 0
num (gnum n) = n
num (gcons a b) = 0

abbrev head : Gv → Gv
head gnil = gnil
head (gnum n) = gnil
head (gcons a b) = a

abbrev tail : Gv → Gv
tail gnil = gnil
tail (gnum n) = gnil
tail (gcons a b) = b

abbrev mode_number : Mode → ℕ
mode_number Input = 0
mode_number Fresh = 1
mode_number Over = 2

-- a node's code begins with the number of its kind
abbrev tree_gv : Tree → Gv
tree_gv (exec words) = gcons (gnum 0) ((coded_list (coded_list coded_ℕ)).code words)
tree_gv (redir mode name body) = gcons (gnum 1) (gcons (gnum (mode_number mode)) (gcons ((coded_list coded_ℕ).code name) (tree_gv body)))
tree_gv (pipe left right) = gcons (gnum 2) (gcons (tree_gv left) (tree_gv right))
tree_gv (list left right) = gcons (gnum 3) (gcons (tree_gv left) (tree_gv right))
tree_gv (back body) = gcons (gnum 4) (tree_gv body)

abbrev kind : Gv → ℕ
kind gv = num (head gv)

-- equality of small numbers, by their form
abbrev Same : ℕ → ℕ → Type 0
Same zero zero = Unit {0}
Same zero (suc n) = ⊥
Same (suc m) zero = ⊥
Same (suc m) (suc n) = Same m n

itself : (n : ℕ) → Same n n
itself zero = tt
itself (suc n) = itself n

pub same : (m n : ℕ) → m ≡ n → Same m n
same m n e = subst (Same m) e (itself m)

pub mode_inj : (m n : Mode) → mode_number m ≡ mode_number n → m ≡ n
mode_inj Input Input e = refl
mode_inj Input n e = absurd (same 0 (mode_number n) e)
mode_inj Fresh Fresh e = refl
mode_inj Fresh n e = absurd (same 1 (mode_number n) e)
mode_inj Over Over e = refl
mode_inj Over n e = absurd (same 2 (mode_number n) e)

pub tree_inj : (t u : Tree) → tree_gv t ≡ tree_gv u → t ≡ u
tree_inj (exec words) (exec others) e = ap exec ((coded_list (coded_list coded_ℕ)).inj words others (ap tail e))
tree_inj (exec words) u e = absurd (same 0 (kind (tree_gv u)) (ap kind e))
tree_inj (redir mode name body) (redir mode' name' body') e =
    let modes = mode_inj mode mode' (ap (λ g. num (head (tail g))) e) in
    let names = (coded_list coded_ℕ).inj name name' (ap (λ g. head (tail (tail g))) e) in
    let bodies = tree_inj body body' (ap (λ g. tail (tail (tail g))) e) in
    subst (λ m. redir mode name body ≡ redir m name' body') modes
    (subst (λ f. redir mode name body ≡ redir mode f body') names (ap (redir mode name) bodies))
tree_inj (redir mode name body) u e = absurd (same 1 (kind (tree_gv u)) (ap kind e))
tree_inj (pipe left right) (pipe left' right') e =
    subst (λ t. pipe left right ≡ pipe t right') (tree_inj left left' (ap (λ g. head (tail g)) e))
    (ap (pipe left) (tree_inj right right' (ap (λ g. tail (tail g)) e)))
tree_inj (pipe left right) u e = absurd (same 2 (kind (tree_gv u)) (ap kind e))
tree_inj (list left right) (list left' right') e =
    subst (λ t. list left right ≡ list t right') (tree_inj left left' (ap (λ g. head (tail g)) e))
    (ap (list left) (tree_inj right right' (ap (λ g. tail (tail g)) e)))
tree_inj (list left right) u e = absurd (same 3 (kind (tree_gv u)) (ap kind e))
tree_inj (back body) (back body') e = ap back (tree_inj body body' (ap tail e))
tree_inj (back body) u e = absurd (same 4 (kind (tree_gv u)) (ap kind e))

abbrev pub tree_code : Coded Tree
tree_code = record { code = tree_gv; inj = tree_inj }
