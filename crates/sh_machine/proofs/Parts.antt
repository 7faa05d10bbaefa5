-- A part of a part of a tree stands as many places later in the tree.
use Rattle.std.proofs.Common.{◌≡◌, ◌≤◌, ◌<◌, ◌+◌, ◌-◌, ℕ, zero, suc, List, [], ◌∷◌, Bool, cond, ltb, Option, Some, refl, ap, sym, ◌∙◌, subst, arith, inl, inr}
use Rattle.std.proofs.lemmas.Bool.{cases_lt, lt-ltb, le-ltb}
use Rattle.sh_tree.specs.Tree.{Tree, exec, redir, pipe, list, back}
use Rattle.script_load.specs.Line.{ScriptLine, command, bad, cd}
use Rattle.sh_machine.specs.Place.{part_of, part_of_first, size_of}

same_tree : (t u : Tree) → Some t ≡ Some u → t ≡ u
same_tree t u e = cc

pub part_first : (t : Tree) → part_of t 0 ≡ Some t
part_first (exec words) = refl
part_first (redir mode file body) = refl
part_first (pipe left right) = refl
part_first (list left right) = refl
part_first (back body) = refl

some_size : (t : Tree) → 0 < size_of t
some_size (exec words) = omega arith
some_size (redir mode file body) = omega arith
some_size (pipe left right) = omega arith
some_size (list left right) = omega arith
some_size (back body) = omega arith

-- part n of two sides
abbrev side_part : Tree → Tree → ℕ → Option Tree
side_part left right n = cond (ltb n (size_of left)) (part_of left n) (part_of right (n - size_of left))

side_left : (left right : Tree) (n : ℕ) → n < size_of left → side_part left right n ≡ part_of left n
side_left left right n below = ap (λ (b : Bool). cond b (part_of left n) (part_of right (n - size_of left))) (lt-ltb n (size_of left) below)

side_right : (left right : Tree) (n : ℕ) → size_of left ≤ n → side_part left right n ≡ part_of right (n - size_of left)
side_right left right n above = ap (λ (b : Bool). cond b (part_of left n) (part_of right (n - size_of left))) (le-ltb n (size_of left) above)

within_sides : (left right : Tree) (n : ℕ) (s : Tree) → (part_of left n ≡ Some s → n + size_of s ≤ size_of left)
    → (part_of right (n - size_of left) ≡ Some s → (n - size_of left) + size_of s ≤ size_of right)
    → side_part left right n ≡ Some s → n + size_of s ≤ size_of left + size_of right
within_sides left right n s in_left in_right is =
    elim (cases_lt n (size_of left)) [
      | inl below ↦ let h = in_left (sym (side_left left right n below) ∙ is) in omega arith
      | inr above ↦ let h = in_right (sym (side_right left right n above) ∙ is) in omega arith
    ]

first_within : (t s : Tree) → part_of t 0 ≡ Some s → 0 + size_of s ≤ size_of t
first_within t s is = let e : size_of t ≡ size_of s = ap size_of (same_tree t s (sym (part_first t) ∙ is)) in omega arith

-- a part lies within its tree
part_within : (t : Tree) (n : ℕ) (s : Tree) → part_of t n ≡ Some s → n + size_of s ≤ size_of t
part_within (exec words) zero s is = first_within (exec words) s is
part_within (exec words) (suc n) s is = cc
part_within (redir mode file body) zero s is = first_within (redir mode file body) s is
part_within (redir mode file body) (suc n) s is = let h = part_within body n s is in omega arith
part_within (pipe left right) zero s is = first_within (pipe left right) s is
part_within (pipe left right) (suc n) s is =
    let h = within_sides left right n s (part_within left n s) (part_within right (n - size_of left) s) is in omega arith
part_within (list left right) zero s is = first_within (list left right) s is
part_within (list left right) (suc n) s is =
    let h = within_sides left right n s (part_within left n s) (part_within right (n - size_of left) s) is in omega arith
part_within (back body) zero s is = first_within (back body) s is
part_within (back body) (suc n) s is = let h = part_within body n s is in omega arith

part_below : (t : Tree) (n : ℕ) (s : Tree) → part_of t n ≡ Some s → n < size_of t
part_below t n s is = let h = part_within t n s is in let some = some_size s in omega arith

sides_later : (left right : Tree) (n : ℕ) (s : Tree) (k : ℕ) (u : Tree) → part_of s k ≡ Some u
    → (part_of left n ≡ Some s → part_of left (n + k) ≡ Some u)
    → (part_of right (n - size_of left) ≡ Some s → part_of right ((n - size_of left) + k) ≡ Some u)
    → side_part left right n ≡ Some s → side_part left right (n + k) ≡ Some u
sides_later left right n s k u part in_left in_right is =
    elim (cases_lt n (size_of left)) [
      | inl below ↦
          let there : part_of left n ≡ Some s = sym (side_left left right n below) ∙ is in
          let room = part_within left n s there in
          let less = part_below s k u part in
          side_left left right (n + k) (omega arith) ∙ in_left there
      | inr above ↦
          let there : part_of right (n - size_of left) ≡ Some s = sym (side_right left right n above) ∙ is in
          let place : (n + k) - size_of left ≡ (n - size_of left) + k = omega arith in
          side_right left right (n + k) (omega arith) ∙ ap (part_of right) place ∙ in_right there
    ]

first_later : (t s : Tree) (k : ℕ) (u : Tree) → part_of s k ≡ Some u → part_of t 0 ≡ Some s → part_of t (0 + k) ≡ Some u
first_later t s k u part is =
    let place : 0 + k ≡ k = omega arith in
    ap (part_of t) place ∙ subst (λ (x : Tree). part_of x k ≡ Some u) (same_tree s t (sym is ∙ part_first t)) part

pub part_later : (t : Tree) (n : ℕ) (s : Tree) (k : ℕ) (u : Tree) → part_of s k ≡ Some u → part_of t n ≡ Some s → part_of t (n + k) ≡ Some u
part_later (exec words) zero s k u part is = first_later (exec words) s k u part is
part_later (exec words) (suc n) s k u part is = cc
part_later (redir mode file body) zero s k u part is = first_later (redir mode file body) s k u part is
part_later (redir mode file body) (suc n) s k u part is =
    let place : suc n + k ≡ suc (n + k) = omega arith in ap (part_of (redir mode file body)) place ∙ part_later body n s k u part is
part_later (pipe left right) zero s k u part is = first_later (pipe left right) s k u part is
part_later (pipe left right) (suc n) s k u part is =
    let place : suc n + k ≡ suc (n + k) = omega arith in
    ap (part_of (pipe left right)) place ∙ sides_later left right n s k u part (part_later left n s k u part) (part_later right (n - size_of left) s k u part) is
part_later (list left right) zero s k u part is = first_later (list left right) s k u part is
part_later (list left right) (suc n) s k u part is =
    let place : suc n + k ≡ suc (n + k) = omega arith in
    ap (part_of (list left right)) place ∙ sides_later left right n s k u part (part_later left n s k u part) (part_later right (n - size_of left) s k u part) is
part_later (back body) zero s k u part is = first_later (back body) s k u part is
part_later (back body) (suc n) s k u part is =
    let place : suc n + k ≡ suc (n + k) = omega arith in ap (part_of (back body)) place ∙ part_later body n s k u part is

pub line_part_later : (lines : List ScriptLine) (n : ℕ) (s : Tree) (k : ℕ) (u : Tree) → part_of s k ≡ Some u → part_of_first lines n ≡ Some s → part_of_first lines (n + k) ≡ Some u
line_part_later [] n s k u part is = cc
line_part_later (command tree ∷ later) n s k u part is = part_later tree n s k u part is
line_part_later (bad fault text ∷ later) n s k u part is = cc
line_part_later (cd text ∷ later) n s k u part is = cc

-- the sides stand right behind the whole, the one behind the other

pub left_part : (left right : Tree) → side_part left right 0 ≡ Some left
left_part left right = side_left left right 0 (some_size left) ∙ part_first left

pub right_part : (left right : Tree) → side_part left right (size_of left) ≡ Some right
right_part left right =
    let first : size_of left - size_of left ≡ 0 = omega arith in
    side_right left right (size_of left) (omega arith) ∙ ap (part_of right) first ∙ part_first right
