-- The processes of a command, and those of them that it may leave behind.
use Rattle.std.proofs.Common.{◌≡◌, ℕ, zero, suc, ◌+◌, ◌≤◌, List, [], ◌∷◌, ◌++◌, arith}
use Rattle.std.specs.Prelude.{max}
use Rattle.std.proofs.Math.Nat.{le-max_left, le-max_right, max-le}
use Rattle.sh_tree.specs.Tree.{Tree, exec, redir, pipe, list, back}
use Rattle.script_load.specs.Line.{ScriptLine}
use Rattle.meaning_model.specs.Meaning.{line_tree, script_tree}
use Rattle.room_model.specs.BehindProcesses.{at_once, left_behind}

-- its own process doesn't stay behind
pub one_stays : (t : Tree) → left_behind t + 1 ≤ at_once t
one_stays (exec words) = omega arith
one_stays (redir mode name body) = one_stays body
one_stays (pipe l r) = omega (arith, one_stays l, one_stays r)
one_stays (list l r) = omega (arith, one_stays r, le-max_right (1 + at_once l) (left_behind l + at_once r))
one_stays (back body) = omega arith

pub some_run : (t : Tree) → 1 ≤ at_once t
some_run t = omega (arith, one_stays t)

-- what is left of b without a
pub rest_of : (a b : ℕ) → a ≤ b → (c : ℕ) × (c + a ≡ b)
rest_of zero b less = (b, omega arith)
rest_of (suc a) zero less = absurd (omega (arith, less))
rest_of (suc a) (suc b) less = let r = rest_of a b (omega (arith, less)) in (r.0, omega (arith, r.1))

plus_max : (c a b m : ℕ) → c + a ≤ m → c + b ≤ m → c + max a b ≤ m
plus_max c a b m one other = let r = rest_of c m (omega (arith, one)) in let most : max a b ≤ r.0 = max-le (omega (arith, one, r.1)) (omega (arith, other, r.1)) in omega (arith, r.1, most)

-- ---- lines with one more

module _ (line : ScriptLine) where
  abbrev tree : Tree
  tree = line_tree line

  abbrev with : List ScriptLine → Tree
  with lines = script_tree (lines ++ line ∷ [])

  pub left_with : (lines : List ScriptLine) → left_behind (script_tree lines) + left_behind tree ≡ left_behind (with lines)
  left_with [] = omega arith
  left_with (l ∷ lines) = omega (arith, left_with lines)

  abbrev Later : List ScriptLine → ℕ
  Later lines = max (at_once (script_tree lines)) (1 + left_behind (script_tree lines) + at_once tree)

  no_less : (lines : List ScriptLine) → at_once (with lines) ≤ Later lines
  no_less [] = max-le (omega (arith, le-max_right 1 (1 + 0 + at_once tree))) (omega (arith, one_stays tree, le-max_right 1 (1 + 0 + at_once tree)))
  no_less (l ∷ lines) =
      let a = 1 + at_once (line_tree l) in
      let b = left_behind (line_tree l) + at_once (script_tree lines) in
      let c = 1 + (left_behind (line_tree l) + left_behind (script_tree lines)) + at_once tree in
      let one : a ≤ max (max a b) c = omega (arith, le-max_left a b, le-max_left (max a b) c) in
      let two : b ≤ max (max a b) c = omega (arith, le-max_right a b, le-max_left (max a b) c) in
      let three : c ≤ max (max a b) c = le-max_right (max a b) c in
      let later : left_behind (line_tree l) + Later lines ≤ max (max a b) c =
      plus_max (left_behind (line_tree l)) (at_once (script_tree lines)) (1 + left_behind (script_tree lines) + at_once tree) (max (max a b) c) two (omega (arith, three)) in
      max-le one (omega (arith, no_less lines, later))

  no_more : (lines : List ScriptLine) → Later lines ≤ at_once (with lines)
  no_more [] = max-le (omega (arith, le-max_left (1 + at_once tree) (left_behind tree + 1))) (omega (arith, le-max_left (1 + at_once tree) (left_behind tree + 1)))
  no_more (l ∷ lines) =
      let a = 1 + at_once (line_tree l) in
      let d = left_behind (line_tree l) + at_once (with lines) in
      let one : a ≤ max a d = le-max_left a d in
      let two : d ≤ max a d = le-max_right a d in
      let x = at_once (script_tree lines) in
      let y = 1 + left_behind (script_tree lines) + at_once tree in
      max-le (max-le one (omega (arith, two, no_more lines, le-max_left x y))) (omega (arith, two, no_more lines, le-max_right x y))

  pub at_once_with : (lines : List ScriptLine) → Later lines ≡ at_once (with lines)
  at_once_with lines = omega (arith, no_less lines, no_more lines)
