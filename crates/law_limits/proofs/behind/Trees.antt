-- What a process needs to run a command, and what it then gives back to the process that waits for it.
use Rattle.std.proofs.Common.{◌≡◌, ℕ, ◌+◌, ◌≤◌, arith}
use Rattle.std.proofs.Math.Nat.{le-max_left, le-max_right}
use Rattle.sh_tree.specs.Tree.{Tree, list}
use Rattle.room_model.specs.BehindProcesses.{at_once, left_behind}
use Rattle.room_model.proofs.Trees.{one_stays, rest_of}

-- with w a process can run the command, and give back g at its end
pub record Enough (t : Tree) (w g : ℕ) : Type 0 where
  pub runs : at_once t ≤ w
  pub gives : left_behind t + g ≤ w

-- what the process of a command gives back if it began with what it needs
pub gives_back : (t : Tree) → (g : ℕ) × (g + left_behind t ≡ at_once t)
gives_back t = rest_of (left_behind t) (at_once t) (omega (arith, one_stays t))

pub back_enough : (t : Tree) (g : ℕ) → g + left_behind t ≡ at_once t → Enough t (at_once t) g
back_enough t g is = record { runs = omega arith; gives = omega (arith, is) }

pub none_enough : (t : Tree) → Enough t (at_once t) 0
none_enough t = record { runs = omega arith; gives = omega (arith, one_stays t) }

-- the parts of a list
pub record ListEnough (l r : Tree) (w g : ℕ) : Type 0 where
  pub left : 1 + at_once l ≤ w
  pub right : left_behind l + at_once r ≤ w
  pub gives : left_behind l + left_behind r + g ≤ w

pub list_enough : (l r : Tree) (w g : ℕ) → Enough (list l r) w g → ListEnough l r w g
list_enough l r w g e = record {
  left = omega (arith, e.runs, le-max_left (1 + at_once l) (left_behind l + at_once r));
  right = omega (arith, e.runs, le-max_right (1 + at_once l) (left_behind l + at_once r));
  gives = e.gives;
}
