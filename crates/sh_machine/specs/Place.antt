-- Commands by their places in a script.
use Rattle.std.specs.Prelude.{◌≡◌, ℕ, zero, suc, ◌+◌, ◌-◌, ◌^◌, ◌≤◌, List, [], ◌∷◌, length, drop, Option, Some, None, nat_lt, if◌then◌else◌, refl}
use Rattle.std.specs.Coded.{Coded-set, coded_option}
use Rattle.sh_tree.specs.Codes.{tree_code}
use Rattle.sh_tree.specs.Tree.{Tree, exec, redir, pipe, list, back}
use Rattle.script_load.specs.Line.{ScriptLine, command, bad, cd}
use Rattle.sh_machine.specs.declared.place.Place.{Place}

-- how many commands a tree has: itself and its parts
abbrev pub size_of : Tree → ℕ
size_of (exec words) = 1
size_of (redir mode file body) = size_of body + 1
size_of (pipe left right) = (size_of left + size_of right) + 1
size_of (list left right) = (size_of left + size_of right) + 1
size_of (back body) = size_of body + 1

-- the command before which so many others of a tree come, each before its parts, and left parts before right
abbrev pub part_of : Tree → ℕ → Option Tree
part_of (exec words) zero = Some (exec words)
part_of (exec words) (suc n) = None
part_of (redir mode file body) zero = Some (redir mode file body)
part_of (redir mode file body) (suc n) = part_of body n
part_of (pipe left right) zero = Some (pipe left right)
part_of (pipe left right) (suc n) = if nat_lt n (size_of left) then part_of left n else part_of right (n - size_of left)
part_of (list left right) zero = Some (list left right)
part_of (list left right) (suc n) = if nat_lt n (size_of left) then part_of left n else part_of right (n - size_of left)
part_of (back body) zero = Some (back body)
part_of (back body) (suc n) = part_of body n

-- of the first of these lines
abbrev pub part_of_first : List ScriptLine → ℕ → Option Tree
part_of_first [] n = None
part_of_first (command tree ∷ later) n = part_of tree n
part_of_first (bad fault text ∷ later) n = None
part_of_first (cd text ∷ later) n = None

-- the command that stands at a place of a script
abbrev pub part_at : List ScriptLine → Place → Option Tree
part_at script place = part_of_first (drop (length script - place.lines) script) place.before

-- the tree stands at the place, if that is known
abbrev pub IsPlaced : List ScriptLine → Option Place → Tree → Type 0
IsPlaced script None tree = Unit {0}
IsPlaced script (Some place) tree = part_at script place ≡ Some tree

-- which is a fact
pub placed_fact : (script : List ScriptLine) (place : Option Place) (tree : Tree) → IsProp (IsPlaced script place tree)
placed_fact script None tree = λ x y. refl
placed_fact script (Some place) tree = Coded-set (coded_option tree_code) (part_at script place) (Some tree)

-- the second place is so many commands after the first in its line; it is unknown where the first one is, or where a number
-- can't count so far
abbrev pub IsLater : Option Place → ℕ → Option Place → Type 0
IsLater None count None = Unit {0}
IsLater (Some place) count None = 2 ^ 64 ≤ place.before + count
IsLater None count (Some later) = ⊥
IsLater (Some place) count (Some later) = (later.lines ≡ place.lines) × (later.before ≡ place.before + count)

-- both are known, and they are one
abbrev pub SamePlace : Option Place → Option Place → Type 0
SamePlace None other = ⊥
SamePlace (Some place) None = ⊥
SamePlace (Some place) (Some other) = place ≡ other
