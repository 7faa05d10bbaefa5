-- The first clash of a tree: a node's own before those of its body or left side, and these before those of its right side.
use Rattle.std.specs.Prelude.{◌≡◌, ℕ, true, false, ◌||◌, ◌&&◌, List, ◌∷◌, ◌++◌, All}
use Rattle.sh_tree.specs.declared.tree.Mode.{Mode}
use Rattle.sh_tree.specs.Tree.{Tree, redir, pipe, list, back}
use Rattle.conflict_check.specs.declared.conflict.ClashKind.{ClashKind}
use Rattle.conflict_check.specs.declared.conflict.ClashKind.TheVariants.{PipeSides, Enclosing}
use Rattle.conflict_check.specs.Clear.{AreApart, is_touched, IsClear}
use Rattle.prog_parts.specs.NameSets.{Names}
use Rattle.conflict_check.specs.Names.{names, reads, writes}
use Rattle.conflict_check.specs.Occurrences.{occurrences}

-- the names that clash between the two sides of a pipe: those that one side writes and the other reads or writes
abbrev pub shared : Tree → Tree → Names
shared left right name = (writes left name && names right name) || (reads left name && writes right name)

-- of the names of the left side, in its order, this is the first that clashes
pub record IsFirstShared (left right : Tree) (name : List ℕ) : Type 0 where
  pub before : List (List ℕ)
  pub after : List (List ℕ)
  pub split : occurrences left ≡ before ++ name ∷ after
  pub clashes : shared left right name ≡ true
  pub earlier : All (λ other. shared left right other ≡ false) before

-- the tree clashes, and this is its first clash
pub data IsFirstClash : Tree → ClashKind → List ℕ → Type 0 where
  own_file : {mode : Mode} {file : List ℕ} {body : Tree} → is_touched mode file body ≡ true → IsFirstClash (redir mode file body) Enclosing file
  in_body : {mode : Mode} {file name : List ℕ} {body : Tree} {kind : ClashKind} → is_touched mode file body ≡ false → IsFirstClash body kind name → IsFirstClash (redir mode file body) kind name
  own_sides : {left right : Tree} {name : List ℕ} → IsFirstShared left right name → IsFirstClash (pipe left right) PipeSides name
  left_of_pipe : {left right : Tree} {kind : ClashKind} {name : List ℕ} → AreApart left right → IsFirstClash left kind name → IsFirstClash (pipe left right) kind name
  right_of_pipe : {left right : Tree} {kind : ClashKind} {name : List ℕ} → AreApart left right → IsClear left → IsFirstClash right kind name → IsFirstClash (pipe left right) kind name
  left_of_list : {left right : Tree} {kind : ClashKind} {name : List ℕ} → IsFirstClash left kind name → IsFirstClash (list left right) kind name
  right_of_list : {left right : Tree} {kind : ClashKind} {name : List ℕ} → IsClear left → IsFirstClash right kind name → IsFirstClash (list left right) kind name
  behind : {body : Tree} {kind : ClashKind} {name : List ℕ} → IsFirstClash body kind name → IsFirstClash (back body) kind name
