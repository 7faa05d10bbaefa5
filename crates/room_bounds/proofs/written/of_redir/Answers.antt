use Rattle.std.proofs.Common.{ℕ, ◌≡◌, ◌⊎◌, inl, inr, Some, sym, arith}
use Rattle.std.specs.Prelude.{false}
use Rattle.sh_tree.specs.declared.tree.Mode.{Mode}
use Rattle.sh_tree.specs.declared.tree.Mode.TheVariants.{Input, Fresh, Over}
use Rattle.sh_tree.specs.Tree.{Tree, redir}
use Rattle.mem_files.specs.Name.{Name}
use Rattle.prog_parts.specs.NameSets.{no_names}
use Rattle.tree_model.specs.FilesAhead.{Sizes}
use Rattle.tree_model.specs.Bound.{input_under}
use Rattle.room_model.specs.Place.{to_place}
use Rattle.room_bounds.specs.CappedGrowth.{IsCapped}
use Rattle.room_bounds.specs.Written.{AreWritten}
use Rattle.room_bounds.specs.declared.written.Written.{Written}
use Rattle.room_bounds.proofs.Places.{none_place}
use Rattle.room_bounds.proofs.written.of_redir.Goals as goal

none : (tree : Tree) (n : ℕ) (L : Sizes) → IsCapped (to_place no_names false tree n L) (Some 0)
none tree n L = (sym (none_place tree n L), omega (arith, none_place tree n L))

into_file : (mode : Mode) → (mode ≡ Fresh) ⊎ (mode ≡ Over) → (body : Written) (name : Name) (tree : Tree) (n : ℕ) (L : Sizes) → AreWritten tree (input_under mode n (L name)) L body
    → AreWritten (redir mode name tree) n L record { to_files = body.to_both; to_output = Some 0; to_both = body.to_both }
into_file Input (inl is) body name tree n L are = absurd (let z : ⊥ = cc in z)
into_file Input (inr is) body name tree n L are = absurd (let z : ⊥ = cc in z)
into_file Fresh is body name tree n L are = record { to_files = are.to_both; to_output = none tree n L; to_both = are.to_both }
into_file Over is body name tree n L are = record { to_files = are.to_both; to_output = none tree n L; to_both = are.to_both }

pub returns-in-Fresh : goal.returns-in-Fresh
returns-in-Fresh c name tree n L are = into_file c.args.mode c.in-Fresh.is c.args.body name tree n L are
