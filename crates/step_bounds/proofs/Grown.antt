-- By how much a command makes files grow, by how much its parts do.
use Rattle.std.proofs.Common.{◌≡◌, ℕ, ◌+◌, ◌-◌, List, ◌∷◌, Option, Some, None, sym, ap, ◌∙◌, subst, arith}
use Rattle.mem_files.specs.Name.{Bytes, Name}
use Rattle.sh_tree.specs.Tree.{Tree, exec, pipe, list}
use Rattle.prog_parts.specs.declared.program.Program.{Program}
use Rattle.prog_parts.specs.Program.{program_of}
use Rattle.tree_model.specs.FilesAhead.{Sizes}
use Rattle.tree_model.specs.Bound.{grown, tree_bytes}
use Rattle.tree_model.specs.ProgramBytes.{begin_bytes}
use Rattle.step_bounds.specs.Cost.{IsCapped, IsGrownBy, sizes_grown}
use Rattle.step_bounds.proofs.Exec.{reads, bytes_are}
use Rattle.step_bounds.proofs.Growing.{grown_twice}

module _ (files : List (Name × Bytes)) (n more : ℕ) where
  abbrev L : Sizes
  L = sizes_grown files more

  module _ (word : Bytes) (arguments : List Bytes) (program : Program) (named : program_of word ≡ Some program) where
    pub exec_too_much : IsCapped (begin_bytes program arguments (reads word arguments n L)) None → IsGrownBy (exec (word ∷ arguments)) n files more None
    exec_too_much much = omega (arith, much, bytes_are word arguments n L program named)

    pub exec_grown : (bytes : ℕ) (o : Option ℕ) → IsCapped (begin_bytes program arguments (reads word arguments n L)) (Some bytes) → IsCapped (more + bytes) o → IsGrownBy (exec (word ∷ arguments)) n files more o
    exec_grown bytes o is sum = subst (λ m. IsCapped (more + m) o) (is.0 ∙ sym (bytes_are word arguments n L program named)) sum

  module _ (left right : Tree) (first : ℕ) (is : IsGrownBy left n files more (Some first)) where
    abbrev b : ℕ
    b = tree_bytes left n L

    -- what was added is what the left side writes
    pub added : first - more ≡ b
    added = omega (arith, is.0)

    pub beside_too_much : IsGrownBy right (first - more) files more None → IsGrownBy (pipe left right) n files more None
    beside_too_much much =
        let e : tree_bytes right (first - more) L ≡ tree_bytes right b L = ap (λ k. tree_bytes right k L) added in
        omega (arith, much, e)

    pub beside : (second : ℕ) (o : Option ℕ) → IsGrownBy right (first - more) files more (Some second) → IsCapped (first + (second - more)) o → IsGrownBy (pipe left right) n files more o
    beside second o later sum =
        let e : tree_bytes right (first - more) L ≡ tree_bytes right b L = ap (λ k. tree_bytes right k L) added in
        let same : first + (second - more) ≡ more + (b + tree_bytes right b L) = omega (arith, is.0, later.0, e) in
        subst (λ k. IsCapped k o) same sum

    pub behind : (o : Option ℕ) → IsGrownBy right n files first o → IsGrownBy (list left right) n files more o
    behind o later =
        let sizes : sizes_grown files first ≡ grown L b = ap (sizes_grown files) is.0 ∙ sym (grown_twice _ more b) in
        let moved : first + tree_bytes right n (sizes_grown files first) ≡ first + tree_bytes right n (grown L b) = ap (λ (K : Sizes). first + tree_bytes right n K) sizes in
        let same : first + tree_bytes right n (sizes_grown files first) ≡ more + (b + tree_bytes right n (grown L b)) = omega (arith, is.0, moved) in
        subst (λ k. IsCapped k o) same later
