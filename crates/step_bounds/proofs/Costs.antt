-- The cost of a command by those of its parts.
use Rattle.std.proofs.Common.{◌≡◌, ℕ, ◌+◌, ◌*◌, ◌≤◌, List, ◌∷◌, Option, Some, None, length, refl, sym, ap, ◌∙◌, subst, arith}
use Rattle.mem_files.specs.Name.{Bytes, Name}
use Rattle.sh_tree.specs.declared.tree.Mode.{Mode}
use Rattle.sh_tree.specs.Tree.{Tree, exec, redir, pipe, list}
use Rattle.prog_parts.specs.declared.program.Program.{Program}
use Rattle.prog_parts.specs.Program.{program_of}
use Rattle.tree_model.specs.FilesAhead.{Sizes}
use Rattle.tree_model.specs.Bound.{grown, input_under, tree_bytes, tree_steps}
use Rattle.tree_model.specs.ProgramBytes.{begin_bytes}
use Rattle.step_bounds.specs.declared.cost.Cost.{Cost}
use Rattle.step_bounds.specs.Cost.{IsCost, IsCostOf, sizes_grown}
use Rattle.step_bounds.proofs.Exec.{reads, bytes_are, steps_are}
use Rattle.step_bounds.proofs.Growing.{grown_twice}

-- other names of the same numbers; what is too much alone is so with more
same_cost : (less more b c s t : ℕ) (o : Option Cost) → less ≤ more → b ≡ c → s ≡ t → IsCost less b s o → IsCost more c t o
same_cost less more b c s t None few bytes steps is = omega (arith, few, steps, is)
same_cost less more b c s t (Some cost) few bytes steps is = (is.0 ∙ bytes, is.1 ∙ steps)

module _ (files : List (Name × Bytes)) (n more : ℕ) where
  pub exec_cost : (word : Bytes) (arguments : List Bytes) (r : ℕ) (program : Program) (o : Option Cost) → program_of word ≡ Some program → r ≡ reads word arguments n (sizes_grown files more)
      → IsCost 0 (begin_bytes program arguments r) (10 + 4 * length arguments + r * (length arguments + 2) + begin_bytes program arguments r) o → IsCostOf (exec (word ∷ arguments)) n files more o
  exec_cost word arguments r program o named is cost =
      let L = sizes_grown files more in
      same_cost 0 more _ _ _ _ o (omega arith) (ap (begin_bytes program arguments) is ∙ sym (bytes_are word arguments n L program named))
      (ap (λ m. 10 + 4 * length arguments + m * (length arguments + 2) + begin_bytes program arguments m) is ∙ sym (steps_are word arguments n L program named)) cost

  pub redir_cost : (mode : Mode) (name : Name) (body : Tree) (m : ℕ) (o r : Option Cost) → m ≡ input_under mode n (sizes_grown files more name)
      → IsCostOf body m files more o → ((more bytes steps : ℕ) → IsCost more bytes steps o → IsCost more bytes (3 + steps) r) → IsCostOf (redir mode name body) n files more r
  redir_cost mode name body m o r is cost adds = adds more _ _ (subst (λ k. IsCostOf body k files more o) is cost)

  module _ (left right : Tree) (first : Cost) (second r : Option Cost) (cost : IsCostOf left n files more (Some first)) (few : first.bytes ≤ first.steps) (adds : (more extra bytes steps : ℕ) → extra ≤ first.steps → IsCost (more + extra) bytes steps second → IsCost more (first.bytes + bytes) (2 + (first.steps + steps)) r) where
    pub pipe_cost : IsCostOf right first.bytes files more second → IsCostOf (pipe left right) n files more r
    pipe_cost more_later =
        let L = sizes_grown files more in
        let later : IsCostOf right (tree_bytes left n L) files more second = subst (λ k. IsCostOf right k files more second) cost.0 more_later in
        same_cost more more _ _ _ _ r (omega arith) (ap (λ k. k + tree_bytes right (tree_bytes left n L) L) cost.0) (ap (λ k. 2 + (k + tree_steps right (tree_bytes left n L) L)) cost.1)
        (adds more 0 _ _ (omega arith) (same_cost more (more + 0) _ _ _ _ second (omega arith) refl refl later))

    pub list_cost : (now : ℕ) → now ≡ more + first.bytes → IsCostOf right n files now second → IsCostOf (list left right) n files more r
    list_cost now is more_later =
        let L = sizes_grown files more in
        let b = tree_bytes left n L in
        let sizes : sizes_grown files now ≡ grown L b = ap (sizes_grown files) (is ∙ ap (λ k. more + k) cost.0) ∙ sym (grown_twice _ more b) in
        let later : IsCost now (tree_bytes right n (grown L b)) (tree_steps right n (grown L b)) second = subst (λ (K : Sizes). IsCost now (tree_bytes right n K) (tree_steps right n K) second) sizes more_later in
        same_cost more more _ _ _ _ r (omega arith) (ap (λ k. k + tree_bytes right n (grown L b)) cost.0) (ap (λ k. 2 + (k + tree_steps right n (grown L b))) cost.1)
        (adds more first.bytes (tree_bytes right n (grown L b)) (tree_steps right n (grown L b)) few (subst (λ k. IsCost k (tree_bytes right n (grown L b)) (tree_steps right n (grown L b)) second) is later))
