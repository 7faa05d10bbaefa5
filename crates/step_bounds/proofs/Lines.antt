-- Lines one after the other: what those so far cost, and what the lines that are left cost then, is what the whole script costs.
use Rattle.std.proofs.Common.{◌≡◌, ℕ, ◌+◌, ◌<◌, ◌≤◌, List, [], ◌∷◌, length, drop, get_or, drop-cons, add-one, sym, ap, ◌∙◌, arith}
use Rattle.std.specs.Prelude.{map}
use Rattle.std.proofs.lemmas.List.{drop_all}
use Rattle.mem_files.specs.Name.{Bytes, Name}
use Rattle.sh_tree.specs.Tree.{Tree}
use Rattle.script_load.specs.declared.line.Line.{Line}
use Rattle.script_load.specs.Line.{ScriptLine, line_of}
use Rattle.meaning_model.specs.Meaning.{line_tree, script_tree}
use Rattle.tree_model.specs.FilesAhead.{Sizes}
use Rattle.tree_model.specs.Bound.{grown, tree_bytes, tree_steps}
use Rattle.step_bounds.specs.Cost.{sizes_grown}
use Rattle.step_bounds.proofs.Growing.{grown_twice}

-- the line at a place, and those after it
pub next_line : {A : _} (lines : List (Line A)) (i : ℕ) (d : Line A) → i < length lines → map line_of (drop i lines) ≡ line_of (get_or lines i d) ∷ map line_of (drop (i + 1) lines)
next_line lines i d inside = ap (map line_of) (drop-cons lines i d inside) ∙ ap (λ j. line_of (get_or lines i d) ∷ map line_of (drop j lines)) (sym (add-one i))

pub no_line : {A : _} (lines : List (Line A)) (i : ℕ) → length lines ≤ i → map line_of (drop i lines) ≡ []
no_line lines i over = ap (map line_of) (drop_all i lines over)

module _ (files : List (Name × Bytes)) (n : ℕ) (whole : Tree) where
  -- after so many bytes and steps these lines are left
  pub record IsCostTo (lines : List ScriptLine) (b s : ℕ) : Type 0 where
    pub bytes : b + tree_bytes (script_tree lines) n (sizes_grown files b) ≡ tree_bytes whole n (sizes_grown files 0)
    pub steps : s + tree_steps (script_tree lines) n (sizes_grown files b) ≡ tree_steps whole n (sizes_grown files 0)

  module _ (line : ScriptLine) (lines : List ScriptLine) (b s : ℕ) (so_far : IsCostTo (line ∷ lines) b s) where
    more : sizes_grown files (b + tree_bytes (line_tree line) n (sizes_grown files b)) ≡ grown (sizes_grown files b) (tree_bytes (line_tree line) n (sizes_grown files b))
    more = sym (grown_twice _ b (tree_bytes (line_tree line) n (sizes_grown files b)))

    -- one more line
    pub one_more : (c d : ℕ) → c ≡ b + tree_bytes (line_tree line) n (sizes_grown files b) → d ≡ 2 + (s + tree_steps (line_tree line) n (sizes_grown files b)) → IsCostTo lines c d
    one_more c d bytes steps =
        let now : sizes_grown files c ≡ grown (sizes_grown files b) (tree_bytes (line_tree line) n (sizes_grown files b)) = ap (sizes_grown files) bytes ∙ more in
        record {
          bytes = omega (arith, bytes, so_far.bytes, ap (λ (K : Sizes). tree_bytes (script_tree lines) n K) now);
          steps = omega (arith, steps, so_far.steps, ap (λ (K : Sizes). tree_steps (script_tree lines) n K) now);
        }

    -- a line after which there are too many
    pub too_many : (most : ℕ) → most < 0 + (2 + (s + tree_steps (line_tree line) n (sizes_grown files b))) → most < 0 + tree_steps whole n (sizes_grown files 0)
    too_many most few = omega (arith, few, so_far.steps)
