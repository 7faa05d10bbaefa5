-- The names that a tree writes, and those that a script writes.
use Rattle.std.proofs.Common.{◌≡◌, ℕ, ◌+◌, ◌<◌, ◌≤◌, List, [], ◌∷◌, ◌++◌, length, take, drop, get_or, drop-cons, add-one, refl, sym, ap, ap₂, ◌∙◌}
use Rattle.std.specs.Prelude.{◌||◌, map}
use Rattle.std.proofs.Math.Seq.{take-suc}
use Rattle.std.proofs.lemmas.List.{drop_all, map-append, take-map}
use Rattle.std.specs.Str.{bytes_eq}
use Rattle.std.proofs.lemmas.List.Folds.{list_any-append}
use Rattle.sh_tree.specs.declared.tree.Mode.TheVariants.{Input, Fresh, Over}
use Rattle.sh_tree.specs.Tree.{Tree, exec, redir, pipe, list, back}
use Rattle.mem_files.specs.Name.{Name}
use Rattle.prog_parts.specs.NameSets.{among}
use Rattle.script_load.specs.declared.line.Line.{Line}
use Rattle.script_load.specs.Line.{ScriptLine, line_of}
use Rattle.meaning_model.specs.Meaning.{line_tree, script_tree}
use Rattle.conflict_check.specs.Names.{writes}
use Rattle.room_model.specs.Files.{names_written}
use Rattle.room_bounds.specs.Growth.{is_written}

pub writes_are : (t : Tree) (name : Name) → writes t name ≡ among (names_written t) name
writes_are (exec words) name = refl
writes_are (redir Input file body) name = writes_are body name
writes_are (redir Fresh file body) name = ap (λ b. bytes_eq name file || b) (writes_are body name)
writes_are (redir Over file body) name = ap (λ b. bytes_eq name file || b) (writes_are body name)
writes_are (pipe l r) name = ap₂ (λ a b. a || b) (writes_are l name) (writes_are r name) ∙ sym (list_any-append (bytes_eq name) (names_written l) (names_written r))
writes_are (list l r) name = ap₂ (λ a b. a || b) (writes_are l name) (writes_are r name) ∙ sym (list_any-append (bytes_eq name) (names_written l) (names_written r))
writes_are (back body) name = writes_are body name

-- the line at a place, and those after it
pub next_line : {A : _} (lines : List (Line A)) (i : ℕ) (d : Line A) → i < length lines → map line_of (drop i lines) ≡ line_of (get_or lines i d) ∷ map line_of (drop (i + 1) lines)
next_line lines i d inside = ap (map line_of) (drop-cons lines i d inside) ∙ ap (λ j. line_of (get_or lines i d) ∷ map line_of (drop j lines)) (sym (add-one i))

-- the first lines, and the next
pub with_next : {A : _} (lines : List (Line A)) (i : ℕ) (d : Line A) → i < length lines → take (i + 1) (map line_of lines) ≡ take i (map line_of lines) ++ line_of (get_or lines i d) ∷ []
with_next lines i d inside =
    take-map line_of (i + 1) lines
    ∙ (ap (map line_of) (ap (λ j. take j lines) (add-one i) ∙ take-suc lines i d inside)
    ∙ (map-append line_of (take i lines) (get_or lines i d ∷ []) ∙ ap (λ ls. ls ++ line_of (get_or lines i d) ∷ []) (sym (take-map line_of i lines))))

pub no_line : {A : _} (lines : List (Line A)) (i : ℕ) → length lines ≤ i → map line_of (drop i lines) ≡ []
no_line lines i over = ap (map line_of) (drop_all i lines over)

-- a script writes what its first line writes, and what the others do
pub some_line : (name : Name) (line : ScriptLine) (lines : List ScriptLine) → is_written (line ∷ lines) name ≡ (among (names_written (line_tree line)) name || is_written lines name)
some_line name line lines = list_any-append (bytes_eq name) (names_written (line_tree line)) (names_written (script_tree lines))
