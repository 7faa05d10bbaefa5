-- With more input a command writes no less to a place.
use Rattle.std.proofs.Common.{◌≡◌, ℕ, ◌+◌, ◌≤◌, Bool, true, false, List, [], ◌∷◌, Option, Some, None, refl, ap, arith}
use Rattle.std.specs.Prelude.{◌||◌}
use Rattle.std.specs.List.{list_any}
use Rattle.sh_tree.specs.declared.tree.Mode.{Mode}
use Rattle.sh_tree.specs.declared.tree.Mode.TheVariants.{Input, Fresh, Over}
use Rattle.sh_tree.specs.Tree.{Tree, exec, redir, pipe, list, back}
use Rattle.mem_files.specs.Name.{Bytes}
use Rattle.prog_parts.specs.declared.program.Program.{Program}
use Rattle.prog_parts.specs.NameSets.{Names, no_names}
use Rattle.prog_parts.specs.Program.{program_of, program_uses_input}
use Rattle.user_progs.specs.State.{begins}
use Rattle.prog_parts.specs.Words.{files_read, words_files_written}
use Rattle.tree_model.specs.FilesAhead.{Sizes, all_sizes}
use Rattle.tree_model.specs.Bound.{input_ahead, input_under}
use Rattle.law_trees.proofs.tree_ends.TurnBytes.{later_more}
use Rattle.room_model.specs.Place.{program_bytes, words_bytes, counted_if, output_under, to_place}

pub counted_more : (c : Bool) (m n : ℕ) → m ≤ n → counted_if c m ≤ counted_if c n
counted_more true m n less = less
counted_more false m n less = omega arith

pub input_under_more : (mode : Mode) (m n size : ℕ) → m ≤ n → input_under mode m size ≤ input_under mode n size
input_under_more Input m n size less = omega arith
input_under_more Fresh m n size less = less
input_under_more Over m n size less = less

pub input_more : (uses : Bool) (m n : ℕ) → m ≤ n → input_ahead uses m ≤ input_ahead uses n
input_more true m n less = less
input_more false m n less = omega arith

-- a simple command
program_more : (found : Option Program) (arguments : List Bytes) (m n : ℕ) (L : Sizes) → m ≤ n → program_bytes found arguments m L ≤ program_bytes found arguments n L
program_more None arguments m n L less = omega arith
program_more (Some which) arguments m n L less =
    later_more (begins which arguments) (input_ahead (program_uses_input which arguments) n + all_sizes (files_read which arguments) L) (input_ahead (program_uses_input which arguments) m + all_sizes (files_read which arguments) L)
    (omega (arith, input_more (program_uses_input which arguments) m n less))

words_more : (words : List Bytes) (m n : ℕ) (L : Sizes) → m ≤ n → words_bytes words m L ≤ words_bytes words n L
words_more [] m n L less = omega arith
words_more (word ∷ arguments) m n L less = program_more (program_of word) arguments m n L less

pub place_more : (named : Names) (out : Bool) (tree : Tree) (m n : ℕ) (L : Sizes) → m ≤ n → to_place named out tree m L ≤ to_place named out tree n L
place_more named out (exec words) m n L less = counted_more (out || list_any named (words_files_written words)) _ _ (words_more words m n L less)
place_more named out (redir mode name body) m n L less = place_more named (output_under named mode name out) body (input_under mode m (L name)) (input_under mode n (L name)) L (input_under_more mode m n (L name) less)
place_more named out (pipe left right) m n L less =
    let l = place_more named false left m n L less in
    let t = place_more no_names true left m n L less in
    omega (arith, l, place_more named out right (to_place no_names true left m L) (to_place no_names true left n L) L t)
place_more named out (list left right) m n L less = omega (arith, place_more named out left m n L less, place_more named out right m n L less)
place_more named out (back body) m n L less = place_more named out body m n L less

-- nothing goes to a place that is neither the output nor a file
none_named : (words : List (List ℕ)) → list_any no_names words ≡ false
none_named [] = refl
none_named (word ∷ later) = none_named later

pub none_place : (tree : Tree) (n : ℕ) (L : Sizes) → to_place no_names false tree n L ≡ 0
none_place (exec words) n L = ap (λ c. counted_if c (words_bytes words n L)) (none_named (words_files_written words))
none_place (redir Input name body) n L = none_place body (L name) L
none_place (redir Fresh name body) n L = none_place body n L
none_place (redir Over name body) n L = none_place body n L
none_place (pipe left right) n L = omega (arith, none_place left n L, none_place right (to_place no_names true left n L) L)
none_place (list left right) n L = omega (arith, none_place left n L, none_place right n L)
none_place (back body) n L = none_place body n L
