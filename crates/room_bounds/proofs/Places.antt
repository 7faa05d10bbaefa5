-- With more input, larger files and more names a command writes no less to a place.
use Rattle.std.proofs.Common.{◌≡◌, ℕ, ◌+◌, ◌≤◌, Bool, true, false, List, [], ◌∷◌, Option, Some, None, length, refl, sym, ap, ◌∙◌, arith}
use Rattle.std.specs.Prelude.{◌||◌}
use Rattle.std.specs.List.{list_any}
use Rattle.std.specs.Str.{bytes_eq}
use Rattle.std.proofs.Math.Nat.{mul-le-mul_right}
use Rattle.std.proofs.lemmas.Bool.{or_parts}
use Rattle.std.proofs.lemmas.List.Folds.{list_any-append}
use Rattle.sh_tree.specs.declared.tree.Mode.{Mode}
use Rattle.sh_tree.specs.declared.tree.Mode.TheVariants.{Input, Fresh, Over}
use Rattle.sh_tree.specs.Tree.{Tree, exec, redir, pipe, list, back}
use Rattle.mem_files.specs.Name.{Bytes, Name}
use Rattle.prog_parts.specs.NameSets.{Names, no_names, among}
use Rattle.prog_parts.specs.declared.program.Program.{Program}
use Rattle.prog_parts.specs.declared.program.Program.TheVariants.{Cat, Echo, Grep, Head, Tee, Wc}
use Rattle.prog_parts.specs.Program.{program_of, program_uses_input}
use Rattle.prog_parts.specs.Words.{files_read, words_files_written}
use Rattle.tree_model.specs.FilesAhead.{Sizes, all_sizes}
use Rattle.tree_model.specs.Bound.{input_ahead, input_under}
use Rattle.tree_model.specs.ProgramBytes.{begin_bytes}
use Rattle.room_model.specs.Files.{names_written}
use Rattle.room_model.specs.Place.{program_bytes, words_bytes, counted_if, output_under, to_place}

all_more : (names : List Name) (L M : Sizes) → ((f : Name) → L f ≤ M f) → all_sizes names L ≤ all_sizes names M
all_more [] L M large = omega arith
all_more (name ∷ names) L M large = omega (arith, large name, all_more names L M large)

input_more : (uses : Bool) (n m : ℕ) → n ≤ m → input_ahead uses n ≤ input_ahead uses m
input_more true n m few = few
input_more false n m few = omega arith

begin_more : (program : Program) (arguments : List Bytes) (r s : ℕ) → r ≤ s → begin_bytes program arguments r ≤ begin_bytes program arguments s
begin_more Cat arguments r s few = few
begin_more Echo arguments r s few = omega arith
begin_more Grep arguments r s few = few
begin_more Head arguments r s few = few
begin_more Tee arguments r s few = mul-le-mul_right (length arguments + 1) few
begin_more Wc arguments r s few = omega arith

-- a simple command
begun_more : (o : Option Program) (arguments : List Bytes) (n m : ℕ) (L M : Sizes) → n ≤ m → ((f : Name) → L f ≤ M f) → program_bytes o arguments n L ≤ program_bytes o arguments m M
begun_more None arguments n m L M few large = omega arith
begun_more (Some program) arguments n m L M few large =
    let reads : input_ahead (program_uses_input program arguments) n + all_sizes (files_read program arguments) L ≤ input_ahead (program_uses_input program arguments) m + all_sizes (files_read program arguments) M =
    omega (arith, input_more (program_uses_input program arguments) n m few, all_more (files_read program arguments) L M large) in
    omega (arith, begin_more program arguments _ _ reads)

words_more : (words : List Bytes) (n m : ℕ) (L M : Sizes) → n ≤ m → ((f : Name) → L f ≤ M f) → words_bytes words n L ≤ words_bytes words m M
words_more [] n m L M few large = omega arith
words_more (word ∷ arguments) n m L M few large = begun_more (program_of word) arguments n m L M few large

abbrev IsIn : Bool → Bool → Type 0
IsIn these those = these ≡ true → those ≡ true

or_in : (a b c d : Bool) → IsIn a b → IsIn c d → IsIn (a || c) (b || d)
or_in true b c d left right is = ap (λ x. x || d) (left refl)
or_in false true c d left right is = refl
or_in false false c d left right is = right is

any_in : (these those : Names) → ((f : Name) → IsIn (these f) (those f)) → (words : List Name) → IsIn (list_any these words) (list_any those words)
any_in these those all [] = λ is. is
any_in these those all (word ∷ words) = or_in (these word) (those word) (list_any these words) (list_any those words) (all word) (any_in these those all words)

counted_more : (c d : Bool) (m n : ℕ) → IsIn c d → m ≤ n → counted_if c m ≤ counted_if d n
counted_more true true m n is less = less
counted_more true false m n is less = absurd (let e = is refl in let z : ⊥ = cc in z)
counted_more false d m n is less = omega arith

under_in : (these those : Names) → ((f : Name) → IsIn (these f) (those f)) → (mode : Mode) (name : Name) (o p : Bool) → IsIn o p → IsIn (output_under these mode name o) (output_under those mode name p)
under_in these those all Input name o p out = out
under_in these those all Fresh name o p out = all name
under_in these those all Over name o p out = all name

under_more : (mode : Mode) (n m l k : ℕ) → n ≤ m → l ≤ k → input_under mode n l ≤ input_under mode m k
under_more Input n m l k few large = large
under_more Fresh n m l k few large = few
under_more Over n m l k few large = few

pub place_more : (these those : Names) → ((f : Name) → IsIn (these f) (those f)) → (o p : Bool) → IsIn o p → (t : Tree) (n m : ℕ) (L M : Sizes) → n ≤ m → ((f : Name) → L f ≤ M f) → to_place these o t n L ≤ to_place those p t m M
place_more these those all o p out (exec words) n m L M few large =
    counted_more _ _ _ _ (or_in o p (list_any these (words_files_written words)) (list_any those (words_files_written words)) out (any_in these those all (words_files_written words))) (words_more words n m L M few large)
place_more these those all o p out (redir mode name body) n m L M few large =
    place_more these those all _ _ (under_in these those all mode name o p out) body _ _ L M (under_more mode n m (L name) (M name) few (large name)) large
place_more these those all o p out (pipe left right) n m L M few large =
    let through = place_more no_names no_names (λ f is. is) true true (λ is. is) left n m L M few large in
    omega (arith, place_more these those all false false (λ is. is) left n m L M few large, place_more these those all o p out right _ _ L M through large)
place_more these those all o p out (list left right) n m L M few large = omega (arith, place_more these those all o p out left n m L M few large, place_more these those all o p out right n m L M few large)
place_more these those all o p out (back body) n m L M few large = place_more these those all o p out body n m L M few large

-- nothing goes to a file whose name isn't written
pub unwritten : (name : Name) (t : Tree) (n : ℕ) (L : Sizes) → among (names_written t) name ≡ false → to_place (bytes_eq name) false t n L ≡ 0
unwritten name (exec words) n L none = ap (λ c. counted_if c (words_bytes words n L)) none
unwritten name (redir Input file body) n L none = unwritten name body (L file) L none
unwritten name (redir Fresh file body) n L none =
    let parts = or_parts (bytes_eq name file) (among (names_written body) name) none in
    ap (λ o. to_place (bytes_eq name) o body n L) parts.0 ∙ unwritten name body n L parts.1
unwritten name (redir Over file body) n L none =
    let parts = or_parts (bytes_eq name file) (among (names_written body) name) none in
    ap (λ o. to_place (bytes_eq name) o body n L) parts.0 ∙ unwritten name body n L parts.1
unwritten name (pipe l r) n L none =
    let parts = or_parts (among (names_written l) name) (among (names_written r) name) (sym (list_any-append (bytes_eq name) (names_written l) (names_written r)) ∙ none) in
    omega (arith, unwritten name l n L parts.0, unwritten name r (to_place no_names true l n L) L parts.1)
unwritten name (list l r) n L none =
    let parts = or_parts (among (names_written l) name) (among (names_written r) name) (sym (list_any-append (bytes_eq name) (names_written l) (names_written r)) ∙ none) in
    omega (arith, unwritten name l n L parts.0, unwritten name r n L parts.1)
unwritten name (back body) n L none = unwritten name body n L none

-- where neither the output nor a file is the place nothing goes there
pub none_named : (words : List Name) → list_any no_names words ≡ false
none_named [] = refl
none_named (word ∷ later) = none_named later

pub none_place : (tree : Tree) (n : ℕ) (L : Sizes) → to_place no_names false tree n L ≡ 0
none_place (exec words) n L = ap (λ c. counted_if c (words_bytes words n L)) (none_named (words_files_written words))
none_place (redir Input name body) n L = none_place body (L name) L
none_place (redir Fresh name body) n L = none_place body n L
none_place (redir Over name body) n L = none_place body n L
none_place (pipe left right) n L = omega (arith, none_place left n L, none_place right (to_place no_names true left n L) L)
none_place (list left right) n L = omega (arith, none_place left n L, none_place right n L)
none_place (back body) n L = none_place body n L
