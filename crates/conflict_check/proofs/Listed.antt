-- What a tree names and writes is what its lists of occurrences hold.
use Rattle.std.proofs.Common.{◌≡◌, ℕ, Bool, true, false, ◌||◌, List, [], ◌∷◌, ◌++◌, Option, Some, None, refl, sym, ap, ap₂, ◌∙◌}
use Rattle.std.specs.Str.{bytes_eq}
use Rattle.std.proofs.Math.Bool.{or-false}
use Rattle.std.proofs.lemmas.List.Folds.{list_any-append}
use Rattle.sh_tree.specs.declared.tree.Mode.TheVariants.{Input, Fresh, Over}
use Rattle.sh_tree.specs.Tree.{Tree, exec, redir, pipe, list, back}
use Rattle.prog_parts.specs.declared.program.Program.{Program}
use Rattle.prog_parts.specs.declared.program.Program.TheVariants.{Cat, Echo, Grep, Head, Tee, Wc}
use Rattle.prog_parts.specs.NameSets.{among}
use Rattle.prog_parts.specs.Program.{program_of, file_words}
use Rattle.prog_parts.specs.Words.{by_program, files_read, files_written, words_files}
use Rattle.conflict_check.specs.Names.{names, reads, words_read, words_write, writes}
use Rattle.conflict_check.specs.Occurrences.{occurrences, written}

among_two : (name : List ℕ) (xs ys : List (List ℕ)) → among (xs ++ ys) name ≡ (among xs name || among ys name)
among_two name xs ys = list_any-append (bytes_eq name) xs ys

-- of the file words of a program, all are read or all are written
files_named : (program : Program) (arguments : List (List ℕ)) (name : List ℕ) → (among (files_read program arguments) name || among (files_written program arguments) name) ≡ among (file_words program arguments) name
files_named Cat arguments name = or-false _
files_named Echo arguments name = refl
files_named Grep arguments name = or-false _
files_named Head arguments name = or-false _
files_named Tee arguments name = refl
files_named Wc arguments name = or-false _

program_named : (program : Option Program) (arguments : List (List ℕ)) (name : List ℕ) → (among (by_program files_read [] program arguments) name || among (by_program files_written [] program arguments) name) ≡ among (by_program file_words [] program arguments) name
program_named None arguments name = refl
program_named (Some program) arguments name = files_named program arguments name

words_named : (words : List (List ℕ)) (name : List ℕ) → (words_read words name || words_write words name) ≡ among (words_files words) name
words_named [] name = refl
words_named (word ∷ arguments) name = program_named (program_of word) arguments name

-- the names that a tree writes are those of the places where it writes
pub writes_listed : (tree : Tree) (name : List ℕ) → writes tree name ≡ among (written tree) name
writes_listed (exec words) name = refl
writes_listed (redir Input file body) name = writes_listed body name
writes_listed (redir Fresh file body) name = ap (λ b. bytes_eq name file || b) (writes_listed body name)
writes_listed (redir Over file body) name = ap (λ b. bytes_eq name file || b) (writes_listed body name)
writes_listed (pipe left right) name = ap₂ ◌||◌ (writes_listed left name) (writes_listed right name) ∙ sym (among_two name (written left) (written right))
writes_listed (list left right) name = ap₂ ◌||◌ (writes_listed left name) (writes_listed right name) ∙ sym (among_two name (written left) (written right))
writes_listed (back body) name = writes_listed body name

-- the names of a tree are those of its occurrences
pub names_listed : (tree : Tree) (name : List ℕ) → names tree name ≡ among (occurrences tree) name
names_listed (exec words) name = words_named words name
names_listed (redir mode file body) name = ap (λ b. bytes_eq name file || b) (names_listed body name)
names_listed (pipe left right) name = ap₂ ◌||◌ (names_listed left name) (names_listed right name) ∙ sym (among_two name (occurrences left) (occurrences right))
names_listed (list left right) name = ap₂ ◌||◌ (names_listed left name) (names_listed right name) ∙ sym (among_two name (occurrences left) (occurrences right))
names_listed (back body) name = names_listed body name

-- one of two in the middle of four
four : (a b c d : Bool) → ((a || b) || (c || d)) ≡ ((a || c) || (b || d))
four true b c d = refl
four false true true d = refl
four false true false d = refl
four false false c d = refl

later : (a b c : Bool) → (a || (b || c)) ≡ (b || (a || c))
later true true c = refl
later true false c = refl
later false b c = refl

nested : (a b c : Bool) → (a || (b || c)) ≡ ((a || b) || c)
nested true b c = refl
nested false b c = refl

-- they are those that it reads and those that it writes
pub names_parts : (tree : Tree) (name : List ℕ) → names tree name ≡ (reads tree name || writes tree name)
names_parts (exec words) name = refl
names_parts (redir Input file body) name = ap (λ b. bytes_eq name file || b) (names_parts body name) ∙ nested (bytes_eq name file) (reads body name) (writes body name)
names_parts (redir Fresh file body) name = ap (λ b. bytes_eq name file || b) (names_parts body name) ∙ later (bytes_eq name file) (reads body name) (writes body name)
names_parts (redir Over file body) name = ap (λ b. bytes_eq name file || b) (names_parts body name) ∙ later (bytes_eq name file) (reads body name) (writes body name)
names_parts (pipe left right) name = ap₂ ◌||◌ (names_parts left name) (names_parts right name) ∙ four (reads left name) (writes left name) (reads right name) (writes right name)
names_parts (list left right) name = ap₂ ◌||◌ (names_parts left name) (names_parts right name) ∙ four (reads left name) (writes left name) (reads right name) (writes right name)
names_parts (back body) name = names_parts body name
