-- The commands of a loaded script are short: words of a line have at most 511 bytes, and a simple command nine words.
use Rattle.std.proofs.Common.{◌≡◌, ℕ, suc, ◌≤◌, List, [], ◌∷◌, length, true, All, arith, leb-true}
use Rattle.std.specs.List.{list_all, AllZip}
use Rattle.std.proofs.lemmas.Bool.{and_parts}
use Rattle.sh_tree.specs.Short.{has_few_words, is_short, is_short_tree}
use Rattle.sh_tree.specs.Tree.{Tree, exec, redir, pipe, list, back}
use Rattle.sh_tree.proofs.FewWords.{few_words}
use Rattle.sh_tree.proofs.ShortTree.{short_tree}
use Rattle.mem_files.specs.Name.{Bytes}
use Rattle.prog_parts.specs.declared.program.Program.{Program}
use Rattle.prog_parts.specs.declared.program.Program.TheVariants.{Cat, Echo, Grep, Head, Tee, Wc}
use Rattle.script_load.specs.Line.{ScriptLine, command, bad, cd}
use Rattle.script_load.specs.Limits.{is_small_line, are_small}
use Rattle.script_load.specs.Script.{IsLineOf, IsFine, IsScript}
use Rattle.meaning_model.specs.Meaning.{script_tree}
use Rattle.tree_model.specs.Waits.{AreShort, BeginsShort}
use Rattle.tree_model.specs.Tidy.{IsShortCommand, HasShortCommands}

words_short : (words : List Bytes) → list_all is_short words ≡ true → AreShort words
words_short [] e = tt
words_short (word ∷ words) e =
    let h = and_parts (is_short word) (list_all is_short words) e in
    (omega (arith, leb-true (length word) 511 h.0), words_short words h.1)

begins_short : (program : Program) (arguments : List Bytes) → list_all is_short arguments ≡ true → length arguments ≤ 9 → BeginsShort program arguments
begins_short Cat arguments e few = tt
begins_short Echo arguments e few = words_short arguments e
begins_short Grep arguments e few = tt
begins_short Head arguments e few = tt
begins_short Tee arguments e few = omega (arith, few)
begins_short Wc arguments e few = tt

short_command : (words : List Bytes) → list_all is_short words ≡ true → length words ≤ 9 → IsShortCommand words
short_command [] e few = tt
short_command (word ∷ arguments) e few = λ program. begins_short program arguments ((and_parts (is_short word) (list_all is_short arguments) e).1) (omega (arith, few))

-- a tree of short words and few words a command, as a line of the type of scripts has
pub short_commands : (tree : Tree) → is_short_tree tree ≡ true → has_few_words tree ≡ true → HasShortCommands tree
short_commands (exec words) e few = short_command words e (leb-true (length words) 9 few)
short_commands (redir mode name body) e few = short_commands body ((and_parts (is_short name) (is_short_tree body) e).1) few
short_commands (pipe left right) e few =
    let h = and_parts (is_short_tree left) (is_short_tree right) e in
    let f = and_parts (has_few_words left) (has_few_words right) few in
    (short_commands left h.0 f.0, short_commands right h.1 f.1)
short_commands (list left right) e few =
    let h = and_parts (is_short_tree left) (is_short_tree right) e in
    let f = and_parts (has_few_words left) (has_few_words right) few in
    (short_commands left h.0 f.0, short_commands right h.1 f.1)
short_commands (back body) e few = short_commands body e few

pub small_short : (lines : List ScriptLine) → are_small lines ≡ true → HasShortCommands (script_tree lines)
small_short [] e = tt
small_short (command tree ∷ lines) e =
    let h = and_parts (is_small_line (command tree)) (are_small lines) e in
    let t = and_parts (is_short_tree tree) (has_few_words tree) h.0 in
    (short_commands tree t.0 t.1, small_short lines h.1)
small_short (bad fault text ∷ lines) e = (tt, small_short lines (and_parts (is_small_line (bad fault text)) (are_small lines) e).1)
small_short (cd text ∷ lines) e = (tt, small_short lines (and_parts (is_small_line (cd text)) (are_small lines) e).1)

pub script_short : (bytes : Bytes) (lines : List ScriptLine) → IsScript bytes lines → HasShortCommands (script_tree lines)
script_short bytes lines is = go is.texts lines is.fine is.each
  where
    go : (texts : List (List ℕ)) (lines : List ScriptLine) → All IsFine texts → AllZip IsLineOf texts lines → HasShortCommands (script_tree lines)
    go [] [] fine each = tt
    go [] (line ∷ lines) fine each = absurd each
    go (text ∷ texts) [] fine each = absurd each
    go (text ∷ texts) (command tree ∷ lines) fine each =
        (short_commands tree (short_tree text tree (fine 0 [] (omega arith)).0 each.0.1) (few_words text tree each.0.1), go texts lines (λ k d h. fine (suc k) d (omega (arith, h))) each.1)
    go (text ∷ texts) (bad fault whole ∷ lines) fine each = (tt, go texts lines (λ k d h. fine (suc k) d (omega (arith, h))) each.1)
    go (text ∷ texts) (cd rest ∷ lines) fine each = (tt, go texts lines (λ k d h. fine (suc k) d (omega (arith, h))) each.1)
