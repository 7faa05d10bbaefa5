-- Lines within the limits of a script: texts of at most 511 bytes (own), and at most nine words a command (`user/sh.c`).
use Rattle.std.specs.Prelude.{◌≡◌, ℕ, ◌+◌, true, false, Bool, ◌&&◌, List, ◌∷◌, ◌++◌, length}
use Rattle.std.specs.List.{list_all}
use Rattle.sh_tree.specs.Short.{has_few_words, is_short, is_short_tree}
use Rattle.script_load.specs.Line.{ScriptLine, command, bad, cd}

abbrev pub is_small_line : ScriptLine → Bool
is_small_line (command tree) = is_short_tree tree && has_few_words tree
is_small_line (bad fault text) = is_short text
is_small_line (cd text) = is_short text

abbrev pub are_small : List ScriptLine → Bool
are_small lines = list_all is_small_line lines

-- the n-th line, counted from 1, is the first that is not within the limits
pub record IsFirstLarge (lines : List ScriptLine) (n : ℕ) : Type 0 where
  pub before : List ScriptLine
  pub line : ScriptLine
  pub after : List ScriptLine
  pub split : lines ≡ before ++ line ∷ after
  pub small : are_small before ≡ true
  pub large : is_small_line line ≡ false
  pub number : n ≡ length before + 1
