use Rattle.std.proofs.Common.{◌≡◌, ◌∙◌, List, [], ◌∷◌, length, refl, ap, false, rules}
use Rattle.std.specs.Prelude.{not, ◌==◌}
use Rattle.std.specs.List.{list_any}
use Rattle.mem_files.specs.Name.{Name}
use Rattle.prog_parts.specs.Words.{words_files_written}
use Rattle.room_bounds.specs.Growth.{every_name}
use Rattle.room_bounds.proofs.written.writes_files.Goals as goal

some_word : (words : List Name) → not (length words == 0) ≡ list_any every_name words
some_word [] = refl
some_word (word ∷ words) = let e : (length (word ∷ words) == 0) ≡ false = search rules in ap not e

pub returns : goal.returns
returns g c = ap not (c.is_empty.ensures ∙ ap (λ n. n == 0) (ap (length {A = _}) c.words_written.ensures)) ∙ some_word (words_files_written c.args.words.now)
