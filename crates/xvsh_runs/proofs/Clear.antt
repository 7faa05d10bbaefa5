-- A script is clear where each of its lines is.
use Rattle.std.proofs.Common.{zero, suc, List, [], ◌∷◌, All, refl, arith}
use Rattle.std.specs.Prelude.{map}
use Rattle.std.proofs.lemmas.Bool.{or_parts, or_from}
use Rattle.conflict_check.specs.Clear.{has_back}
use Rattle.script_load.specs.declared.line.Line.{Line}
use Rattle.script_load.specs.Line.{line_of}
use Rattle.meaning_model.specs.Meaning.{line_tree, script_tree}
use Rattle.xvsh_runs.specs.Limit.{AreClear, IsClearLine}

pub clear_all : {A : _} (lines : List (Line A)) → All IsClearLine lines → AreClear (map line_of lines)
clear_all [] all = (refl, tt)
clear_all (line ∷ lines) all =
    let here : IsClearLine line = all 0 line (omega arith) in
    let rest : AreClear (map line_of lines) = clear_all lines (λ k d within. all (suc k) d (omega (arith, within))) in
    (or_from (has_back (line_tree (line_of line))) (has_back (script_tree (map line_of lines))) here.0 rest.0, (here.1, rest.1))

pub all_clear : {A : _} (lines : List (Line A)) → AreClear (map line_of lines) → All IsClearLine lines
all_clear [] clear k d within = absurd (omega (arith, within))
all_clear (line ∷ lines) clear zero d within = ((or_parts (has_back (line_tree (line_of line))) (has_back (script_tree (map line_of lines))) clear.0).0, clear.1.0)
all_clear (line ∷ lines) clear (suc k) d within =
    all_clear lines ((or_parts (has_back (line_tree (line_of line))) (has_back (script_tree (map line_of lines))) clear.0).1, clear.1.1) k d (omega (arith, within))
