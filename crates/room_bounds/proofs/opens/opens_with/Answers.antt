use Rattle.std.proofs.Common.{◌≡◌, ◌+◌, List, [], ◌∷◌, ◌++◌, subst, arith}
use Rattle.script_load.specs.Line.{ScriptLine, line_of}
use Rattle.meaning_model.specs.Meaning.{line_tree, script_tree}
use Rattle.room_model.specs.Opens.{most_opens}
use Rattle.room_bounds.specs.Capped.{IsCapped}
use Rattle.room_bounds.proofs.opens.opens_with.Goals as goal

one_line_more : (lines : List ScriptLine) (line : ScriptLine) → 0 + most_opens (script_tree lines) + most_opens (line_tree line) ≡ most_opens (script_tree (lines ++ line ∷ []))
one_line_more [] line = omega arith
one_line_more (l ∷ lines) line = omega (arith, one_line_more lines line)

pub returns : goal.returns
returns g c lines before =
    let line = line_of c.args.line.now in
    subst (λ n. IsCapped n c.sum_with.result) (one_line_more lines line) (c.sum_with.ensures (most_opens (script_tree lines)) (most_opens (line_tree line)) before c.line_opens.ensures)
