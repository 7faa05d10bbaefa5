use Rattle.std.proofs.Common.{◌≡◌, ℕ, ◌+◌, ◌<◌, List, [], ◌∷◌, ◌++◌, Option, Some, None, sym, subst, arith}
use Rattle.script_load.specs.Line.{ScriptLine, line_of}
use Rattle.meaning_model.specs.Meaning.{line_tree, script_tree}
use Rattle.room_model.specs.declared.forks.TheConstants.{MOST_FORKS}
use Rattle.room_model.specs.Forks.{most_forks}
use Rattle.room_model.specs.Left.{IsLeft}
use Rattle.room_model.proofs.forks.left_with.Goals as goal

one_line_more : (lines : List ScriptLine) (line : ScriptLine) → most_forks (script_tree lines) + (1 + most_forks (line_tree line)) ≡ most_forks (script_tree (lines ++ line ∷ []))
one_line_more [] line = omega arith
one_line_more (l ∷ lines) line = omega (arith, one_line_more lines line)

-- more is taken off what is left
both_taken : (most first second left : ℕ) (o : Option ℕ) → left + first ≡ most → IsLeft left second o → IsLeft most (first + second) o
both_taken most first second left None rest too_much = omega arith
both_taken most first second left (Some n) rest takes = omega arith

pub returns : goal.returns
returns g c lines before =
    let line = line_of c.args.line.now in
    let so_far = most_forks (script_tree lines) in
    let left = c.in_ok-so_far.field-0 in
    let rest : left + so_far ≡ MOST_FORKS = subst (λ o. IsLeft MOST_FORKS so_far o) c.in_ok-so_far.was before in
    subst (λ n. IsLeft MOST_FORKS n c.line_left.result) (one_line_more lines line) (both_taken MOST_FORKS so_far (1 + most_forks (line_tree line)) left c.line_left.result rest c.line_left.ensures)

pub returns-in_err-so_far : goal.returns-in_err-so_far
returns-in_err-so_far g c lines before =
    let line = line_of c.args.line.now in
    let so_far = most_forks (script_tree lines) in
    let over : MOST_FORKS < so_far = subst (λ o. IsLeft MOST_FORKS so_far o) c.in_err-so_far.was before in
    let all = most_forks (script_tree (lines ++ line ∷ [])) in
    let still_over : MOST_FORKS < all = omega (arith, over, one_line_more lines line) in
    subst (λ o. IsLeft MOST_FORKS all o) (sym c.from_residual.ensures) still_over
