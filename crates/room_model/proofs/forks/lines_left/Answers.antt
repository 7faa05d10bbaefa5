use Rattle.std.proofs.Common.{◌≡◌, ℕ, ◌+◌, ◌≤◌, ◌<◌, List, ◌++◌, ◌∷◌, [], length, get_or, take, add-one, sym, ap, ◌∙◌, subst, arith}
use Rattle.std.specs.Prelude.{map}
use Rattle.std.proofs.Math.Seq.{take-suc}
use Rattle.std.proofs.lemmas.List.{length-map, map-append, take-map, take_all}
use Rattle.script_load.specs.declared.line.Line.{Line}
use Rattle.script_load.specs.Line.{line_of}
use Rattle.meaning_model.specs.Meaning.{script_tree}
use Rattle.room_model.specs.declared.forks.TheConstants.{MOST_FORKS}
use Rattle.room_model.specs.Forks.{most_forks}
use Rattle.room_model.specs.Left.{IsLeft}
use Rattle.room_model.proofs.forks.lines_left.Goals as goal

-- the first lines, and the next
next_line : {A : _} (lines : List (Line A)) (i : ℕ) (d : Line A) → i < length lines → take (i + 1) (map line_of lines) ≡ take i (map line_of lines) ++ line_of (get_or lines i d) ∷ []
next_line lines i d inside =
    take-map line_of (i + 1) lines
    ∙ (ap (map line_of) (ap (λ j. take j lines) (add-one i) ∙ take-suc lines i d inside)
    ∙ (map-append line_of (take i lines) (get_or lines i d ∷ []) ∙ ap (λ ls. ls ++ line_of (get_or lines i d) ∷ []) (sym (take-map line_of i lines))))

pub loop-line-preserved : goal.loop-line-preserved
loop-line-preserved g c =
    let lines = c.args.lines.now in
    let i = c.loop-line.line-index in
    let item = c.line-item.result in
    let inside : i < length lines = omega arith in
    let next = next_line lines i item inside ∙ ap (λ l. take i (map line_of lines) ++ line_of l ∷ []) (sym c.line-item.is) in
    subst (λ ls. IsLeft MOST_FORKS (most_forks (script_tree ls)) c.left_with-so_far.result) (sym next) (c.left_with-so_far.ensures (take i (map line_of lines)) c.loop-line.invariant)

pub returns : goal.returns
returns g c =
    let lines = c.args.lines.now in
    let all : length (map line_of lines) ≤ c.loop-line.line-index = omega (arith, length-map lines line_of) in
    subst (λ ls. IsLeft MOST_FORKS (most_forks (script_tree ls)) c.loop-line.so_far) (take_all c.loop-line.line-index (map line_of lines) all) c.loop-line.invariant
