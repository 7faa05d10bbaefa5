use Rattle.std.proofs.Common.{◌≤◌, ◌<◌, ◌++◌, ◌∷◌, [], length, take, sym, ap, ◌∙◌, subst, arith}
use Rattle.std.specs.Prelude.{map}
use Rattle.std.proofs.lemmas.List.{length-map, take_all}
use Rattle.script_load.specs.Line.{line_of}
use Rattle.room_bounds.specs.Behind.{IsBegun}
use Rattle.room_bounds.proofs.Beginnings.{next_line}
use Rattle.room_bounds.proofs.behind.behind_of_lines.Goals as goal

pub loop-line-init : goal.loop-line-init
loop-line-init g c = c.nothing_begun-so_far.ensures

pub loop-line-preserved : goal.loop-line-preserved
loop-line-preserved g c =
    let lines = c.args.lines.now in
    let i = c.loop-line.line-index in
    let item = c.line-item.result in
    let inside : i < length lines = omega arith in
    let next = next_line lines i item inside ∙ ap (λ l. take i (map line_of lines) ++ line_of l ∷ []) (sym c.line-item.is) in
    subst (λ ls. IsBegun ls c.begun_with-so_far.result) (sym next) (c.begun_with-so_far.ensures (take i (map line_of lines)) c.loop-line.invariant)

pub returns : goal.returns
returns g c =
    let lines = c.args.lines.now in
    let all : length (map line_of lines) ≤ c.loop-line.line-index = omega (arith, length-map lines line_of) in
    c.behind_by.ensures (map line_of lines) (subst (λ ls. IsBegun ls c.loop-line.so_far) (take_all c.loop-line.line-index (map line_of lines) all) c.loop-line.invariant)
