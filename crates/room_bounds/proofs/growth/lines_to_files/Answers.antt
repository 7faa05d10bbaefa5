use Rattle.std.proofs.Common.{◌∙◌, ◌<◌, ◌≤◌, ◌++◌, ◌∷◌, [], false, length, take, sym, ap, subst, arith}
use Rattle.std.specs.Prelude.{map}
use Rattle.std.proofs.lemmas.List.{length-map, take_all}
use Rattle.mem_files.specs.Files.{files}
use Rattle.script_load.specs.Line.{line_of}
use Rattle.meaning_model.specs.Meaning.{line_tree, script_tree}
use Rattle.room_model.specs.Place.{to_place}
use Rattle.room_bounds.specs.CappedGrowth.{IsCapped}
use Rattle.room_bounds.specs.Growth.{every_name, grown_where}
use Rattle.room_bounds.proofs.Names.{with_next}
use Rattle.room_bounds.proofs.Parts.{with_line}
use Rattle.room_bounds.proofs.growth.lines_to_files.Goals as goal

pub loop-line-preserved : goal.loop-line-preserved
loop-line-preserved g c n is =
    let grown = c.args.grown.now in
    let lines = grown.lines.now in
    let all = map line_of lines in
    let L = grown_where all (files grown.files.now) grown.more in
    let i = c.loop-line.line-index in
    let item = c.line-item.result in
    let inside : i < length lines = omega arith in
    let next = with_next lines i item inside ∙ ap (λ l. take i all ++ line_of l ∷ []) (sym c.line-item.is) in
    let same = with_line (line_of item) every_name false n L (take i all) ∙ ap (λ ls. to_place every_name false (script_tree ls) n L) (sym next) in
    subst (λ k. IsCapped k c.sum-so_far.result) same (c.sum-so_far.ensures (to_place every_name false (script_tree (take i all)) n L) (to_place every_name false (line_tree (line_of item)) n L) (c.loop-line.invariant n is) (c.line_written.ensures n is).to_files)

pub returns : goal.returns
returns g c n is =
    let grown = c.args.grown.now in
    let all = map line_of grown.lines.now in
    let L = grown_where all (files grown.files.now) grown.more in
    let over : length all ≤ c.loop-line.line-index = omega (arith, length-map grown.lines.now line_of) in
    subst (λ ls. IsCapped (to_place every_name false (script_tree ls) n L) c.loop-line.so_far) (take_all c.loop-line.line-index all over) (c.loop-line.invariant n is)
