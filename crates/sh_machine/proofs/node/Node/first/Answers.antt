-- The lines from this one on are an end of the script, and the command is the first of them.
use Rattle.std.proofs.Common.{◌≡◌, ◌∙◌, ℕ, List, length, Some, ap, sym, subst}
use Rattle.std.proofs.lemmas.List.{length-map}
use Rattle.sh_tree.specs.Tree.{tree_of}
use Rattle.script_load.specs.Line.{ScriptLine, line_of}
use Rattle.sh_machine.specs.Place.{IsPlaced}
use Rattle.sh_machine.proofs.Places.{line_placed}
use Rattle.sh_machine.specs.View.{rest_of}
use Rattle.sh_machine.proofs.node.Node.first.Goals as goal

pub at-requires : goal.at-requires
at-requires g c =
    let script = g.N.Naming.script in
    let count : length (rest_of c.args.rest.now) ≡ length c.lines.result.now =
    ap (λ (ls : List ScriptLine). length ls) (sym c.lines.ensures) ∙ length-map c.lines.result.now line_of in
    let placed = line_placed script (rest_of c.args.rest.now) (tree_of c.args.tree.now) c.args.rest.now.end c.requires in
    subst (λ (place : _). IsPlaced script (Some place) (tree_of c.args.tree.now)) (sym c.of_line.ensures)
    (subst (λ (n : ℕ). IsPlaced script (Some (record { lines = n; before = 0 })) (tree_of c.args.tree.now)) count placed)
