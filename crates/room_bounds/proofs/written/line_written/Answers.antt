use Rattle.std.proofs.Common.{inl, inr, sym, subst}
use Rattle.std.specs.Prelude.{map}
use Rattle.mem_files.specs.Files.{files}
use Rattle.script_load.specs.Line.{line_of}
use Rattle.meaning_model.specs.Meaning.{line_tree}
use Rattle.room_bounds.specs.Growth.{grown_where}
use Rattle.room_bounds.specs.Written.{AreWritten}
use Rattle.room_bounds.proofs.written.line_written.Goals as goal

pub returns-in-Tree : goal.returns-in-Tree
returns-in-Tree g c n is =
    let grown = c.args.grown.now in
    let L = grown_where (map line_of grown.lines.now) (files grown.files.now) grown.more in
    subst (λ line. AreWritten (line_tree (line_of line)) n L c.tree_written.result) (sym c.in-Tree.is) (c.tree_written.ensures n is)

pub returns-in-Bad : goal.returns-in-Bad
returns-in-Bad g c n is =
    let grown = c.args.grown.now in
    let L = grown_where (map line_of grown.lines.now) (files grown.files.now) grown.more in
    elim c.in-Bad.is [
      | inl w ↦ subst (λ line. AreWritten (line_tree (line_of line)) n L c.of_nothing.result) (sym w.2) (c.of_nothing.ensures n L)
      | inr w ↦ subst (λ line. AreWritten (line_tree (line_of line)) n L c.of_nothing.result) (sym w.1) (c.of_nothing.ensures n L)
    ]
