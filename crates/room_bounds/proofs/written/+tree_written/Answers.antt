use Rattle.std.proofs.Common.{sym, ap, ap₂, ◌∙◌, subst}
use Rattle.std.specs.Prelude.{true, map}
use Rattle.prog_parts.specs.NameSets.{no_names}
use Rattle.tree_model.specs.Bound.{input_under}
use Rattle.room_model.specs.Place.{to_place}
use Rattle.mem_files.specs.Files.{files}
use Rattle.script_load.specs.Line.{line_of}
use Rattle.sh_tree.specs.Tree.{tree_of, exec, redir, pipe, list, back}
use Rattle.room_bounds.specs.Growth.{grown_where}
use Rattle.room_bounds.specs.Written.{AreWritten}
use Rattle.room_bounds.proofs.written.+tree_written.Goals as goal

pub returns-in-Exec : goal.returns-in-Exec
returns-in-Exec g t c n is =
    let grown = c.args.grown.now in
    let L = grown_where (map line_of grown.lines.now) (files grown.files.now) grown.more in
    let whole = ap tree_of c.in-Exec.is ∙ ap exec (sym c.as_slice.ensures) in
    subst (λ tree. AreWritten tree n L c.of_words.result) (sym whole) (c.of_words.ensures n is)

pub returns-in-Redir : goal.returns-in-Redir
returns-in-Redir g t c n is =
    let grown = c.args.grown.now in
    let L = grown_where (map line_of grown.lines.now) (files grown.files.now) grown.more in
    let mode = c.in-Redir.mode in
    let file = c.as_slice-in-Redir.result.now in
    let whole = ap tree_of c.in-Redir.is ∙ ap (λ n. redir mode n (tree_of c.in-Redir.body.value)) (sym c.as_slice-in-Redir.ensures) ∙ ap (λ b. redir mode file (tree_of b)) (sym c.deref.ensures) in
    subst (λ tree. AreWritten tree n L c.of_redir.result) (sym whole)
    (c.of_redir.ensures file (tree_of c.deref.result.now) n L (c.tree_written.ensures (input_under mode n (L file)) (c.input_under.ensures n (L file) is c.size_of-size.ensures)))

pub returns-in-Pipe : goal.returns-in-Pipe
returns-in-Pipe g t c n is =
    let grown = c.args.grown.now in
    let L = grown_where (map line_of grown.lines.now) (files grown.files.now) grown.more in
    let whole = ap tree_of c.in-Pipe.is ∙ ap₂ (λ l r. pipe (tree_of l) (tree_of r)) (sym c.deref-in-Pipe.ensures) (sym c.deref-in-Pipe-2.ensures) in
    let left = c.tree_written-left.ensures n is in
    subst (λ tree. AreWritten tree n L c.of_pipe.result) (sym whole)
    (c.of_pipe.ensures (tree_of c.deref-in-Pipe.result.now) (tree_of c.deref-in-Pipe-2.result.now) n L left (c.tree_written-in-Pipe.ensures (to_place no_names true (tree_of c.deref-in-Pipe.result.now) n L) left.to_output))

pub returns-in-List : goal.returns-in-List
returns-in-List g t c n is =
    let grown = c.args.grown.now in
    let L = grown_where (map line_of grown.lines.now) (files grown.files.now) grown.more in
    let whole = ap tree_of c.in-List.is ∙ ap₂ (λ l r. list (tree_of l) (tree_of r)) (sym c.deref-in-List.ensures) (sym c.deref-in-List-2.ensures) in
    subst (λ tree. AreWritten tree n L c.of_list.result) (sym whole)
    (c.of_list.ensures (tree_of c.deref-in-List.result.now) (tree_of c.deref-in-List-2.result.now) n L (c.tree_written-in-List.ensures n is) (c.tree_written-in-List-2.ensures n is))

pub returns-in-Back : goal.returns-in-Back
returns-in-Back g t c n is =
    let grown = c.args.grown.now in
    let L = grown_where (map line_of grown.lines.now) (files grown.files.now) grown.more in
    let whole = ap tree_of c.in-Back.is ∙ ap (λ b. back (tree_of b)) (sym c.deref-in-Back.ensures) in
    let body = c.tree_written-in-Back.ensures n is in
    subst (λ tree. AreWritten tree n L c.tree_written-in-Back.result) (sym whole) (record { to_files = body.to_files; to_output = body.to_output; to_both = body.to_both })
