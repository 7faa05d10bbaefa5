use Rattle.std.proofs.Common.{subst}
use Rattle.std.specs.Prelude.{map}
use Rattle.prog_parts.specs.Words.{words_files_read, words_use_input}
use Rattle.mem_files.specs.Files.{files}
use Rattle.script_load.specs.Line.{line_of}
use Rattle.tree_model.specs.FilesAhead.{all_sizes}
use Rattle.tree_model.specs.Bound.{input_ahead}
use Rattle.room_bounds.specs.CappedGrowth.{IsCapped}
use Rattle.room_bounds.specs.Growth.{grown_where}
use Rattle.room_bounds.proofs.program.reads_ahead.Goals as goal

pub returns : goal.returns
returns g c n is =
    let grown = c.args.grown.now in
    let L = grown_where (map line_of grown.lines.now) (files grown.files.now) grown.more in
    c.sum.ensures (input_ahead (words_use_input c.args.words.now) n) (all_sizes (words_files_read c.args.words.now) L) (subst (λ uses. IsCapped (input_ahead uses n) c.input_ahead.result) c.words_use_input.ensures (c.input_ahead.ensures n is))
    (subst (λ names. IsCapped (all_sizes names L) c.sizes_of.result) c.words_read.ensures c.sizes_of.ensures)
