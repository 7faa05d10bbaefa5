use Rattle.std.proofs.Common.{subst}
use Rattle.std.specs.Prelude.{map}
use Rattle.mem_files.specs.Files.{files}
use Rattle.script_load.specs.Line.{line_of}
use Rattle.room_model.specs.Place.{words_bytes, counted_if}
use Rattle.room_bounds.specs.CappedGrowth.{IsCapped}
use Rattle.room_bounds.specs.Growth.{grown_where}
use Rattle.room_bounds.proofs.written.of_words.Goals as goal

pub returns : goal.returns
returns g c n is =
    let grown = c.args.grown.now in
    let L = grown_where (map line_of grown.lines.now) (files grown.files.now) grown.more in
    let most = words_bytes c.args.words.now n L in
    let bytes = c.words_bytes-bytes.ensures n is in
    record {
      to_files = subst (λ counts. IsCapped (counted_if counts most) c.counted_if.result) c.writes_files.ensures (c.counted_if.ensures most bytes);
      to_output = bytes;
      to_both = bytes;
    }
