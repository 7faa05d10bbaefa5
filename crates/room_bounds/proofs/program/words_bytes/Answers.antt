use Rattle.std.proofs.Common.{◌≡◌, ◌∙◌, ◌+◌, ◌∷◌, Some, sym, ap, subst}
use Rattle.prog_parts.specs.Program.{program_of}
use Rattle.prog_parts.specs.Words.{words_files_read, words_use_input}
use Rattle.tree_model.specs.FilesAhead.{all_sizes}
use Rattle.room_model.specs.Place.{words_bytes}
use Rattle.tree_model.specs.Bound.{input_ahead}
use Rattle.mem_files.specs.Files.{files}
use Rattle.std.specs.Prelude.{map}
use Rattle.script_load.specs.Line.{line_of}
use Rattle.room_bounds.specs.CappedGrowth.{IsCapped}
use Rattle.room_bounds.specs.Growth.{grown_where}
use Rattle.room_bounds.proofs.Parts.{reads, bytes_are}
use Rattle.room_bounds.proofs.program.words_bytes.Goals as goal

pub returns-in-Some-named : goal.returns-in-Some-named
returns-in-Some-named g c n is =
    let a = c.args in
    let L = grown_where (map line_of a.grown.now.lines.now) (files a.grown.now.files.now) a.grown.now.more in
    let word = c.in-Some.name.now in
    let arguments = c.in-Some.arguments.now in
    let split : a.words.now ≡ word ∷ arguments = c.in-Some.ensures.cases.0 in
    let named : program_of word ≡ Some c.in-Some-named.program = ap program_of (sym c.as_slice.ensures) ∙ sym c.named.ensures ∙ c.in-Some-named.is in
    let read = subst (λ words. IsCapped (input_ahead (words_use_input words) n + all_sizes (words_files_read words) L) c.reads_ahead.result) split (c.reads_ahead.ensures n is) in
    let bytes = subst (λ k. IsCapped k c.program_bytes.result) (bytes_are word arguments n L c.in-Some-named.program named) (c.program_bytes.ensures (reads word arguments n L) read) in
    subst (λ words. IsCapped (words_bytes words n L) c.program_bytes.result) (sym split) bytes
