use Rattle.std.proofs.Common.{subst}
use Rattle.std.specs.Io.KnownBytes.{Appends}
use Rattle.std.proofs.lemmas.Result.{on_err_weaker}
use Rattle.xvsh_read.specs.Writing.{AppendsPart}
use Rattle.xvsh_read.proofs.Faults.{at_fault}
use Rattle.xvsh_read.proofs.Parts.{part_before, part_behind}
use Rattle.xvsh_ends.specs.Ends.{line_text}
use Rattle.xvsh_ends.proofs.ending.write_told.Goals as goal

pub returns-in_err-write-clause-part : goal.returns-in_err-write-clause-part
returns-in_err-write-clause-part g c =
    let old = g.E.Write.contents c.args.err.now in
    let new = g.E.Write.contents c.write.new.to in
    let ending = c.args.ending.now in
    at_fault c.from_residual.result _ (λ _. _) c.from_residual.ensures.1
    (part_before old new ending.output.err.items (line_text ending.line) (subst (AppendsPart old new) c.as_slice.ensures.value c.in_err-write.ensures.part))

pub returns-clause-part : goal.returns-clause-part
returns-clause-part g c =
    let old = g.E.Write.contents c.args.err.now in
    let mid = g.E.Write.contents c.write.new.to in
    let new = g.E.Write.contents c.write-2.new.to in
    let ending = c.args.ending.now in
    on_err_weaker c.write-2.result
    (λ part. part_behind old mid new ending.output.err.items (line_text ending.line) (subst (Appends old mid) c.as_slice.ensures.value c.in_ok-write.ensures.written) (subst (AppendsPart mid new) c.as_bytes.ensures part))
    c.write-2.ensures.part
