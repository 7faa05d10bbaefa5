use Rattle.std.proofs.Common.{◌++◌, ◌∙◌, subst}
use Rattle.std.proofs.lemmas.Result.{on_err_weaker}
use Rattle.std.specs.Io.KnownBytes.{Appends}
use Rattle.xvsh_read.specs.Writing.{AppendsPart}
use Rattle.xvsh_read.proofs.Faults.{at_fault}
use Rattle.xvsh_read.proofs.Parts.{no_bytes, part_before, part_behind}
use Rattle.xvsh_read.proofs.writing.write_out.Goals as goal

pub returns-in_err-write-clause-part : goal.returns-in_err-write-clause-part
returns-in_err-write-clause-part g c =
    let old = g.W.Write.contents c.args.to.now in
    let new = g.W.Write.contents c.write.new.to in
    let output = c.args.output.now in
    at_fault c.from_residual.result _ (λ _. _) c.from_residual.ensures.1
    (part_before old new output.out (output.files.items ++ output.events.items) (subst (AppendsPart old new) c.as_slice.ensures c.in_err-write.ensures.part))

pub returns-in_err-write-clause-nothing : goal.returns-in_err-write-clause-nothing
returns-in_err-write-clause-nothing g c none =
    let output = c.args.output.now in
    c.in_err-write.ensures.nothing (c.as_slice.ensures ∙ (no_bytes output.out (output.files.items ++ output.events.items) none).0)

pub returns-in_err-write-2-clause-part : goal.returns-in_err-write-2-clause-part
returns-in_err-write-2-clause-part g c =
    let old = g.W.Write.contents c.args.to.now in
    let first = g.W.Write.contents c.write.new.to in
    let new = g.W.Write.contents c.write-2.new.to in
    let output = c.args.output.now in
    at_fault c.from_residual-in_err-write-2.result _ (λ _. _) c.from_residual-in_err-write-2.ensures.1
    (part_behind old first new output.out (output.files.items ++ output.events.items) (subst (Appends old first) c.as_slice.ensures c.in_ok-write.ensures.written)
    (part_before first new output.files.items output.events.items (subst (AppendsPart first new) c.as_slice-2.ensures.value c.in_err-write-2.ensures.part)))

pub returns-in_err-write-2-clause-nothing : goal.returns-in_err-write-2-clause-nothing
returns-in_err-write-2-clause-nothing g c none =
    let output = c.args.output.now in
    let parts = no_bytes output.out (output.files.items ++ output.events.items) none in
    c.in_err-write-2.ensures.nothing (c.as_slice-2.ensures.value ∙ (no_bytes output.files.items output.events.items parts.1).0) ∙ c.in_ok-write.ensures.nothing (c.as_slice.ensures ∙ parts.0)

pub returns-clause-part : goal.returns-clause-part
returns-clause-part g c =
    let old = g.W.Write.contents c.args.to.now in
    let first = g.W.Write.contents c.write.new.to in
    let second = g.W.Write.contents c.write-2.new.to in
    let new = g.W.Write.contents c.write-3.new.to in
    let output = c.args.output.now in
    on_err_weaker c.write-3.result
    (λ part. part_behind old first new output.out (output.files.items ++ output.events.items) (subst (Appends old first) c.as_slice.ensures c.in_ok-write.ensures.written)
    (part_behind first second new output.files.items output.events.items (subst (Appends first second) c.as_slice-2.ensures.value c.in_ok-write-2.ensures.written) (subst (AppendsPart second new) c.as_slice-3.ensures.value part)))
    c.write-3.ensures.part

pub returns-clause-nothing : goal.returns-clause-nothing
returns-clause-nothing g c none =
    let output = c.args.output.now in
    let parts = no_bytes output.out (output.files.items ++ output.events.items) none in
    let lists = no_bytes output.files.items output.events.items parts.1 in
    c.write-3.ensures.nothing (c.as_slice-3.ensures.value ∙ lists.1) ∙ c.in_ok-write-2.ensures.nothing (c.as_slice-2.ensures.value ∙ lists.0) ∙ c.in_ok-write.ensures.nothing (c.as_slice.ensures ∙ parts.0)
