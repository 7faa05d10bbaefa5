use Rattle.std.proofs.Common.{arith}
use Rattle.prog_parts.specs.NameSets.{among}
use Rattle.xvsh_read.proofs.Places.{one_file, all_files}
use Rattle.xvsh_read.proofs.file_list.listing.Goals as goal

pub loop-i-preserved : goal.loop-i-preserved
loop-i-preserved c =
    one_file (among c.args.soft.now) c.args.files.now c.loop-i.i c.file_at.result.0.now c.file_at.result.1.now c.loop-i.text.items c.add_text.new.text.items _ c.is_among.result c.is_among.ensures (omega (arith, c.count-i-end.ensures.value)) c.file_at.ensures c.in_ok-add_text.ensures c.loop-i.invariant

pub returns : goal.returns
returns c = all_files (among c.args.soft.now) c.args.files.now c.loop-i.i c.loop-i.text.items _ (omega (arith, c.count-i-end.ensures.value)) c.loop-i.invariant
