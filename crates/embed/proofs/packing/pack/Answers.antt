use Rattle.std.proofs.Common.{arith}
use Rattle.prog_parts.specs.NameSets.{among}
use Rattle.embed.proofs.Places.{one_size, one_block}
use Rattle.embed.proofs.packing.pack.Goals as goal

pub loop-i-preserved : goal.loop-i-preserved
loop-i-preserved g c =
    let list = c.args.files.now in
    let name = c.file_at.result.0.now in
    let bytes = c.file_at.result.1.now in
    record {
      sizes = one_size list c.loop-i.i name bytes (omega (arith, c.count-i-end.ensures.value)) c.file_at.ensures (among c.args.soft.now) c.loop-i.packed.sizes.items c.add_file.new.packed.sizes.items _ c.is_among.result c.is_among.ensures c.in_ok-add_file.ensures.sizes c.loop-i.invariant.sizes;
      block = one_block list c.loop-i.i name bytes (omega (arith, c.count-i-end.ensures.value)) c.file_at.ensures c.loop-i.packed.block.items c.add_file.new.packed.block.items _ c.in_ok-add_file.ensures.block c.loop-i.invariant.block;
    }
