use Rattle.std.proofs.Common.{◌≡◌, ◌++◌, drop}
use Rattle.prog_parts.specs.NameSets.{among}
use Rattle.embed.specs.Packing.{sizes_of, block_of}
use Rattle.embed.proofs.packing.pack.Given as goal

-- the files that are left complete the table and the block
abbrev pub invariant-loop-i : goal.invariant-loop-i
invariant-loop-i g l = record {
  sizes : l.packed.sizes.items ++ sizes_of (among l.soft) (drop l.i l.files) ≡ sizes_of (among l.soft) l.files;
  block : l.packed.block.items ++ block_of (drop l.i l.files) ≡ block_of l.files;
}
