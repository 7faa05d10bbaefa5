-- How many bytes a call moves.
use Rattle.std.specs.Prelude.{ℕ}

-- the most bytes that one call moves: a block of xv6's file system (`BSIZE` of `kernel/fs.h`; that a call moves no more is own)
abbrev pub block_size : ℕ
block_size = 1024
