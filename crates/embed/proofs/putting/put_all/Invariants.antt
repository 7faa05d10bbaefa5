use Rattle.std.proofs.Common.{take}
use Rattle.embed.specs.Starting.{ArePut}
use Rattle.embed.proofs.putting.put_all.Given as goal

-- the files so far were put
abbrev pub invariant-loop-i : goal.invariant-loop-i
invariant-loop-i g l = ArePut (take l.i l.given) l.store
