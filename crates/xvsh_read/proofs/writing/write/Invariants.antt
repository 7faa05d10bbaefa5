use Rattle.std.proofs.Common.{◌≡◌, []}
use Rattle.xvsh_read.proofs.Parts.{Begun}
use Rattle.xvsh_read.proofs.writing.write.Given as goal

-- the bytes before the rest were added; of no bytes nothing is written
abbrev pub invariant-loop-call : goal.invariant-loop-call
invariant-loop-call g l = Begun (g.W.Write.contents l.fn.to) (g.W.Write.contents l.to) l.bytes l.rest × (l.bytes ≡ [] → (l.to ≡ l.fn.to) × (l.rest ≡ []))
