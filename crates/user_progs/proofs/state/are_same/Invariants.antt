use Rattle.std.proofs.Common.{◌≡◌, take}
use Rattle.user_progs.proofs.state.are_same.Given as goal

-- the words so far are the same
abbrev pub invariant-loop-i : goal.invariant-loop-i
invariant-loop-i g l = take l.i l.words ≡ take l.i l.others
