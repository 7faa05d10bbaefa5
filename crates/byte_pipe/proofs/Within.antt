-- No calls make a pipe hold more than it can.
use Rattle.std.proofs.Common.{ℕ, ◌≤◌, List, [], ◌∷◌, Bool, true, false, length, take, arith, length-append, length-drop}
use Rattle.std.proofs.lemmas.List.{length-take}
use Rattle.std.specs.Prelude.{if◌then◌else◌}
use Rattle.byte_pipe.specs.Limits.{pipe_size}
use Rattle.byte_pipe.specs.PipeState.{PipeState, room, appended}
use Rattle.byte_pipe.specs.PipeCall.{PipeCall, puts, takes, closes_read, closes_write, after_call, after_calls}

pub few_appended : (reader : Bool) (r : ℕ) (xs : List ℕ) → length (if reader then take r xs else []) ≤ r
few_appended true r xs = omega (arith, length-take r xs)
few_appended false r xs = omega arith

-- one call
call_stays_within : (p : PipeState) (c : PipeCall) → length p.bytes ≤ pipe_size → length (after_call p c).bytes ≤ pipe_size
call_stays_within p (puts xs) within = omega (arith, length-append p.bytes (appended p xs), few_appended p.reader (room p) xs)
call_stays_within p (takes buffer) within = omega (arith, length-drop (length buffer) p.bytes)
call_stays_within p closes_read within = within
call_stays_within p closes_write within = within

pub within_law : (p : PipeState) (calls : List PipeCall) → length p.bytes ≤ pipe_size → length (after_calls p calls).bytes ≤ pipe_size
within_law p [] within = within
within_law p (c ∷ cs) within = within_law (after_call p c) cs (call_stays_within p c within)
