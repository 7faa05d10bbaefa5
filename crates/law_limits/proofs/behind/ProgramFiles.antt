-- What a program does with the reply to a close: with a refusal, and with a grant, which gives it a descriptor back.
use Rattle.std.proofs.Common.{◌+◌, ◌≤◌, List, [], ◌∷◌, arith}
use Rattle.mem_files.specs.Name.{Name}
use Rattle.user_calls.specs.declared.calls.Reply.TheVariants.{Refused}
use Rattle.user_progs.specs.State.{tee_opens, tee_reads, tee_writes, tee_gives, State, begins, echo_word, echo_space, opens, works, closes, tees, told, ended}
use Rattle.user_progs.specs.Turn.{turn}
use Rattle.room_model.specs.Descriptors.{one_if_any}
use Rattle.law_runs.proofs.room.FilesHeld.{later_files, closing, of_turn, turn_few}

pub refused_few : (state : State) → of_turn (turn state Refused) ≤ closing state
refused_few (begins program arguments) = turn_few (begins program arguments) Refused
refused_few (echo_word later) = turn_few (echo_word later) Refused
refused_few (echo_space later) = turn_few (echo_space later) Refused
refused_few (opens filter name later) = turn_few (opens filter name later) Refused
refused_few (works work source) = turn_few (works work source) Refused
refused_few (closes filter later) = omega arith
refused_few (tees (tee_opens fds name later)) = turn_few (tees (tee_opens fds name later)) Refused
refused_few (tees (tee_reads fds)) = turn_few (tees (tee_reads fds)) Refused
refused_few (tees (tee_writes fds bytes)) = turn_few (tees (tee_writes fds bytes)) Refused
refused_few (tees (tee_gives fds at bytes)) = turn_few (tees (tee_gives fds at bytes)) Refused
refused_few told = omega arith
refused_few ended = omega arith

one_at_most : (X : Type 0) (xs : List X) → one_if_any xs ≤ 1
one_at_most X [] = omega arith
one_at_most X (x ∷ xs) = omega arith

pub closing_few : (state : State) → later_files state ≤ 1 + closing state
closing_few (begins program arguments) = omega arith
closing_few (echo_word later) = omega arith
closing_few (echo_space later) = omega arith
closing_few (opens filter name later) = omega arith
closing_few (works work source) = omega arith
closing_few (closes filter later) = one_at_most Name later
closing_few (tees (tee_opens fds name later)) = omega arith
closing_few (tees (tee_reads fds)) = omega arith
closing_few (tees (tee_writes fds bytes)) = omega arith
closing_few (tees (tee_gives fds at bytes)) = omega arith
closing_few told = omega arith
closing_few ended = omega arith
