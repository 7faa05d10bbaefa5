-- The calls that a process makes, one after the other.
use Rattle.std.specs.Prelude.{List, [], ◌∷◌}
use Rattle.script_load.specs.declared.profile.Profile.{Profile}
use Rattle.user_calls.specs.declared.calls.Call.{Call}
use Rattle.user_calls.specs.declared.calls.Reply.{Reply}
use Rattle.sh_machine.specs.State.{User}
use Rattle.sh_machine.specs.Turn.{Turn, call_of, next_of, user_of_next}

-- on these replies
abbrev pub calls_on : User → List Reply → List Call
calls_on user [] = []
calls_on user (reply ∷ replies) = call_of user reply ∷ calls_on (next_of user reply) replies

-- a first call, and then those on these replies
abbrev pub calls_from : Profile → Turn → List Reply → List Call
calls_from profile turn replies = turn.call ∷ calls_on (user_of_next profile turn.next) replies
