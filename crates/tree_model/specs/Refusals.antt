-- What a refused call leads to.
use Rattle.std.specs.Prelude.{◌≡◌, ◌⊎◌}
use Rattle.mem_files.specs.Name.{Bytes}
use Rattle.user_calls.specs.declared.calls.Reply.TheVariants.{Done, Refused}
use Rattle.user_progs.specs.State.{State}
use Rattle.user_progs.specs.Turn.{Turn, tells, turn}

-- the program writes a message to descriptor 2, after which it exits
abbrev pub IsTold : Turn → Type 0
IsTold turn = (message : Bytes) × (turn ≡ tells message)

-- after a refused write the program goes on as if it had been done, or writes a message and exits
abbrev pub PassesOrTells : State → Type 0
PassesOrTells state = (turn state Refused ≡ turn state Done) ⊎ IsTold (turn state Refused)
