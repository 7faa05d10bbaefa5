-- A program that is given replies one after the other.
use Rattle.std.specs.Prelude.{◌≡◌, ◌⊎◌, ℕ, true, List, [], ◌∷◌, ◌++◌}
use Rattle.mem_files.specs.Name.{Name, Bytes}
use Rattle.mem_files.specs.Files.{FileMap}
use Rattle.prog_parts.specs.declared.program.Program.{Program}
use Rattle.user_calls.specs.declared.calls.Call.{Call}
use Rattle.user_calls.specs.declared.calls.Call.TheVariants.{Exec, Exit, Write}
use Rattle.user_calls.specs.declared.calls.Reply.{Reply}
use Rattle.user_calls.specs.declared.calls.Reply.TheVariants.{Refused}
use Rattle.meaning_model.specs.Value.{Value}
use Rattle.user_progs.specs.State.{State, begins}
use Rattle.user_progs.specs.Turn.{call_of, next_of}
use Rattle.tree_model.specs.Alone.{World, May, after_call, to_out}

-- a program that waits for the reply to a call, what it has before it, and what it wrote to descriptor 1 so far
pub record Process : Type 0 where
  pub state : State
  pub call : Call
  pub world : World
  pub out : Bytes

-- a program that was found, and nothing was done
abbrev pub first_process : Program → List Bytes → Bytes → FileMap → Process
first_process program arguments input F = record {
  state = begins program arguments;
  call = Exec true;
  world = record { own = []; input = input; files = F };
  out = [];
}

-- its call is given this reply, and it makes the next one
abbrev pub after_reply : Process → Reply → Process
after_reply process reply = record {
  state = next_of process.state reply;
  call = call_of process.state reply;
  world = after_call process.call reply process.world;
  out = process.out ++ to_out process.call;
}

abbrev pub after_replies : Process → List Reply → Process
after_replies process [] = process
after_replies process (reply ∷ replies) = after_replies (after_reply process reply) replies

-- each call may be answered so
abbrev pub MayBe : Process → List Reply → Type 0
MayBe process [] = Unit {0}
MayBe process (reply ∷ replies) = May process.call reply process.world × MayBe (after_reply process reply) replies

-- so it may, where writes may be refused too, as in a pipe that no process reads
abbrev pub MayOrRefuse : Call → Reply → World → Type 0
MayOrRefuse call reply world = May call reply world ⊎ ((fd : ℕ) × (bytes : Bytes) × (call ≡ Write fd bytes) × (reply ≡ Refused))

abbrev pub MayBeRefused : Process → List Reply → Type 0
MayBeRefused process [] = Unit {0}
MayBeRefused process (reply ∷ replies) = MayOrRefuse process.call reply process.world × MayBeRefused (after_reply process reply) replies

-- what a process wrote so far begins what is written in all, and once it calls Exit, it has written all of it, left
-- what is left and made the files that are made
pub record Comes (process : Process) (value : Value) : Type 0 where
  pub so_far : (more : Bytes) × (value.out ≡ process.out ++ more)
  pub out : process.call ≡ Exit → process.out ≡ value.out
  pub rest : process.call ≡ Exit → process.world.input ≡ value.rest
  pub files : process.call ≡ Exit → (name : Name) → process.world.files name ≡ value.files name
