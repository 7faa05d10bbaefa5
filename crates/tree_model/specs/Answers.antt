-- What the calls of a program are answered. Those on its own files and on descriptor 2 are answered at once, as the files
-- allow; a read of descriptor 0 and a write to descriptor 1 are answered by what is around the program.
use Rattle.std.specs.Prelude.{ℕ, zero, suc, ◌+◌, List, [], ◌∷◌, take, Option, Some, None, if◌then◌else◌}
use Rattle.std.specs.Option.{is_some}
use Rattle.mem_files.specs.Name.{Bytes}
use Rattle.mem_files.specs.Files.{FileMap}
use Rattle.user_calls.specs.declared.calls.Call.{Call}
use Rattle.user_calls.specs.declared.calls.Call.TheVariants.{Fork, Exec, Exit, Wait, MakePipe, Read, Write, OpenFile, Close, Dup}
use Rattle.user_calls.specs.declared.calls.Reply.{Reply}
use Rattle.user_calls.specs.declared.calls.Reply.TheVariants.{Done, Bytes as Bytes', Fd, Refused}
use Rattle.user_progs.specs.Turn.{turn}
use Rattle.tree_model.specs.Alone.{OwnFile, World, held, readable, can_open, may_write, done_if, after_call}
use Rattle.tree_model.specs.Residual.{Running, alone}

-- what answers a call
pub data Kind : Type 0 where
  -- Exit, which gets no reply
  leaves : Kind
  -- a read of descriptor 0, of at most so many bytes
  reads_input : ℕ → Kind
  -- a write of these bytes to descriptor 1
  writes_output : Bytes → Kind
  -- every other call: by the files
  asks : Kind

abbrev pub kind_of : Call → Kind
kind_of Fork = asks
kind_of (Exec is_known) = asks
kind_of Exit = leaves
kind_of Wait = asks
kind_of MakePipe = asks
kind_of (Read zero most) = reads_input most
kind_of (Read (suc fd) most) = asks
kind_of (Write zero bytes) = asks
kind_of (Write (suc zero) bytes) = writes_output bytes
kind_of (Write (suc (suc fd)) bytes) = asks
kind_of (OpenFile name mode) = asks
kind_of (Close fd) = asks
kind_of (Dup fd) = asks

-- the lowest descriptor above 2 that a program doesn't hold: some number between 3 and the sum of those that it holds
abbrev pub all_fds : List OwnFile → ℕ
all_fds [] = 0
all_fds (file ∷ later) = file.fd + all_fds later

abbrev pub lowest : List OwnFile → ℕ → ℕ → ℕ
lowest own zero fd = fd
lowest own (suc more) fd = if is_some (held own fd) then lowest own more (suc fd) else fd

abbrev pub new_fd : List OwnFile → ℕ
new_fd own = lowest own (all_fds own) 3

-- a file gives as many bytes as are asked for and left
abbrev pub read_reply : ℕ → Option Bytes → Reply
read_reply most None = Refused
read_reply most (Some left) = Bytes' (take most left)

abbrev pub open_reply : Option Bytes → List OwnFile → Reply
open_reply None own = Refused
open_reply (Some bytes) own = Fd (new_fd own)

-- what the files answer; calls that no program makes are refused
abbrev pub reply_of : Call → World → Reply
reply_of Fork world = Refused
reply_of (Exec is_known) world = Done
reply_of Exit world = Refused
reply_of Wait world = Refused
reply_of MakePipe world = Refused
reply_of (Read fd most) world = read_reply most (readable fd world)
reply_of (Write fd bytes) world = done_if (may_write fd world)
reply_of (OpenFile name mode) world = open_reply (can_open name mode world.files) world.own
reply_of (Close fd) world = done_if (is_some (held world.own fd))
reply_of (Dup fd) world = Refused

-- a program that is given this reply makes its next call; its own files don't change, or are as the call left them
abbrev pub resumed : Running → Reply → Running
resumed run reply = record { turn = turn run.turn.next reply; own = run.own; put = 0 }

abbrev pub replied : Running → Reply → FileMap → Running
replied run reply F = record { turn = turn run.turn.next reply; own = (after_call run.turn.call reply (alone run F)).own; put = 0 }

abbrev pub files_after : Running → Reply → FileMap → FileMap
files_after run reply F = (after_call run.turn.call reply (alone run F)).files

-- a program whose call the files answer
abbrev pub answer : Running → FileMap → Reply
answer run F = reply_of run.turn.call (alone run F)
