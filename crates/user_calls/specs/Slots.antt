-- What contracts see of a call and a reply that are kept in parts, and their bytes.
use Rattle.std.specs.Prelude.{ℕ, List, [], ◌++◌, take}
use Rattle.user_calls.specs.declared.calls.Call.{Call}
use Rattle.user_calls.specs.declared.calls.Call.TheVariants.{Fork, Exec, Exit, Wait, MakePipe, Read, Write, OpenFile, Close, Dup}
use Rattle.user_calls.specs.declared.calls.Reply.{Reply}
use Rattle.user_calls.specs.declared.calls.Reply.TheVariants.{Start, Child, Done, Bytes, Fd, Ends, Refused}
use Rattle.user_calls.specs.declared.slots.CallKind.{CallKind}
use Rattle.user_calls.specs.declared.slots.CallKind.TheVariants as kinds
use Rattle.user_calls.specs.declared.slots.ReplyKind.{ReplyKind}
use Rattle.user_calls.specs.declared.slots.ReplyKind.TheVariants as replies
use Rattle.user_calls.specs.Limits.{block_size}

-- the call of this kind, with these bytes where it has any
abbrev pub call_by : CallKind → List ℕ → Call
call_by kinds.Fork bytes = Fork
call_by (kinds.Exec found) bytes = Exec found
call_by kinds.Exit bytes = Exit
call_by kinds.Wait bytes = Wait
call_by kinds.MakePipe bytes = MakePipe
call_by (kinds.Read fd most) bytes = Read fd most
call_by (kinds.Write fd) bytes = Write fd bytes
call_by (kinds.OpenFile mode) bytes = OpenFile bytes mode
call_by (kinds.Close fd) bytes = Close fd
call_by (kinds.Dup fd) bytes = Dup fd

-- the bytes of a call: those that are written, or the name that is opened
abbrev pub call_bytes : Call → List ℕ
call_bytes Fork = []
call_bytes (Exec found) = []
call_bytes Exit = []
call_bytes Wait = []
call_bytes MakePipe = []
call_bytes (Read fd most) = []
call_bytes (Write fd bytes) = bytes
call_bytes (OpenFile name mode) = name
call_bytes (Close fd) = []
call_bytes (Dup fd) = []

-- the call with these bytes behind its own, if it has any; what goes past a block is left out
abbrev pub call_longer : Call → List ℕ → Call
call_longer Fork more = Fork
call_longer (Exec found) more = Exec found
call_longer Exit more = Exit
call_longer Wait more = Wait
call_longer MakePipe more = MakePipe
call_longer (Read fd most) more = Read fd most
call_longer (Write fd bytes) more = Write fd (take block_size (bytes ++ more))
call_longer (OpenFile name mode) more = OpenFile (take block_size (name ++ more)) mode
call_longer (Close fd) more = Close fd
call_longer (Dup fd) more = Dup fd

-- the reply of this kind, with these bytes where it has any
abbrev pub reply_by : ReplyKind → List ℕ → Reply
reply_by replies.Start bytes = Start
reply_by replies.Child bytes = Child
reply_by replies.Done bytes = Done
reply_by replies.Bytes bytes = Bytes bytes
reply_by (replies.Fd fd) bytes = Fd fd
reply_by (replies.Ends reader writer) bytes = Ends reader writer
reply_by replies.Refused bytes = Refused

-- the bytes of a reply: those that were read
abbrev pub reply_bytes : Reply → List ℕ
reply_bytes Start = []
reply_bytes Child = []
reply_bytes Done = []
reply_bytes (Bytes bytes) = bytes
reply_bytes (Fd fd) = []
reply_bytes (Ends reader writer) = []
reply_bytes Refused = []

-- the reply with these bytes behind its own, if it has any; what goes past a block is left out
abbrev pub reply_longer : Reply → List ℕ → Reply
reply_longer Start more = Start
reply_longer Child more = Child
reply_longer Done more = Done
reply_longer (Bytes bytes) more = Bytes (take block_size (bytes ++ more))
reply_longer (Fd fd) more = Fd fd
reply_longer (Ends reader writer) more = Ends reader writer
reply_longer Refused more = Refused
