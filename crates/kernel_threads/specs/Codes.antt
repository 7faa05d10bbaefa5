-- Codes for the parts of a kernel, different for different ones.
use Rattle.std.specs.Prelude.{◌≡◌, ◌⊎◌, ℕ, zero, suc, Bool, List, Option, refl}
use Rattle.std.proofs.Common.{inl, inr}
use Rattle.std.specs.Coded.{Coded, code_by, coded×, coded⊎, coded_bool, coded_list, coded_option, coded_ℕ}
use base.Stored.{coded_unit}
use Rattle.user_calls.specs.declared.calls.Reply.{Reply}
use Rattle.user_calls.specs.declared.calls.Reply.TheVariants.{Start, Child, Done, Bytes as Given, Fd, Ends, Refused}
use Rattle.fd_table.specs.declared.names.Mode.{Mode}
use Rattle.fd_table.specs.declared.names.Mode.TheVariants.{Input as ForReading, Fresh, Over, Append}
use Rattle.fd_table.specs.declared.names.Object.{Object}
use Rattle.fd_table.specs.declared.names.Object.TheVariants.{Input, Out, Diag, File, PipeRead, PipeWrite}
use Rattle.fd_table.specs.Entries.{OpenFile}
use Rattle.fd_table.specs.Descriptors.{Descriptors}
use Rattle.byte_pipe.specs.PipeState.{PipeState}
use Rattle.mem_files.specs.Name.{Name, Bytes}
use Rattle.proc_table.specs.declared.states.Channel.{Channel}
use Rattle.proc_table.specs.declared.states.Channel.TheVariants.{PipeBytes, PipeRoom, Children}
use Rattle.proc_table.specs.declared.states.Status.{Status}
use Rattle.proc_table.specs.declared.states.Status.TheVariants.{Runnable, Running, Asleep, Zombie}
use Rattle.proc_table.specs.Slots.{Process}
use Rattle.kernel_model.specs.declared.events.Full.{Full}
use Rattle.kernel_model.specs.declared.events.Full.TheVariants.{Procs, Open, Fds, Files, Size, Memory}

-- a list of bytes
abbrev pub bytes_code : Coded Bytes
bytes_code = coded_list coded_ℕ

-- ---- what an entry has open

abbrev mode_number : Mode → ℕ
mode_number ForReading = 0
mode_number Fresh = 1
mode_number Over = 2
mode_number Append = 3

abbrev mode_of_number : ℕ → Mode
mode_of_number zero = ForReading
mode_of_number (suc zero) = Fresh
mode_of_number (suc (suc zero)) = Over
mode_of_number (suc (suc (suc n))) = Append

pub mode_of_its_number : (m : Mode) → mode_of_number (mode_number m) ≡ m
mode_of_its_number ForReading = refl
mode_of_its_number Fresh = refl
mode_of_its_number Over = refl
mode_of_its_number Append = refl

abbrev mode_code : Coded Mode
mode_code = code_by ℕ coded_ℕ mode_number mode_of_number mode_of_its_number

-- a file's name and mode, or the number of a pipe whose end it is, or the number of another object
abbrev ObjectParts : Type 0
ObjectParts = (Name × Mode) ⊎ (ℕ ⊎ (ℕ ⊎ ℕ))

abbrev object_parts : Object → ObjectParts
object_parts (File name mode) = inl (name, mode)
object_parts (PipeRead id) = inr (inl id)
object_parts (PipeWrite id) = inr (inr (inl id))
object_parts Input = inr (inr (inr 0))
object_parts Out = inr (inr (inr 1))
object_parts Diag = inr (inr (inr 2))

abbrev from_object_parts : ObjectParts → Object
from_object_parts (inl p) = File p.0 p.1
from_object_parts (inr (inl id)) = PipeRead id
from_object_parts (inr (inr (inl id))) = PipeWrite id
from_object_parts (inr (inr (inr zero))) = Input
from_object_parts (inr (inr (inr (suc zero)))) = Out
from_object_parts (inr (inr (inr (suc (suc n))))) = Diag

pub from_parts_of_object : (o : Object) → from_object_parts (object_parts o) ≡ o
from_parts_of_object (File name mode) = refl
from_parts_of_object (PipeRead id) = refl
from_parts_of_object (PipeWrite id) = refl
from_parts_of_object Input = refl
from_parts_of_object Out = refl
from_parts_of_object Diag = refl

abbrev object_code : Coded Object
object_code =
    code_by ObjectParts (coded⊎ (coded× bytes_code mode_code) (coded⊎ coded_ℕ (coded⊎ coded_ℕ coded_ℕ)))
    object_parts from_object_parts from_parts_of_object

abbrev pub entry_code : Coded OpenFile
entry_code =
    code_by (Object × (ℕ × ℕ)) (coded× object_code (coded× coded_ℕ coded_ℕ))
    (λ f. (f.object, (f.count, f.offset))) (λ p. record { object = p.0; count = p.1.0; offset = p.1.1 }) (λ _. refl)

-- ---- a pipe

abbrev pub pipe_code : Coded PipeState
pipe_code =
    code_by (Bytes × (Bool × Bool)) (coded× bytes_code (coded× coded_bool coded_bool))
    (λ p. (p.bytes, (p.reader, p.writer))) (λ p. record { bytes = p.0; reader = p.1.0; writer = p.1.1 }) (λ _. refl)

-- ---- a process

abbrev ChannelParts : Type 0
ChannelParts = ℕ ⊎ (ℕ ⊎ ℕ)

abbrev channel_parts : Channel → ChannelParts
channel_parts (PipeBytes id) = inl id
channel_parts (PipeRoom id) = inr (inl id)
channel_parts (Children pid) = inr (inr pid)

abbrev from_channel_parts : ChannelParts → Channel
from_channel_parts (inl id) = PipeBytes id
from_channel_parts (inr (inl id)) = PipeRoom id
from_channel_parts (inr (inr pid)) = Children pid

pub from_parts_of_channel : (c : Channel) → from_channel_parts (channel_parts c) ≡ c
from_parts_of_channel (PipeBytes id) = refl
from_parts_of_channel (PipeRoom id) = refl
from_parts_of_channel (Children pid) = refl

abbrev channel_code : Coded Channel
channel_code = code_by ChannelParts (coded⊎ coded_ℕ (coded⊎ coded_ℕ coded_ℕ)) channel_parts from_channel_parts from_parts_of_channel

-- a hart, or a channel, or nothing more
abbrev StatusParts : Type 0
StatusParts = ℕ ⊎ (Channel ⊎ (Unit {0} ⊎ Unit {0}))

abbrev status_parts : Status → StatusParts
status_parts (Running hart) = inl hart
status_parts (Asleep channel) = inr (inl channel)
status_parts Runnable = inr (inr (inl tt))
status_parts Zombie = inr (inr (inr tt))

abbrev from_status_parts : StatusParts → Status
from_status_parts (inl hart) = Running hart
from_status_parts (inr (inl channel)) = Asleep channel
from_status_parts (inr (inr (inl u))) = Runnable
from_status_parts (inr (inr (inr u))) = Zombie

pub from_parts_of_status : (s : Status) → from_status_parts (status_parts s) ≡ s
from_parts_of_status (Running hart) = refl
from_parts_of_status (Asleep channel) = refl
from_parts_of_status Runnable = refl
from_parts_of_status Zombie = refl

abbrev status_code : Coded Status
status_code =
    code_by StatusParts (coded⊎ coded_ℕ (coded⊎ channel_code (coded⊎ coded_unit coded_unit)))
    status_parts from_status_parts from_parts_of_status

-- the bytes, the descriptor or the two descriptors of a reply, or the number of another one
abbrev ReplyParts : Type 0
ReplyParts = Bytes ⊎ (ℕ ⊎ ((ℕ × ℕ) ⊎ ℕ))

abbrev reply_parts : Reply → ReplyParts
reply_parts (Given bytes) = inl bytes
reply_parts (Fd fd) = inr (inl fd)
reply_parts (Ends reader writer) = inr (inr (inl (reader, writer)))
reply_parts Start = inr (inr (inr 0))
reply_parts Child = inr (inr (inr 1))
reply_parts Done = inr (inr (inr 2))
reply_parts Refused = inr (inr (inr 3))

abbrev from_reply_parts : ReplyParts → Reply
from_reply_parts (inl bytes) = Given bytes
from_reply_parts (inr (inl fd)) = Fd fd
from_reply_parts (inr (inr (inl p))) = Ends p.0 p.1
from_reply_parts (inr (inr (inr zero))) = Start
from_reply_parts (inr (inr (inr (suc zero)))) = Child
from_reply_parts (inr (inr (inr (suc (suc zero))))) = Done
from_reply_parts (inr (inr (inr (suc (suc (suc n)))))) = Refused

pub from_parts_of_reply : (r : Reply) → from_reply_parts (reply_parts r) ≡ r
from_parts_of_reply (Given bytes) = refl
from_parts_of_reply (Fd fd) = refl
from_parts_of_reply (Ends reader writer) = refl
from_parts_of_reply Start = refl
from_parts_of_reply Child = refl
from_parts_of_reply Done = refl
from_parts_of_reply Refused = refl

abbrev reply_code : Coded Reply
reply_code =
    code_by ReplyParts (coded⊎ bytes_code (coded⊎ coded_ℕ (coded⊎ (coded× coded_ℕ coded_ℕ) coded_ℕ)))
    reply_parts from_reply_parts from_parts_of_reply

-- by a code of the machines' states
abbrev pub process_code : {S : Type 0} → Coded S → Coded (Process S)
process_code {S} code =
    code_by (Status × (Option ℕ × (S × (Reply × (Descriptors × ℕ)))))
    (coded× status_code (coded× (coded_option coded_ℕ) (coded× code (coded× reply_code (coded× (coded_list (coded_option coded_ℕ)) coded_ℕ)))))
    (λ p. (p.status, (p.parent, (p.machine, (p.reply, (p.fds, p.put))))))
    (λ p. record { status = p.0; parent = p.1.0; machine = p.1.1.0; reply = p.1.1.1.0; fds = p.1.1.1.1.0; put = p.1.1.1.1.1 }) (λ _. refl)

-- ---- what had no room

abbrev full_number : Full → ℕ
full_number Procs = 0
full_number Open = 1
full_number Fds = 2
full_number Files = 3
full_number Size = 4
full_number Memory = 5

abbrev full_of_number : ℕ → Full
full_of_number zero = Procs
full_of_number (suc zero) = Open
full_of_number (suc (suc zero)) = Fds
full_of_number (suc (suc (suc zero))) = Files
full_of_number (suc (suc (suc (suc zero)))) = Size
full_of_number (suc (suc (suc (suc (suc n))))) = Memory

pub full_of_its_number : (f : Full) → full_of_number (full_number f) ≡ f
full_of_its_number Procs = refl
full_of_its_number Open = refl
full_of_its_number Fds = refl
full_of_its_number Files = refl
full_of_its_number Size = refl
full_of_its_number Memory = refl

abbrev pub full_code : Coded Full
full_code = code_by ℕ coded_ℕ full_number full_of_number full_of_its_number
