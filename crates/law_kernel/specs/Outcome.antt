-- How a call of a process ends: the kernel after it, in each way in which it can end.
use Rattle.std.specs.Prelude.{◌≡◌, ◌≢◌, ℕ, ◌+◌, ◌<◌, ◌≤◌, true, false, ◌++◌, [], length, take, drop, Option, Some, None}
use Rattle.user_calls.specs.declared.calls.Call.{Call}
use Rattle.user_calls.specs.declared.calls.Call.TheVariants.{Fork, Exec, Exit, Wait, MakePipe, Read, Write, OpenFile, Close, Dup}
use Rattle.user_calls.specs.declared.calls.Mode.{Mode}
use Rattle.user_calls.specs.declared.calls.Reply.TheVariants.{Done, Bytes as Given, Fd, Ends, Refused}
use Rattle.fd_table.specs.declared.descriptors.TheConstants.{DESCRIPTORS}
use Rattle.fd_table.specs.declared.names.Mode.{Mode as EntryMode}
use Rattle.fd_table.specs.declared.names.Object.{Object}
use Rattle.fd_table.specs.declared.names.Object.TheVariants.{Input, Out, Diag, File, PipeRead, PipeWrite}
use Rattle.fd_table.specs.Entries.{OpenFile as Entry, advanced, moved_to, free_count}
use Rattle.fd_table.specs.Descriptors.{entry_of, lowest_free, all_held}
use Rattle.byte_pipe.specs.PipeState.{PipeState, after_put, after_take, appended, room}
use Rattle.mem_files.specs.Name.{Name, Bytes}
use Rattle.mem_files.specs.Listing.{with_entry}
use Rattle.proc_table.specs.declared.states.Channel.TheVariants.{PipeBytes, PipeRoom, Children}
use Rattle.proc_table.specs.Slots.{at, put_of}
use Rattle.proc_table.specs.Calls.{lowest_free as lowest_free_slot, zombie_child, some_child, forked, reaped}
use Rattle.kernel_model.specs.declared.events.Full.{Full}
use Rattle.kernel_model.specs.KernelState.{KernelState, fds_at, file_at}
use Rattle.kernel_model.specs.Pipes.{pipe_of, with_pipe}
use Rattle.kernel_model.specs.Modes.{entry_mode}
use Rattle.kernel_model.specs.Replies.{answered, refused_for, sleeps, wakes}
use Rattle.kernel_model.specs.Descriptors.{closed, closed_below, copied, with_open, with_ends}
use Rattle.kernel_model.specs.Processes.{ended}
use Rattle.kernel_model.specs.Opening.{with_bytes}

-- the object that an entry, if there is one, has open
abbrev pub object_of : Option Entry → Option Object
object_of None = None
object_of (Some f) = Some f.object

-- the object that a descriptor of pid holds, if it is open
abbrev pub object_at : {S : Type 0} → KernelState S → ℕ → ℕ → Option Object
object_at k pid fd = object_of (file_at k.entries (entry_of (fds_at k pid) fd))

-- the call reads from this object, or writes to it, through a descriptor of pid
abbrev pub IsRead : {S : Type 0} → KernelState S → ℕ → Call → Object → Type 0
IsRead k pid call object = (fd : ℕ) × (n : ℕ) × (call ≡ Read fd n) × (object_at k pid fd ≡ Some object)

abbrev pub IsWrite : {S : Type 0} → KernelState S → ℕ → Call → Object → Bytes → Type 0
IsWrite k pid call object b = (fd : ℕ) × (call ≡ Write fd b) × (object_at k pid fd ≡ Some object)

-- what a write of pid has left to put
abbrev pub left_of : {S : Type 0} → KernelState S → ℕ → Bytes → Bytes
left_of k pid b = drop (put_of (at k.table pid)) b

-- `new` is the kernel k after a call of pid, whose machine after it is this one
pub data Outcome {S : Type 0} (k : KernelState S) (pid : ℕ) (after : S) (call : Call) (new : KernelState S) : Type 0 where
  -- it is refused: nothing changes; or it is refused for want of room, which is marked
  refused : new ≡ answered k pid after Refused → Outcome k pid after call new
  lacks : (full : Full) → new ≡ refused_for k pid after full → Outcome k pid after call new
  -- fork, exec, exit and wait
  forks : (child : ℕ) → call ≡ Fork → lowest_free_slot k.table ≡ Some child → new ≡ answered (record k { table = forked k.table child pid after (fds_at k pid); entries = all_held k.entries (fds_at k pid) }) pid after Done → Outcome k pid after call new
  runs : call ≡ Exec true → new ≡ answered k pid after Done → Outcome k pid after call new
  exits : call ≡ Exit → pid ≢ 0 → new ≡ ended pid (closed_below k pid DESCRIPTORS) → Outcome k pid after call new
  reaps : (child : ℕ) → call ≡ Wait → zombie_child k.table pid ≡ Some child → new ≡ answered (record k { table = reaped k.table pid }) pid after Done → Outcome k pid after call new
  waits : (child : ℕ) → call ≡ Wait → zombie_child k.table pid ≡ None → some_child k.table pid ≡ Some child → new ≡ sleeps k pid (Children pid) 0 → Outcome k pid after call new
  -- open of a file that is there, or of one that is empty then; close, dup and pipe
  opens : (name : Name) (mode : Mode) (fd : ℕ) → call ≡ OpenFile name mode → new ≡ answered (with_open k pid (File name (entry_mode mode))) pid after (Fd fd) → Outcome k pid after call new
  opens_empty : (name : Name) (mode : Mode) (fd : ℕ) → call ≡ OpenFile name mode → new ≡ answered (with_open (with_bytes k name []) pid (File name (entry_mode mode))) pid after (Fd fd) → Outcome k pid after call new
  closes : (fd : ℕ) → call ≡ Close fd → new ≡ answered (closed k pid fd) pid after Done → Outcome k pid after call new
  dups : (fd entry place : ℕ) → call ≡ Dup fd → entry_of (fds_at k pid) fd ≡ Some entry → lowest_free (fds_at k pid) ≡ Some place → new ≡ answered (copied k pid (Some entry) (Some place)) pid after (Fd place) → Outcome k pid after call new
  pipes : (reader writer : ℕ) → call ≡ MakePipe → 2 ≤ free_count k.entries → new ≡ answered (with_ends k pid k.events) pid after (Ends reader writer) → Outcome k pid after call new
  -- read
  reads_input : (n : ℕ) → IsRead k pid call Input → new ≡ answered (record k { input = drop n k.input }) pid after (Given (take n k.input)) → Outcome k pid after call new
  reads_file : (name : Name) (mode : EntryMode) (entry n : ℕ) (got : Bytes) → IsRead k pid call (File name mode) → new ≡ answered (record k { entries = advanced k.entries entry n }) pid after (Given got) → Outcome k pid after call new
  takes : (id n : ℕ) (p : PipeState) → IsRead k pid call (PipeRead id) → pipe_of k.pipes id ≡ Some p → p.bytes ≢ [] → new ≡ wakes (PipeRoom id) (answered (record k { pipes = with_pipe k.pipes id (after_take p n) }) pid after (Given (take n p.bytes))) → Outcome k pid after call new
  waits_for_bytes : (id : ℕ) (p : PipeState) → IsRead k pid call (PipeRead id) → pipe_of k.pipes id ≡ Some p → p.bytes ≡ [] → p.writer ≡ true → new ≡ sleeps k pid (PipeBytes id) 0 → Outcome k pid after call new
  meets_end : (id : ℕ) (p : PipeState) → IsRead k pid call (PipeRead id) → pipe_of k.pipes id ≡ Some p → p.bytes ≡ [] → p.writer ≡ false → new ≡ answered k pid after (Given []) → Outcome k pid after call new
  -- write
  tells : (b : Bytes) → IsWrite k pid call Out b → new ≡ answered (record k { out = k.out ++ b }) pid after Done → Outcome k pid after call new
  complains : (b : Bytes) → IsWrite k pid call Diag b → new ≡ answered (record k { diag = k.diag ++ b }) pid after Done → Outcome k pid after call new
  writes_over : (name : Name) (mode : EntryMode) (entry : ℕ) (b bytes : Bytes) → IsWrite k pid call (File name mode) b → new ≡ answered (record k { files = with_entry k.files name bytes; entries = advanced k.entries entry (length b) }) pid after Done → Outcome k pid after call new
  appends : (name : Name) (mode : EntryMode) (entry : ℕ) (b bytes : Bytes) → IsWrite k pid call (File name mode) b → new ≡ answered (record k { files = with_entry k.files name bytes; entries = moved_to k.entries entry (length bytes) }) pid after Done → Outcome k pid after call new
  puts_all : (id : ℕ) (p : PipeState) (b : Bytes) → IsWrite k pid call (PipeWrite id) b → pipe_of k.pipes id ≡ Some p → appended p (left_of k pid b) ≡ left_of k pid b
      → new ≡ wakes (PipeBytes id) (answered (record k { pipes = with_pipe k.pipes id (after_put p (left_of k pid b)) }) pid after Done) → Outcome k pid after call new
  puts_part : (id n : ℕ) (p : PipeState) (b : Bytes) → IsWrite k pid call (PipeWrite id) b → pipe_of k.pipes id ≡ Some p → p.reader ≡ true → room p ≡ n → appended p (left_of k pid b) ≡ take n (left_of k pid b) → n < length (left_of k pid b)
      → new ≡ wakes (PipeBytes id) (sleeps (record k { pipes = with_pipe k.pipes id (after_put p (left_of k pid b)) }) pid (PipeRoom id) (put_of (at k.table pid) + n)) → Outcome k pid after call new
