-- An entry lost one holder: a call of another process that opens and closes nothing comes to the same before and after that.
use Rattle.std.proofs.Common.{◌≡◌, ℕ, ◌+◌, ◌<◌, List, ◌++◌, Bool, true, false, Option, Some, None, length, drop, take, ◌-◌, refl, sym, ap, ◌∙◌}
use Rattle.std.specs.Prelude.{if◌then◌else◌, nat_lt, ◌==◌, Result, Ok, Err, min}
use Rattle.user_calls.specs.Limits.{block_size}
use Rattle.user_calls.specs.declared.calls.Reply.TheVariants.{Done, Bytes}
use Rattle.fd_table.specs.declared.names.Mode.{Mode as EntryMode}
use Rattle.fd_table.specs.declared.names.Mode.TheVariants.{Input as ForReading, Fresh, Over, Append}
use Rattle.fd_table.specs.declared.names.Object.{Object}
use Rattle.fd_table.specs.declared.names.Object.TheVariants.{Input, Out, Diag, File, PipeRead, PipeWrite}
use Rattle.fd_table.specs.declared.faults.FdFault.{FdFault}
use Rattle.fd_table.specs.declared.faults.FdFault.TheVariants.{BadFd, FullFds, FullOpen}
use Rattle.fd_table.specs.Entries.{OpenFile as Opened, Entries, entry_at}
use Rattle.fd_table.specs.Descriptors.{entry_of, lowest_free, dup_answer}
use Rattle.byte_pipe.specs.declared.Take.{Take}
use Rattle.byte_pipe.specs.declared.Take.TheVariants.{Got, Empty, End}
use Rattle.byte_pipe.specs.declared.Put.{Put}
use Rattle.byte_pipe.specs.declared.Put.TheVariants.{Took, Full as NoRoom, Closed}
use Rattle.byte_pipe.specs.PipeState.{PipeState, take_answer, put_answer}
use Rattle.mem_files.specs.Files.{files}
use Rattle.mem_files.specs.Overlay.{written}
use Rattle.mem_files.specs.Listing.{max_size, with_entry}
use Rattle.proc_table.specs.declared.table.Waited.{Waited}
use Rattle.proc_table.specs.declared.table.Waited.TheVariants.{Reaped, NoChildren, MustSleep}
use Rattle.proc_table.specs.Slots.{at, put_of}
use Rattle.proc_table.specs.Calls.{forked}
use Rattle.kernel_model.specs.KernelState.{KernelState, fds_at}
use Rattle.kernel_model.specs.Pipes.{pipe_of, put_into, taken_from}
use Rattle.kernel_model.specs.Replies.{answered}
use Rattle.kernel_model.specs.Descriptors.{dup, dup_by, copied}
use Rattle.kernel_model.specs.Processes.{fork_into, wait_by}
use Rattle.kernel_model.specs.Reading.{read, read_file, read_mode, read_by, read_pipe, read_object, read_entry, read_held}
use Rattle.kernel_model.specs.Writing.{lacks_memory, write, write_file, append_file, write_mode, write_by, write_pipe, write_object, write_entry, write_held}
use Rattle.std.proofs.Common.{◌≢◌, ◌⊎◌, inl, inr, get_or-set_other}
use Rattle.std.proofs.lemmas.Bool.{cases_eq, lt-leb}
use Rattle.fd_table.specs.Entries.{count_of, less_held, released}
use Rattle.fd_table.specs.Descriptors.{holders_in}
use Rattle.law_turns.proofs.entry_numbers.Entries.{changed_entry}
use Rattle.law_turns.proofs.private_turns.Holders.{holds_one}
use Rattle.law_turns.proofs.last_closes.Released.{advanced_less, moved_to_less, dup_less, all_held_less}

module _ {S : Type 0} (e pid : ℕ) where
  -- one descriptor less holds the entry e
  abbrev pub lost : KernelState S → KernelState S
  lost k = record k { entries = released k.entries e }

  -- if pid holds the entry too, it isn't the last holder
  abbrev pub IsShared : KernelState S → Type 0
  IsShared k = 0 < holders_in (fds_at k pid) e → 1 < count_of (entry_at k.entries e)

  shared_by : (k : KernelState S) (fd d : ℕ) → IsShared k → entry_of (fds_at k pid) fd ≡ Some d → d ≡ e → 1 < count_of (entry_at k.entries e)
  shared_by k fd d shared held is = shared (holds_one (fds_at k pid) fd e (held ∙ ap Some is))

  pick : (c : Bool) (x y u v : KernelState S) → x ≡ lost u → y ≡ lost v → (if c then x else y) ≡ lost (if c then u else v)
  pick true x y u v is or = is
  pick false x y u v is or = or

  module _ (after : S) where
    pub fork_lost : (k : KernelState S) (o : Option ℕ) → IsShared k → fork_into (lost k) pid after o ≡ lost (fork_into k pid after o)
    fork_lost k None shared = refl
    fork_lost k (Some child) shared = λ i. answered (record k { table = forked k.table child pid after (fds_at k pid); entries = all_held_less e k.entries (fds_at k pid) shared i }) pid after Done

    pub wait_lost : (k : KernelState S) (w : Waited) → wait_by (lost k) pid after w ≡ lost (wait_by k pid after w)
    wait_lost k (Reaped child) = refl
    wait_lost k NoChildren = refl
    wait_lost k MustSleep = refl

    dup_by_lost : (k : KernelState S) (r : Result ℕ FdFault) → dup_by (lost k) pid after r ≡ lost (dup_by k pid after r)
    dup_by_lost k (Ok fd) = refl
    dup_by_lost k (Err BadFd) = refl
    dup_by_lost k (Err FullFds) = refl
    dup_by_lost k (Err FullOpen) = refl

    pub dup_lost : (k : KernelState S) (fd : ℕ) → IsShared k → dup (lost k) pid after fd ≡ lost (dup k pid after fd)
    dup_lost k fd shared =
        let o = entry_of (fds_at k pid) fd in
        let free = lowest_free (fds_at k pid) in
        (λ i. dup_by (record (copied (lost k) pid o free) { entries = dup_less e k.entries o free (λ held. shared (holds_one (fds_at k pid) fd e held)) i }) pid after (dup_answer o free)) ∙
        dup_by_lost (copied k pid o free) (dup_answer o free)

    -- ---- read

    read_file_lost : (k : KernelState S) (d offset m : ℕ) (o : Option (List ℕ)) → read_file (lost k) pid after d offset m o ≡ lost (read_file k pid after d offset m o)
    read_file_lost k d offset m None = refl
    read_file_lost k d offset m (Some bytes) =
        λ i. answered (record k { entries = advanced_less e k.entries d (length (take m (drop offset bytes))) i }) pid after (Bytes (take m (drop offset bytes)))

    read_mode_lost : (k : KernelState S) (d offset m : ℕ) (o : Option (List ℕ)) (mode : EntryMode) → read_mode (lost k) pid after d offset m o mode ≡ lost (read_mode k pid after d offset m o mode)
    read_mode_lost k d offset m o ForReading = read_file_lost k d offset m o
    read_mode_lost k d offset m o Fresh = refl
    read_mode_lost k d offset m o Over = refl
    read_mode_lost k d offset m o Append = refl

    read_by_lost : (k : KernelState S) (id : ℕ) (got : List ℕ) (r : Take) → read_by (lost k) pid after id got r ≡ lost (read_by k pid after id got r)
    read_by_lost k id got (Got m) = refl
    read_by_lost k id got Empty = refl
    read_by_lost k id got End = refl

    read_pipe_lost : (k : KernelState S) (id m : ℕ) (o : Option PipeState) → read_pipe (lost k) pid after id m o ≡ lost (read_pipe k pid after id m o)
    read_pipe_lost k id m None = refl
    read_pipe_lost k id m (Some p) = read_by_lost (record k { pipes = taken_from k.pipes id m (Some p) }) id (take m p.bytes) (take_answer p m)

    read_object_lost : (k : KernelState S) (d offset m : ℕ) (object : Object) → read_object (lost k) pid after d offset m object ≡ lost (read_object k pid after d offset m object)
    read_object_lost k d offset m Input = refl
    read_object_lost k d offset m Out = refl
    read_object_lost k d offset m Diag = refl
    read_object_lost k d offset m (File name mode) = read_mode_lost k d offset m (files k.files name) mode
    read_object_lost k d offset m (PipeRead id) = read_pipe_lost k id m (pipe_of k.pipes id)
    read_object_lost k d offset m (PipeWrite id) = refl

    read_entry_lost : (k : KernelState S) (d m : ℕ) (o : Option Opened) → read_entry (lost k) pid after d m o ≡ lost (read_entry k pid after d m o)
    read_entry_lost k d m None = refl
    read_entry_lost k d m (Some f) = read_object_lost k d f.offset m f.object

    -- an entry that isn't let go shows the same to a read, and to a write
    read_same : (j : KernelState S) (d m : ℕ) (x : Option Opened) → 1 < count_of x → read_entry j pid after d m (less_held x) ≡ read_entry j pid after d m x
    read_same j d m None many = refl
    read_same j d m (Some f) many = λ i. read_entry j pid after d m (if lt-leb f.count 1 many i then None else Some (record { object = f.object; count = f.count - 1; offset = f.offset }))

    write_same : (j : KernelState S) (d : ℕ) (b : List ℕ) (refused : Bool) (x : Option Opened) → 1 < count_of x → write_entry j pid after d b refused (less_held x) ≡ write_entry j pid after d b refused x
    write_same j d b refused None many = refl
    write_same j d b refused (Some f) many = λ i. write_entry j pid after d b refused (if lt-leb f.count 1 many i then None else Some (record { object = f.object; count = f.count - 1; offset = f.offset }))

    -- so does any entry
    seen_so : (t : Entries) (d : ℕ) (Q : Option Opened → KernelState S) → (d ≡ e → 1 < count_of (entry_at t e)) → ((x : Option Opened) → 1 < count_of x → Q (less_held x) ≡ Q x) → Q (entry_at (released t e) d) ≡ Q (entry_at t d)
    seen_so t d Q shared same = by (cases_eq d e) where
      by : (d ≡ e) ⊎ (d ≢ e) → Q (entry_at (released t e) d) ≡ Q (entry_at t d)
      by (inl is) = ap (λ (i : ℕ). Q (entry_at (released t e) i)) is ∙ ap Q (changed_entry less_held refl t e) ∙ same (entry_at t e) (shared is) ∙ ap (λ (i : ℕ). Q (entry_at t i)) (sym is)
      by (inr ne) = ap Q (get_or-set_other t e d (less_held (entry_at t e)) None ne)

    read_held_lost : (k : KernelState S) (m : ℕ) (o : Option ℕ) → ((d : ℕ) → o ≡ Some d → d ≡ e → 1 < count_of (entry_at k.entries e)) → read_held (lost k) pid after m o ≡ lost (read_held k pid after m o)
    read_held_lost k m None shared = refl
    read_held_lost k m (Some d) shared = seen_so k.entries d (read_entry (lost k) pid after d m) (shared d refl) (read_same (lost k) d m) ∙ read_entry_lost k d m (entry_at k.entries d)

    -- ---- write

    write_file_lost : (k : KernelState S) (d : ℕ) (file : List ℕ) (offset : ℕ) (b : List ℕ) (refused : Bool) (o : Option (List ℕ)) → write_file (lost k) pid after d file offset b refused o ≡ lost (write_file k pid after d file offset b refused o)
    write_file_lost k d file offset b refused None = refl
    write_file_lost k d file offset b refused (Some bytes) =
        let l : KernelState S = record k { files = with_entry k.files file (written bytes offset b) } in
        pick (nat_lt (length bytes) offset) _ _ _ _ refl
        (pick (nat_lt max_size (offset + length b)) _ _ _ _ refl
        (pick (lacks_memory refused (length bytes) (offset + length b)) _ _ _ _ refl
        (λ i. answered (record l { entries = advanced_less e k.entries d (length b) i }) pid after Done)))

    append_file_lost : (k : KernelState S) (d : ℕ) (file b : List ℕ) (refused : Bool) (o : Option (List ℕ)) → append_file (lost k) pid after d file b refused o ≡ lost (append_file k pid after d file b refused o)
    append_file_lost k d file b refused None = refl
    append_file_lost k d file b refused (Some bytes) =
        let l : KernelState S = record k { files = with_entry k.files file (bytes ++ b) } in
        pick (nat_lt max_size (length bytes + length b)) _ _ _ _ refl
        (pick (lacks_memory refused (length bytes) (length bytes + length b)) _ _ _ _ refl
        (λ i. answered (record l { entries = moved_to_less e k.entries d (length bytes + length b) i }) pid after Done))

    write_mode_lost : (k : KernelState S) (d : ℕ) (file : List ℕ) (offset : ℕ) (b : List ℕ) (refused : Bool) (mode : EntryMode) → write_mode (lost k) pid after d file offset b refused mode ≡ lost (write_mode k pid after d file offset b refused mode)
    write_mode_lost k d file offset b refused ForReading = refl
    write_mode_lost k d file offset b refused Fresh = write_file_lost k d file offset b refused (files k.files file)
    write_mode_lost k d file offset b refused Over = write_file_lost k d file offset b refused (files k.files file)
    write_mode_lost k d file offset b refused Append = append_file_lost k d file b refused (files k.files file)

    write_by_lost : (k : KernelState S) (id put left : ℕ) (r : Put) → write_by (lost k) pid after id put left r ≡ lost (write_by k pid after id put left r)
    write_by_lost k id put left (Took m) = pick (m == left) _ _ _ _ refl refl
    write_by_lost k id put left NoRoom = refl
    write_by_lost k id put left Closed = refl

    write_pipe_lost : (k : KernelState S) (id put : ℕ) (xs : List ℕ) (o : Option PipeState) → write_pipe (lost k) pid after id put xs o ≡ lost (write_pipe k pid after id put xs o)
    write_pipe_lost k id put xs None = refl
    write_pipe_lost k id put xs (Some p) = write_by_lost (record k { pipes = put_into k.pipes id xs (Some p) }) id put (length xs) (put_answer p xs)

    write_object_lost : (k : KernelState S) (d offset : ℕ) (b : List ℕ) (refused : Bool) (object : Object) → write_object (lost k) pid after d offset b refused object ≡ lost (write_object k pid after d offset b refused object)
    write_object_lost k d offset b refused Input = refl
    write_object_lost k d offset b refused Out = pick (lacks_memory refused (length k.out) (length k.out + length b)) _ _ _ _ refl refl
    write_object_lost k d offset b refused Diag = pick (lacks_memory refused (length k.diag) (length k.diag + length b)) _ _ _ _ refl refl
    write_object_lost k d offset b refused (File name mode) = write_mode_lost k d name offset b refused mode
    write_object_lost k d offset b refused (PipeRead id) = refl
    write_object_lost k d offset b refused (PipeWrite id) = write_pipe_lost k id (put_of (at k.table pid)) (drop (put_of (at k.table pid)) b) (pipe_of k.pipes id)

    write_entry_lost : (k : KernelState S) (d : ℕ) (b : List ℕ) (refused : Bool) (o : Option Opened) → write_entry (lost k) pid after d b refused o ≡ lost (write_entry k pid after d b refused o)
    write_entry_lost k d b refused None = refl
    write_entry_lost k d b refused (Some f) = write_object_lost k d f.offset b refused f.object

    write_held_lost : (k : KernelState S) (b : List ℕ) (refused : Bool) (o : Option ℕ) → ((d : ℕ) → o ≡ Some d → d ≡ e → 1 < count_of (entry_at k.entries e)) → write_held (lost k) pid after b refused o ≡ lost (write_held k pid after b refused o)
    write_held_lost k b refused None shared = refl
    write_held_lost k b refused (Some d) shared = seen_so k.entries d (write_entry (lost k) pid after d b refused) (shared d refl) (write_same (lost k) d b refused) ∙ write_entry_lost k d b refused (entry_at k.entries d)

    -- the calls that open and close nothing
    pub read_lost : (k : KernelState S) (fd m : ℕ) → IsShared k → read (lost k) pid after fd m ≡ lost (read k pid after fd m)
    read_lost k fd m shared = read_held_lost k (min m block_size) (entry_of (fds_at k pid) fd) (λ d. shared_by k fd d shared)

    pub write_lost : (k : KernelState S) (fd : ℕ) (b : List ℕ) (refused : Bool) → IsShared k → write (lost k) pid after fd b refused ≡ lost (write k pid after fd b refused)
    write_lost k fd b refused shared = write_held_lost k b refused (entry_of (fds_at k pid) fd) (λ d. shared_by k fd d shared)
