-- Each of the ten calls commutes with the kernel's being idle and with new names of its pipes.
use Rattle.std.proofs.Common.{◌≡◌, ℕ, zero, suc, ◌+◌, List, [], ◌++◌, Bool, true, false, Option, Some, None, length, drop, take, refl, ap, ◌∙◌}
use Rattle.std.specs.Prelude.{if◌then◌else◌, nat_lt, nat_le, ◌==◌, is_none, Result, Ok, Err, min}
use Rattle.user_calls.specs.declared.block.TheConstants.{BLOCK_SIZE}
use Rattle.user_calls.specs.declared.calls.Call.{Call}
use Rattle.user_calls.specs.declared.calls.Call.TheVariants.{Fork, Exec, Exit, Wait, MakePipe, Read, Write, OpenFile, Close, Dup}
use Rattle.user_calls.specs.declared.calls.Mode.{Mode}
use Rattle.user_calls.specs.declared.calls.Reply.{Reply}
use Rattle.user_calls.specs.declared.calls.Reply.TheVariants.{Done, Refused, Bytes, Fd}
use Rattle.fd_table.specs.declared.names.Mode.{Mode as EntryMode}
use Rattle.fd_table.specs.declared.names.Mode.TheVariants.{Input as ForReading, Fresh, Over, Append}
use Rattle.fd_table.specs.declared.names.Object.{Object}
use Rattle.fd_table.specs.declared.names.Object.TheVariants.{Input, Out, Diag, File, PipeRead, PipeWrite}
use Rattle.fd_table.specs.declared.faults.FdFault.{FdFault}
use Rattle.fd_table.specs.declared.faults.FdFault.TheVariants.{BadFd, FullFds, FullOpen}
use Rattle.fd_table.specs.declared.descriptors.TheConstants.{DESCRIPTORS}
use Rattle.fd_table.specs.Entries.{OpenFile as Opened, lowest_free_entry, free_count, advanced, moved_to, added}
use Rattle.fd_table.specs.Descriptors.{Descriptors, entry_of, lowest_free, dup_answer, close_answer, after_dup, after_close, released_by_close, held_by_dup, installed, all_held}
use Rattle.byte_pipe.specs.declared.Take.{Take}
use Rattle.byte_pipe.specs.declared.Take.TheVariants.{Got, Empty, End}
use Rattle.byte_pipe.specs.declared.Put.{Put}
use Rattle.byte_pipe.specs.declared.Put.TheVariants.{Took, Full as NoRoom, Closed}
use Rattle.byte_pipe.specs.PipeState.{PipeState, take_answer, put_answer}
use Rattle.mem_files.specs.Name.{is_openable}
use Rattle.mem_files.specs.Files.{files}
use Rattle.mem_files.specs.Overlay.{written}
use Rattle.mem_files.specs.Listing.{max_files, max_size, with_entry}
use Rattle.proc_table.specs.declared.states.Channel.{Channel}
use Rattle.proc_table.specs.declared.states.Channel.TheVariants.{PipeBytes, PipeRoom, Children}
use Rattle.proc_table.specs.declared.table.Waited.{Waited}
use Rattle.proc_table.specs.declared.table.Waited.TheVariants.{Reaped, NoChildren, MustSleep}
use Rattle.proc_table.specs.Slots.{at, put_of}
use Rattle.proc_table.specs.Calls.{lowest_free as lowest_free_slot, wait_answer, fds_set, forked, reaped}
use Rattle.kernel_model.specs.declared.events.Full.{Full}
use Rattle.kernel_model.specs.declared.events.Full.TheVariants.{Procs, Open, Fds, Files, Size, Memory}
use Rattle.kernel_model.specs.KernelState.{KernelState, fds_at, file_at}
use Rattle.kernel_model.specs.Pipes.{pipe_of, with_new, put_into, taken_from, reader_gone, writer_gone}
use Rattle.kernel_model.specs.Modes.{empties, entry_mode, reads}
use Rattle.kernel_model.specs.Replies.{answered, refused_for, sleeps, wakes}
use Rattle.kernel_model.specs.Descriptors.{let_go, let_go_of, taken_away, closed, closed_below, close, close_reply, dup, dup_by, copied, opened_at, with_open, with_reader, with_ends, ends_reply, make_pipe}
use Rattle.kernel_model.specs.Processes.{fork_into, ended, exit, wait_by}
use Rattle.kernel_model.specs.Opening.{emptied_if, with_bytes, open_here, open_reply, open_for_reading, open_for_writing, open_file}
use Rattle.kernel_model.specs.Reading.{read, read_file, read_mode, read_by, read_pipe, read_object, read_entry, read_held}
use Rattle.kernel_model.specs.Writing.{lacks_memory, write, write_file, append_file, write_mode, write_by, write_pipe, write_object, write_entry, write_held}
use Rattle.kernel_model.specs.Events.{acted}
use Rattle.kernel_model.specs.Idle.{renamed_channel, renamed_object, renamed_entry, idle_kernel}
use Rattle.kernel_model.specs.Alike.{IsOneToOne}
use Rattle.law_turns.proofs.orders.Tables.{idle_table, idle_fds, idle_put, ready_table, sleep_table, fds_table, idle_lowest, idle_wait, reaped_table, forked_table, woken_table, exited_table}
use Rattle.law_turns.proofs.orders.Entries.{renamed_answer, entries_renamed, file_renamed, lowest_renamed, free_renamed, advanced_renamed, moved_renamed, added_renamed, closed_renamed, answer_renamed, dup_renamed, all_held_renamed, pipes_renamed, pipe_renamed, new_renamed, put_renamed, taken_renamed, reader_renamed, writer_renamed}

module _ {S : Type 0} (name : ℕ → ℕ) (one : IsOneToOne name) (m pid : ℕ) where
  -- the kernel if nobody ran and its pipes had the names
  abbrev idle : KernelState S → KernelState S
  idle k = idle_kernel name m k

  pick : (c : Bool) (x y u v : KernelState S) → x ≡ idle u → y ≡ idle v → (if c then x else y) ≡ idle (if c then u else v)
  pick true x y u v is or = is
  pick false x y u v is or = or

  branch : (b c : Bool) (x y u v : KernelState S) → b ≡ c → x ≡ idle u → y ≡ idle v → (if b then x else y) ≡ idle (if c then u else v)
  branch b c x y u v same is or = ap (λ (r : Bool). if r then x else y) same ∙ pick c x y u v is or

  fds : (k : KernelState S) → fds_at (idle k) pid ≡ fds_at k pid
  fds k = idle_fds name k.table pid

  sleeping : (k : KernelState S) (c : Channel) (put : ℕ) → sleeps (idle k) pid (renamed_channel name c) put ≡ idle (sleeps k pid c put)
  sleeping k c put = λ i. record (idle k) { table = sleep_table name k.table pid c put i }

  waking : (k : KernelState S) (c : Channel) → wakes (renamed_channel name c) (idle k) ≡ idle (wakes c k)
  waking k c = λ i. record (idle k) { table = woken_table name one c k.table i }

  -- ---- close

  let_go_idle : (k : KernelState S) (object : Object) → let_go (idle k) (renamed_object name object) ≡ idle (let_go k object)
  let_go_idle k Input = refl
  let_go_idle k Out = refl
  let_go_idle k Diag = refl
  let_go_idle k (File file mode) = refl
  let_go_idle k (PipeRead id) =
      let gone : reader_gone (pipes_renamed name one k.pipes) (name id) (pipe_of (pipes_renamed name one k.pipes) (name id)) ≡ pipes_renamed name one (reader_gone k.pipes id (pipe_of k.pipes id)) =
      ap (reader_gone (pipes_renamed name one k.pipes) (name id)) (pipe_renamed name one k.pipes id) ∙ reader_renamed name one k.pipes id (pipe_of k.pipes id) in
      (λ i. wakes (PipeRoom (name id)) (record (idle k) { pipes = gone i })) ∙ waking (record k { pipes = reader_gone k.pipes id (pipe_of k.pipes id) }) (PipeRoom id)
  let_go_idle k (PipeWrite id) =
      let gone : writer_gone (pipes_renamed name one k.pipes) (name id) (pipe_of (pipes_renamed name one k.pipes) (name id)) ≡ pipes_renamed name one (writer_gone k.pipes id (pipe_of k.pipes id)) =
      ap (writer_gone (pipes_renamed name one k.pipes) (name id)) (pipe_renamed name one k.pipes id) ∙ writer_renamed name one k.pipes id (pipe_of k.pipes id) in
      (λ i. wakes (PipeBytes (name id)) (record (idle k) { pipes = gone i })) ∙ waking (record k { pipes = writer_gone k.pipes id (pipe_of k.pipes id) }) (PipeBytes id)

  let_go_of_idle : (k : KernelState S) (r : Result (Option Object) FdFault) → let_go_of (idle k) (renamed_answer name r) ≡ idle (let_go_of k r)
  let_go_of_idle k (Err fault) = refl
  let_go_of_idle k (Ok None) = refl
  let_go_of_idle k (Ok (Some object)) = let_go_idle k object

  away_idle : (k : KernelState S) (fd : ℕ) (o : Option ℕ) → taken_away (idle k) pid fd o ≡ idle (taken_away k pid fd o)
  away_idle k fd o =
      (λ i. record (idle k) { table = fds_set (idle_table name k.table) pid (after_close (fds k i) fd o); entries = closed_renamed name k.entries o i }) ∙
      (λ i. record (idle k) { table = fds_table name k.table pid (after_close (fds_at k pid) fd o) i; entries = entries_renamed name (released_by_close k.entries o) })

  held_answer : (k : KernelState S) (fd : ℕ) → close_answer (idle k).entries (entry_of (fds_at (idle k) pid) fd) ≡ renamed_answer name (close_answer k.entries (entry_of (fds_at k pid) fd))
  held_answer k fd = ap (λ (l : Descriptors). close_answer (idle k).entries (entry_of l fd)) (fds k) ∙ answer_renamed name k.entries (entry_of (fds_at k pid) fd)

  closed_idle : (k : KernelState S) (fd : ℕ) → closed (idle k) pid fd ≡ idle (closed k pid fd)
  closed_idle k fd =
      let held = entry_of (fds_at k pid) fd in
      (λ i. let_go_of (taken_away (idle k) pid fd (entry_of (fds k i) fd)) (held_answer k fd i)) ∙
      ap (λ (l : KernelState S). let_go_of l (renamed_answer name (close_answer k.entries held))) (away_idle k fd held) ∙
      let_go_of_idle (taken_away k pid fd held) (close_answer k.entries held)

  below_idle : (k : KernelState S) (n : ℕ) → closed_below (idle k) pid n ≡ idle (closed_below k pid n)
  unfolding closed_below
  below_idle k zero = refl
  below_idle k (suc n) = ap (λ (l : KernelState S). closed l pid n) (below_idle k n) ∙ closed_idle (closed_below k pid n) n

  -- ---- a new entry

  opened_idle : (k : KernelState S) (object : Object) (o : Option ℕ) → opened_at (idle k) pid (renamed_object name object) o ≡ idle (opened_at k pid object o)
  opened_idle k object None = refl
  opened_idle k object (Some e) =
      (λ i. record (idle k) { table = fds_set (idle_table name k.table) pid (installed (fds k i) e); entries = added_renamed name k.entries object i }) ∙
      (λ i. record (idle k) { table = fds_table name k.table pid (installed (fds_at k pid) e) i; entries = entries_renamed name (added k.entries object) })

  open_idle : (k : KernelState S) (object : Object) → with_open (idle k) pid (renamed_object name object) ≡ idle (with_open k pid object)
  open_idle k object = ap (opened_at (idle k) pid (renamed_object name object)) (lowest_renamed name k.entries) ∙ opened_idle k object (lowest_free_entry k.entries)

  reader_idle : (k : KernelState S) (id : ℕ) → with_reader (idle k) pid (name id) ≡ idle (with_reader k pid id)
  reader_idle k id =
      (λ i. with_open (record (idle k) { pipes = new_renamed name one k.pipes id i }) pid (PipeRead (name id))) ∙ open_idle (record k { pipes = with_new k.pipes id }) (PipeRead id)

  ends_idle : (k : KernelState S) (id : ℕ) → with_ends (idle k) pid (name id) ≡ idle (with_ends k pid id)
  ends_idle k id = ap (λ (l : KernelState S). with_open l pid (PipeWrite (name id))) (reader_idle k id) ∙ open_idle (with_reader k pid id) (PipeWrite id)

  module _ (after : S) where
    answering : (k : KernelState S) (reply : Reply) → answered (idle k) pid after reply ≡ idle (answered k pid after reply)
    answering k reply = λ i. record (idle k) { table = ready_table name k.table pid after reply i }

    refusing : (k : KernelState S) (full : Full) → refused_for (idle k) pid after full ≡ idle (refused_for k pid after full)
    refusing k full = λ i. record (refused_for (idle k) pid after full) { table = ready_table name k.table pid after Refused i }

    fork_idle : (k : KernelState S) (o : Option ℕ) → fork_into (idle k) pid after o ≡ idle (fork_into k pid after o)
    fork_idle k None = refusing k Procs
    fork_idle k (Some child) =
        let shared : KernelState S = record k { table = forked k.table child pid after (fds_at k pid); entries = all_held k.entries (fds_at k pid) } in
        (λ i. answered (record (idle k) { table = forked (idle_table name k.table) child pid after (fds k i); entries = all_held (entries_renamed name k.entries) (fds k i) }) pid after Done) ∙
        (λ i. answered (record (idle k) { table = forked_table name k.table child pid after (fds_at k pid) i; entries = all_held_renamed name k.entries (fds_at k pid) i }) pid after Done) ∙ answering shared Done

    exit_idle : (k : KernelState S) → exit (idle k) pid after ≡ idle (exit k pid after)
    exit_idle k =
        let gone : KernelState S = closed_below k pid DESCRIPTORS in
        pick (pid == 0) _ _ (answered k pid after Refused) (ended pid gone) (answering k Refused)
        (ap (ended pid) (below_idle k DESCRIPTORS) ∙ (λ i. record (idle gone) { table = exited_table name one gone.table pid i }))

    wait_idle : (k : KernelState S) (w : Waited) → wait_by (idle k) pid after w ≡ idle (wait_by k pid after w)
    wait_idle k (Reaped child) = (λ i. answered (record (idle k) { table = reaped_table name k.table pid i }) pid after Done) ∙ answering (record k { table = reaped k.table pid }) Done
    wait_idle k NoChildren = answering k Refused
    wait_idle k MustSleep = sleeping k (Children pid) 0

    close_idle : (k : KernelState S) (fd : ℕ) → close (idle k) pid after fd ≡ idle (close k pid after fd)
    close_idle k fd =
        let held = entry_of (fds_at k pid) fd in
        (λ i. answered (closed_idle k fd i) pid after (close_reply (held_answer k fd i))) ∙ by (close_answer k.entries held) where
          by : (r : Result (Option Object) FdFault) → answered (idle (closed k pid fd)) pid after (close_reply (renamed_answer name r)) ≡ idle (answered (closed k pid fd) pid after (close_reply r))
          by (Ok o) = answering (closed k pid fd) Done
          by (Err fault) = answering (closed k pid fd) Refused

    dup_by_idle : (k : KernelState S) (r : Result ℕ FdFault) → dup_by (idle k) pid after r ≡ idle (dup_by k pid after r)
    dup_by_idle k (Ok fd) = answering k (Fd fd)
    dup_by_idle k (Err BadFd) = answering k Refused
    dup_by_idle k (Err FullFds) = refusing k Fds
    dup_by_idle k (Err FullOpen) = refusing k Open

    copied_idle : (k : KernelState S) (o place : Option ℕ) → copied (idle k) pid o place ≡ idle (copied k pid o place)
    copied_idle k o place =
        (λ i. record (idle k) { table = fds_set (idle_table name k.table) pid (after_dup (fds k i) o place); entries = dup_renamed name k.entries o place i }) ∙
        (λ i. record (idle k) { table = fds_table name k.table pid (after_dup (fds_at k pid) o place) i; entries = entries_renamed name (held_by_dup k.entries o place) })

    dup_idle : (k : KernelState S) (fd : ℕ) → dup (idle k) pid after fd ≡ idle (dup k pid after fd)
    dup_idle k fd =
        let o = entry_of (fds_at k pid) fd in
        let place = lowest_free (fds_at k pid) in
        (λ i. dup_by (copied (idle k) pid (entry_of (fds k i) fd) (lowest_free (fds k i))) pid after (dup_answer (entry_of (fds k i) fd) (lowest_free (fds k i)))) ∙
        ap (λ (l : KernelState S). dup_by l pid after (dup_answer o place)) (copied_idle k o place) ∙ dup_by_idle (copied k pid o place) (dup_answer o place)

    made_idle : (k : KernelState S) (id : ℕ) → answered (with_ends (idle k) pid (name id)) pid after (ends_reply (lowest_free (fds_at (idle k) pid)) (lowest_free (fds_at (with_reader (idle k) pid (name id)) pid)))
        ≡ idle (answered (with_ends k pid id) pid after (ends_reply (lowest_free (fds_at k pid)) (lowest_free (fds_at (with_reader k pid id) pid))))
    made_idle k id =
        let there : fds_at (with_reader (idle k) pid (name id)) pid ≡ fds_at (with_reader k pid id) pid = ap (λ (l : KernelState S). fds_at l pid) (reader_idle k id) ∙ fds (with_reader k pid id) in
        (λ i. answered (ends_idle k id i) pid after (ends_reply (lowest_free (fds k i)) (lowest_free (there i)))) ∙ answering (with_ends k pid id) _

    pipe_idle : (k : KernelState S) (refused : Bool) → m ≡ name k.events → make_pipe (idle k) pid after refused ≡ idle (make_pipe k pid after refused)
    pipe_idle k refused is =
        branch (nat_lt (free_count (idle k).entries) 2) (nat_lt (free_count k.entries) 2) _ _ _ _ (ap (λ (n : ℕ). nat_lt n 2) (free_renamed name k.entries)) (refusing k Open)
        (branch (nat_lt (free_count (fds_at (idle k) pid)) 2) (nat_lt (free_count (fds_at k pid)) 2) _ _ _ _ (ap (λ (l : Descriptors). nat_lt (free_count l) 2) (fds k)) (refusing k Fds)
        (pick refused _ _ _ _ (refusing k Memory)
        ((λ i. answered (with_ends (idle k) pid (is i)) pid after (ends_reply (lowest_free (fds_at (idle k) pid)) (lowest_free (fds_at (with_reader (idle k) pid (is i)) pid)))) ∙ made_idle k k.events)))

    -- ---- open

    here_idle : (k : KernelState S) (file : List ℕ) (mode : Mode) → open_here (idle k) pid after file mode ≡ idle (open_here k pid after file mode)
    here_idle k file mode =
        let object = File file (entry_mode mode) in
        (λ i. answered (open_idle k object i) pid after (open_reply (lowest_free (fds k i)))) ∙ answering (with_open k pid object) _

    emptied_idle : (b : Bool) (k : KernelState S) (file : List ℕ) → emptied_if b (idle k) file ≡ idle (emptied_if b k file)
    emptied_idle true k file = refl
    emptied_idle false k file = refl

    for_reading_idle : (k : KernelState S) (file : List ℕ) (mode : Mode) (o : Option (List ℕ)) → open_for_reading (idle k) pid after file mode o ≡ idle (open_for_reading k pid after file mode o)
    for_reading_idle k file mode None = answering k Refused
    for_reading_idle k file mode (Some bytes) = here_idle k file mode

    for_writing_idle : (k : KernelState S) (file : List ℕ) (mode : Mode) (refused : Bool) (o : Option (List ℕ)) → open_for_writing (idle k) pid after file mode refused o ≡ idle (open_for_writing k pid after file mode refused o)
    for_writing_idle k file mode refused None =
        pick (nat_le max_files (length k.files)) _ _ _ _ (refusing k Files) (pick refused _ _ _ _ (refusing k Memory) (here_idle (with_bytes k file []) file mode))
    for_writing_idle k file mode refused (Some bytes) =
        ap (λ (l : KernelState S). open_here l pid after file mode) (emptied_idle (empties mode) k file) ∙ here_idle (emptied_if (empties mode) k file) file mode

    open_file_idle : (k : KernelState S) (file : List ℕ) (mode : Mode) (refused : Bool) → open_file (idle k) pid after file mode refused ≡ idle (open_file k pid after file mode refused)
    open_file_idle k file mode refused =
        branch (free_count (idle k).entries == 0) (free_count k.entries == 0) _ _ _ _ (ap (λ (n : ℕ). n == 0) (free_renamed name k.entries)) (refusing k Open)
        (branch (is_none (lowest_free (fds_at (idle k) pid))) (is_none (lowest_free (fds_at k pid))) _ _ _ _ (ap (λ (l : Descriptors). is_none (lowest_free l)) (fds k)) (refusing k Fds)
        (pick (is_openable file) _ _ _ _
        (pick (reads mode) _ _ _ _ (for_reading_idle k file mode (files k.files file)) (for_writing_idle k file mode refused (files k.files file)))
        (answering k Refused)))

    -- ---- read

    read_file_idle : (k : KernelState S) (e offset n : ℕ) (o : Option (List ℕ)) → read_file (idle k) pid after e offset n o ≡ idle (read_file k pid after e offset n o)
    read_file_idle k e offset n None = answering k Refused
    read_file_idle k e offset n (Some bytes) =
        let got = take n (drop offset bytes) in
        (λ i. answered (record (idle k) { entries = advanced_renamed name k.entries e (length got) i }) pid after (Bytes got)) ∙ answering (record k { entries = advanced k.entries e (length got) }) (Bytes got)

    read_mode_idle : (k : KernelState S) (e offset n : ℕ) (o : Option (List ℕ)) (mode : EntryMode) → read_mode (idle k) pid after e offset n o mode ≡ idle (read_mode k pid after e offset n o mode)
    read_mode_idle k e offset n o ForReading = read_file_idle k e offset n o
    read_mode_idle k e offset n o Fresh = answering k Refused
    read_mode_idle k e offset n o Over = answering k Refused
    read_mode_idle k e offset n o Append = answering k Refused

    read_by_idle : (k : KernelState S) (id : ℕ) (got : List ℕ) (r : Take) → read_by (idle k) pid after (name id) got r ≡ idle (read_by k pid after id got r)
    read_by_idle k id got (Got n) = ap (wakes (PipeRoom (name id))) (answering k (Bytes got)) ∙ waking (answered k pid after (Bytes got)) (PipeRoom id)
    read_by_idle k id got Empty = sleeping k (PipeBytes id) 0
    read_by_idle k id got End = answering k (Bytes [])

    read_pipe_idle : (k : KernelState S) (id n : ℕ) (o : Option PipeState) → read_pipe (idle k) pid after (name id) n o ≡ idle (read_pipe k pid after id n o)
    read_pipe_idle k id n None = answering k Refused
    read_pipe_idle k id n (Some p) =
        (λ i. read_by (record (idle k) { pipes = taken_renamed name one k.pipes id n (Some p) i }) pid after (name id) (take n p.bytes) (take_answer p n)) ∙
        read_by_idle (record k { pipes = taken_from k.pipes id n (Some p) }) id (take n p.bytes) (take_answer p n)

    read_object_idle : (k : KernelState S) (e offset n : ℕ) (object : Object) → read_object (idle k) pid after e offset n (renamed_object name object) ≡ idle (read_object k pid after e offset n object)
    read_object_idle k e offset n Input = answering (record k { input = drop n k.input }) (Bytes (take n k.input))
    read_object_idle k e offset n Out = answering k Refused
    read_object_idle k e offset n Diag = answering k Refused
    read_object_idle k e offset n (File file mode) = read_mode_idle k e offset n (files k.files file) mode
    read_object_idle k e offset n (PipeRead id) = ap (read_pipe (idle k) pid after (name id) n) (pipe_renamed name one k.pipes id) ∙ read_pipe_idle k id n (pipe_of k.pipes id)
    read_object_idle k e offset n (PipeWrite id) = answering k Refused

    read_entry_idle : (k : KernelState S) (e n : ℕ) (o : Option Opened) → read_entry (idle k) pid after e n (renamed_entry name o) ≡ idle (read_entry k pid after e n o)
    read_entry_idle k e n None = answering k Refused
    read_entry_idle k e n (Some f) = read_object_idle k e f.offset n f.object

    read_held_idle : (k : KernelState S) (n : ℕ) (o : Option ℕ) → read_held (idle k) pid after n o ≡ idle (read_held k pid after n o)
    read_held_idle k n None = answering k Refused
    read_held_idle k n (Some e) = ap (read_entry (idle k) pid after e n) (file_renamed name k.entries (Some e)) ∙ read_entry_idle k e n (file_at k.entries (Some e))

    read_idle : (k : KernelState S) (fd n : ℕ) → read (idle k) pid after fd n ≡ idle (read k pid after fd n)
    read_idle k fd n = ap (λ (l : Descriptors). read_held (idle k) pid after (min n BLOCK_SIZE) (entry_of l fd)) (fds k) ∙ read_held_idle k (min n BLOCK_SIZE) (entry_of (fds_at k pid) fd)

    -- ---- write

    write_file_idle : (k : KernelState S) (e : ℕ) (file : List ℕ) (offset : ℕ) (b : List ℕ) (refused : Bool) (o : Option (List ℕ)) → write_file (idle k) pid after e file offset b refused o ≡ idle (write_file k pid after e file offset b refused o)
    write_file_idle k e file offset b refused None = answering k Refused
    write_file_idle k e file offset b refused (Some bytes) =
        let l : KernelState S = record k { files = with_entry k.files file (written bytes offset b) } in
        pick (nat_lt (length bytes) offset) _ _ _ _ (answering k Refused)
        (pick (nat_lt max_size (offset + length b)) _ _ _ _ (refusing k Size)
        (pick (lacks_memory refused (length bytes) (offset + length b)) _ _ _ _ (refusing k Memory)
        ((λ i. answered (record (idle l) { entries = advanced_renamed name k.entries e (length b) i }) pid after Done) ∙ answering (record l { entries = advanced k.entries e (length b) }) Done)))

    append_file_idle : (k : KernelState S) (e : ℕ) (file b : List ℕ) (refused : Bool) (o : Option (List ℕ)) → append_file (idle k) pid after e file b refused o ≡ idle (append_file k pid after e file b refused o)
    append_file_idle k e file b refused None = answering k Refused
    append_file_idle k e file b refused (Some bytes) =
        let l : KernelState S = record k { files = with_entry k.files file (bytes ++ b) } in
        pick (nat_lt max_size (length bytes + length b)) _ _ _ _ (refusing k Size)
        (pick (lacks_memory refused (length bytes) (length bytes + length b)) _ _ _ _ (refusing k Memory)
        ((λ i. answered (record (idle l) { entries = moved_renamed name k.entries e (length bytes + length b) i }) pid after Done) ∙ answering (record l { entries = moved_to k.entries e (length bytes + length b) }) Done))

    write_mode_idle : (k : KernelState S) (e : ℕ) (file : List ℕ) (offset : ℕ) (b : List ℕ) (refused : Bool) (mode : EntryMode) → write_mode (idle k) pid after e file offset b refused mode ≡ idle (write_mode k pid after e file offset b refused mode)
    write_mode_idle k e file offset b refused ForReading = answering k Refused
    write_mode_idle k e file offset b refused Fresh = write_file_idle k e file offset b refused (files k.files file)
    write_mode_idle k e file offset b refused Over = write_file_idle k e file offset b refused (files k.files file)
    write_mode_idle k e file offset b refused Append = append_file_idle k e file b refused (files k.files file)

    write_by_idle : (k : KernelState S) (id put left : ℕ) (r : Put) → write_by (idle k) pid after (name id) put left r ≡ idle (write_by k pid after id put left r)
    write_by_idle k id put left (Took n) =
        pick (n == left) _ _ _ _ (ap (wakes (PipeBytes (name id))) (answering k Done) ∙ waking (answered k pid after Done) (PipeBytes id))
        (ap (wakes (PipeBytes (name id))) (sleeping k (PipeRoom id) (put + n)) ∙ waking (sleeps k pid (PipeRoom id) (put + n)) (PipeBytes id))
    write_by_idle k id put left NoRoom = ap (wakes (PipeBytes (name id))) (sleeping k (PipeRoom id) put) ∙ waking (sleeps k pid (PipeRoom id) put) (PipeBytes id)
    write_by_idle k id put left Closed = answering k Refused

    write_pipe_idle : (k : KernelState S) (id put : ℕ) (xs : List ℕ) (o : Option PipeState) → write_pipe (idle k) pid after (name id) put xs o ≡ idle (write_pipe k pid after id put xs o)
    write_pipe_idle k id put xs None = answering k Refused
    write_pipe_idle k id put xs (Some p) =
        (λ i. write_by (record (idle k) { pipes = put_renamed name one k.pipes id xs (Some p) i }) pid after (name id) put (length xs) (put_answer p xs)) ∙
        write_by_idle (record k { pipes = put_into k.pipes id xs (Some p) }) id put (length xs) (put_answer p xs)

    write_object_idle : (k : KernelState S) (e offset : ℕ) (b : List ℕ) (refused : Bool) (object : Object) → write_object (idle k) pid after e offset b refused (renamed_object name object) ≡ idle (write_object k pid after e offset b refused object)
    write_object_idle k e offset b refused Input = answering k Refused
    write_object_idle k e offset b refused Out = pick (lacks_memory refused (length k.out) (length k.out + length b)) _ _ _ _ (refusing k Memory) (answering (record k { out = k.out ++ b }) Done)
    write_object_idle k e offset b refused Diag = pick (lacks_memory refused (length k.diag) (length k.diag + length b)) _ _ _ _ (refusing k Memory) (answering (record k { diag = k.diag ++ b }) Done)
    write_object_idle k e offset b refused (File file mode) = write_mode_idle k e file offset b refused mode
    write_object_idle k e offset b refused (PipeRead id) = answering k Refused
    write_object_idle k e offset b refused (PipeWrite id) =
        let put = put_of (at k.table pid) in
        (λ i. write_pipe (idle k) pid after (name id) (idle_put name k.table pid i) (drop (idle_put name k.table pid i) b) (pipe_renamed name one k.pipes id i)) ∙ write_pipe_idle k id put (drop put b) (pipe_of k.pipes id)

    write_entry_idle : (k : KernelState S) (e : ℕ) (b : List ℕ) (refused : Bool) (o : Option Opened) → write_entry (idle k) pid after e b refused (renamed_entry name o) ≡ idle (write_entry k pid after e b refused o)
    write_entry_idle k e b refused None = answering k Refused
    write_entry_idle k e b refused (Some f) = write_object_idle k e f.offset b refused f.object

    write_held_idle : (k : KernelState S) (b : List ℕ) (refused : Bool) (o : Option ℕ) → write_held (idle k) pid after b refused o ≡ idle (write_held k pid after b refused o)
    write_held_idle k b refused None = answering k Refused
    write_held_idle k b refused (Some e) = ap (write_entry (idle k) pid after e b refused) (file_renamed name k.entries (Some e)) ∙ write_entry_idle k e b refused (file_at k.entries (Some e))

    write_idle : (k : KernelState S) (fd : ℕ) (b : List ℕ) (refused : Bool) → write (idle k) pid after fd b refused ≡ idle (write k pid after fd b refused)
    write_idle k fd b refused = ap (λ (l : Descriptors). write_held (idle k) pid after b refused (entry_of l fd)) (fds k) ∙ write_held_idle k b refused (entry_of (fds_at k pid) fd)

    -- any call of pid, if m is the new name of the pipe that this event would make
    pub acted_idle : (k : KernelState S) (call : Call) (refused : Bool) → m ≡ name k.events → acted (idle k) pid after call refused ≡ idle (acted k pid after call refused)
    acted_idle k Fork refused is = ap (fork_into (idle k) pid after) (idle_lowest name k.table) ∙ fork_idle k (lowest_free_slot k.table)
    acted_idle k (Exec found) refused is = answering k _
    acted_idle k Exit refused is = exit_idle k
    acted_idle k Wait refused is = ap (wait_by (idle k) pid after) (idle_wait name k.table pid) ∙ wait_idle k (wait_answer k.table pid)
    acted_idle k MakePipe refused is = pipe_idle k refused is
    acted_idle k (Read fd n) refused is = read_idle k fd n
    acted_idle k (Write fd b) refused is = write_idle k fd b refused
    acted_idle k (OpenFile file mode) refused is = open_file_idle k file mode refused
    acted_idle k (Close fd) refused is = close_idle k fd
    acted_idle k (Dup fd) refused is = dup_idle k fd
