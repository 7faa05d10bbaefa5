-- Each of the ten calls of one process commutes with another machine, reply and descriptors of another process.
use Rattle.std.proofs.Common.{◌≡◌, ◌≢◌, ℕ, zero, suc, ◌+◌, List, [], ◌++◌, Bool, true, false, Option, Some, None, length, drop, take, refl, ap, ◌∙◌}
use Rattle.std.specs.Prelude.{if◌then◌else◌, nat_lt, nat_le, ◌==◌, is_none, Result, Ok, Err, min}
use Rattle.user_calls.specs.declared.block.TheConstants.{BLOCK_SIZE}
use Rattle.user_calls.specs.declared.calls.Call.{Call}
use Rattle.user_calls.specs.declared.calls.Call.TheVariants.{Fork, Exec, Exit, Wait, MakePipe, Read, Write, OpenFile, Close, Dup}
use Rattle.user_calls.specs.declared.calls.Mode.{Mode}
use Rattle.user_calls.specs.declared.calls.Reply.{Reply}
use Rattle.user_calls.specs.declared.calls.Reply.TheVariants.{Done, Refused, Bytes, Fd}
use Rattle.fd_table.specs.declared.names.Mode.{Mode as EntryMode}
use Rattle.fd_table.specs.declared.names.Mode.TheVariants.{Input as ForReading, Fresh, Over, Append}
use Rattle.fd_table.specs.declared.names.Object.{Object}
use Rattle.fd_table.specs.declared.names.Object.TheVariants.{Input, Out, Diag, File, PipeRead, PipeWrite}
use Rattle.fd_table.specs.declared.faults.FdFault.{FdFault}
use Rattle.fd_table.specs.declared.faults.FdFault.TheVariants.{BadFd, FullFds, FullOpen}
use Rattle.fd_table.specs.declared.descriptors.TheConstants.{DESCRIPTORS}
use Rattle.fd_table.specs.Entries.{OpenFile as Opened, lowest_free_entry, free_count, advanced, moved_to, added}
use Rattle.fd_table.specs.Descriptors.{Descriptors, entry_of, lowest_free, dup_answer, close_answer, after_dup, after_close, released_by_close, held_by_dup, installed, all_held}
use Rattle.byte_pipe.specs.declared.Take.{Take}
use Rattle.byte_pipe.specs.declared.Take.TheVariants.{Got, Empty, End}
use Rattle.byte_pipe.specs.declared.Put.{Put}
use Rattle.byte_pipe.specs.declared.Put.TheVariants.{Took, Full as NoRoom, Closed}
use Rattle.byte_pipe.specs.PipeState.{PipeState, take_answer, put_answer}
use Rattle.mem_files.specs.Name.{is_openable}
use Rattle.mem_files.specs.Files.{files}
use Rattle.mem_files.specs.Overlay.{written}
use Rattle.mem_files.specs.Listing.{max_files, max_size, with_entry}
use Rattle.proc_table.specs.declared.states.Channel.{Channel}
use Rattle.proc_table.specs.declared.states.Channel.TheVariants.{PipeBytes, PipeRoom, Children}
use Rattle.proc_table.specs.declared.table.Waited.{Waited}
use Rattle.proc_table.specs.declared.table.Waited.TheVariants.{Reaped, NoChildren, MustSleep}
use Rattle.proc_table.specs.Slots.{at, put_of}
use Rattle.proc_table.specs.Calls.{lowest_free as lowest_free_slot, wait_answer, fds_set, forked, reaped}
use Rattle.kernel_model.specs.declared.events.Full.{Full}
use Rattle.kernel_model.specs.declared.events.Full.TheVariants.{Procs, Open, Fds, Files, Size, Memory}
use Rattle.kernel_model.specs.KernelState.{KernelState, fds_at, file_at}
use Rattle.kernel_model.specs.Pipes.{pipe_of, with_new, put_into, taken_from, reader_gone, writer_gone}
use Rattle.kernel_model.specs.Modes.{empties, entry_mode, reads}
use Rattle.kernel_model.specs.Replies.{answered, refused_for, sleeps, wakes}
use Rattle.kernel_model.specs.Descriptors.{let_go, let_go_of, taken_away, closed, closed_below, close, close_reply, dup, dup_by, copied, opened_at, with_open, with_reader, with_ends, ends_reply, make_pipe}
use Rattle.kernel_model.specs.Processes.{fork_into, ended, exit, wait_by}
use Rattle.kernel_model.specs.Opening.{emptied_if, with_bytes, open_here, open_reply, open_for_reading, open_for_writing, open_file}
use Rattle.kernel_model.specs.Reading.{read, read_file, read_mode, read_by, read_pipe, read_object, read_entry, read_held}
use Rattle.kernel_model.specs.Writing.{lacks_memory, write, write_file, append_file, write_mode, write_by, write_pipe, write_object, write_entry, write_held}
use Rattle.kernel_model.specs.Events.{acted}
use Rattle.proc_table.specs.Slots.{Table, is_free, is_zombie}
use Rattle.law_turns.specs.Retold.{Left, retold_table, retold}
use Rattle.law_turns.proofs.private_turns.Unseen.{fds_told, put_told, ready_told, sleep_told, set_fds_told, woken_told, lowest_told, wait_told, forked_told, reaped_told, exited_told}

module _ {S : Type 0} (p : ℕ) (l : Left S) (pid : ℕ) (other : pid ≢ p) where
  -- the kernel with something else in p's slot
  abbrev told : KernelState S → KernelState S
  told k = retold p l k

  abbrev T : Table S → Table S
  T t = retold_table p l t

  pick : (c : Bool) (x y u v : KernelState S) → x ≡ told u → y ≡ told v → (if c then x else y) ≡ told (if c then u else v)
  pick true x y u v is or = is
  pick false x y u v is or = or

  branch : (b c : Bool) (x y u v : KernelState S) → b ≡ c → x ≡ told u → y ≡ told v → (if b then x else y) ≡ told (if c then u else v)
  branch b c x y u v same is or = ap (λ (r : Bool). if r then x else y) same ∙ pick c x y u v is or

  fds : (k : KernelState S) → fds_at (told k) pid ≡ fds_at k pid
  fds k = fds_told p l pid other k.table

  sleeping : (k : KernelState S) (c : Channel) (put : ℕ) → sleeps (told k) pid c put ≡ told (sleeps k pid c put)
  sleeping k c put = λ i. record (told k) { table = sleep_told p l pid other k.table c put i }

  waking : (k : KernelState S) (c : Channel) → wakes c (told k) ≡ told (wakes c k)
  waking k c = λ i. record (told k) { table = woken_told p l pid other c k.table i }

  -- ---- close

  let_go_told : (k : KernelState S) (object : Object) → let_go (told k) object ≡ told (let_go k object)
  let_go_told k Input = refl
  let_go_told k Out = refl
  let_go_told k Diag = refl
  let_go_told k (File file mode) = refl
  let_go_told k (PipeRead id) = waking (record k { pipes = reader_gone k.pipes id (pipe_of k.pipes id) }) (PipeRoom id)
  let_go_told k (PipeWrite id) = waking (record k { pipes = writer_gone k.pipes id (pipe_of k.pipes id) }) (PipeBytes id)

  let_go_of_told : (k : KernelState S) (r : Result (Option Object) FdFault) → let_go_of (told k) r ≡ told (let_go_of k r)
  let_go_of_told k (Err fault) = refl
  let_go_of_told k (Ok None) = refl
  let_go_of_told k (Ok (Some object)) = let_go_told k object

  away_told : (k : KernelState S) (fd : ℕ) (o : Option ℕ) → taken_away (told k) pid fd o ≡ told (taken_away k pid fd o)
  away_told k fd o =
      (λ i. record (told k) { table = fds_set (T k.table) pid (after_close (fds k i) fd o); entries = released_by_close k.entries o }) ∙
      (λ i. record (told k) { table = set_fds_told p l pid other k.table (after_close (fds_at k pid) fd o) i; entries = released_by_close k.entries o })

  held_answer : (k : KernelState S) (fd : ℕ) → close_answer (told k).entries (entry_of (fds_at (told k) pid) fd) ≡ close_answer k.entries (entry_of (fds_at k pid) fd)
  held_answer k fd = ap (λ (l : Descriptors). close_answer (told k).entries (entry_of l fd)) (fds k)

  closed_told : (k : KernelState S) (fd : ℕ) → closed (told k) pid fd ≡ told (closed k pid fd)
  closed_told k fd =
      let held = entry_of (fds_at k pid) fd in
      (λ i. let_go_of (taken_away (told k) pid fd (entry_of (fds k i) fd)) (held_answer k fd i)) ∙
      ap (λ (l : KernelState S). let_go_of l (close_answer k.entries held)) (away_told k fd held) ∙
      let_go_of_told (taken_away k pid fd held) (close_answer k.entries held)

  below_told : (k : KernelState S) (n : ℕ) → closed_below (told k) pid n ≡ told (closed_below k pid n)
  unfolding closed_below
  below_told k zero = refl
  below_told k (suc n) = ap (λ (l : KernelState S). closed l pid n) (below_told k n) ∙ closed_told (closed_below k pid n) n

  -- ---- a new entry

  opened_told : (k : KernelState S) (object : Object) (o : Option ℕ) → opened_at (told k) pid object o ≡ told (opened_at k pid object o)
  opened_told k object None = refl
  opened_told k object (Some e) =
      (λ i. record (told k) { table = fds_set (T k.table) pid (installed (fds k i) e); entries = added k.entries object }) ∙
      (λ i. record (told k) { table = set_fds_told p l pid other k.table (installed (fds_at k pid) e) i; entries = added k.entries object })

  open_told : (k : KernelState S) (object : Object) → with_open (told k) pid object ≡ told (with_open k pid object)
  open_told k object = opened_told k object (lowest_free_entry k.entries)

  reader_told : (k : KernelState S) (id : ℕ) → with_reader (told k) pid id ≡ told (with_reader k pid id)
  reader_told k id =
      open_told (record k { pipes = with_new k.pipes id }) (PipeRead id)

  ends_told : (k : KernelState S) (id : ℕ) → with_ends (told k) pid id ≡ told (with_ends k pid id)
  ends_told k id = ap (λ (l : KernelState S). with_open l pid (PipeWrite id)) (reader_told k id) ∙ open_told (with_reader k pid id) (PipeWrite id)

  module _ (after : S) where
    answering : (k : KernelState S) (reply : Reply) → answered (told k) pid after reply ≡ told (answered k pid after reply)
    answering k reply = λ i. record (told k) { table = ready_told p l pid other k.table after reply i }

    refusing : (k : KernelState S) (full : Full) → refused_for (told k) pid after full ≡ told (refused_for k pid after full)
    refusing k full = λ i. record (refused_for (told k) pid after full) { table = ready_told p l pid other k.table after Refused i }

    fork_told : (k : KernelState S) (o : Option ℕ) → is_free (at k.table p) ≡ false → lowest_free_slot k.table ≡ o → fork_into (told k) pid after o ≡ told (fork_into k pid after o)
    fork_told k None used found = refusing k Procs
    fork_told k (Some child) used found =
        let shared : KernelState S = record k { table = forked k.table child pid after (fds_at k pid); entries = all_held k.entries (fds_at k pid) } in
        (λ i. answered (record (told k) { table = forked (T k.table) child pid after (fds k i); entries = all_held k.entries (fds k i) }) pid after Done) ∙
        (λ i. answered (record (told k) { table = forked_told p l pid other k.table child after (fds_at k pid) used found i; entries = all_held k.entries (fds_at k pid) }) pid after Done) ∙ answering shared Done

    exit_told : (k : KernelState S) → exit (told k) pid after ≡ told (exit k pid after)
    exit_told k =
        let gone : KernelState S = closed_below k pid DESCRIPTORS in
        pick (pid == 0) _ _ (answered k pid after Refused) (ended pid gone) (answering k Refused)
        (ap (ended pid) (below_told k DESCRIPTORS) ∙ (λ i. record (told gone) { table = exited_told p l pid other gone.table i }))

    waits_told : (k : KernelState S) (w : Waited) → is_zombie (at k.table p) ≡ false → wait_by (told k) pid after w ≡ told (wait_by k pid after w)
    waits_told k (Reaped child) alive = (λ i. answered (record (told k) { table = reaped_told p l pid other k.table alive i }) pid after Done) ∙ answering (record k { table = reaped k.table pid }) Done
    waits_told k NoChildren alive = answering k Refused
    waits_told k MustSleep alive = sleeping k (Children pid) 0

    close_told : (k : KernelState S) (fd : ℕ) → close (told k) pid after fd ≡ told (close k pid after fd)
    close_told k fd =
        let held = entry_of (fds_at k pid) fd in
        (λ i. answered (closed_told k fd i) pid after (close_reply (held_answer k fd i))) ∙ by (close_answer k.entries held) where
          by : (r : Result (Option Object) FdFault) → answered (told (closed k pid fd)) pid after (close_reply r) ≡ told (answered (closed k pid fd) pid after (close_reply r))
          by (Ok o) = answering (closed k pid fd) Done
          by (Err fault) = answering (closed k pid fd) Refused

    dup_by_told : (k : KernelState S) (r : Result ℕ FdFault) → dup_by (told k) pid after r ≡ told (dup_by k pid after r)
    dup_by_told k (Ok fd) = answering k (Fd fd)
    dup_by_told k (Err BadFd) = answering k Refused
    dup_by_told k (Err FullFds) = refusing k Fds
    dup_by_told k (Err FullOpen) = refusing k Open

    copied_told : (k : KernelState S) (o place : Option ℕ) → copied (told k) pid o place ≡ told (copied k pid o place)
    copied_told k o place =
        (λ i. record (told k) { table = fds_set (T k.table) pid (after_dup (fds k i) o place); entries = held_by_dup k.entries o place }) ∙
        (λ i. record (told k) { table = set_fds_told p l pid other k.table (after_dup (fds_at k pid) o place) i; entries = held_by_dup k.entries o place })

    dup_told : (k : KernelState S) (fd : ℕ) → dup (told k) pid after fd ≡ told (dup k pid after fd)
    dup_told k fd =
        let o = entry_of (fds_at k pid) fd in
        let place = lowest_free (fds_at k pid) in
        (λ i. dup_by (copied (told k) pid (entry_of (fds k i) fd) (lowest_free (fds k i))) pid after (dup_answer (entry_of (fds k i) fd) (lowest_free (fds k i)))) ∙
        ap (λ (l : KernelState S). dup_by l pid after (dup_answer o place)) (copied_told k o place) ∙ dup_by_told (copied k pid o place) (dup_answer o place)

    made_told : (k : KernelState S) (id : ℕ) → answered (with_ends (told k) pid id) pid after (ends_reply (lowest_free (fds_at (told k) pid)) (lowest_free (fds_at (with_reader (told k) pid id) pid)))
        ≡ told (answered (with_ends k pid id) pid after (ends_reply (lowest_free (fds_at k pid)) (lowest_free (fds_at (with_reader k pid id) pid))))
    made_told k id =
        let there : fds_at (with_reader (told k) pid id) pid ≡ fds_at (with_reader k pid id) pid = ap (λ (l : KernelState S). fds_at l pid) (reader_told k id) ∙ fds (with_reader k pid id) in
        (λ i. answered (ends_told k id i) pid after (ends_reply (lowest_free (fds k i)) (lowest_free (there i)))) ∙ answering (with_ends k pid id) _

    pipe_told : (k : KernelState S) (refused : Bool) → make_pipe (told k) pid after refused ≡ told (make_pipe k pid after refused)
    pipe_told k refused =
        pick (nat_lt (free_count k.entries) 2) _ _ _ _ (refusing k Open)
        (branch (nat_lt (free_count (fds_at (told k) pid)) 2) (nat_lt (free_count (fds_at k pid)) 2) _ _ _ _ (ap (λ (l : Descriptors). nat_lt (free_count l) 2) (fds k)) (refusing k Fds)
        (pick refused _ _ _ _ (refusing k Memory)
        (made_told k k.events)))

    -- ---- open

    here_told : (k : KernelState S) (file : List ℕ) (mode : Mode) → open_here (told k) pid after file mode ≡ told (open_here k pid after file mode)
    here_told k file mode =
        let object = File file (entry_mode mode) in
        (λ i. answered (open_told k object i) pid after (open_reply (lowest_free (fds k i)))) ∙ answering (with_open k pid object) _

    emptied_told : (b : Bool) (k : KernelState S) (file : List ℕ) → emptied_if b (told k) file ≡ told (emptied_if b k file)
    emptied_told true k file = refl
    emptied_told false k file = refl

    for_reading_told : (k : KernelState S) (file : List ℕ) (mode : Mode) (o : Option (List ℕ)) → open_for_reading (told k) pid after file mode o ≡ told (open_for_reading k pid after file mode o)
    for_reading_told k file mode None = answering k Refused
    for_reading_told k file mode (Some bytes) = here_told k file mode

    for_writing_told : (k : KernelState S) (file : List ℕ) (mode : Mode) (refused : Bool) (o : Option (List ℕ)) → open_for_writing (told k) pid after file mode refused o ≡ told (open_for_writing k pid after file mode refused o)
    for_writing_told k file mode refused None =
        pick (nat_le max_files (length k.files)) _ _ _ _ (refusing k Files) (pick refused _ _ _ _ (refusing k Memory) (here_told (with_bytes k file []) file mode))
    for_writing_told k file mode refused (Some bytes) =
        ap (λ (l : KernelState S). open_here l pid after file mode) (emptied_told (empties mode) k file) ∙ here_told (emptied_if (empties mode) k file) file mode

    open_file_told : (k : KernelState S) (file : List ℕ) (mode : Mode) (refused : Bool) → open_file (told k) pid after file mode refused ≡ told (open_file k pid after file mode refused)
    open_file_told k file mode refused =
        pick (free_count k.entries == 0) _ _ _ _ (refusing k Open)
        (branch (is_none (lowest_free (fds_at (told k) pid))) (is_none (lowest_free (fds_at k pid))) _ _ _ _ (ap (λ (l : Descriptors). is_none (lowest_free l)) (fds k)) (refusing k Fds)
        (pick (is_openable file) _ _ _ _
        (pick (reads mode) _ _ _ _ (for_reading_told k file mode (files k.files file)) (for_writing_told k file mode refused (files k.files file)))
        (answering k Refused)))

    -- ---- read

    read_file_told : (k : KernelState S) (e offset n : ℕ) (o : Option (List ℕ)) → read_file (told k) pid after e offset n o ≡ told (read_file k pid after e offset n o)
    read_file_told k e offset n None = answering k Refused
    read_file_told k e offset n (Some bytes) =
        let got = take n (drop offset bytes) in
        answering (record k { entries = advanced k.entries e (length got) }) (Bytes got)

    read_mode_told : (k : KernelState S) (e offset n : ℕ) (o : Option (List ℕ)) (mode : EntryMode) → read_mode (told k) pid after e offset n o mode ≡ told (read_mode k pid after e offset n o mode)
    read_mode_told k e offset n o ForReading = read_file_told k e offset n o
    read_mode_told k e offset n o Fresh = answering k Refused
    read_mode_told k e offset n o Over = answering k Refused
    read_mode_told k e offset n o Append = answering k Refused

    read_by_told : (k : KernelState S) (id : ℕ) (got : List ℕ) (r : Take) → read_by (told k) pid after id got r ≡ told (read_by k pid after id got r)
    read_by_told k id got (Got n) = ap (wakes (PipeRoom id)) (answering k (Bytes got)) ∙ waking (answered k pid after (Bytes got)) (PipeRoom id)
    read_by_told k id got Empty = sleeping k (PipeBytes id) 0
    read_by_told k id got End = answering k (Bytes [])

    read_pipe_told : (k : KernelState S) (id n : ℕ) (o : Option PipeState) → read_pipe (told k) pid after id n o ≡ told (read_pipe k pid after id n o)
    read_pipe_told k id n None = answering k Refused
    read_pipe_told k id n (Some p) =
        read_by_told (record k { pipes = taken_from k.pipes id n (Some p) }) id (take n p.bytes) (take_answer p n)

    read_object_told : (k : KernelState S) (e offset n : ℕ) (object : Object) → read_object (told k) pid after e offset n object ≡ told (read_object k pid after e offset n object)
    read_object_told k e offset n Input = answering (record k { input = drop n k.input }) (Bytes (take n k.input))
    read_object_told k e offset n Out = answering k Refused
    read_object_told k e offset n Diag = answering k Refused
    read_object_told k e offset n (File file mode) = read_mode_told k e offset n (files k.files file) mode
    read_object_told k e offset n (PipeRead id) = read_pipe_told k id n (pipe_of k.pipes id)
    read_object_told k e offset n (PipeWrite id) = answering k Refused

    read_entry_told : (k : KernelState S) (e n : ℕ) (o : Option Opened) → read_entry (told k) pid after e n o ≡ told (read_entry k pid after e n o)
    read_entry_told k e n None = answering k Refused
    read_entry_told k e n (Some f) = read_object_told k e f.offset n f.object

    read_held_told : (k : KernelState S) (n : ℕ) (o : Option ℕ) → read_held (told k) pid after n o ≡ told (read_held k pid after n o)
    read_held_told k n None = answering k Refused
    read_held_told k n (Some e) = read_entry_told k e n (file_at k.entries (Some e))

    read_told : (k : KernelState S) (fd n : ℕ) → read (told k) pid after fd n ≡ told (read k pid after fd n)
    read_told k fd n = ap (λ (l : Descriptors). read_held (told k) pid after (min n BLOCK_SIZE) (entry_of l fd)) (fds k) ∙ read_held_told k (min n BLOCK_SIZE) (entry_of (fds_at k pid) fd)

    -- ---- write

    write_file_told : (k : KernelState S) (e : ℕ) (file : List ℕ) (offset : ℕ) (b : List ℕ) (refused : Bool) (o : Option (List ℕ)) → write_file (told k) pid after e file offset b refused o ≡ told (write_file k pid after e file offset b refused o)
    write_file_told k e file offset b refused None = answering k Refused
    write_file_told k e file offset b refused (Some bytes) =
        let g : KernelState S = record k { files = with_entry k.files file (written bytes offset b) } in
        pick (nat_lt (length bytes) offset) _ _ _ _ (answering k Refused)
        (pick (nat_lt max_size (offset + length b)) _ _ _ _ (refusing k Size)
        (pick (lacks_memory refused (length bytes) (offset + length b)) _ _ _ _ (refusing k Memory)
        (answering (record g { entries = advanced k.entries e (length b) }) Done)))

    append_file_told : (k : KernelState S) (e : ℕ) (file b : List ℕ) (refused : Bool) (o : Option (List ℕ)) → append_file (told k) pid after e file b refused o ≡ told (append_file k pid after e file b refused o)
    append_file_told k e file b refused None = answering k Refused
    append_file_told k e file b refused (Some bytes) =
        let g : KernelState S = record k { files = with_entry k.files file (bytes ++ b) } in
        pick (nat_lt max_size (length bytes + length b)) _ _ _ _ (refusing k Size)
        (pick (lacks_memory refused (length bytes) (length bytes + length b)) _ _ _ _ (refusing k Memory)
        (answering (record g { entries = moved_to k.entries e (length bytes + length b) }) Done))

    write_mode_told : (k : KernelState S) (e : ℕ) (file : List ℕ) (offset : ℕ) (b : List ℕ) (refused : Bool) (mode : EntryMode) → write_mode (told k) pid after e file offset b refused mode ≡ told (write_mode k pid after e file offset b refused mode)
    write_mode_told k e file offset b refused ForReading = answering k Refused
    write_mode_told k e file offset b refused Fresh = write_file_told k e file offset b refused (files k.files file)
    write_mode_told k e file offset b refused Over = write_file_told k e file offset b refused (files k.files file)
    write_mode_told k e file offset b refused Append = append_file_told k e file b refused (files k.files file)

    write_by_told : (k : KernelState S) (id put left : ℕ) (r : Put) → write_by (told k) pid after id put left r ≡ told (write_by k pid after id put left r)
    write_by_told k id put left (Took n) =
        pick (n == left) _ _ _ _ (ap (wakes (PipeBytes id)) (answering k Done) ∙ waking (answered k pid after Done) (PipeBytes id))
        (ap (wakes (PipeBytes id)) (sleeping k (PipeRoom id) (put + n)) ∙ waking (sleeps k pid (PipeRoom id) (put + n)) (PipeBytes id))
    write_by_told k id put left NoRoom = ap (wakes (PipeBytes id)) (sleeping k (PipeRoom id) put) ∙ waking (sleeps k pid (PipeRoom id) put) (PipeBytes id)
    write_by_told k id put left Closed = answering k Refused

    write_pipe_told : (k : KernelState S) (id put : ℕ) (xs : List ℕ) (o : Option PipeState) → write_pipe (told k) pid after id put xs o ≡ told (write_pipe k pid after id put xs o)
    write_pipe_told k id put xs None = answering k Refused
    write_pipe_told k id put xs (Some p) =
        write_by_told (record k { pipes = put_into k.pipes id xs (Some p) }) id put (length xs) (put_answer p xs)

    write_object_told : (k : KernelState S) (e offset : ℕ) (b : List ℕ) (refused : Bool) (object : Object) → write_object (told k) pid after e offset b refused object ≡ told (write_object k pid after e offset b refused object)
    write_object_told k e offset b refused Input = answering k Refused
    write_object_told k e offset b refused Out = pick (lacks_memory refused (length k.out) (length k.out + length b)) _ _ _ _ (refusing k Memory) (answering (record k { out = k.out ++ b }) Done)
    write_object_told k e offset b refused Diag = pick (lacks_memory refused (length k.diag) (length k.diag + length b)) _ _ _ _ (refusing k Memory) (answering (record k { diag = k.diag ++ b }) Done)
    write_object_told k e offset b refused (File file mode) = write_mode_told k e file offset b refused mode
    write_object_told k e offset b refused (PipeRead id) = answering k Refused
    write_object_told k e offset b refused (PipeWrite id) =
        let put = put_of (at k.table pid) in
        (λ i. write_pipe (told k) pid after id (put_told p l pid other k.table i) (drop (put_told p l pid other k.table i) b) (pipe_of k.pipes id)) ∙ write_pipe_told k id put (drop put b) (pipe_of k.pipes id)

    write_entry_told : (k : KernelState S) (e : ℕ) (b : List ℕ) (refused : Bool) (o : Option Opened) → write_entry (told k) pid after e b refused o ≡ told (write_entry k pid after e b refused o)
    write_entry_told k e b refused None = answering k Refused
    write_entry_told k e b refused (Some f) = write_object_told k e f.offset b refused f.object

    write_held_told : (k : KernelState S) (b : List ℕ) (refused : Bool) (o : Option ℕ) → write_held (told k) pid after b refused o ≡ told (write_held k pid after b refused o)
    write_held_told k b refused None = answering k Refused
    write_held_told k b refused (Some e) = write_entry_told k e b refused (file_at k.entries (Some e))

    write_told : (k : KernelState S) (fd : ℕ) (b : List ℕ) (refused : Bool) → write (told k) pid after fd b refused ≡ told (write k pid after fd b refused)
    write_told k fd b refused = ap (λ (l : Descriptors). write_held (told k) pid after b refused (entry_of l fd)) (fds k) ∙ write_held_told k b refused (entry_of (fds_at k pid) fd)

    -- any call of pid, where p is there and no zombie
    pub acted_told : (k : KernelState S) (call : Call) (refused : Bool) → is_free (at k.table p) ≡ false → is_zombie (at k.table p) ≡ false → acted (told k) pid after call refused ≡ told (acted k pid after call refused)
    acted_told k Fork refused used alive = ap (fork_into (told k) pid after) (lowest_told p l pid other k.table) ∙ fork_told k (lowest_free_slot k.table) used refl
    acted_told k (Exec found) refused used alive = answering k _
    acted_told k Exit refused used alive = exit_told k
    acted_told k Wait refused used alive = ap (wait_by (told k) pid after) (wait_told p l pid other k.table) ∙ waits_told k (wait_answer k.table pid) alive
    acted_told k MakePipe refused used alive = pipe_told k refused
    acted_told k (Read fd n) refused used alive = read_told k fd n
    acted_told k (Write fd b) refused used alive = write_told k fd b refused
    acted_told k (OpenFile file mode) refused used alive = open_file_told k file mode refused
    acted_told k (Close fd) refused used alive = close_told k fd
    acted_told k (Dup fd) refused used alive = dup_told k fd
