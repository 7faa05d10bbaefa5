-- Every call leaves the output and the diagnostics, and may add to them.
use Rattle.std.proofs.Common.{◌≡◌, ℕ, zero, suc, ◌+◌, ◌<◌, List, [], ◌++◌, Bool, true, false, Option, Some, None, length, drop, take, refl, ap, sym, ◌∙◌, append_assoc, append-nil}
use Rattle.std.specs.Prelude.{if◌then◌else◌, nat_lt, nat_le, ◌==◌, is_none, Result, Ok, Err, min}
use Rattle.user_calls.specs.Limits.{block_size}
use Rattle.user_calls.specs.declared.calls.Call.{Call}
use Rattle.user_calls.specs.declared.calls.Call.TheVariants.{Fork, Exec, Exit, Wait, MakePipe, Read, Write, OpenFile, Close, Dup}
use Rattle.user_calls.specs.declared.calls.Mode.{Mode}
use Rattle.user_calls.specs.declared.calls.Reply.{Reply}
use Rattle.user_calls.specs.declared.calls.Reply.TheVariants.{Done, Refused}
use Rattle.fd_table.specs.declared.names.Mode.{Mode as EntryMode}
use Rattle.fd_table.specs.declared.names.Mode.TheVariants.{Input as ForReading, Fresh, Over, Append}
use Rattle.fd_table.specs.declared.names.Object.{Object}
use Rattle.fd_table.specs.declared.names.Object.TheVariants.{Input, Out, Diag, File, PipeRead, PipeWrite}
use Rattle.fd_table.specs.declared.faults.FdFault.{FdFault}
use Rattle.fd_table.specs.declared.faults.FdFault.TheVariants.{BadFd, FullFds, FullOpen}
use Rattle.fd_table.specs.declared.descriptors.TheConstants.{DESCRIPTORS}
use Rattle.fd_table.specs.Entries.{OpenFile as Opened, lowest_free_entry, free_count, advanced, moved_to}
use Rattle.fd_table.specs.Descriptors.{entry_of, lowest_free, dup_answer, close_answer}
use Rattle.byte_pipe.specs.declared.Take.{Take}
use Rattle.byte_pipe.specs.declared.Take.TheVariants.{Got, Empty, End}
use Rattle.byte_pipe.specs.declared.Put.{Put}
use Rattle.byte_pipe.specs.declared.Put.TheVariants.{Took, Full as NoRoom, Closed}
use Rattle.byte_pipe.specs.PipeState.{PipeState, take_answer, put_answer, after_take, after_put, after_close_read, after_close_write}
use Rattle.mem_files.specs.Name.{is_openable}
use Rattle.mem_files.specs.Files.{files}
use Rattle.mem_files.specs.Overlay.{written}
use Rattle.mem_files.specs.Listing.{max_files, max_size, with_entry}
use Rattle.proc_table.specs.declared.table.Waited.{Waited}
use Rattle.proc_table.specs.declared.table.Waited.TheVariants.{Reaped, NoChildren, MustSleep}
use Rattle.proc_table.specs.Slots.{at, put_of}
use Rattle.proc_table.specs.Calls.{lowest_free as lowest_free_slot, wait_answer}
use Rattle.kernel_model.specs.declared.events.Full.{Full}
use Rattle.kernel_model.specs.declared.events.Full.TheVariants.{Procs, Open, Fds, Files, Size, Memory}
use Rattle.kernel_model.specs.KernelState.{KernelState, fds_at, file_at}
use Rattle.kernel_model.specs.Pipes.{pipe_of, Pipes, with_pipe, with_new, kept_while_open}
use Rattle.kernel_model.specs.Modes.{empties, reads}
use Rattle.kernel_model.specs.Replies.{answered, refused_for}
use Rattle.kernel_model.specs.Descriptors.{let_go, let_go_of, taken_away, closed, closed_below, dup_by, copied, opened_at, with_open, with_reader, with_ends, ends_reply, make_pipe}
use Rattle.kernel_model.specs.Processes.{fork_into, ended, exit, wait_by}
use Rattle.kernel_model.specs.Opening.{emptied_if, with_bytes, open_here, open_for_reading, open_for_writing, open_file}
use Rattle.kernel_model.specs.Reading.{read_file, read_mode, read_by, read_pipe, read_object, read_entry, read_held}
use Rattle.kernel_model.specs.Writing.{lacks_memory, write_file, append_file, write_mode, write_by, write_pipe, write_object, write_entry, write_held}
use Rattle.kernel_model.specs.Events.{acted}
use Rattle.run_trace.specs.Outputs.{Adds}

-- nothing is added
same : {S : Type 0} (k l : KernelState S) → l.out ≡ k.out → l.diag ≡ k.diag → Adds k l
same k l out diag = record { out = ([], out ∙ sym (append-nil k.out)); diag = ([], diag ∙ sym (append-nil k.diag)) }

then_on : {S : Type 0} (k l m : KernelState S) → Adds k l → Adds l m → Adds k m
then_on k l m a b =
    record {
      out = (a.out.0 ++ b.out.0, b.out.1 ∙ ap (λ (xs : List ℕ). xs ++ b.out.0) a.out.1 ∙ append_assoc k.out a.out.0 b.out.0);
      diag = (a.diag.0 ++ b.diag.0, b.diag.1 ∙ ap (λ (xs : List ℕ). xs ++ b.diag.0) a.diag.1 ∙ append_assoc k.diag a.diag.0 b.diag.0);
    }

either : {S : Type 0} (b : Bool) (k x y : KernelState S) → Adds k x → Adds k y → Adds k (if b then x else y)
either true k x y a c = a
either false k x y a c = c

module _ {S : Type 0} (pid : ℕ) where
  here : (k : KernelState S) → Adds k k
  here k = same k k refl refl

  refusing : (k : KernelState S) (after : S) (full : Full) → Adds k (refused_for k pid after full)
  refusing k after full = same k _ refl refl

  -- ---- close

  let_go_adds : (k : KernelState S) (object : Object) → Adds k (let_go k object)
  let_go_adds k Input = here k
  let_go_adds k Out = here k
  let_go_adds k Diag = here k
  let_go_adds k (File name mode) = here k
  let_go_adds k (PipeRead id) = by (pipe_of k.pipes id) refl where
    by : (o : Option PipeState) → pipe_of k.pipes id ≡ o → Adds k (Rattle.kernel_model.specs.Replies.wakes (Rattle.proc_table.specs.declared.states.Channel.TheVariants.PipeRoom id) (record k { pipes = Rattle.kernel_model.specs.Pipes.reader_gone k.pipes id o }))
    by None is = same k _ refl refl
    by (Some p) is = same k _ refl refl
  let_go_adds k (PipeWrite id) = by (pipe_of k.pipes id) refl where
    by : (o : Option PipeState) → pipe_of k.pipes id ≡ o → Adds k (Rattle.kernel_model.specs.Replies.wakes (Rattle.proc_table.specs.declared.states.Channel.TheVariants.PipeBytes id) (record k { pipes = Rattle.kernel_model.specs.Pipes.writer_gone k.pipes id o }))
    by None is = same k _ refl refl
    by (Some p) is = same k _ refl refl

  let_go_of_adds : (k : KernelState S) (r : Result (Option Object) FdFault) → Adds k (let_go_of k r)
  let_go_of_adds k (Err fault) = here k
  let_go_of_adds k (Ok None) = here k
  let_go_of_adds k (Ok (Some object)) = let_go_adds k object

  closed_adds : (k : KernelState S) (fd : ℕ) → Adds k (closed k pid fd)
  closed_adds k fd =
      let away : KernelState S = taken_away k pid fd (entry_of (fds_at k pid) fd) in
      then_on k away (closed k pid fd) (same k away refl refl) (let_go_of_adds away (close_answer k.entries (entry_of (fds_at k pid) fd)))

  closed_below_adds : (k : KernelState S) (m : ℕ) → Adds k (closed_below k pid m)
  unfolding closed_below
  closed_below_adds k zero = here k
  closed_below_adds k (suc m) = then_on k (closed_below k pid m) (closed (closed_below k pid m) pid m) (closed_below_adds k m) (closed_adds (closed_below k pid m) m)

  opened_adds : (k : KernelState S) (object : Object) (place : Option ℕ) → Adds k (opened_at k pid object place)
  opened_adds k object None = here k
  opened_adds k object (Some e) = same k _ refl refl

  open_adds : (k : KernelState S) (object : Object) → Adds k (with_open k pid object)
  open_adds k object = opened_adds k object (lowest_free_entry k.entries)

  module _ (after : S) where
    answer_adds : (k l : KernelState S) (reply : Reply) → Adds k l → Adds k (answered l pid after reply)
    answer_adds k l reply a = then_on k l (answered l pid after reply) a (same l (answered l pid after reply) refl refl)

    answering : (k : KernelState S) (reply : Reply) → Adds k (answered k pid after reply)
    answering k reply = answer_adds k k reply (here k)

    fork_adds : (k : KernelState S) (place : Option ℕ) → Adds k (fork_into k pid after place)
    fork_adds k None = refusing k after Procs
    fork_adds k (Some child) = same k _ refl refl

    exit_adds : (k : KernelState S) → Adds k (exit k pid after)
    exit_adds k =
        let gone : KernelState S = closed_below k pid DESCRIPTORS in
        either (pid == 0) k (answered k pid after Refused) (ended pid gone) (answering k Refused) (then_on k gone (ended pid gone) (closed_below_adds k DESCRIPTORS) (same gone (ended pid gone) refl refl))

    wait_adds : (k : KernelState S) (w : Waited) → Adds k (wait_by k pid after w)
    wait_adds k (Reaped child) = same k _ refl refl
    wait_adds k NoChildren = same k _ refl refl
    wait_adds k MustSleep = same k _ refl refl

    dup_adds : (k l : KernelState S) (r : Result ℕ FdFault) → Adds k l → Adds k (dup_by l pid after r)
    dup_adds k l (Ok fd) a = answer_adds k l _ a
    dup_adds k l (Err BadFd) a = answer_adds k l _ a
    dup_adds k l (Err FullFds) a = then_on k l _ a (refusing l after Fds)
    dup_adds k l (Err FullOpen) a = then_on k l _ a (refusing l after Open)

    make_pipe_adds : (k : KernelState S) (refused : Bool) → Adds k (make_pipe k pid after refused)
    make_pipe_adds k refused =
        let made : KernelState S = record k { pipes = with_new k.pipes k.events } in
        let reader : KernelState S = with_reader k pid k.events in
        let both : KernelState S = with_ends k pid k.events in
        let done : KernelState S = answered both pid after (ends_reply (lowest_free (fds_at k pid)) (lowest_free (fds_at reader pid))) in
        let memory : KernelState S = if refused then refused_for k pid after Memory else done in
        let places : KernelState S = if nat_lt (free_count (fds_at k pid)) 2 then refused_for k pid after Fds else memory in
        let a : Adds k made = same k made refl refl in
        let b : Adds k reader = then_on k made reader a (open_adds made (PipeRead k.events)) in
        let c : Adds k both = then_on k reader both b (open_adds reader (PipeWrite k.events)) in
        either (nat_lt (free_count k.entries) 2) k (refused_for k pid after Open) places (refusing k after Open)
        (either (nat_lt (free_count (fds_at k pid)) 2) k (refused_for k pid after Fds) memory (refusing k after Fds)
        (either refused k (refused_for k pid after Memory) done (refusing k after Memory) (answer_adds k both _ c)))

    -- ---- open

    opening : (k l : KernelState S) (name : List ℕ) (mode : Mode) → Adds k l → Adds k (open_here l pid after name mode)
    opening k l name mode a = answer_adds k _ _ (then_on k l _ a (open_adds l _))

    emptied_adds : (b : Bool) (k : KernelState S) (name : List ℕ) → Adds k (emptied_if b k name)
    emptied_adds true k name = same k _ refl refl
    emptied_adds false k name = here k

    reading_adds : (k : KernelState S) (name : List ℕ) (mode : Mode) (o : Option (List ℕ)) → Adds k (open_for_reading k pid after name mode o)
    reading_adds k name mode None = answering k Refused
    reading_adds k name mode (Some bytes) = opening k k name mode (here k)

    writing_adds : (k : KernelState S) (name : List ℕ) (mode : Mode) (refused : Bool) (o : Option (List ℕ)) → Adds k (open_for_writing k pid after name mode refused o)
    writing_adds k name mode refused None =
        let made : KernelState S = open_here (with_bytes k name []) pid after name mode in
        let memory : KernelState S = if refused then refused_for k pid after Memory else made in
        either (nat_le max_files (length k.files)) k (refused_for k pid after Files) memory (refusing k after Files)
        (either refused k (refused_for k pid after Memory) made (refusing k after Memory) (opening k (with_bytes k name []) name mode (same k _ refl refl)))
    writing_adds k name mode refused (Some bytes) = opening k (emptied_if (empties mode) k name) name mode (emptied_adds (empties mode) k name)

    open_file_adds : (k : KernelState S) (name : List ℕ) (mode : Mode) (refused : Bool) → Adds k (open_file k pid after name mode refused)
    open_file_adds k name mode refused =
        let for_reading : KernelState S = open_for_reading k pid after name mode (files k.files name) in
        let for_writing : KernelState S = open_for_writing k pid after name mode refused (files k.files name) in
        let named : KernelState S = if reads mode then for_reading else for_writing in
        let good : KernelState S = if is_openable name then named else answered k pid after Refused in
        let roomy : KernelState S = if is_none (lowest_free (fds_at k pid)) then refused_for k pid after Fds else good in
        either (free_count k.entries == 0) k (refused_for k pid after Open) roomy (refusing k after Open)
        (either (is_none (lowest_free (fds_at k pid))) k (refused_for k pid after Fds) good (refusing k after Fds)
        (either (is_openable name) k named (answered k pid after Refused)
        (either (reads mode) k for_reading for_writing (reading_adds k name mode (files k.files name)) (writing_adds k name mode refused (files k.files name)))
        (answering k Refused)))

    -- ---- read

    read_file_adds : (k : KernelState S) (e offset n : ℕ) (o : Option (List ℕ)) → Adds k (read_file k pid after e offset n o)
    read_file_adds k e offset n None = answering k Refused
    read_file_adds k e offset n (Some bytes) = same k _ refl refl

    read_mode_adds : (k : KernelState S) (e offset n : ℕ) (o : Option (List ℕ)) (mode : EntryMode) → Adds k (read_mode k pid after e offset n o mode)
    read_mode_adds k e offset n o ForReading = read_file_adds k e offset n o
    read_mode_adds k e offset n o Fresh = answering k Refused
    read_mode_adds k e offset n o Over = answering k Refused
    read_mode_adds k e offset n o Append = answering k Refused

    read_by_adds : (k l : KernelState S) (id : ℕ) (got : List ℕ) (r : Take) → Adds k l → Adds k (read_by l pid after id got r)
    read_by_adds k l id got (Got n) a = then_on k l _ a (same l _ refl refl)
    read_by_adds k l id got Empty a = then_on k l _ a (same l _ refl refl)
    read_by_adds k l id got End a = then_on k l _ a (same l _ refl refl)

    read_pipe_adds : (k : KernelState S) (id n : ℕ) (o : Option PipeState) → pipe_of k.pipes id ≡ o → Adds k (read_pipe k pid after id n o)
    read_pipe_adds k id n None is = answering k Refused
    read_pipe_adds k id n (Some p) is =
        read_by_adds k (record k { pipes = with_pipe k.pipes id (after_take p n) }) id (take n p.bytes) (take_answer p n)
        (same k _ refl refl)

    read_object_adds : (k : KernelState S) (e offset n : ℕ) (object : Object) → Adds k (read_object k pid after e offset n object)
    read_object_adds k e offset n Input = same k _ refl refl
    read_object_adds k e offset n Out = answering k Refused
    read_object_adds k e offset n Diag = answering k Refused
    read_object_adds k e offset n (File name mode) = read_mode_adds k e offset n (files k.files name) mode
    read_object_adds k e offset n (PipeRead id) = read_pipe_adds k id n (pipe_of k.pipes id) refl
    read_object_adds k e offset n (PipeWrite id) = answering k Refused

    read_entry_adds : (k : KernelState S) (e n : ℕ) (o : Option Opened) → Adds k (read_entry k pid after e n o)
    read_entry_adds k e n None = answering k Refused
    read_entry_adds k e n (Some f) = read_object_adds k e f.offset n f.object

    read_adds : (k : KernelState S) (n : ℕ) (o : Option ℕ) → Adds k (read_held k pid after n o)
    read_adds k n None = answering k Refused
    read_adds k n (Some e) = read_entry_adds k e n (file_at k.entries (Some e))

    -- ---- write

    write_file_adds : (k : KernelState S) (e : ℕ) (name : List ℕ) (offset : ℕ) (b : List ℕ) (refused : Bool) (o : Option (List ℕ)) → Adds k (write_file k pid after e name offset b refused o)
    write_file_adds k e name offset b refused None = answering k Refused
    write_file_adds k e name offset b refused (Some bytes) =
        let done : KernelState S = answered (record k { files = with_entry k.files name (written bytes offset b); entries = advanced k.entries e (length b) }) pid after Done in
        let memory : KernelState S = if lacks_memory refused (length bytes) (offset + length b) then refused_for k pid after Memory else done in
        let size : KernelState S = if nat_lt max_size (offset + length b) then refused_for k pid after Size else memory in
        either (nat_lt (length bytes) offset) k (answered k pid after Refused) size (answering k Refused)
        (either (nat_lt max_size (offset + length b)) k (refused_for k pid after Size) memory (refusing k after Size)
        (either (lacks_memory refused (length bytes) (offset + length b)) k (refused_for k pid after Memory) done (refusing k after Memory) (same k done refl refl)))

    append_file_adds : (k : KernelState S) (e : ℕ) (name b : List ℕ) (refused : Bool) (o : Option (List ℕ)) → Adds k (append_file k pid after e name b refused o)
    append_file_adds k e name b refused None = answering k Refused
    append_file_adds k e name b refused (Some bytes) =
        let done : KernelState S = answered (record k { files = with_entry k.files name (bytes ++ b); entries = moved_to k.entries e (length bytes + length b) }) pid after Done in
        let memory : KernelState S = if lacks_memory refused (length bytes) (length bytes + length b) then refused_for k pid after Memory else done in
        either (nat_lt max_size (length bytes + length b)) k (refused_for k pid after Size) memory (refusing k after Size)
        (either (lacks_memory refused (length bytes) (length bytes + length b)) k (refused_for k pid after Memory) done (refusing k after Memory) (same k done refl refl))

    write_mode_adds : (k : KernelState S) (e offset : ℕ) (name b : List ℕ) (refused : Bool) (mode : EntryMode) → Adds k (write_mode k pid after e name offset b refused mode)
    write_mode_adds k e offset name b refused ForReading = answering k Refused
    write_mode_adds k e offset name b refused Fresh = write_file_adds k e name offset b refused (files k.files name)
    write_mode_adds k e offset name b refused Over = write_file_adds k e name offset b refused (files k.files name)
    write_mode_adds k e offset name b refused Append = append_file_adds k e name b refused (files k.files name)

    write_by_adds : (k l : KernelState S) (id put left : ℕ) (r : Put) → Adds k l → Adds k (write_by l pid after id put left r)
    write_by_adds k l id put left (Took n) a = either (n == left) k _ _ (then_on k l _ a (same l _ refl refl)) (then_on k l _ a (same l _ refl refl))
    write_by_adds k l id put left NoRoom a = then_on k l _ a (same l _ refl refl)
    write_by_adds k l id put left Closed a = then_on k l _ a (same l _ refl refl)

    write_pipe_adds : (k : KernelState S) (id put : ℕ) (xs : List ℕ) (o : Option PipeState) → pipe_of k.pipes id ≡ o → Adds k (write_pipe k pid after id put xs o)
    write_pipe_adds k id put xs None is = answering k Refused
    write_pipe_adds k id put xs (Some p) is =
        write_by_adds k (record k { pipes = with_pipe k.pipes id (after_put p xs) }) id put (length xs) (put_answer p xs)
        (same k _ refl refl)

    write_object_adds : (k : KernelState S) (e offset : ℕ) (b : List ℕ) (refused : Bool) (object : Object) → Adds k (write_object k pid after e offset b refused object)
    write_object_adds k e offset b refused Input = answering k Refused
    write_object_adds k e offset b refused Out = either (lacks_memory refused (length k.out) (length k.out + length b)) k _ _ (refusing k after Memory) (record { out = (b, refl); diag = ([], sym (append-nil k.diag)) })
    write_object_adds k e offset b refused Diag = either (lacks_memory refused (length k.diag) (length k.diag + length b)) k _ _ (refusing k after Memory) (record { out = ([], sym (append-nil k.out)); diag = (b, refl) })
    write_object_adds k e offset b refused (File name mode) = write_mode_adds k e offset name b refused mode
    write_object_adds k e offset b refused (PipeRead id) = answering k Refused
    write_object_adds k e offset b refused (PipeWrite id) = write_pipe_adds k id (put_of (at k.table pid)) (drop (put_of (at k.table pid)) b) (pipe_of k.pipes id) refl

    write_entry_adds : (k : KernelState S) (e : ℕ) (b : List ℕ) (refused : Bool) (o : Option Opened) → Adds k (write_entry k pid after e b refused o)
    write_entry_adds k e b refused None = answering k Refused
    write_entry_adds k e b refused (Some f) = write_object_adds k e f.offset b refused f.object

    write_adds : (k : KernelState S) (b : List ℕ) (refused : Bool) (o : Option ℕ) → Adds k (write_held k pid after b refused o)
    write_adds k b refused None = answering k Refused
    write_adds k b refused (Some e) = write_entry_adds k e b refused (file_at k.entries (Some e))

    pub acted_adds : (k : KernelState S) (call : Call) (refused : Bool) → Adds k (acted k pid after call refused)
    acted_adds k Fork refused = fork_adds k (lowest_free_slot k.table)
    acted_adds k (Exec found) refused = answering k _
    acted_adds k Exit refused = exit_adds k
    acted_adds k Wait refused = wait_adds k (wait_answer k.table pid)
    acted_adds k MakePipe refused = make_pipe_adds k refused
    acted_adds k (Read fd n) refused = read_adds k (min n block_size) (entry_of (fds_at k pid) fd)
    acted_adds k (Write fd b) refused = write_adds k b refused (entry_of (fds_at k pid) fd)
    acted_adds k (OpenFile name mode) refused = open_file_adds k name mode refused
    acted_adds k (Close fd) refused = answer_adds k (closed k pid fd) _ (closed_adds k fd)
    acted_adds k (Dup fd) refused =
        let l : KernelState S = copied k pid (entry_of (fds_at k pid) fd) (lowest_free (fds_at k pid)) in
        dup_adds k l (dup_answer (entry_of (fds_at k pid) fd) (lowest_free (fds_at k pid))) (same k l refl refl)
