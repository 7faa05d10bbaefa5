-- What every call leaves as it was: the count of events, a mark once there is one, and names of pipes to come.
use Rattle.std.proofs.Common.{◌≡◌, ℕ, zero, suc, ◌+◌, ◌<◌, List, [], ◌++◌, Bool, true, false, Option, Some, None, length, drop, take, refl, ap, ◌∙◌, arith}
use Rattle.std.specs.Prelude.{if◌then◌else◌, nat_lt, nat_le, ◌==◌, is_none, Result, Ok, Err, min}
use Rattle.user_calls.specs.Limits.{block_size}
use Rattle.user_calls.specs.declared.calls.Call.{Call}
use Rattle.user_calls.specs.declared.calls.Call.TheVariants.{Fork, Exec, Exit, Wait, MakePipe, Read, Write, OpenFile, Close, Dup}
use Rattle.user_calls.specs.declared.calls.Mode.{Mode}
use Rattle.user_calls.specs.declared.calls.Reply.{Reply}
use Rattle.user_calls.specs.declared.calls.Reply.TheVariants.{Done, Refused}
use Rattle.fd_table.specs.declared.names.Mode.{Mode as EntryMode}
use Rattle.fd_table.specs.declared.names.Mode.TheVariants.{Input as ForReading, Fresh, Over, Append}
use Rattle.fd_table.specs.declared.names.Object.{Object}
use Rattle.fd_table.specs.declared.names.Object.TheVariants.{Input, Out, Diag, File, PipeRead, PipeWrite}
use Rattle.fd_table.specs.declared.faults.FdFault.{FdFault}
use Rattle.fd_table.specs.declared.faults.FdFault.TheVariants.{BadFd, FullFds, FullOpen}
use Rattle.fd_table.specs.declared.descriptors.TheConstants.{DESCRIPTORS}
use Rattle.fd_table.specs.Entries.{OpenFile as Opened, lowest_free_entry, free_count, advanced, moved_to}
use Rattle.fd_table.specs.Descriptors.{entry_of, lowest_free, dup_answer, close_answer}
use Rattle.byte_pipe.specs.declared.Take.{Take}
use Rattle.byte_pipe.specs.declared.Take.TheVariants.{Got, Empty, End}
use Rattle.byte_pipe.specs.declared.Put.{Put}
use Rattle.byte_pipe.specs.declared.Put.TheVariants.{Took, Full as NoRoom, Closed}
use Rattle.byte_pipe.specs.PipeState.{PipeState, take_answer, put_answer, after_take, after_put, after_close_read, after_close_write}
use Rattle.mem_files.specs.Name.{is_openable}
use Rattle.mem_files.specs.Files.{files}
use Rattle.mem_files.specs.Overlay.{written}
use Rattle.mem_files.specs.Listing.{max_files, max_size, with_entry}
use Rattle.proc_table.specs.declared.table.Waited.{Waited}
use Rattle.proc_table.specs.declared.table.Waited.TheVariants.{Reaped, NoChildren, MustSleep}
use Rattle.proc_table.specs.Slots.{at, put_of}
use Rattle.proc_table.specs.Calls.{lowest_free as lowest_free_slot, wait_answer}
use Rattle.kernel_model.specs.declared.events.Full.{Full}
use Rattle.kernel_model.specs.declared.events.Full.TheVariants.{Procs, Open, Fds, Files, Size, Memory}
use Rattle.kernel_model.specs.KernelState.{KernelState, fds_at, file_at}
use Rattle.kernel_model.specs.Pipes.{pipe_of, Pipes, with_pipe, with_new, kept_while_open}
use Rattle.kernel_model.specs.Modes.{empties, reads}
use Rattle.kernel_model.specs.Replies.{answered, refused_for, marked}
use Rattle.kernel_model.specs.Descriptors.{let_go, let_go_of, taken_away, closed, closed_below, dup_by, copied, opened_at, with_open, with_reader, with_ends, ends_reply, make_pipe}
use Rattle.kernel_model.specs.Processes.{fork_into, ended, exit, wait_by}
use Rattle.kernel_model.specs.Opening.{emptied_if, with_bytes, open_here, open_for_reading, open_for_writing, open_file}
use Rattle.kernel_model.specs.Reading.{read_file, read_mode, read_by, read_pipe, read_object, read_entry, read_held}
use Rattle.kernel_model.specs.Writing.{lacks_memory, write_file, append_file, write_mode, write_by, write_pipe, write_object, write_entry, write_held}
use Rattle.kernel_model.specs.Events.{acted}
use Rattle.kernel_model.specs.Along.{IsAlong}
use Rattle.kernel_model.proofs.PipeNames.{changed_names, closed_names, new_names}

-- the parts of a state that this speaks of
same : {S : Type 0} (k l : KernelState S) → l.events ≡ k.events → l.full ≡ k.full → ((id : ℕ) → k.events < id → pipe_of k.pipes id ≡ None → pipe_of l.pipes id ≡ None) → IsAlong k l
same k l events full names = record { events = events; mark = λ f is. full ∙ is; names = names }

then_on : {S : Type 0} (k l m : KernelState S) → IsAlong k l → IsAlong l m → IsAlong k m
then_on k l m a b =
    record {
      events = b.events ∙ a.events;
      mark = λ f is. b.mark f (a.mark f is);
      names = λ id later none. b.names id (omega (arith, later, a.events)) (a.names id later none);
    }

either : {S : Type 0} (b : Bool) (k x y : KernelState S) → IsAlong k x → IsAlong k y → IsAlong k (if b then x else y)
either true k x y a c = a
either false k x y a c = c

mark_kept : (o : Option Full) (now f : Full) → o ≡ Some f → marked o now ≡ Some f
mark_kept None now f is = absurd (let z : ⊥ = cc in z)
mark_kept (Some first) now f is = is

module _ {S : Type 0} (pid : ℕ) where
  along : (k l : KernelState S) → l.events ≡ k.events → l.full ≡ k.full → l.pipes ≡ k.pipes → IsAlong k l
  along k l events full pipes = same k l events full (λ id later none. ap (λ (P : Pipes). pipe_of P id) pipes ∙ none)

  here : (k : KernelState S) → IsAlong k k
  here k = along k k refl refl refl

  refusing : (k : KernelState S) (after : S) (full : Full) → IsAlong k (refused_for k pid after full)
  refusing k after full = record { events = refl; mark = λ f is. mark_kept k.full full f is; names = λ id later none. none }

  -- ---- close

  let_go_along : (k : KernelState S) (object : Object) → IsAlong k (let_go k object)
  let_go_along k Input = here k
  let_go_along k Out = here k
  let_go_along k Diag = here k
  let_go_along k (File name mode) = here k
  let_go_along k (PipeRead id) = by (pipe_of k.pipes id) refl where
    by : (o : Option PipeState) → pipe_of k.pipes id ≡ o → IsAlong k (Rattle.kernel_model.specs.Replies.wakes (Rattle.proc_table.specs.declared.states.Channel.TheVariants.PipeRoom id) (record k { pipes = Rattle.kernel_model.specs.Pipes.reader_gone k.pipes id o }))
    by None is = along k _ refl refl refl
    by (Some p) is = same k _ refl refl (λ other later none. closed_names k.pipes id (after_close_read p) other none)
  let_go_along k (PipeWrite id) = by (pipe_of k.pipes id) refl where
    by : (o : Option PipeState) → pipe_of k.pipes id ≡ o → IsAlong k (Rattle.kernel_model.specs.Replies.wakes (Rattle.proc_table.specs.declared.states.Channel.TheVariants.PipeBytes id) (record k { pipes = Rattle.kernel_model.specs.Pipes.writer_gone k.pipes id o }))
    by None is = along k _ refl refl refl
    by (Some p) is = same k _ refl refl (λ other later none. closed_names k.pipes id (after_close_write p) other none)

  let_go_of_along : (k : KernelState S) (r : Result (Option Object) FdFault) → IsAlong k (let_go_of k r)
  let_go_of_along k (Err fault) = here k
  let_go_of_along k (Ok None) = here k
  let_go_of_along k (Ok (Some object)) = let_go_along k object

  closed_along : (k : KernelState S) (fd : ℕ) → IsAlong k (closed k pid fd)
  closed_along k fd =
      let away : KernelState S = taken_away k pid fd (entry_of (fds_at k pid) fd) in
      then_on k away (closed k pid fd) (along k away refl refl refl) (let_go_of_along away (close_answer k.entries (entry_of (fds_at k pid) fd)))

  closed_below_along : (k : KernelState S) (m : ℕ) → IsAlong k (closed_below k pid m)
  unfolding closed_below
  closed_below_along k zero = here k
  closed_below_along k (suc m) = then_on k (closed_below k pid m) (closed (closed_below k pid m) pid m) (closed_below_along k m) (closed_along (closed_below k pid m) m)

  opened_along : (k : KernelState S) (object : Object) (place : Option ℕ) → IsAlong k (opened_at k pid object place)
  opened_along k object None = here k
  opened_along k object (Some e) = along k _ refl refl refl

  open_along : (k : KernelState S) (object : Object) → IsAlong k (with_open k pid object)
  open_along k object = opened_along k object (lowest_free_entry k.entries)

  module _ (after : S) where
    answer_along : (k l : KernelState S) (reply : Reply) → IsAlong k l → IsAlong k (answered l pid after reply)
    answer_along k l reply a = then_on k l (answered l pid after reply) a (along l (answered l pid after reply) refl refl refl)

    answering : (k : KernelState S) (reply : Reply) → IsAlong k (answered k pid after reply)
    answering k reply = answer_along k k reply (here k)

    fork_along : (k : KernelState S) (place : Option ℕ) → IsAlong k (fork_into k pid after place)
    fork_along k None = refusing k after Procs
    fork_along k (Some child) = along k _ refl refl refl

    exit_along : (k : KernelState S) → IsAlong k (exit k pid after)
    exit_along k =
        let gone : KernelState S = closed_below k pid DESCRIPTORS in
        either (pid == 0) k (answered k pid after Refused) (ended pid gone) (answering k Refused) (then_on k gone (ended pid gone) (closed_below_along k DESCRIPTORS) (along gone (ended pid gone) refl refl refl))

    wait_along : (k : KernelState S) (w : Waited) → IsAlong k (wait_by k pid after w)
    wait_along k (Reaped child) = along k _ refl refl refl
    wait_along k NoChildren = along k _ refl refl refl
    wait_along k MustSleep = along k _ refl refl refl

    dup_along : (k l : KernelState S) (r : Result ℕ FdFault) → IsAlong k l → IsAlong k (dup_by l pid after r)
    dup_along k l (Ok fd) a = answer_along k l _ a
    dup_along k l (Err BadFd) a = answer_along k l _ a
    dup_along k l (Err FullFds) a = then_on k l _ a (refusing l after Fds)
    dup_along k l (Err FullOpen) a = then_on k l _ a (refusing l after Open)

    make_pipe_along : (k : KernelState S) (refused : Bool) → IsAlong k (make_pipe k pid after refused)
    make_pipe_along k refused =
        let made : KernelState S = record k { pipes = with_new k.pipes k.events } in
        let reader : KernelState S = with_reader k pid k.events in
        let both : KernelState S = with_ends k pid k.events in
        let done : KernelState S = answered both pid after (ends_reply (lowest_free (fds_at k pid)) (lowest_free (fds_at reader pid))) in
        let memory : KernelState S = if refused then refused_for k pid after Memory else done in
        let places : KernelState S = if nat_lt (free_count (fds_at k pid)) 2 then refused_for k pid after Fds else memory in
        let a : IsAlong k made = same k made refl refl (λ id later none. new_names k.pipes k.events id later none) in
        let b : IsAlong k reader = then_on k made reader a (open_along made (PipeRead k.events)) in
        let c : IsAlong k both = then_on k reader both b (open_along reader (PipeWrite k.events)) in
        either (nat_lt (free_count k.entries) 2) k (refused_for k pid after Open) places (refusing k after Open)
        (either (nat_lt (free_count (fds_at k pid)) 2) k (refused_for k pid after Fds) memory (refusing k after Fds)
        (either refused k (refused_for k pid after Memory) done (refusing k after Memory) (answer_along k both _ c)))

    -- ---- open

    opening : (k l : KernelState S) (name : List ℕ) (mode : Mode) → IsAlong k l → IsAlong k (open_here l pid after name mode)
    opening k l name mode a = answer_along k _ _ (then_on k l _ a (open_along l _))

    emptied_along : (b : Bool) (k : KernelState S) (name : List ℕ) → IsAlong k (emptied_if b k name)
    emptied_along true k name = along k _ refl refl refl
    emptied_along false k name = here k

    reading_along : (k : KernelState S) (name : List ℕ) (mode : Mode) (o : Option (List ℕ)) → IsAlong k (open_for_reading k pid after name mode o)
    reading_along k name mode None = answering k Refused
    reading_along k name mode (Some bytes) = opening k k name mode (here k)

    writing_along : (k : KernelState S) (name : List ℕ) (mode : Mode) (refused : Bool) (o : Option (List ℕ)) → IsAlong k (open_for_writing k pid after name mode refused o)
    writing_along k name mode refused None =
        let made : KernelState S = open_here (with_bytes k name []) pid after name mode in
        let memory : KernelState S = if refused then refused_for k pid after Memory else made in
        either (nat_le max_files (length k.files)) k (refused_for k pid after Files) memory (refusing k after Files)
        (either refused k (refused_for k pid after Memory) made (refusing k after Memory) (opening k (with_bytes k name []) name mode (along k _ refl refl refl)))
    writing_along k name mode refused (Some bytes) = opening k (emptied_if (empties mode) k name) name mode (emptied_along (empties mode) k name)

    open_file_along : (k : KernelState S) (name : List ℕ) (mode : Mode) (refused : Bool) → IsAlong k (open_file k pid after name mode refused)
    open_file_along k name mode refused =
        let for_reading : KernelState S = open_for_reading k pid after name mode (files k.files name) in
        let for_writing : KernelState S = open_for_writing k pid after name mode refused (files k.files name) in
        let named : KernelState S = if reads mode then for_reading else for_writing in
        let good : KernelState S = if is_openable name then named else answered k pid after Refused in
        let roomy : KernelState S = if is_none (lowest_free (fds_at k pid)) then refused_for k pid after Fds else good in
        either (free_count k.entries == 0) k (refused_for k pid after Open) roomy (refusing k after Open)
        (either (is_none (lowest_free (fds_at k pid))) k (refused_for k pid after Fds) good (refusing k after Fds)
        (either (is_openable name) k named (answered k pid after Refused)
        (either (reads mode) k for_reading for_writing (reading_along k name mode (files k.files name)) (writing_along k name mode refused (files k.files name)))
        (answering k Refused)))

    -- ---- read

    read_file_along : (k : KernelState S) (e offset n : ℕ) (o : Option (List ℕ)) → IsAlong k (read_file k pid after e offset n o)
    read_file_along k e offset n None = answering k Refused
    read_file_along k e offset n (Some bytes) = along k _ refl refl refl

    read_mode_along : (k : KernelState S) (e offset n : ℕ) (o : Option (List ℕ)) (mode : EntryMode) → IsAlong k (read_mode k pid after e offset n o mode)
    read_mode_along k e offset n o ForReading = read_file_along k e offset n o
    read_mode_along k e offset n o Fresh = answering k Refused
    read_mode_along k e offset n o Over = answering k Refused
    read_mode_along k e offset n o Append = answering k Refused

    read_by_along : (k l : KernelState S) (id : ℕ) (got : List ℕ) (r : Take) → IsAlong k l → IsAlong k (read_by l pid after id got r)
    read_by_along k l id got (Got n) a = then_on k l _ a (along l _ refl refl refl)
    read_by_along k l id got Empty a = then_on k l _ a (along l _ refl refl refl)
    read_by_along k l id got End a = then_on k l _ a (along l _ refl refl refl)

    read_pipe_along : (k : KernelState S) (id n : ℕ) (o : Option PipeState) → pipe_of k.pipes id ≡ o → IsAlong k (read_pipe k pid after id n o)
    read_pipe_along k id n None is = answering k Refused
    read_pipe_along k id n (Some p) is =
        read_by_along k (record k { pipes = with_pipe k.pipes id (after_take p n) }) id (take n p.bytes) (take_answer p n)
        (same k _ refl refl (λ other later none. changed_names k.pipes id (after_take p n) other none))

    read_object_along : (k : KernelState S) (e offset n : ℕ) (object : Object) → IsAlong k (read_object k pid after e offset n object)
    read_object_along k e offset n Input = along k _ refl refl refl
    read_object_along k e offset n Out = answering k Refused
    read_object_along k e offset n Diag = answering k Refused
    read_object_along k e offset n (File name mode) = read_mode_along k e offset n (files k.files name) mode
    read_object_along k e offset n (PipeRead id) = read_pipe_along k id n (pipe_of k.pipes id) refl
    read_object_along k e offset n (PipeWrite id) = answering k Refused

    read_entry_along : (k : KernelState S) (e n : ℕ) (o : Option Opened) → IsAlong k (read_entry k pid after e n o)
    read_entry_along k e n None = answering k Refused
    read_entry_along k e n (Some f) = read_object_along k e f.offset n f.object

    read_along : (k : KernelState S) (n : ℕ) (o : Option ℕ) → IsAlong k (read_held k pid after n o)
    read_along k n None = answering k Refused
    read_along k n (Some e) = read_entry_along k e n (file_at k.entries (Some e))

    -- ---- write

    write_file_along : (k : KernelState S) (e : ℕ) (name : List ℕ) (offset : ℕ) (b : List ℕ) (refused : Bool) (o : Option (List ℕ)) → IsAlong k (write_file k pid after e name offset b refused o)
    write_file_along k e name offset b refused None = answering k Refused
    write_file_along k e name offset b refused (Some bytes) =
        let done : KernelState S = answered (record k { files = with_entry k.files name (written bytes offset b); entries = advanced k.entries e (length b) }) pid after Done in
        let memory : KernelState S = if lacks_memory refused (length bytes) (offset + length b) then refused_for k pid after Memory else done in
        let size : KernelState S = if nat_lt max_size (offset + length b) then refused_for k pid after Size else memory in
        either (nat_lt (length bytes) offset) k (answered k pid after Refused) size (answering k Refused)
        (either (nat_lt max_size (offset + length b)) k (refused_for k pid after Size) memory (refusing k after Size)
        (either (lacks_memory refused (length bytes) (offset + length b)) k (refused_for k pid after Memory) done (refusing k after Memory) (along k done refl refl refl)))

    append_file_along : (k : KernelState S) (e : ℕ) (name b : List ℕ) (refused : Bool) (o : Option (List ℕ)) → IsAlong k (append_file k pid after e name b refused o)
    append_file_along k e name b refused None = answering k Refused
    append_file_along k e name b refused (Some bytes) =
        let done : KernelState S = answered (record k { files = with_entry k.files name (bytes ++ b); entries = moved_to k.entries e (length bytes + length b) }) pid after Done in
        let memory : KernelState S = if lacks_memory refused (length bytes) (length bytes + length b) then refused_for k pid after Memory else done in
        either (nat_lt max_size (length bytes + length b)) k (refused_for k pid after Size) memory (refusing k after Size)
        (either (lacks_memory refused (length bytes) (length bytes + length b)) k (refused_for k pid after Memory) done (refusing k after Memory) (along k done refl refl refl))

    write_mode_along : (k : KernelState S) (e offset : ℕ) (name b : List ℕ) (refused : Bool) (mode : EntryMode) → IsAlong k (write_mode k pid after e name offset b refused mode)
    write_mode_along k e offset name b refused ForReading = answering k Refused
    write_mode_along k e offset name b refused Fresh = write_file_along k e name offset b refused (files k.files name)
    write_mode_along k e offset name b refused Over = write_file_along k e name offset b refused (files k.files name)
    write_mode_along k e offset name b refused Append = append_file_along k e name b refused (files k.files name)

    write_by_along : (k l : KernelState S) (id put left : ℕ) (r : Put) → IsAlong k l → IsAlong k (write_by l pid after id put left r)
    write_by_along k l id put left (Took n) a = either (n == left) k _ _ (then_on k l _ a (along l _ refl refl refl)) (then_on k l _ a (along l _ refl refl refl))
    write_by_along k l id put left NoRoom a = then_on k l _ a (along l _ refl refl refl)
    write_by_along k l id put left Closed a = then_on k l _ a (along l _ refl refl refl)

    write_pipe_along : (k : KernelState S) (id put : ℕ) (xs : List ℕ) (o : Option PipeState) → pipe_of k.pipes id ≡ o → IsAlong k (write_pipe k pid after id put xs o)
    write_pipe_along k id put xs None is = answering k Refused
    write_pipe_along k id put xs (Some p) is =
        write_by_along k (record k { pipes = with_pipe k.pipes id (after_put p xs) }) id put (length xs) (put_answer p xs)
        (same k _ refl refl (λ other later none. changed_names k.pipes id (after_put p xs) other none))

    write_object_along : (k : KernelState S) (e offset : ℕ) (b : List ℕ) (refused : Bool) (object : Object) → IsAlong k (write_object k pid after e offset b refused object)
    write_object_along k e offset b refused Input = answering k Refused
    write_object_along k e offset b refused Out = either (lacks_memory refused (length k.out) (length k.out + length b)) k _ _ (refusing k after Memory) (along k _ refl refl refl)
    write_object_along k e offset b refused Diag = either (lacks_memory refused (length k.diag) (length k.diag + length b)) k _ _ (refusing k after Memory) (along k _ refl refl refl)
    write_object_along k e offset b refused (File name mode) = write_mode_along k e offset name b refused mode
    write_object_along k e offset b refused (PipeRead id) = answering k Refused
    write_object_along k e offset b refused (PipeWrite id) = write_pipe_along k id (put_of (at k.table pid)) (drop (put_of (at k.table pid)) b) (pipe_of k.pipes id) refl

    write_entry_along : (k : KernelState S) (e : ℕ) (b : List ℕ) (refused : Bool) (o : Option Opened) → IsAlong k (write_entry k pid after e b refused o)
    write_entry_along k e b refused None = answering k Refused
    write_entry_along k e b refused (Some f) = write_object_along k e f.offset b refused f.object

    write_along : (k : KernelState S) (b : List ℕ) (refused : Bool) (o : Option ℕ) → IsAlong k (write_held k pid after b refused o)
    write_along k b refused None = answering k Refused
    write_along k b refused (Some e) = write_entry_along k e b refused (file_at k.entries (Some e))

    pub acted_along : (k : KernelState S) (call : Call) (refused : Bool) → IsAlong k (acted k pid after call refused)
    acted_along k Fork refused = fork_along k (lowest_free_slot k.table)
    acted_along k (Exec found) refused = answering k _
    acted_along k Exit refused = exit_along k
    acted_along k Wait refused = wait_along k (wait_answer k.table pid)
    acted_along k MakePipe refused = make_pipe_along k refused
    acted_along k (Read fd n) refused = read_along k (min n block_size) (entry_of (fds_at k pid) fd)
    acted_along k (Write fd b) refused = write_along k b refused (entry_of (fds_at k pid) fd)
    acted_along k (OpenFile name mode) refused = open_file_along k name mode refused
    acted_along k (Close fd) refused = answer_along k (closed k pid fd) _ (closed_along k fd)
    acted_along k (Dup fd) refused =
        let l : KernelState S = copied k pid (entry_of (fds_at k pid) fd) (lowest_free (fds_at k pid)) in
        dup_along k l (dup_answer (entry_of (fds_at k pid) fd) (lowest_free (fds_at k pid))) (along k l refl refl refl)
