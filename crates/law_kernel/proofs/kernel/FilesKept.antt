-- Each of the ten calls leaves files of good names and sizes, and not too many of them.
use Rattle.std.proofs.Common.{◌≡◌, ℕ, zero, suc, ◌+◌, ◌≤◌, List, [], ◌++◌, Bool, true, false, Option, Some, None, length, drop, refl, arith, length-append}
use Rattle.std.proofs.lemmas.Bool.{ltb-false, leb-false}
use Rattle.std.specs.Prelude.{if◌then◌else◌, nat_lt, nat_le, ◌==◌, is_none, Result, Ok, Err, min}
use Rattle.user_calls.specs.Limits.{block_size}
use Rattle.user_calls.specs.declared.calls.Call.{Call}
use Rattle.user_calls.specs.declared.calls.Call.TheVariants.{Fork, Exec, Exit, Wait, MakePipe, Read, Write, OpenFile, Close, Dup}
use Rattle.user_calls.specs.declared.calls.Mode.{Mode}
use Rattle.user_calls.specs.declared.calls.Reply.TheVariants.{Done, Refused}
use Rattle.fd_table.specs.declared.names.Mode.{Mode as EntryMode}
use Rattle.fd_table.specs.declared.names.Mode.TheVariants.{Input as ForReading, Fresh, Over, Append}
use Rattle.fd_table.specs.declared.names.Object.{Object}
use Rattle.fd_table.specs.declared.names.Object.TheVariants.{Input, Out, Diag, File, PipeRead, PipeWrite}
use Rattle.fd_table.specs.declared.faults.FdFault.{FdFault}
use Rattle.fd_table.specs.declared.faults.FdFault.TheVariants.{BadFd, FullFds, FullOpen}
use Rattle.fd_table.specs.declared.descriptors.TheConstants.{DESCRIPTORS}
use Rattle.fd_table.specs.Entries.{OpenFile as Opened, free_count, lowest_free_entry, advanced, moved_to}
use Rattle.fd_table.specs.Descriptors.{entry_of, lowest_free, close_answer, dup_answer}
use Rattle.byte_pipe.specs.declared.Take.{Take}
use Rattle.byte_pipe.specs.declared.Take.TheVariants.{Got, Empty, End}
use Rattle.byte_pipe.specs.declared.Put.{Put}
use Rattle.byte_pipe.specs.declared.Put.TheVariants.{Took, Full as NoRoom, Closed}
use Rattle.byte_pipe.specs.PipeState.{PipeState, take_answer, put_answer, after_take, after_put}
use Rattle.mem_files.specs.Name.{is_openable}
use Rattle.mem_files.specs.Files.{files}
use Rattle.mem_files.specs.Overlay.{written}
use Rattle.mem_files.specs.Listing.{AreFiles, max_files, max_size, with_entry}
use Rattle.mem_files.proofs.Kept.{small_file, AreFiles-added, AreFiles-changed}
use Rattle.mem_files.proofs.Overlays.{length-written}
use Rattle.proc_table.specs.declared.table.Waited.{Waited}
use Rattle.proc_table.specs.declared.table.Waited.TheVariants.{Reaped, NoChildren, MustSleep}
use Rattle.proc_table.specs.Slots.{at, put_of}
use Rattle.proc_table.specs.Calls.{lowest_free as lowest_free_slot, wait_answer}
use Rattle.kernel_model.specs.declared.events.Full.TheVariants.{Open, Fds, Files, Size, Memory}
use Rattle.kernel_model.specs.KernelState.{KernelState, fds_at, file_at}
use Rattle.kernel_model.specs.Pipes.{pipe_of, with_pipe, with_new}
use Rattle.kernel_model.specs.Modes.{entry_mode, empties, reads}
use Rattle.kernel_model.specs.Replies.{answered, refused_for}
use Rattle.kernel_model.specs.Descriptors.{let_go_of, taken_away, closed, closed_below, opened_at, with_open, dup_by, copied, with_reader, with_ends, ends_reply, make_pipe}
use Rattle.kernel_model.specs.Processes.{fork_into, ended, exit, wait_by}
use Rattle.kernel_model.specs.Opening.{emptied_if, with_bytes, open_here, open_for_reading, open_for_writing, open_file}
use Rattle.kernel_model.specs.Reading.{read_file, read_mode, read_by, read_pipe, read_object, read_entry, read_held}
use Rattle.kernel_model.specs.Writing.{lacks_memory, write_file, append_file, write_mode, write_by, write_pipe, write_object, write_entry, write_held}
use Rattle.kernel_model.specs.Events.{acted}

-- a write within the largest size keeps a file small
small_write : (bytes : List ℕ) (offset : ℕ) (bs : List ℕ) → offset ≤ length bytes → length bytes ≤ max_size → offset + length bs ≤ max_size → length (written bytes offset bs) ≤ max_size
small_write bytes offset bs inside small fits = omega (arith, length-written bytes offset bs inside)

module _ {S : Type 0} (pid : ℕ) where
  -- the kernel's files are as they have to be
  abbrev HasFiles : KernelState S → Type 0
  HasFiles k = AreFiles k.files

  either : (b : Bool) (x y : KernelState S) → HasFiles x → HasFiles y → HasFiles (if b then x else y)
  either true x y p q = p
  either false x y p q = q

  either_by : (b : Bool) (x y : KernelState S) → HasFiles x → (b ≡ false → HasFiles y) → HasFiles (if b then x else y)
  either_by true x y p q = p
  either_by false x y p q = q refl

  -- ---- a close and an open

  let_go_files : (k : KernelState S) (r : Result (Option Object) FdFault) → HasFiles k → HasFiles (let_go_of k r)
  let_go_files k (Err fault) a = a
  let_go_files k (Ok None) a = a
  let_go_files k (Ok (Some Input)) a = a
  let_go_files k (Ok (Some Out)) a = a
  let_go_files k (Ok (Some Diag)) a = a
  let_go_files k (Ok (Some (File name mode))) a = a
  let_go_files k (Ok (Some (PipeRead id))) a = a
  let_go_files k (Ok (Some (PipeWrite id))) a = a

  closed_files : (k : KernelState S) (fd : ℕ) → HasFiles k → HasFiles (closed k pid fd)
  closed_files k fd a = let e = entry_of (fds_at k pid) fd in let_go_files (taken_away k pid fd e) (close_answer k.entries e) a

  closed_below_files : (k : KernelState S) (n : ℕ) → HasFiles k → HasFiles (closed_below k pid n)
  unfolding closed_below
  closed_below_files k zero a = a
  closed_below_files k (suc n) a = closed_files (closed_below k pid n) n (closed_below_files k n a)

  opened_files : (k : KernelState S) (object : Object) (o : Option ℕ) → HasFiles k → HasFiles (opened_at k pid object o)
  opened_files k object None a = a
  opened_files k object (Some e) a = a

  open_files : (k : KernelState S) (object : Object) → HasFiles k → HasFiles (with_open k pid object)
  open_files k object a = opened_files k object (lowest_free_entry k.entries) a

  module _ (after : S) where
    fork_files : (k : KernelState S) (place : Option ℕ) → HasFiles k → HasFiles (fork_into k pid after place)
    fork_files k None a = a
    fork_files k (Some child) a = a

    exit_files : (k : KernelState S) → HasFiles k → HasFiles (exit k pid after)
    exit_files k a = either (pid == 0) (answered k pid after Refused) (ended pid (closed_below k pid DESCRIPTORS)) a (closed_below_files k DESCRIPTORS a)

    wait_files : (k : KernelState S) (w : Waited) → HasFiles k → HasFiles (wait_by k pid after w)
    wait_files k (Reaped child) a = a
    wait_files k NoChildren a = a
    wait_files k MustSleep a = a

    dup_files : (k : KernelState S) (r : Result ℕ FdFault) → HasFiles k → HasFiles (dup_by k pid after r)
    dup_files k (Ok fd) a = a
    dup_files k (Err BadFd) a = a
    dup_files k (Err FullFds) a = a
    dup_files k (Err FullOpen) a = a

    make_pipe_files : (k : KernelState S) (refused : Bool) → HasFiles k → HasFiles (make_pipe k pid after refused)
    make_pipe_files k refused a =
        let done : KernelState S = answered (with_ends k pid k.events) pid after (ends_reply (lowest_free (fds_at k pid)) (lowest_free (fds_at (with_reader k pid k.events) pid))) in
        let memory : KernelState S = if refused then refused_for k pid after Memory else done in
        let places : KernelState S = if nat_lt (free_count (fds_at k pid)) 2 then refused_for k pid after Fds else memory in
        either (nat_lt (free_count k.entries) 2) (refused_for k pid after Open) places a
        (either (nat_lt (free_count (fds_at k pid)) 2) (refused_for k pid after Fds) memory a
        (either refused (refused_for k pid after Memory) done a
        (open_files (with_reader k pid k.events) (PipeWrite k.events) (open_files (record k { pipes = with_new k.pipes k.events }) (PipeRead k.events) a))))

    -- ---- open: a file is made where there is room, or emptied

    opening : (k : KernelState S) (name : List ℕ) (mode : Mode) → HasFiles k → HasFiles (open_here k pid after name mode)
    opening k name mode a = open_files k (File name (entry_mode mode)) a

    emptied : (empty : Bool) (k : KernelState S) (name bytes : List ℕ) → files k.files name ≡ Some bytes → HasFiles k → HasFiles (emptied_if empty k name)
    emptied true k name bytes is a = AreFiles-changed k.files name bytes [] a is (omega arith)
    emptied false k name bytes is a = a

    reading_files : (k : KernelState S) (name : List ℕ) (mode : Mode) (o : Option (List ℕ)) → HasFiles k → HasFiles (open_for_reading k pid after name mode o)
    reading_files k name mode None a = a
    reading_files k name mode (Some bytes) a = opening k name mode a

    writing_files : (k : KernelState S) (name : List ℕ) (mode : Mode) (refused : Bool) (o : Option (List ℕ)) → files k.files name ≡ o → is_openable name ≡ true → HasFiles k → HasFiles (open_for_writing k pid after name mode refused o)
    writing_files k name mode refused None none good a =
        let made : KernelState S = open_here (with_bytes k name []) pid after name mode in
        let memory : KernelState S = if refused then refused_for k pid after Memory else made in
        either_by (nat_le max_files (length k.files)) (refused_for k pid after Files) memory a
        (λ room. either refused (refused_for k pid after Memory) made a
        (opening (with_bytes k name []) name mode (AreFiles-added k.files name [] a good (omega arith) none (leb-false max_files (length k.files) room))))
    writing_files k name mode refused (Some bytes) is good a = opening (emptied_if (empties mode) k name) name mode (emptied (empties mode) k name bytes is a)

    good_files : (k : KernelState S) (name : List ℕ) (mode : Mode) (refused b : Bool) → is_openable name ≡ b → HasFiles k
        → HasFiles (if b then (if reads mode then open_for_reading k pid after name mode (files k.files name) else open_for_writing k pid after name mode refused (files k.files name)) else answered k pid after Refused)
    good_files k name mode refused true good a =
        either (reads mode) (open_for_reading k pid after name mode (files k.files name)) (open_for_writing k pid after name mode refused (files k.files name))
        (reading_files k name mode (files k.files name) a) (writing_files k name mode refused (files k.files name) refl good a)
    good_files k name mode refused false good a = a

    open_file_files : (k : KernelState S) (name : List ℕ) (mode : Mode) (refused : Bool) → HasFiles k → HasFiles (open_file k pid after name mode refused)
    open_file_files k name mode refused a =
        let named : KernelState S = if reads mode then open_for_reading k pid after name mode (files k.files name) else open_for_writing k pid after name mode refused (files k.files name) in
        let good : KernelState S = if is_openable name then named else answered k pid after Refused in
        let roomy : KernelState S = if is_none (lowest_free (fds_at k pid)) then refused_for k pid after Fds else good in
        either (free_count k.entries == 0) (refused_for k pid after Open) roomy a
        (either (is_none (lowest_free (fds_at k pid))) (refused_for k pid after Fds) good a (good_files k name mode refused (is_openable name) refl a))

    -- ---- read: no file changes

    read_file_files : (k : KernelState S) (e offset n : ℕ) (o : Option (List ℕ)) → HasFiles k → HasFiles (read_file k pid after e offset n o)
    read_file_files k e offset n None a = a
    read_file_files k e offset n (Some bytes) a = a

    read_mode_files : (k : KernelState S) (e offset n : ℕ) (o : Option (List ℕ)) (mode : EntryMode) → HasFiles k → HasFiles (read_mode k pid after e offset n o mode)
    read_mode_files k e offset n o ForReading a = read_file_files k e offset n o a
    read_mode_files k e offset n o Fresh a = a
    read_mode_files k e offset n o Over a = a
    read_mode_files k e offset n o Append a = a

    read_by_files : (k : KernelState S) (id : ℕ) (got : List ℕ) (r : Take) → HasFiles k → HasFiles (read_by k pid after id got r)
    read_by_files k id got (Got n) a = a
    read_by_files k id got Empty a = a
    read_by_files k id got End a = a

    read_pipe_files : (k : KernelState S) (id n : ℕ) (o : Option PipeState) → HasFiles k → HasFiles (read_pipe k pid after id n o)
    read_pipe_files k id n None a = a
    read_pipe_files k id n (Some p) a = read_by_files (record k { pipes = with_pipe k.pipes id (after_take p n) }) id _ (take_answer p n) a

    read_object_files : (k : KernelState S) (e offset n : ℕ) (object : Object) → HasFiles k → HasFiles (read_object k pid after e offset n object)
    read_object_files k e offset n Input a = a
    read_object_files k e offset n Out a = a
    read_object_files k e offset n Diag a = a
    read_object_files k e offset n (File name mode) a = read_mode_files k e offset n (files k.files name) mode a
    read_object_files k e offset n (PipeRead id) a = read_pipe_files k id n (pipe_of k.pipes id) a
    read_object_files k e offset n (PipeWrite id) a = a

    read_entry_files : (k : KernelState S) (e n : ℕ) (o : Option Opened) → HasFiles k → HasFiles (read_entry k pid after e n o)
    read_entry_files k e n None a = a
    read_entry_files k e n (Some f) a = read_object_files k e f.offset n f.object a

    read_files : (k : KernelState S) (n : ℕ) (o : Option ℕ) → HasFiles k → HasFiles (read_held k pid after n o)
    read_files k n None a = a
    read_files k n (Some e) a = read_entry_files k e n (file_at k.entries (Some e)) a

    -- ---- write: a file that is there gets other bytes, within the largest size

    write_file_files : (k : KernelState S) (e : ℕ) (name : List ℕ) (offset : ℕ) (bs : List ℕ) (refused : Bool) (o : Option (List ℕ)) → files k.files name ≡ o → HasFiles k → HasFiles (write_file k pid after e name offset bs refused o)
    write_file_files k e name offset bs refused None none a = a
    write_file_files k e name offset bs refused (Some bytes) is a =
        let done : KernelState S = answered (record k { files = with_entry k.files name (written bytes offset bs); entries = advanced k.entries e (length bs) }) pid after Done in
        let memory : KernelState S = if lacks_memory refused (length bytes) (offset + length bs) then refused_for k pid after Memory else done in
        let size : KernelState S = if nat_lt max_size (offset + length bs) then refused_for k pid after Size else memory in
        either_by (nat_lt (length bytes) offset) (answered k pid after Refused) size a
        (λ inside. either_by (nat_lt max_size (offset + length bs)) (refused_for k pid after Size) memory a
        (λ fits. either (lacks_memory refused (length bytes) (offset + length bs)) (refused_for k pid after Memory) done a
        (AreFiles-changed k.files name bytes (written bytes offset bs) a is
        (small_write bytes offset bs (ltb-false (length bytes) offset inside) (small_file k.files name bytes a is) (ltb-false max_size (offset + length bs) fits)))))

    append_file_files : (k : KernelState S) (e : ℕ) (name bs : List ℕ) (refused : Bool) (o : Option (List ℕ)) → files k.files name ≡ o → HasFiles k → HasFiles (append_file k pid after e name bs refused o)
    append_file_files k e name bs refused None none a = a
    append_file_files k e name bs refused (Some bytes) is a =
        let done : KernelState S = answered (record k { files = with_entry k.files name (bytes ++ bs); entries = moved_to k.entries e (length bytes + length bs) }) pid after Done in
        let memory : KernelState S = if lacks_memory refused (length bytes) (length bytes + length bs) then refused_for k pid after Memory else done in
        either_by (nat_lt max_size (length bytes + length bs)) (refused_for k pid after Size) memory a
        (λ fits. either (lacks_memory refused (length bytes) (length bytes + length bs)) (refused_for k pid after Memory) done a
        (AreFiles-changed k.files name bytes (bytes ++ bs) a is (omega (arith, length-append bytes bs, ltb-false max_size (length bytes + length bs) fits))))

    write_mode_files : (k : KernelState S) (e offset : ℕ) (name bs : List ℕ) (refused : Bool) (mode : EntryMode) → HasFiles k → HasFiles (write_mode k pid after e name offset bs refused mode)
    write_mode_files k e offset name bs refused ForReading a = a
    write_mode_files k e offset name bs refused Fresh a = write_file_files k e name offset bs refused (files k.files name) refl a
    write_mode_files k e offset name bs refused Over a = write_file_files k e name offset bs refused (files k.files name) refl a
    write_mode_files k e offset name bs refused Append a = append_file_files k e name bs refused (files k.files name) refl a

    write_by_files : (k : KernelState S) (id put left : ℕ) (r : Put) → HasFiles k → HasFiles (write_by k pid after id put left r)
    write_by_files k id put left (Took n) a = either (n == left) _ _ a a
    write_by_files k id put left NoRoom a = a
    write_by_files k id put left Closed a = a

    write_pipe_files : (k : KernelState S) (id put : ℕ) (xs : List ℕ) (o : Option PipeState) → HasFiles k → HasFiles (write_pipe k pid after id put xs o)
    write_pipe_files k id put xs None a = a
    write_pipe_files k id put xs (Some p) a = write_by_files (record k { pipes = with_pipe k.pipes id (after_put p xs) }) id put (length xs) (put_answer p xs) a

    write_object_files : (k : KernelState S) (e offset : ℕ) (bs : List ℕ) (refused : Bool) (object : Object) → HasFiles k → HasFiles (write_object k pid after e offset bs refused object)
    write_object_files k e offset bs refused Input a = a
    write_object_files k e offset bs refused Out a = either (lacks_memory refused (length k.out) (length k.out + length bs)) (refused_for k pid after Memory) (answered (record k { out = k.out ++ bs }) pid after Done) a a
    write_object_files k e offset bs refused Diag a = either (lacks_memory refused (length k.diag) (length k.diag + length bs)) (refused_for k pid after Memory) (answered (record k { diag = k.diag ++ bs }) pid after Done) a a
    write_object_files k e offset bs refused (File name mode) a = write_mode_files k e offset name bs refused mode a
    write_object_files k e offset bs refused (PipeRead id) a = a
    write_object_files k e offset bs refused (PipeWrite id) a = write_pipe_files k id (put_of (at k.table pid)) (drop (put_of (at k.table pid)) bs) (pipe_of k.pipes id) a

    write_entry_files : (k : KernelState S) (e : ℕ) (bs : List ℕ) (refused : Bool) (o : Option Opened) → HasFiles k → HasFiles (write_entry k pid after e bs refused o)
    write_entry_files k e bs refused None a = a
    write_entry_files k e bs refused (Some f) a = write_object_files k e f.offset bs refused f.object a

    write_files : (k : KernelState S) (bs : List ℕ) (refused : Bool) (o : Option ℕ) → HasFiles k → HasFiles (write_held k pid after bs refused o)
    write_files k bs refused None a = a
    write_files k bs refused (Some e) a = write_entry_files k e bs refused (file_at k.entries (Some e)) a

    pub acted_files : (k : KernelState S) (call : Call) (refused : Bool) → HasFiles k → HasFiles (acted k pid after call refused)
    acted_files k Fork refused a = fork_files k (lowest_free_slot k.table) a
    acted_files k (Exec found) refused a = a
    acted_files k Exit refused a = exit_files k a
    acted_files k Wait refused a = wait_files k (wait_answer k.table pid) a
    acted_files k MakePipe refused a = make_pipe_files k refused a
    acted_files k (Read fd n) refused a = read_files k (min n block_size) (entry_of (fds_at k pid) fd) a
    acted_files k (Write fd bs) refused a = write_files k bs refused (entry_of (fds_at k pid) fd) a
    acted_files k (OpenFile name mode) refused a = open_file_files k name mode refused a
    acted_files k (Close fd) refused a = closed_files k fd a
    acted_files k (Dup fd) refused a = dup_files (copied k pid (entry_of (fds_at k pid) fd) (lowest_free (fds_at k pid))) (dup_answer (entry_of (fds_at k pid) fd) (lowest_free (fds_at k pid))) a
