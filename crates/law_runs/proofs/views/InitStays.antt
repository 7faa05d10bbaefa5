-- No call of another process changes init's machine or its descriptors.
use Rattle.std.proofs.Common.{◌≡◌, ◌≢◌, ℕ, zero, suc, ◌+◌, [], ◌++◌, Bool, true, false, Option, Some, None, length, drop, take, refl, ap, ◌∙◌}
use Rattle.std.proofs.lemmas.Bool.{both_ways, and_parts}
use Rattle.std.proofs.Math.ListN.{set}
use Rattle.std.specs.Prelude.{if◌then◌else◌, nat_lt, nat_le, ◌==◌, is_none, is_some, Result, Ok, Err, min}
use Rattle.user_calls.specs.Limits.{block_size}
use Rattle.user_calls.specs.declared.calls.Call.{Call}
use Rattle.user_calls.specs.declared.calls.Call.TheVariants.{Fork, Exec, Exit, Wait, MakePipe, Read, Write, OpenFile, Close, Dup}
use Rattle.user_calls.specs.declared.calls.Mode.{Mode}
use Rattle.user_calls.specs.declared.calls.Reply.{Reply}
use Rattle.user_calls.specs.declared.calls.Reply.TheVariants.{Done, Refused}
use Rattle.fd_table.specs.declared.names.Mode.{Mode as EntryMode}
use Rattle.fd_table.specs.declared.names.Mode.TheVariants.{Input as ForReading, Fresh, Over, Append}
use Rattle.fd_table.specs.declared.names.Object.{Object}
use Rattle.fd_table.specs.declared.names.Object.TheVariants.{Input, Out, Diag, File, PipeRead, PipeWrite}
use Rattle.fd_table.specs.declared.faults.FdFault.{FdFault}
use Rattle.fd_table.specs.declared.faults.FdFault.TheVariants.{BadFd, FullFds, FullOpen}
use Rattle.fd_table.specs.declared.descriptors.TheConstants.{DESCRIPTORS}
use Rattle.fd_table.specs.Entries.{OpenFile as Opened, free_count, lowest_free_entry, advanced, moved_to}
use Rattle.fd_table.specs.Descriptors.{Descriptors, entry_of, lowest_free, close_answer, dup_answer}
use Rattle.byte_pipe.specs.declared.Take.{Take}
use Rattle.byte_pipe.specs.declared.Take.TheVariants.{Got, Empty, End}
use Rattle.byte_pipe.specs.declared.Put.{Put}
use Rattle.byte_pipe.specs.declared.Put.TheVariants.{Took, Full as NoRoom, Closed}
use Rattle.byte_pipe.specs.PipeState.{PipeState, take_answer, put_answer, after_take, after_put}
use Rattle.mem_files.specs.Name.{Bytes, is_openable}
use Rattle.mem_files.specs.Files.{files}
use Rattle.mem_files.specs.Overlay.{written}
use Rattle.mem_files.specs.Listing.{max_files, max_size, with_entry}
use Rattle.proc_table.specs.declared.states.Channel.{Channel}
use Rattle.proc_table.specs.declared.states.Channel.TheVariants.{PipeBytes, PipeRoom, Children}
use Rattle.proc_table.specs.declared.table.Waited.{Waited}
use Rattle.proc_table.specs.declared.table.Waited.TheVariants.{Reaped, NoChildren, MustSleep}
use Rattle.proc_table.specs.Slots.{Table, Slot, at, put_of, is_free, is_child_of, is_zombie, parent_of}
use Rattle.proc_table.specs.Calls.{lowest_free as lowest_free_slot, readied, slept, all_woken, woken, given, exited, reaped, forked, made_ready, put_to_sleep, with_fds, zombie_child, wait_answer}
use Rattle.proc_table.proofs.Changes.{kept, mapped, was_free, reaped_others, reaped_nothing, was_zombie_child, exit_other}
use Rattle.kernel_model.specs.declared.events.Full.TheVariants.{Open, Fds, Files, Size, Memory}
use Rattle.kernel_model.specs.KernelState.{KernelState, fds_at, file_at}
use Rattle.kernel_model.specs.Pipes.{pipe_of, with_pipe, with_new}
use Rattle.kernel_model.specs.Modes.{entry_mode, reads, empties}
use Rattle.kernel_model.specs.Replies.{answered, refused_for}
use Rattle.kernel_model.specs.Descriptors.{let_go, let_go_of, taken_away, closed, closed_by, closed_below, opened_at, with_open, dup_by, copied, with_reader, with_ends, ends_reply, make_pipe}
use Rattle.kernel_model.specs.Processes.{fork_into, ended, wait_by}
use Rattle.kernel_model.specs.Opening.{emptied_if, with_bytes, open_here, open_for_reading, open_for_writing, open_file}
use Rattle.kernel_model.specs.Reading.{read_file, read_mode, read_by, read_pipe, read_object, read_entry, read_held}
use Rattle.kernel_model.specs.Writing.{lacks_memory, write_file, append_file, write_mode, write_by, write_pipe, write_object, write_entry, write_held}
use Rattle.kernel_model.specs.Events.{acted}
use Rattle.law_kernel.specs.Sleeping.{IsFamily}
use Rattle.sh_machine.specs.State.{User}

-- the machine and the descriptors of a slot's process
abbrev pub own_of : Slot User → Option (User × Descriptors)
own_of None = None
own_of (Some p) = Some (p.machine, p.fds)

-- init's slot has the same
abbrev pub Stays : Table User → Table User → Type 0
Stays t u = own_of (at u 0) ≡ own_of (at t 0)

own_woken : (c : Channel) (x : Slot User) → own_of (woken c x) ≡ own_of x
own_woken c None = refl
own_woken c (Some p) = refl

own_given : (p : ℕ) (x : Slot User) → own_of (given p x) ≡ own_of x
own_given p None = refl
own_given p (Some q) = refl

own_if : (b : Bool) (x y z : Slot User) → own_of x ≡ own_of z → own_of y ≡ own_of z → own_of (if b then x else y) ≡ own_of z
own_if true x y z e f = e
own_if false x y z e f = f

pub all_woken_stays : (t : Table User) (c : Channel) → Stays t (all_woken c t)
all_woken_stays t c = ap own_of (mapped (woken c) refl t 0) ∙ own_woken c (at t 0)

-- who takes away a child leaves init
pub reap_stays : (t : Table User) (p : ℕ) → IsFamily t → (o : Option ℕ) → zombie_child t p ≡ o → Stays t (reaped t p)
reap_stays t p family None found = ap (λ u. own_of (at u 0)) (reaped_nothing t p found)
reap_stays t p family (Some child) found =
    let was = (and_parts (is_child_of p (at t child)) (is_zombie (at t child)) (was_zombie_child t p child found).1).0 in
    ap own_of (reaped_others t p child 0 found (λ e. both_ways (is_child_of p (at t 0)) (family.eldest p) (ap (λ n. is_child_of p (at t n)) e ∙ was)))

module _ (p : ℕ) (up : 0 ≢ p) where
  set_stays : (t : Table User) (x : Slot User) → Stays t (set t p x)
  set_stays t x = ap own_of (kept t p 0 x up)

  exit_stays : (t : Table User) → Stays t (exited t p)
  exit_stays t =
      let c = Children (parent_of (at t p)) in
      let x = given p (at t 0) in
      ap own_of (exit_other t p 0 up)
      ∙ own_if (is_some (zombie_child t p)) (woken (Children 0) (woken c x)) (woken c x) x (own_woken (Children 0) (woken c x) ∙ own_woken c x) (own_woken c x)
      ∙ own_given p (at t 0)

  module _ (after : User) where
    -- the state l, some way into the call made in k
    abbrev Same : KernelState User → KernelState User → Type 0
    Same k l = Stays k.table l.table

    answers : (k m : KernelState User) (r : Reply) → Same k m → Same k (answered m p after r)
    answers k m r s = set_stays m.table (made_ready after r (at m.table p)) ∙ s

    sleeps_on : (k m : KernelState User) (c : Channel) (put : ℕ) → Same k m → Stays k.table (slept m.table p c put)
    sleeps_on k m c put s = set_stays m.table (put_to_sleep c put (at m.table p)) ∙ s

    wake : (k : KernelState User) (t : Table User) (c : Channel) → Stays k.table t → Stays k.table (all_woken c t)
    wake k t c s = all_woken_stays t c ∙ s

    either : (k : KernelState User) (b : Bool) (x y : KernelState User) → Same k x → Same k y → Same k (if b then x else y)
    either k true x y s t = s
    either k false x y s t = t

    -- ---- descriptors

    let_go_same : (k m : KernelState User) (o : Object) → Same k m → Same k (let_go m o)
    let_go_same k m Input s = s
    let_go_same k m Out s = s
    let_go_same k m Diag s = s
    let_go_same k m (File name mode) s = s
    let_go_same k m (PipeRead id) s = wake k m.table (PipeRoom id) s
    let_go_same k m (PipeWrite id) s = wake k m.table (PipeBytes id) s

    let_go_of_same : (k m : KernelState User) (r : Result (Option Object) FdFault) → Same k m → Same k (let_go_of m r)
    let_go_of_same k m (Err fault) s = s
    let_go_of_same k m (Ok None) s = s
    let_go_of_same k m (Ok (Some o)) s = let_go_same k m o s

    close_same : (k m : KernelState User) (fd : ℕ) (entry : Option ℕ) → Same k m → Same k (closed_by m p fd entry)
    close_same k m fd entry s = let_go_of_same k (taken_away m p fd entry) (close_answer m.entries entry) (set_stays m.table (with_fds _ (at m.table p)) ∙ s)

    below_same : (k m : KernelState User) (n : ℕ) → Same k m → Same k (closed_below m p n)
    unfolding closed_below
    below_same k m zero s = s
    below_same k m (suc n) s = close_same k (closed_below m p n) n (entry_of (fds_at (closed_below m p n) p) n) (below_same k m n s)

    open_same : (k m : KernelState User) (object : Object) (o : Option ℕ) → Same k m → Same k (opened_at m p object o)
    open_same k m object None s = s
    open_same k m object (Some e) s = set_stays m.table (with_fds _ (at m.table p)) ∙ s

    dup_same : (k m : KernelState User) (r : Result ℕ FdFault) → Same k m → Same k (dup_by m p after r)
    dup_same k m (Ok fd) s = answers k m _ s
    dup_same k m (Err BadFd) s = answers k m _ s
    dup_same k m (Err FullFds) s = answers k m _ s
    dup_same k m (Err FullOpen) s = answers k m _ s

    pipe_same : (k : KernelState User) (refused : Bool) → Same k (make_pipe k p after refused)
    pipe_same k refused =
        let done : KernelState User = answered (with_ends k p k.events) p after (ends_reply (lowest_free (fds_at k p)) (lowest_free (fds_at (with_reader k p k.events) p))) in
        let memory : KernelState User = if refused then refused_for k p after Memory else done in
        let places : KernelState User = if nat_lt (free_count (fds_at k p)) 2 then refused_for k p after Fds else memory in
        let one = with_reader k p k.events in
        let two = with_ends k p k.events in
        let s = open_same k one (PipeWrite k.events) (lowest_free_entry one.entries) (open_same k (record k { pipes = with_new k.pipes k.events }) (PipeRead k.events) (lowest_free_entry k.entries) refl) in
        either k (nat_lt (free_count k.entries) 2) (refused_for k p after Open) places (answers k k _ refl)
        (either k (nat_lt (free_count (fds_at k p)) 2) (refused_for k p after Fds) memory (answers k k _ refl)
        (either k refused (refused_for k p after Memory) done (answers k k _ refl) (answers k two _ s)))

    -- ---- open

    here_same : (k m : KernelState User) (name : Bytes) (mode : Mode) → Same k m → Same k (open_here m p after name mode)
    here_same k m name mode s = answers k (with_open m p (File name (entry_mode mode))) _ (open_same k m (File name (entry_mode mode)) (lowest_free_entry m.entries) s)

    emptied_same : (k : KernelState User) (b : Bool) (name : Bytes) → Same k (emptied_if b k name)
    emptied_same k true name = refl
    emptied_same k false name = refl

    reading_same : (k : KernelState User) (name : Bytes) (mode : Mode) (o : Option Bytes) → Same k (open_for_reading k p after name mode o)
    reading_same k name mode None = answers k k _ refl
    reading_same k name mode (Some bytes) = here_same k k name mode refl

    writing_same : (k : KernelState User) (name : Bytes) (mode : Mode) (refused : Bool) (o : Option Bytes) → Same k (open_for_writing k p after name mode refused o)
    writing_same k name mode refused (Some bytes) = here_same k (emptied_if (empties mode) k name) name mode (emptied_same k (empties mode) name)
    writing_same k name mode refused None =
        let made : KernelState User = open_here (with_bytes k name []) p after name mode in
        let memory : KernelState User = if refused then refused_for k p after Memory else made in
        either k (nat_le max_files (length k.files)) (refused_for k p after Files) memory (answers k k _ refl)
        (either k refused (refused_for k p after Memory) made (answers k k _ refl) (here_same k (with_bytes k name []) name mode refl))

    open_call : (k : KernelState User) (name : Bytes) (mode : Mode) (refused : Bool) → Same k (open_file k p after name mode refused)
    open_call k name mode refused =
        let for_reading : KernelState User = open_for_reading k p after name mode (files k.files name) in
        let for_writing : KernelState User = open_for_writing k p after name mode refused (files k.files name) in
        let named : KernelState User = if reads mode then for_reading else for_writing in
        let good : KernelState User = if is_openable name then named else answered k p after Refused in
        let roomy : KernelState User = if is_none (lowest_free (fds_at k p)) then refused_for k p after Fds else good in
        either k (free_count k.entries == 0) (refused_for k p after Open) roomy (answers k k _ refl)
        (either k (is_none (lowest_free (fds_at k p))) (refused_for k p after Fds) good (answers k k _ refl)
        (either k (is_openable name) named (answered k p after Refused)
        (either k (reads mode) for_reading for_writing (reading_same k name mode (files k.files name)) (writing_same k name mode refused (files k.files name)))
        (answers k k _ refl)))

    -- ---- read

    file_read : (k : KernelState User) (e offset n : ℕ) (o : Option Bytes) → Same k (read_file k p after e offset n o)
    file_read k e offset n None = answers k k _ refl
    file_read k e offset n (Some bytes) = answers k (record k { entries = advanced k.entries e (length (take n (drop offset bytes))) }) _ refl

    mode_read : (k : KernelState User) (e offset n : ℕ) (o : Option Bytes) (mode : EntryMode) → Same k (read_mode k p after e offset n o mode)
    mode_read k e offset n o ForReading = file_read k e offset n o
    mode_read k e offset n o Fresh = answers k k _ refl
    mode_read k e offset n o Over = answers k k _ refl
    mode_read k e offset n o Append = answers k k _ refl

    taken_read : (k m : KernelState User) (id : ℕ) (got : Bytes) (r : Take) → Same k m → Same k (read_by m p after id got r)
    taken_read k m id got (Got n) s = wake k (readied m.table p after _) (PipeRoom id) (answers k m _ s)
    taken_read k m id got Empty s = sleeps_on k m (PipeBytes id) 0 s
    taken_read k m id got End s = answers k m _ s

    pipe_read : (k : KernelState User) (id n : ℕ) (o : Option PipeState) → Same k (read_pipe k p after id n o)
    pipe_read k id n None = answers k k _ refl
    pipe_read k id n (Some pp) = taken_read k (record k { pipes = with_pipe k.pipes id (after_take pp n) }) id _ (take_answer pp n) refl

    object_read : (k : KernelState User) (e offset n : ℕ) (o : Object) → Same k (read_object k p after e offset n o)
    object_read k e offset n Input = answers k (record k { input = drop n k.input }) _ refl
    object_read k e offset n Out = answers k k _ refl
    object_read k e offset n Diag = answers k k _ refl
    object_read k e offset n (File name mode) = mode_read k e offset n (files k.files name) mode
    object_read k e offset n (PipeRead id) = pipe_read k id n (pipe_of k.pipes id)
    object_read k e offset n (PipeWrite id) = answers k k _ refl

    entry_read : (k : KernelState User) (e n : ℕ) (o : Option Opened) → Same k (read_entry k p after e n o)
    entry_read k e n None = answers k k _ refl
    entry_read k e n (Some f) = object_read k e f.offset n f.object

    held_read : (k : KernelState User) (n : ℕ) (o : Option ℕ) → Same k (read_held k p after n o)
    held_read k n None = answers k k _ refl
    held_read k n (Some e) = entry_read k e n (file_at k.entries (Some e))

    -- ---- write

    file_write : (k : KernelState User) (e : ℕ) (name : Bytes) (offset : ℕ) (b : Bytes) (refused : Bool) (o : Option Bytes) → Same k (write_file k p after e name offset b refused o)
    file_write k e name offset b refused None = answers k k _ refl
    file_write k e name offset b refused (Some bytes) =
        let now = record k { files = with_entry k.files name (written bytes offset b); entries = advanced k.entries e (length b) } in
        let done : KernelState User = answered now p after Done in
        let memory : KernelState User = if lacks_memory refused (length bytes) (offset + length b) then refused_for k p after Memory else done in
        let size : KernelState User = if nat_lt max_size (offset + length b) then refused_for k p after Size else memory in
        either k (nat_lt (length bytes) offset) (answered k p after Refused) size (answers k k _ refl)
        (either k (nat_lt max_size (offset + length b)) (refused_for k p after Size) memory (answers k k _ refl)
        (either k (lacks_memory refused (length bytes) (offset + length b)) (refused_for k p after Memory) done (answers k k _ refl) (answers k now _ refl)))

    end_write : (k : KernelState User) (e : ℕ) (name b : Bytes) (refused : Bool) (o : Option Bytes) → Same k (append_file k p after e name b refused o)
    end_write k e name b refused None = answers k k _ refl
    end_write k e name b refused (Some bytes) =
        let now = record k { files = with_entry k.files name (bytes ++ b); entries = moved_to k.entries e (length bytes + length b) } in
        let done : KernelState User = answered now p after Done in
        let memory : KernelState User = if lacks_memory refused (length bytes) (length bytes + length b) then refused_for k p after Memory else done in
        either k (nat_lt max_size (length bytes + length b)) (refused_for k p after Size) memory (answers k k _ refl)
        (either k (lacks_memory refused (length bytes) (length bytes + length b)) (refused_for k p after Memory) done (answers k k _ refl) (answers k now _ refl))

    mode_write : (k : KernelState User) (e : ℕ) (name : Bytes) (offset : ℕ) (b : Bytes) (refused : Bool) (mode : EntryMode) → Same k (write_mode k p after e name offset b refused mode)
    mode_write k e name offset b refused ForReading = answers k k _ refl
    mode_write k e name offset b refused Fresh = file_write k e name offset b refused (files k.files name)
    mode_write k e name offset b refused Over = file_write k e name offset b refused (files k.files name)
    mode_write k e name offset b refused Append = end_write k e name b refused (files k.files name)

    put_write : (k m : KernelState User) (id put left : ℕ) (r : Put) → Same k m → Same k (write_by m p after id put left r)
    put_write k m id put left (Took n) s = either k (n == left) _ _ (wake k (readied m.table p after Done) (PipeBytes id) (answers k m Done s)) (wake k (slept m.table p (PipeRoom id) (put + n)) (PipeBytes id) (sleeps_on k m (PipeRoom id) (put + n) s))
    put_write k m id put left NoRoom s = wake k (slept m.table p (PipeRoom id) put) (PipeBytes id) (sleeps_on k m (PipeRoom id) put s)
    put_write k m id put left Closed s = answers k m _ s

    pipe_write : (k : KernelState User) (id put : ℕ) (xs : Bytes) (o : Option PipeState) → Same k (write_pipe k p after id put xs o)
    pipe_write k id put xs None = answers k k _ refl
    pipe_write k id put xs (Some pp) = put_write k (record k { pipes = with_pipe k.pipes id (after_put pp xs) }) id put (length xs) (put_answer pp xs) refl

    object_write : (k : KernelState User) (e offset : ℕ) (b : Bytes) (refused : Bool) (o : Object) → Same k (write_object k p after e offset b refused o)
    object_write k e offset b refused Input = answers k k _ refl
    object_write k e offset b refused Out = either k (lacks_memory refused (length k.out) (length k.out + length b)) (refused_for k p after Memory) (answered (record k { out = k.out ++ b }) p after Done) (answers k k _ refl) (answers k (record k { out = k.out ++ b }) _ refl)
    object_write k e offset b refused Diag = either k (lacks_memory refused (length k.diag) (length k.diag + length b)) (refused_for k p after Memory) (answered (record k { diag = k.diag ++ b }) p after Done) (answers k k _ refl) (answers k (record k { diag = k.diag ++ b }) _ refl)
    object_write k e offset b refused (File name mode) = mode_write k e name offset b refused mode
    object_write k e offset b refused (PipeRead id) = answers k k _ refl
    object_write k e offset b refused (PipeWrite id) = pipe_write k id (put_of (at k.table p)) (drop (put_of (at k.table p)) b) (pipe_of k.pipes id)

    entry_write : (k : KernelState User) (e : ℕ) (b : Bytes) (refused : Bool) (o : Option Opened) → Same k (write_entry k p after e b refused o)
    entry_write k e b refused None = answers k k _ refl
    entry_write k e b refused (Some f) = object_write k e f.offset b refused f.object

    held_write : (k : KernelState User) (b : Bytes) (refused : Bool) (o : Option ℕ) → Same k (write_held k p after b refused o)
    held_write k b refused None = answers k k _ refl
    held_write k b refused (Some e) = entry_write k e b refused (file_at k.entries (Some e))

    -- ---- processes

    module _ (k : KernelState User) (family : IsFamily k.table) where
      fork_same : (place : Option ℕ) → lowest_free_slot k.table ≡ place → Same k (fork_into k p after place)
      fork_same None low = answers k k _ refl
      fork_same (Some child) low =
          let not_it : 0 ≢ child = λ e. both_ways (is_free (at k.table 0)) family.init.used (ap (λ n. is_free (at k.table n)) e ∙ ap is_free (was_free k.table child low)) in
          answers k (record k { table = forked k.table child p after (fds_at k p) }) Done (ap own_of (kept k.table child 0 _ not_it))

      wait_same : (w : Waited) → Same k (wait_by k p after w)
      wait_same (Reaped child) = answers k (record k { table = reaped k.table p }) Done (reap_stays k.table p family (zombie_child k.table p) refl)
      wait_same NoChildren = answers k k _ refl
      wait_same MustSleep = sleeps_on k k (Children p) 0 refl

      pub call_same : (call : Call) (refused : Bool) → Same k (acted k p after call refused)
      call_same Fork refused = fork_same (lowest_free_slot k.table) refl
      call_same (Exec found) refused = answers k k _ refl
      call_same Exit refused = either k (p == 0) (answered k p after Refused) (ended p (closed_below k p DESCRIPTORS)) (answers k k _ refl) (exit_stays (closed_below k p DESCRIPTORS).table ∙ below_same k k DESCRIPTORS refl)
      call_same Wait refused = wait_same (wait_answer k.table p)
      call_same MakePipe refused = pipe_same k refused
      call_same (Read fd n) refused = held_read k (min n block_size) (entry_of (fds_at k p) fd)
      call_same (Write fd b) refused = held_write k b refused (entry_of (fds_at k p) fd)
      call_same (OpenFile name mode) refused = open_call k name mode refused
      call_same (Close fd) refused = answers k (closed k p fd) _ (close_same k k fd (entry_of (fds_at k p) fd) refl)
      call_same (Dup fd) refused = dup_same k (copied k p (entry_of (fds_at k p) fd) (lowest_free (fds_at k p))) (dup_answer (entry_of (fds_at k p) fd) (lowest_free (fds_at k p))) (set_stays k.table (with_fds _ (at k.table p)))
