-- Which call marks a kernel, and what was full then: a fork without a slot, a call that wants more entries or descriptors than are
-- free, an open that would make a file too many, and a write that would make a file too large.
use Rattle.std.proofs.Common.{◌≡◌, ℕ, zero, suc, ◌+◌, ◌<◌, ◌≤◌, List, [], Bool, true, false, Option, Some, None, length, drop, refl, sym, ap, ◌∙◌, subst, arith}
use Rattle.std.proofs.lemmas.Bool.{ltb-true, ltb-false, leb-true, eqb-true}
use Rattle.std.specs.Prelude.{Result, Ok, Err, ◌==◌, nat_le, nat_lt, is_none, IsSome, if◌then◌else◌}
use Rattle.user_calls.specs.declared.calls.Call.{Call}
use Rattle.user_calls.specs.declared.calls.Call.TheVariants.{Fork, Exec, Exit, Wait, MakePipe, Read, Write, OpenFile, Close, Dup}
use Rattle.user_calls.specs.declared.calls.Mode.{Mode}
use Rattle.user_calls.specs.declared.calls.Reply.TheVariants.{Refused}
use Rattle.fd_table.specs.declared.descriptors.TheConstants.{DESCRIPTORS}
use Rattle.fd_table.specs.declared.faults.FdFault.{FdFault}
use Rattle.fd_table.specs.declared.names.Mode.{Mode as EntryMode}
use Rattle.fd_table.specs.declared.names.Mode.TheVariants.{Input as ForReading, Fresh, Over, Append}
use Rattle.fd_table.specs.declared.names.Object.{Object}
use Rattle.fd_table.specs.declared.names.Object.TheVariants.{Input, Out, Diag, File, PipeRead, PipeWrite}
use Rattle.fd_table.specs.Entries.{OpenFile as Entry, is_free, free_count, lowest_free_entry}
use Rattle.fd_table.specs.Descriptors.{Descriptors, entry_of, lowest_free, dup_answer, close_answer}
use Rattle.fd_table.proofs.Free.{found}
use Rattle.byte_pipe.specs.PipeState.{PipeState, put_answer, take_answer}
use Rattle.byte_pipe.specs.declared.Put.{Put}
use Rattle.byte_pipe.specs.declared.Put.TheVariants.{Took, Full as NoRoom, Closed}
use Rattle.byte_pipe.specs.declared.Take.{Take}
use Rattle.byte_pipe.specs.declared.Take.TheVariants.{Got, Empty, End}
use Rattle.mem_files.specs.Name.{Name, Bytes, is_openable}
use Rattle.mem_files.specs.Files.{files, bytes_of}
use Rattle.mem_files.specs.Listing.{max_files, max_size}
use Rattle.proc_table.specs.Slots.{at, put_of}
use Rattle.proc_table.specs.declared.table.Waited.{Waited}
use Rattle.proc_table.specs.declared.table.Waited.TheVariants.{Reaped, NoChildren, MustSleep}
use Rattle.proc_table.specs.Calls.{lowest_free as lowest_free_slot, wait_answer}
use Rattle.kernel_model.specs.declared.events.Full.{Full}
use Rattle.kernel_model.specs.declared.events.Full.TheVariants.{Procs, Open, Fds, Files, Size, Memory}
use Rattle.kernel_model.specs.KernelState.{KernelState, fds_at, file_at}
use Rattle.kernel_model.specs.Modes.{entry_mode, reads, empties}
use Rattle.kernel_model.specs.Pipes.{pipe_of, with_new}
use Rattle.kernel_model.specs.Replies.{answered, refused_for, marked}
use Rattle.kernel_model.specs.Descriptors.{let_go_of, taken_away, closed, closed_below, copied, dup_by, opened_at, with_open, with_reader, with_ends, make_pipe}
use Rattle.kernel_model.specs.Opening.{with_bytes, open_here, open_for_reading, open_for_writing, open_named, open_file, emptied_if}
use Rattle.kernel_model.specs.Processes.{fork_into, wait_by, ended}
use Rattle.kernel_model.specs.Reading.{read_file, read_mode, read_by, read_pipe, read_object, read_entry, read_held}
use Rattle.kernel_model.specs.Writing.{lacks_memory, write_file, append_file, write_mode, write_by, write_pipe, write_object, write_entry, write_held}
use Rattle.kernel_model.specs.Events.{acted}

-- how many entries, and how many descriptors, a call has to find free
abbrev pub entries_wanted : Call → ℕ
entries_wanted Fork = 0
entries_wanted (Exec is_known) = 0
entries_wanted Exit = 0
entries_wanted Wait = 0
entries_wanted MakePipe = 2
entries_wanted (Read fd most) = 0
entries_wanted (Write fd bytes) = 0
entries_wanted (OpenFile name mode) = 1
entries_wanted (Close fd) = 0
entries_wanted (Dup fd) = 0

abbrev pub descriptors_wanted : Call → ℕ
descriptors_wanted Fork = 0
descriptors_wanted (Exec is_known) = 0
descriptors_wanted Exit = 0
descriptors_wanted Wait = 0
descriptors_wanted MakePipe = 2
descriptors_wanted (Read fd most) = 0
descriptors_wanted (Write fd bytes) = 0
descriptors_wanted (OpenFile name mode) = 1
descriptors_wanted (Close fd) = 0
descriptors_wanted (Dup fd) = 1

-- an open that is to make a file where there are as many as there can be
pub record MakesTooMany {S : Type 0} (k : KernelState S) (call : Call) : Type 0 where
  pub name : Name
  pub mode : Mode
  pub asks : call ≡ OpenFile name mode
  pub openable : is_openable name ≡ true
  pub writes : reads mode ≡ false
  pub missing : files k.files name ≡ None
  pub many : max_files ≤ length k.files

-- a write to a file that would become larger than a file can be, even where nothing is written over
pub record WritesTooMuch {S : Type 0} (k : KernelState S) (pid : ℕ) (call : Call) : Type 0 where
  pub fd : ℕ
  pub bytes : Bytes
  pub asks : call ≡ Write fd bytes
  pub entry : Entry
  pub opened : file_at k.entries (entry_of (fds_at k pid) fd) ≡ Some entry
  pub name : Name
  pub mode : EntryMode
  pub object : entry.object ≡ File name mode
  pub much : max_size < length (bytes_of (files k.files name)) + length bytes

-- what is full for a call of pid
abbrev pub Lacks : {S : Type 0} → KernelState S → ℕ → Call → Full → Type 0
Lacks k pid call Procs = (call ≡ Fork) × (lowest_free_slot k.table ≡ None)
Lacks k pid call Open = free_count k.entries < entries_wanted call
Lacks k pid call Fds = free_count (fds_at k pid) < descriptors_wanted call
Lacks k pid call Files = MakesTooMany k call
Lacks k pid call Size = WritesTooMuch k pid call
Lacks k pid call Memory = Unit {0}

none_free : (fds : Descriptors) → lowest_free fds ≡ None → free_count fds < 1
none_free fds none = by (free_count fds) refl
  where
    by : (n : ℕ) → free_count fds ≡ n → free_count fds < 1
    by zero is = omega (arith, is)
    by (suc n) is = absurd (let some : IsSome (lowest_free fds) = (found is_free fds).1 (omega (arith, is)) in let z : ⊥ = cc in z)

-- ---- what leaves the mark as it was

module _ {S : Type 0} (pid : ℕ) where
  opened_mark : (k : KernelState S) (object : Object) (place : Option ℕ) → (opened_at k pid object place).full ≡ k.full
  opened_mark k object None = refl
  opened_mark k object (Some e) = refl

  open_mark : (k : KernelState S) (object : Object) → (with_open k pid object).full ≡ k.full
  open_mark k object = opened_mark k object (lowest_free_entry k.entries)

  let_go_mark : (k : KernelState S) (r : Result (Option Object) FdFault) → (let_go_of k r).full ≡ k.full
  let_go_mark k (Err fault) = refl
  let_go_mark k (Ok None) = refl
  let_go_mark k (Ok (Some Input)) = refl
  let_go_mark k (Ok (Some Out)) = refl
  let_go_mark k (Ok (Some Diag)) = refl
  let_go_mark k (Ok (Some (File name mode))) = refl
  let_go_mark k (Ok (Some (PipeRead id))) = refl
  let_go_mark k (Ok (Some (PipeWrite id))) = refl

  closed_mark : (k : KernelState S) (fd : ℕ) → (closed k pid fd).full ≡ k.full
  closed_mark k fd = let_go_mark (taken_away k pid fd (entry_of (fds_at k pid) fd)) (close_answer k.entries (entry_of (fds_at k pid) fd))

  closed_below_mark : (k : KernelState S) (n : ℕ) → (closed_below k pid n).full ≡ k.full
  unfolding closed_below
  closed_below_mark k zero = refl
  closed_below_mark k (suc n) = closed_mark (closed_below k pid n) n ∙ closed_below_mark k n

  -- ---- a call of pid on a kernel without a mark

  module _ (k : KernelState S) (after : S) (call : Call) (clean : k.full ≡ None) where
    -- where it is marked, that was full
    abbrev Tells : KernelState S → Type 0
    Tells l = (full : Full) → l.full ≡ Some full → Lacks k pid call full

    still : {o : Option Full} → o ≡ k.full → (full : Full) → o ≡ Some full → Lacks k pid call full
    still same full is = absurd (let z : ⊥ = cc in z)

    quiet : (l : KernelState S) → l.full ≡ k.full → Tells l
    quiet l same = still same

    lacking : (l : KernelState S) (what : Full) → l.full ≡ marked k.full what → Lacks k pid call what → Tells l
    lacking l what marks lacks full is =
        let z : Some what ≡ Some full = sym (ap (λ (o : Option Full). marked o what) clean) ∙ (sym marks ∙ is) in
        let same : what ≡ full = cc in
        subst (Lacks k pid call) same lacks

    either : (b : Bool) (x y : KernelState S) → (b ≡ true → Tells x) → (b ≡ false → Tells y) → Tells (if b then x else y)
    either true x y first second = first refl
    either false x y first second = second refl

    fork_tells : (place : Option ℕ) → call ≡ Fork → lowest_free_slot k.table ≡ place → Tells (fork_into k pid after place)
    fork_tells None is none = lacking (fork_into k pid after None) Procs refl (is, none)
    fork_tells (Some child) is found = quiet (fork_into k pid after (Some child)) refl

    wait_tells : (w : Waited) → Tells (wait_by k pid after w)
    wait_tells (Reaped child) = quiet (wait_by k pid after (Reaped child)) refl
    wait_tells NoChildren = quiet (wait_by k pid after NoChildren) refl
    wait_tells MustSleep = quiet (wait_by k pid after MustSleep) refl

    exit_tells : Tells (if pid == 0 then answered k pid after Refused else ended pid (closed_below k pid DESCRIPTORS))
    exit_tells =
        either (pid == 0) (answered k pid after Refused) (ended pid (closed_below k pid DESCRIPTORS)) (λ t. quiet (answered k pid after Refused) refl)
        (λ t. quiet (ended pid (closed_below k pid DESCRIPTORS)) (closed_below_mark k DESCRIPTORS))

    ends_mark : (with_ends k pid k.events).full ≡ k.full
    ends_mark = open_mark (with_reader k pid k.events) (PipeWrite k.events) ∙ open_mark (record k { pipes = with_new k.pipes k.events }) (PipeRead k.events)

    pipe_tells : (refused : Bool) → call ≡ MakePipe → Tells (make_pipe k pid after refused)
    pipe_tells refused is =
        either (nat_lt (free_count k.entries) 2) (refused_for k pid after Open) _
        (λ test. lacking (refused_for k pid after Open) Open refl (subst (λ c. free_count k.entries < entries_wanted c) (sym is) (ltb-true (free_count k.entries) 2 test)))
        (λ _. either (nat_lt (free_count (fds_at k pid)) 2) (refused_for k pid after Fds) _
        (λ test. lacking (refused_for k pid after Fds) Fds refl (subst (λ c. free_count (fds_at k pid) < descriptors_wanted c) (sym is) (ltb-true (free_count (fds_at k pid)) 2 test)))
        (λ _. either refused (refused_for k pid after Memory) _ (λ _. lacking (refused_for k pid after Memory) Memory refl tt) (λ _. still ends_mark)))

    -- ---- read

    read_file_tells : (e offset n : ℕ) (o : Option Bytes) → Tells (read_file k pid after e offset n o)
    read_file_tells e offset n None = quiet (read_file k pid after e offset n None) refl
    read_file_tells e offset n (Some bytes) = quiet (read_file k pid after e offset n (Some bytes)) refl

    read_mode_tells : (e offset n : ℕ) (o : Option Bytes) (mode : EntryMode) → Tells (read_mode k pid after e offset n o mode)
    read_mode_tells e offset n o ForReading = read_file_tells e offset n o
    read_mode_tells e offset n o Fresh = quiet (read_mode k pid after e offset n o Fresh) refl
    read_mode_tells e offset n o Over = quiet (read_mode k pid after e offset n o Over) refl
    read_mode_tells e offset n o Append = quiet (read_mode k pid after e offset n o Append) refl

    read_by_tells : (l : KernelState S) (id : ℕ) (got : List ℕ) (t : Take) → l.full ≡ k.full → Tells (read_by l pid after id got t)
    read_by_tells l id got (Got n) same = quiet (read_by l pid after id got (Got n)) same
    read_by_tells l id got Empty same = quiet (read_by l pid after id got Empty) same
    read_by_tells l id got End same = quiet (read_by l pid after id got End) same

    read_pipe_tells : (id n : ℕ) (o : Option PipeState) → Tells (read_pipe k pid after id n o)
    read_pipe_tells id n None = quiet (read_pipe k pid after id n None) refl
    read_pipe_tells id n (Some p) = read_by_tells _ id _ (take_answer p n) refl

    read_object_tells : (e offset n : ℕ) (object : Object) → Tells (read_object k pid after e offset n object)
    read_object_tells e offset n Input = quiet (read_object k pid after e offset n Input) refl
    read_object_tells e offset n Out = quiet (read_object k pid after e offset n Out) refl
    read_object_tells e offset n Diag = quiet (read_object k pid after e offset n Diag) refl
    read_object_tells e offset n (File name mode) = read_mode_tells e offset n (files k.files name) mode
    read_object_tells e offset n (PipeRead id) = read_pipe_tells id n (pipe_of k.pipes id)
    read_object_tells e offset n (PipeWrite id) = quiet (read_object k pid after e offset n (PipeWrite id)) refl

    read_entry_tells : (e n : ℕ) (o : Option Entry) → Tells (read_entry k pid after e n o)
    read_entry_tells e n None = quiet (read_entry k pid after e n None) refl
    read_entry_tells e n (Some f) = read_object_tells e f.offset n f.object

    read_tells : (n : ℕ) (o : Option ℕ) → Tells (read_held k pid after n o)
    read_tells n None = quiet (read_held k pid after n None) refl
    read_tells n (Some e) = read_entry_tells e n (file_at k.entries (Some e))

    -- ---- write

    module _ (fd : ℕ) (b : Bytes) (is : call ≡ Write fd b) where
      abbrev Opened : Option Entry → Type 0
      Opened o = file_at k.entries (entry_of (fds_at k pid) fd) ≡ o

      too_much : (f : Entry) (name : Name) (mode : EntryMode) (bytes : Bytes) → Opened (Some f) → f.object ≡ File name mode → files k.files name ≡ Some bytes → max_size < length bytes + length b → WritesTooMuch k pid call
      too_much f name mode bytes opened object found much = record {
        fd = fd;
        bytes = b;
        asks = is;
        entry = f;
        opened = opened;
        name = name;
        mode = mode;
        object = object;
        much = omega (arith, much, ap (λ o. length (bytes_of o)) found);
      }

      memory_tells : (test : Bool) (l : KernelState S) → Tells l → Tells (if test then refused_for k pid after Memory else l)
      memory_tells test l tells = either test (refused_for k pid after Memory) l (λ _. lacking (refused_for k pid after Memory) Memory refl tt) (λ _. tells)

      write_file_tells : (e : ℕ) (f : Entry) (name : Name) (mode : EntryMode) (refused : Bool) (o : Option Bytes) → Opened (Some f) → f.object ≡ File name mode → files k.files name ≡ o → Tells (write_file k pid after e name f.offset b refused o)
      write_file_tells e f name mode refused None opened object found = quiet (write_file k pid after e name f.offset b refused None) refl
      write_file_tells e f name mode refused (Some bytes) opened object found =
          either (nat_lt (length bytes) f.offset) (answered k pid after Refused) _ (λ _. quiet (answered k pid after Refused) refl)
          (λ gap. either (nat_lt max_size (f.offset + length b)) (refused_for k pid after Size) _
          (λ big. lacking (refused_for k pid after Size) Size refl (too_much f name mode bytes opened object found (omega (arith, ltb-false (length bytes) f.offset gap, ltb-true max_size (f.offset + length b) big))))
          (λ _. memory_tells (lacks_memory refused (length bytes) (f.offset + length b)) _ (still refl)))

      append_file_tells : (e : ℕ) (f : Entry) (name : Name) (mode : EntryMode) (refused : Bool) (o : Option Bytes) → Opened (Some f) → f.object ≡ File name mode → files k.files name ≡ o → Tells (append_file k pid after e name b refused o)
      append_file_tells e f name mode refused None opened object found = quiet (append_file k pid after e name b refused None) refl
      append_file_tells e f name mode refused (Some bytes) opened object found =
          either (nat_lt max_size (length bytes + length b)) (refused_for k pid after Size) _
          (λ big. lacking (refused_for k pid after Size) Size refl (too_much f name mode bytes opened object found (ltb-true max_size (length bytes + length b) big)))
          (λ _. memory_tells (lacks_memory refused (length bytes) (length bytes + length b)) _ (still refl))

      write_mode_tells : (e : ℕ) (f : Entry) (name : Name) (refused : Bool) (mode : EntryMode) → Opened (Some f) → f.object ≡ File name mode → Tells (write_mode k pid after e name f.offset b refused mode)
      write_mode_tells e f name refused ForReading opened object = quiet (write_mode k pid after e name f.offset b refused ForReading) refl
      write_mode_tells e f name refused Fresh opened object = write_file_tells e f name Fresh refused (files k.files name) opened object refl
      write_mode_tells e f name refused Over opened object = write_file_tells e f name Over refused (files k.files name) opened object refl
      write_mode_tells e f name refused Append opened object = append_file_tells e f name Append refused (files k.files name) opened object refl

      write_by_tells : (l : KernelState S) (id put more : ℕ) (answer : Put) → l.full ≡ k.full → Tells (write_by l pid after id put more answer)
      write_by_tells l id put more (Took n) same = either (n == more) _ _ (λ _. still same) (λ _. still same)
      write_by_tells l id put more NoRoom same = still same
      write_by_tells l id put more Closed same = still same

      write_pipe_tells : (id put : ℕ) (xs : Bytes) (o : Option PipeState) → Tells (write_pipe k pid after id put xs o)
      write_pipe_tells id put xs None = quiet (write_pipe k pid after id put xs None) refl
      write_pipe_tells id put xs (Some p) = write_by_tells _ id put (length xs) (put_answer p xs) refl

      write_object_tells : (e : ℕ) (f : Entry) (refused : Bool) (object : Object) → Opened (Some f) → f.object ≡ object → Tells (write_object k pid after e f.offset b refused object)
      write_object_tells e f refused Input opened object = quiet (write_object k pid after e f.offset b refused Input) refl
      write_object_tells e f refused Out opened object = memory_tells (lacks_memory refused (length k.out) (length k.out + length b)) _ (still refl)
      write_object_tells e f refused Diag opened object = memory_tells (lacks_memory refused (length k.diag) (length k.diag + length b)) _ (still refl)
      write_object_tells e f refused (File name mode) opened object = write_mode_tells e f name refused mode opened object
      write_object_tells e f refused (PipeRead id) opened object = quiet (write_object k pid after e f.offset b refused (PipeRead id)) refl
      write_object_tells e f refused (PipeWrite id) opened object = write_pipe_tells id (put_of (at k.table pid)) (drop (put_of (at k.table pid)) b) (pipe_of k.pipes id)

      write_entry_tells : (e : ℕ) (refused : Bool) (o : Option Entry) → Opened o → Tells (write_entry k pid after e b refused o)
      write_entry_tells e refused None opened = quiet (write_entry k pid after e b refused None) refl
      write_entry_tells e refused (Some f) opened = write_object_tells e f refused f.object opened refl

      write_tells : (refused : Bool) (o : Option ℕ) → entry_of (fds_at k pid) fd ≡ o → Tells (write_held k pid after b refused o)
      write_tells refused None held = quiet (write_held k pid after b refused None) refl
      write_tells refused (Some e) held = write_entry_tells e refused (file_at k.entries (Some e)) (ap (file_at k.entries) held)

    -- ---- open, close and dup

    module _ (name : Name) (mode : Mode) (is : call ≡ OpenFile name mode) where
      here_tells : (l : KernelState S) → l.full ≡ k.full → Tells (open_here l pid after name mode)
      here_tells l same = quiet (open_here l pid after name mode) (open_mark l (File name (entry_mode mode)) ∙ same)

      reading_tells : (o : Option Bytes) → Tells (open_for_reading k pid after name mode o)
      reading_tells None = quiet (open_for_reading k pid after name mode None) refl
      reading_tells (Some bytes) = here_tells k refl

      emptied_tells : (empty : Bool) → Tells (open_here (emptied_if empty k name) pid after name mode)
      emptied_tells true = here_tells (with_bytes k name []) refl
      emptied_tells false = here_tells k refl

      writing_tells : (refused : Bool) (o : Option Bytes) → is_openable name ≡ true → reads mode ≡ false → files k.files name ≡ o → Tells (open_for_writing k pid after name mode refused o)
      writing_tells refused (Some bytes) openable writes found = emptied_tells (empties mode)
      writing_tells refused None openable writes found =
          either (nat_le max_files (length k.files)) (refused_for k pid after Files) _
          (λ test. lacking (refused_for k pid after Files) Files refl (record {
            name = name;
            mode = mode;
            asks = is;
            openable = openable;
            writes = writes;
            missing = found;
            many = leb-true max_files (length k.files) test;
          }))
          (λ _. either refused (refused_for k pid after Memory) _ (λ _. lacking (refused_for k pid after Memory) Memory refl tt) (λ _. here_tells (with_bytes k name []) refl))

      named_tells : (refused : Bool) → is_openable name ≡ true → Tells (open_named k pid after name mode refused)
      named_tells refused openable = either (reads mode) _ _ (λ _. reading_tells (files k.files name)) (λ writes. writing_tells refused (files k.files name) openable writes refl)

      open_tells : (refused : Bool) → Tells (open_file k pid after name mode refused)
      open_tells refused =
          either (free_count k.entries == 0) (refused_for k pid after Open) _
          (λ test. lacking (refused_for k pid after Open) Open refl (subst (λ c. free_count k.entries < entries_wanted c) (sym is) (omega (arith, eqb-true (free_count k.entries) 0 test))))
          (λ _. either (is_none (lowest_free (fds_at k pid))) (refused_for k pid after Fds) _
          (λ test. lacking (refused_for k pid after Fds) Fds refl (subst (λ c. free_count (fds_at k pid) < descriptors_wanted c) (sym is) (none_free (fds_at k pid) (no_place (lowest_free (fds_at k pid)) test))))
          (λ _. either (is_openable name) _ (answered k pid after Refused) (λ openable. named_tells refused openable) (λ _. quiet (answered k pid after Refused) refl)))
        where
          no_place : (o : Option ℕ) → is_none o ≡ true → o ≡ None
          no_place None none = refl
          no_place (Some n) none = absurd (let z : ⊥ = cc in z)

    dup_tells : (fd : ℕ) (entry place : Option ℕ) → call ≡ Dup fd → lowest_free (fds_at k pid) ≡ place → Tells (dup_by (copied k pid entry place) pid after (dup_answer entry place))
    dup_tells fd None place is free = quiet (dup_by (copied k pid None place) pid after (dup_answer None place)) refl
    dup_tells fd (Some e) None is free =
        lacking (dup_by (copied k pid (Some e) None) pid after (dup_answer (Some e) None)) Fds refl
        (subst (λ c. free_count (fds_at k pid) < descriptors_wanted c) (sym is) (none_free (fds_at k pid) free))
    dup_tells fd (Some e) (Some place) is free = quiet (dup_by (copied k pid (Some e) (Some place)) pid after (dup_answer (Some e) (Some place))) refl

    by_call : (c : Call) (refused : Bool) → call ≡ c → Tells (acted k pid after c refused)
    by_call Fork refused is = fork_tells (lowest_free_slot k.table) is refl
    by_call (Exec found) refused is = quiet (acted k pid after (Exec found) refused) refl
    by_call Exit refused is = exit_tells
    by_call Wait refused is = wait_tells (wait_answer k.table pid)
    by_call MakePipe refused is = pipe_tells refused is
    by_call (Read fd n) refused is = read_tells _ (entry_of (fds_at k pid) fd)
    by_call (Write fd b) refused is = write_tells fd b is refused (entry_of (fds_at k pid) fd) refl
    by_call (OpenFile name mode) refused is = open_tells name mode is refused
    by_call (Close fd) refused is = quiet (acted k pid after (Close fd) refused) (closed_mark k fd)
    by_call (Dup fd) refused is = dup_tells fd (entry_of (fds_at k pid) fd) (lowest_free (fds_at k pid)) is refl

    pub tells : (refused : Bool) → Tells (acted k pid after call refused)
    tells refused = by_call call refused refl
