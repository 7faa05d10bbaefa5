-- The calls that open nothing, made in two kernels that are the same but for the numbers of their entries: the numbers stay as they are.
use Rattle.std.proofs.Common.{◌≡◌, ℕ, zero, suc, ◌+◌, List, [], ◌++◌, Bool, true, false, Option, Some, None, length, drop, take, refl, sym, ap, subst, ◌∙◌}
use Rattle.std.specs.Prelude.{if◌then◌else◌, nat_lt, ◌==◌, Result, Ok, Err, min}
use Rattle.user_calls.specs.Limits.{block_size}
use Rattle.user_calls.specs.declared.calls.Reply.{Reply}
use Rattle.user_calls.specs.declared.calls.Reply.TheVariants.{Done, Refused, Bytes, Fd}
use Rattle.fd_table.specs.declared.names.Mode.{Mode as EntryMode}
use Rattle.fd_table.specs.declared.names.Mode.TheVariants.{Input as ForReading, Fresh, Over, Append}
use Rattle.fd_table.specs.declared.names.Object.{Object}
use Rattle.fd_table.specs.declared.names.Object.TheVariants.{Input, Out, Diag, File, PipeRead, PipeWrite}
use Rattle.fd_table.specs.declared.faults.FdFault.{FdFault}
use Rattle.fd_table.specs.declared.faults.FdFault.TheVariants.{BadFd, FullFds, FullOpen}
use Rattle.fd_table.specs.declared.descriptors.TheConstants.{DESCRIPTORS}
use Rattle.fd_table.specs.Entries.{OpenFile as Opened, Entries, entry_at, advanced, moved_to}
use Rattle.fd_table.specs.Descriptors.{Descriptors, entry_of, lowest_free, dup_answer, close_answer, after_dup, after_close, all_held, released_by_close, held_by_dup}
use Rattle.byte_pipe.specs.declared.Take.{Take}
use Rattle.byte_pipe.specs.declared.Take.TheVariants.{Got, Empty, End}
use Rattle.byte_pipe.specs.declared.Put.{Put}
use Rattle.byte_pipe.specs.declared.Put.TheVariants.{Took, Full as NoRoom, Closed}
use Rattle.byte_pipe.specs.PipeState.{PipeState, take_answer, put_answer}
use Rattle.mem_files.specs.Files.{files}
use Rattle.mem_files.specs.Overlay.{written}
use Rattle.mem_files.specs.Listing.{max_size, with_entry}
use Rattle.proc_table.specs.declared.states.Channel.{Channel}
use Rattle.proc_table.specs.declared.states.Channel.TheVariants.{PipeBytes, PipeRoom, Children}
use Rattle.proc_table.specs.declared.table.Waited.{Waited}
use Rattle.proc_table.specs.declared.table.Waited.TheVariants.{Reaped, NoChildren, MustSleep}
use Rattle.proc_table.specs.Slots.{Table, at, put_of}
use Rattle.proc_table.specs.Calls.{lowest_free as lowest_free_slot, wait_answer, fds_set, forked, reaped, readied, slept, all_woken, exited}
use Rattle.kernel_model.specs.declared.events.Full.{Full}
use Rattle.kernel_model.specs.declared.events.Full.TheVariants.{Procs, Open, Fds, Size, Memory}
use Rattle.kernel_model.specs.KernelState.{KernelState, fds_at}
use Rattle.kernel_model.specs.Pipes.{pipe_of, put_into, taken_from, reader_gone, writer_gone}
use Rattle.kernel_model.specs.Replies.{answered, refused_for, marked, sleeps, wakes}
use Rattle.kernel_model.specs.Descriptors.{let_go, let_go_of, taken_away, closed_by, closed, closed_below, close, close_reply, dup, dup_by, copied}
use Rattle.kernel_model.specs.Processes.{fork_into, ended, exit, wait_by}
use Rattle.kernel_model.specs.Reading.{read, read_file, read_mode, read_by, read_pipe, read_object, read_entry, read_held}
use Rattle.kernel_model.specs.Writing.{lacks_memory, write, write_file, append_file, write_mode, write_by, write_pipe, write_object, write_entry, write_held}
use Rattle.kernel_model.specs.Numbers.{Numbering, AreRenumbered, IsRenumbered, renumbered, renumbered_place, renumbered_fds, renumbered_table}
use Rattle.law_turns.proofs.entry_numbers.Entries.{same_answer, released_so, dup_so, advanced_so, moved_so, all_held_so}
use Rattle.law_turns.proofs.entry_numbers.Tables.{lowest_place, held_place, fds_close, fds_dup, table_fds, table_put, ready_table, sleep_table, woken_table, fds_table, lowest_slot, wait_table, reaped_table, forked_table, exited_table}

-- ---- the numbering stays

module _ {S : Type 0} (n : Numbering) (pid : ℕ) where
  -- the kernel k, over these entries and with numbers so
  abbrev pub under : Entries → KernelState S → KernelState S
  under E k = renumbered n.to E k

  abbrev pub Same : KernelState S → KernelState S → Type 0
  Same k l = IsRenumbered n k l

  -- what holds of each kernel of that form
  pub holds_of : (k l : KernelState S) (Q : KernelState S → Type 0) → ((E : Entries) → AreRenumbered n k.entries E → Q (under E k)) → Same k l → Q l
  holds_of k l Q each r = subst Q r.rest (each l.entries r.entries)

  pub here : (k : KernelState S) (E : Entries) → AreRenumbered n k.entries E → Same k (under E k)
  here k E are = record { entries = are; rest = refl }

  pub pick : (c : Bool) (x y u v : KernelState S) → Same x u → Same y v → Same (if c then x else y) (if c then u else v)
  pick true x y u v is or = is
  pick false x y u v is or = or

  -- both tables change so
  retabled : (k l : KernelState S) (f : Table S → Table S) → ((t : Table S) → f (renumbered_table n.to t) ≡ renumbered_table n.to (f t)) → Same k l → Same (record k { table = f k.table }) (record l { table = f l.table })
  retabled k l f each r =
      record {
        entries = r.entries;
        rest = (λ i. record k { table = sym (each k.table) i; entries = l.entries }) ∙ ap (λ (j : KernelState S). record j { table = f j.table }) r.rest;
      }

  sleeping : (k l : KernelState S) (c : Channel) (put : ℕ) → Same k l → Same (sleeps k pid c put) (sleeps l pid c put)
  sleeping k l c put r = retabled k l (λ t. slept t pid c put) (λ t. sleep_table n.to t pid c put) r

  waking : (k l : KernelState S) (c : Channel) → Same k l → Same (wakes c k) (wakes c l)
  waking k l c r = retabled k l (all_woken c) (woken_table n.to c) r

  pub fds : (k : KernelState S) (E : Entries) → fds_at (under E k) pid ≡ renumbered_fds n.to (fds_at k pid)
  fds k E = table_fds n.to k.table pid

  pub held : (k : KernelState S) (E : Entries) (fd : ℕ) → entry_of (fds_at (under E k) pid) fd ≡ renumbered_place n.to (entry_of (fds_at k pid) fd)
  held k E fd = ap (λ (d : Descriptors). entry_of d fd) (fds k E) ∙ held_place n.to (fds_at k pid) fd

  pub place : (k : KernelState S) (E : Entries) → lowest_free (fds_at (under E k) pid) ≡ lowest_free (fds_at k pid)
  place k E = ap lowest_free (fds k E) ∙ lowest_place n.to (fds_at k pid)

  -- ---- close

  let_go_so : (k : KernelState S) (object : Object) (E : Entries) → AreRenumbered n k.entries E → Same (let_go k object) (let_go (under E k) object)
  let_go_so k Input E are = here k E are
  let_go_so k Out E are = here k E are
  let_go_so k Diag E are = here k E are
  let_go_so k (File name mode) E are = here k E are
  let_go_so k (PipeRead id) E are =
      let gone = reader_gone k.pipes id (pipe_of k.pipes id) in
      waking (record k { pipes = gone }) (record (under E k) { pipes = gone }) (PipeRoom id) (here (record k { pipes = gone }) E are)
  let_go_so k (PipeWrite id) E are =
      let gone = writer_gone k.pipes id (pipe_of k.pipes id) in
      waking (record k { pipes = gone }) (record (under E k) { pipes = gone }) (PipeBytes id) (here (record k { pipes = gone }) E are)

  pub let_go_of_so : (k l : KernelState S) (r : Result (Option Object) FdFault) → Same k l → Same (let_go_of k r) (let_go_of l r)
  let_go_of_so k l (Err fault) s = s
  let_go_of_so k l (Ok None) s = s
  let_go_of_so k l (Ok (Some object)) s = holds_of k l (λ j. Same (let_go k object) (let_go j object)) (let_go_so k object) s

  away_so : (k : KernelState S) (fd : ℕ) (o : Option ℕ) (E : Entries) → AreRenumbered n k.entries E → Same (taken_away k pid fd o) (taken_away (under E k) pid fd (renumbered_place n.to o))
  away_so k fd o E are =
      let table : renumbered_table n.to (fds_set k.table pid (after_close (fds_at k pid) fd o)) ≡ fds_set (renumbered_table n.to k.table) pid (after_close (fds_at (under E k) pid) fd (renumbered_place n.to o)) =
      sym (fds_table n.to k.table pid (after_close (fds_at k pid) fd o)) ∙
      ap (fds_set (renumbered_table n.to k.table) pid) (sym (fds_close n.to (fds_at k pid) fd o) ∙ (λ i. after_close (sym (fds k E) i) fd (renumbered_place n.to o))) in
      record { entries = released_so n k.entries E are o; rest = λ i. record k { table = table i; entries = released_by_close E (renumbered_place n.to o) } }

  closed_by_so : (k : KernelState S) (fd : ℕ) (o : Option ℕ) (E : Entries) → AreRenumbered n k.entries E → Same (closed_by k pid fd o) (closed_by (under E k) pid fd (renumbered_place n.to o))
  closed_by_so k fd o E are =
      let away : KernelState S = taken_away (under E k) pid fd (renumbered_place n.to o) in
      subst (λ (r : Result (Option Object) FdFault). Same (closed_by k pid fd o) (let_go_of away r)) (sym (same_answer n k.entries E are o))
      (let_go_of_so (taken_away k pid fd o) away (close_answer k.entries o) (away_so k fd o E are))

  pub closed_so : (k l : KernelState S) (fd : ℕ) → Same k l → Same (closed k pid fd) (closed l pid fd)
  closed_so k l fd r =
      holds_of k l (λ j. Same (closed k pid fd) (closed j pid fd)) (λ E are.
      subst (λ (o : Option ℕ). Same (closed k pid fd) (closed_by (under E k) pid fd o)) (sym (held k E fd)) (closed_by_so k fd (entry_of (fds_at k pid) fd) E are)) r

  below_so : (k l : KernelState S) (m : ℕ) → Same k l → Same (closed_below k pid m) (closed_below l pid m)
  unfolding closed_below
  below_so k l zero r = r
  below_so k l (suc m) r = closed_so (closed_below k pid m) (closed_below l pid m) m (below_so k l m r)

  module _ (after : S) where
    pub answering : (k l : KernelState S) (reply : Reply) → Same k l → Same (answered k pid after reply) (answered l pid after reply)
    answering k l reply r = retabled k l (λ t. readied t pid after reply) (λ t. ready_table n.to t pid after reply) r

    pub refusing : (k l : KernelState S) (full : Full) → Same k l → Same (refused_for k pid after full) (refused_for l pid after full)
    refusing k l full r =
        record {
          entries = r.entries;
          rest = (λ i. record k { table = sym (ready_table n.to k.table pid after Refused) i; entries = l.entries; full = marked k.full full }) ∙ ap (λ (j : KernelState S). refused_for j pid after full) r.rest;
        }

    pub refuses : (k : KernelState S) (E : Entries) → AreRenumbered n k.entries E → Same (answered k pid after Refused) (answered (under E k) pid after Refused)
    refuses k E are = answering k (under E k) Refused (here k E are)

    pub close_so : (k l : KernelState S) (fd : ℕ) → Same k l → Same (close k pid after fd) (close l pid after fd)
    close_so k l fd r =
        holds_of k l (λ j. Same (close k pid after fd) (answered (closed l pid fd) pid after (close_reply (close_answer j.entries (entry_of (fds_at j pid) fd))))) (λ E are.
        let reply : close_answer E (entry_of (fds_at (under E k) pid) fd) ≡ close_answer k.entries (entry_of (fds_at k pid) fd) = ap (close_answer E) (held k E fd) ∙ same_answer n k.entries E are (entry_of (fds_at k pid) fd) in
        subst (λ (x : Result (Option Object) FdFault). Same (close k pid after fd) (answered (closed l pid fd) pid after (close_reply x))) (sym reply) (answering (closed k pid fd) (closed l pid fd) _ (closed_so k l fd r))) r

    -- ---- fork, exit, wait, dup

    forked_so : (k : KernelState S) (o : Option ℕ) (E : Entries) → AreRenumbered n k.entries E → Same (fork_into k pid after o) (fork_into (under E k) pid after o)
    forked_so k None E are = refusing k (under E k) Procs (here k E are)
    forked_so k (Some child) E are =
        let shared : KernelState S = record k { table = forked k.table child pid after (fds_at k pid); entries = all_held k.entries (fds_at k pid) } in
        let given : Descriptors → KernelState S = λ d. record (under E k) { table = forked (renumbered_table n.to k.table) child pid after d; entries = all_held E d } in
        let both : Same shared (given (renumbered_fds n.to (fds_at k pid))) =
        record {
          entries = all_held_so n k.entries E are (fds_at k pid);
          rest = λ i. record k { table = sym (forked_table n.to k.table child pid after (fds_at k pid)) i; entries = all_held E (renumbered_fds n.to (fds_at k pid)) };
        } in
        answering shared (given (fds_at (under E k) pid)) Done (subst (λ (d : Descriptors). Same shared (given d)) (sym (fds k E)) both)

    pub fork_so : (k : KernelState S) (E : Entries) → AreRenumbered n k.entries E → Same (fork_into k pid after (lowest_free_slot k.table)) (fork_into (under E k) pid after (lowest_free_slot (renumbered_table n.to k.table)))
    fork_so k E are = subst (λ (o : Option ℕ). Same (fork_into k pid after (lowest_free_slot k.table)) (fork_into (under E k) pid after o)) (sym (lowest_slot n.to k.table)) (forked_so k (lowest_free_slot k.table) E are)

    pub exit_so : (k l : KernelState S) → Same k l → Same (exit k pid after) (exit l pid after)
    exit_so k l r =
        pick (pid == 0) (answered k pid after Refused) (ended pid (closed_below k pid DESCRIPTORS)) (answered l pid after Refused) (ended pid (closed_below l pid DESCRIPTORS)) (answering k l Refused r)
        (retabled (closed_below k pid DESCRIPTORS) (closed_below l pid DESCRIPTORS) (λ t. exited t pid) (λ t. exited_table n.to t pid) (below_so k l DESCRIPTORS r))

    waited_so : (k l : KernelState S) (w : Waited) → Same k l → Same (wait_by k pid after w) (wait_by l pid after w)
    waited_so k l (Reaped child) r = answering (record k { table = reaped k.table pid }) (record l { table = reaped l.table pid }) Done (retabled k l (λ t. reaped t pid) (λ t. reaped_table n.to t pid) r)
    waited_so k l NoChildren r = answering k l Refused r
    waited_so k l MustSleep r = sleeping k l (Children pid) 0 r

    pub wait_so : (k : KernelState S) (E : Entries) → AreRenumbered n k.entries E → Same (wait_by k pid after (wait_answer k.table pid)) (wait_by (under E k) pid after (wait_answer (renumbered_table n.to k.table) pid))
    wait_so k E are =
        subst (λ (w : Waited). Same (wait_by k pid after (wait_answer k.table pid)) (wait_by (under E k) pid after w)) (sym (wait_table n.to k.table pid)) (waited_so k (under E k) (wait_answer k.table pid) (here k E are))

    dup_by_so : (k l : KernelState S) (r : Result ℕ FdFault) → Same k l → Same (dup_by k pid after r) (dup_by l pid after r)
    dup_by_so k l (Ok fd) s = answering k l (Fd fd) s
    dup_by_so k l (Err BadFd) s = answering k l Refused s
    dup_by_so k l (Err FullFds) s = refusing k l Fds s
    dup_by_so k l (Err FullOpen) s = refusing k l Open s

    same_dup : (o free : Option ℕ) → dup_answer (renumbered_place n.to o) free ≡ dup_answer o free
    same_dup None free = refl
    same_dup (Some e) free = refl

    copied_so : (k : KernelState S) (o free : Option ℕ) (E : Entries) → AreRenumbered n k.entries E → Same (copied k pid o free) (copied (under E k) pid (renumbered_place n.to o) free)
    copied_so k o free E are =
        let table : renumbered_table n.to (fds_set k.table pid (after_dup (fds_at k pid) o free)) ≡ fds_set (renumbered_table n.to k.table) pid (after_dup (fds_at (under E k) pid) (renumbered_place n.to o) free) =
        sym (fds_table n.to k.table pid (after_dup (fds_at k pid) o free)) ∙
        ap (fds_set (renumbered_table n.to k.table) pid) (sym (fds_dup n.to (fds_at k pid) o free) ∙ (λ i. after_dup (sym (fds k E) i) (renumbered_place n.to o) free)) in
        record { entries = dup_so n k.entries E are o free; rest = λ i. record k { table = table i; entries = held_by_dup E (renumbered_place n.to o) free } }

    pub dup_call_so : (k : KernelState S) (fd : ℕ) (E : Entries) → AreRenumbered n k.entries E → Same (dup k pid after fd) (dup (under E k) pid after fd)
    dup_call_so k fd E are =
        let o = entry_of (fds_at k pid) fd in
        let free = lowest_free (fds_at k pid) in
        let same : dup (under E k) pid after fd ≡ dup_by (copied (under E k) pid (renumbered_place n.to o) free) pid after (dup_answer o free) =
        (λ i. dup_by (copied (under E k) pid (held k E fd i) (place k E i)) pid after (dup_answer (held k E fd i) (place k E i))) ∙ ap (dup_by (copied (under E k) pid (renumbered_place n.to o) free) pid after) (same_dup o free) in
        subst (λ (j : KernelState S). Same (dup k pid after fd) j) (sym same)
        (dup_by_so (copied k pid o free) (copied (under E k) pid (renumbered_place n.to o) free) (dup_answer o free) (copied_so k o free E are))

    -- ---- read

    read_file_so : (k : KernelState S) (e offset m : ℕ) (o : Option (List ℕ)) (E : Entries) → AreRenumbered n k.entries E → Same (read_file k pid after e offset m o) (read_file (under E k) pid after (n.to e) offset m o)
    read_file_so k e offset m None E are = refuses k E are
    read_file_so k e offset m (Some bytes) E are =
        let long = length (take m (drop offset bytes)) in
        answering (record k { entries = advanced k.entries e long }) (record (under E k) { entries = advanced E (n.to e) long }) (Bytes (take m (drop offset bytes)))
        (record { entries = advanced_so n k.entries E are e long; rest = refl })

    read_mode_so : (k : KernelState S) (e offset m : ℕ) (o : Option (List ℕ)) (mode : EntryMode) (E : Entries) → AreRenumbered n k.entries E → Same (read_mode k pid after e offset m o mode) (read_mode (under E k) pid after (n.to e) offset m o mode)
    read_mode_so k e offset m o ForReading E are = read_file_so k e offset m o E are
    read_mode_so k e offset m o Fresh E are = refuses k E are
    read_mode_so k e offset m o Over E are = refuses k E are
    read_mode_so k e offset m o Append E are = refuses k E are

    read_by_so : (k l : KernelState S) (id : ℕ) (got : List ℕ) (r : Take) → Same k l → Same (read_by k pid after id got r) (read_by l pid after id got r)
    read_by_so k l id got (Got m) s = waking (answered k pid after (Bytes got)) (answered l pid after (Bytes got)) (PipeRoom id) (answering k l (Bytes got) s)
    read_by_so k l id got Empty s = sleeping k l (PipeBytes id) 0 s
    read_by_so k l id got End s = answering k l (Bytes []) s

    read_pipe_so : (k : KernelState S) (id m : ℕ) (o : Option PipeState) (E : Entries) → AreRenumbered n k.entries E → Same (read_pipe k pid after id m o) (read_pipe (under E k) pid after id m o)
    read_pipe_so k id m None E are = refuses k E are
    read_pipe_so k id m (Some p) E are =
        let taken = taken_from k.pipes id m (Some p) in
        read_by_so (record k { pipes = taken }) (record (under E k) { pipes = taken }) id (take m p.bytes) (take_answer p m) (here (record k { pipes = taken }) E are)

    read_object_so : (k : KernelState S) (e offset m : ℕ) (object : Object) (E : Entries) → AreRenumbered n k.entries E → Same (read_object k pid after e offset m object) (read_object (under E k) pid after (n.to e) offset m object)
    read_object_so k e offset m Input E are = answering (record k { input = drop m k.input }) (record (under E k) { input = drop m k.input }) (Bytes (take m k.input)) (here (record k { input = drop m k.input }) E are)
    read_object_so k e offset m Out E are = refuses k E are
    read_object_so k e offset m Diag E are = refuses k E are
    read_object_so k e offset m (File name mode) E are = read_mode_so k e offset m (files k.files name) mode E are
    read_object_so k e offset m (PipeRead id) E are = read_pipe_so k id m (pipe_of k.pipes id) E are
    read_object_so k e offset m (PipeWrite id) E are = refuses k E are

    read_entry_so : (k : KernelState S) (e m : ℕ) (o : Option Opened) (E : Entries) → AreRenumbered n k.entries E → Same (read_entry k pid after e m o) (read_entry (under E k) pid after (n.to e) m o)
    read_entry_so k e m None E are = refuses k E are
    read_entry_so k e m (Some f) E are = read_object_so k e f.offset m f.object E are

    read_held_so : (k : KernelState S) (m : ℕ) (o : Option ℕ) (E : Entries) → AreRenumbered n k.entries E → Same (read_held k pid after m o) (read_held (under E k) pid after m (renumbered_place n.to o))
    read_held_so k m None E are = refuses k E are
    read_held_so k m (Some e) E are =
        subst (λ (x : Option Opened). Same (read_held k pid after m (Some e)) (read_entry (under E k) pid after (n.to e) m x)) (sym (are.same e)) (read_entry_so k e m (entry_at k.entries e) E are)

    pub read_so : (k : KernelState S) (fd m : ℕ) (E : Entries) → AreRenumbered n k.entries E → Same (read k pid after fd m) (read (under E k) pid after fd m)
    read_so k fd m E are =
        subst (λ (o : Option ℕ). Same (read k pid after fd m) (read_held (under E k) pid after (min m block_size) o)) (sym (held k E fd)) (read_held_so k (min m block_size) (entry_of (fds_at k pid) fd) E are)

    -- ---- write

    write_file_so : (k : KernelState S) (e : ℕ) (file : List ℕ) (offset : ℕ) (b : List ℕ) (refused : Bool) (o : Option (List ℕ)) (E : Entries) → AreRenumbered n k.entries E
        → Same (write_file k pid after e file offset b refused o) (write_file (under E k) pid after (n.to e) file offset b refused o)
    write_file_so k e file offset b refused None E are = refuses k E are
    write_file_so k e file offset b refused (Some bytes) E are =
        let l : KernelState S = record k { files = with_entry k.files file (written bytes offset b) } in
        pick (nat_lt (length bytes) offset) _ _ _ _ (refuses k E are)
        (pick (nat_lt max_size (offset + length b)) _ _ _ _ (refusing k (under E k) Size (here k E are))
        (pick (lacks_memory refused (length bytes) (offset + length b)) _ _ _ _ (refusing k (under E k) Memory (here k E are))
        (answering (record l { entries = advanced k.entries e (length b) }) (record (under E l) { entries = advanced E (n.to e) (length b) }) Done
        (record { entries = advanced_so n k.entries E are e (length b); rest = refl }))))

    append_file_so : (k : KernelState S) (e : ℕ) (file b : List ℕ) (refused : Bool) (o : Option (List ℕ)) (E : Entries) → AreRenumbered n k.entries E
        → Same (append_file k pid after e file b refused o) (append_file (under E k) pid after (n.to e) file b refused o)
    append_file_so k e file b refused None E are = refuses k E are
    append_file_so k e file b refused (Some bytes) E are =
        let l : KernelState S = record k { files = with_entry k.files file (bytes ++ b) } in
        pick (nat_lt max_size (length bytes + length b)) _ _ _ _ (refusing k (under E k) Size (here k E are))
        (pick (lacks_memory refused (length bytes) (length bytes + length b)) _ _ _ _ (refusing k (under E k) Memory (here k E are))
        (answering (record l { entries = moved_to k.entries e (length bytes + length b) }) (record (under E l) { entries = moved_to E (n.to e) (length bytes + length b) }) Done
        (record { entries = moved_so n k.entries E are e (length bytes + length b); rest = refl })))

    write_mode_so : (k : KernelState S) (e : ℕ) (file : List ℕ) (offset : ℕ) (b : List ℕ) (refused : Bool) (mode : EntryMode) (E : Entries) → AreRenumbered n k.entries E
        → Same (write_mode k pid after e file offset b refused mode) (write_mode (under E k) pid after (n.to e) file offset b refused mode)
    write_mode_so k e file offset b refused ForReading E are = refuses k E are
    write_mode_so k e file offset b refused Fresh E are = write_file_so k e file offset b refused (files k.files file) E are
    write_mode_so k e file offset b refused Over E are = write_file_so k e file offset b refused (files k.files file) E are
    write_mode_so k e file offset b refused Append E are = append_file_so k e file b refused (files k.files file) E are

    write_by_so : (k l : KernelState S) (id put left : ℕ) (r : Put) → Same k l → Same (write_by k pid after id put left r) (write_by l pid after id put left r)
    write_by_so k l id put left (Took m) s =
        pick (m == left) _ _ _ _ (waking (answered k pid after Done) (answered l pid after Done) (PipeBytes id) (answering k l Done s))
        (waking (sleeps k pid (PipeRoom id) (put + m)) (sleeps l pid (PipeRoom id) (put + m)) (PipeBytes id) (sleeping k l (PipeRoom id) (put + m) s))
    write_by_so k l id put left NoRoom s = waking (sleeps k pid (PipeRoom id) put) (sleeps l pid (PipeRoom id) put) (PipeBytes id) (sleeping k l (PipeRoom id) put s)
    write_by_so k l id put left Closed s = answering k l Refused s

    write_pipe_so : (k : KernelState S) (id put : ℕ) (xs : List ℕ) (o : Option PipeState) (E : Entries) → AreRenumbered n k.entries E → Same (write_pipe k pid after id put xs o) (write_pipe (under E k) pid after id put xs o)
    write_pipe_so k id put xs None E are = refuses k E are
    write_pipe_so k id put xs (Some p) E are =
        let filled = put_into k.pipes id xs (Some p) in
        write_by_so (record k { pipes = filled }) (record (under E k) { pipes = filled }) id put (length xs) (put_answer p xs) (here (record k { pipes = filled }) E are)

    write_object_so : (k : KernelState S) (e offset : ℕ) (b : List ℕ) (refused : Bool) (object : Object) (E : Entries) → AreRenumbered n k.entries E
        → Same (write_object k pid after e offset b refused object) (write_object (under E k) pid after (n.to e) offset b refused object)
    write_object_so k e offset b refused Input E are = refuses k E are
    write_object_so k e offset b refused Out E are =
        pick (lacks_memory refused (length k.out) (length k.out + length b)) _ _ _ _ (refusing k (under E k) Memory (here k E are))
        (answering (record k { out = k.out ++ b }) (record (under E k) { out = k.out ++ b }) Done (here (record k { out = k.out ++ b }) E are))
    write_object_so k e offset b refused Diag E are =
        pick (lacks_memory refused (length k.diag) (length k.diag + length b)) _ _ _ _ (refusing k (under E k) Memory (here k E are))
        (answering (record k { diag = k.diag ++ b }) (record (under E k) { diag = k.diag ++ b }) Done (here (record k { diag = k.diag ++ b }) E are))
    write_object_so k e offset b refused (File name mode) E are = write_mode_so k e name offset b refused mode E are
    write_object_so k e offset b refused (PipeRead id) E are = refuses k E are
    write_object_so k e offset b refused (PipeWrite id) E are =
        let put = put_of (at k.table pid) in
        subst (λ (m : ℕ). Same (write_object k pid after e offset b refused (PipeWrite id)) (write_pipe (under E k) pid after id m (drop m b) (pipe_of k.pipes id))) (sym (table_put n.to k.table pid)) (write_pipe_so k id put (drop put b) (pipe_of k.pipes id) E are)

    write_entry_so : (k : KernelState S) (e : ℕ) (b : List ℕ) (refused : Bool) (o : Option Opened) (E : Entries) → AreRenumbered n k.entries E → Same (write_entry k pid after e b refused o) (write_entry (under E k) pid after (n.to e) b refused o)
    write_entry_so k e b refused None E are = refuses k E are
    write_entry_so k e b refused (Some f) E are = write_object_so k e f.offset b refused f.object E are

    write_held_so : (k : KernelState S) (b : List ℕ) (refused : Bool) (o : Option ℕ) (E : Entries) → AreRenumbered n k.entries E → Same (write_held k pid after b refused o) (write_held (under E k) pid after b refused (renumbered_place n.to o))
    write_held_so k b refused None E are = refuses k E are
    write_held_so k b refused (Some e) E are =
        subst (λ (x : Option Opened). Same (write_held k pid after b refused (Some e)) (write_entry (under E k) pid after (n.to e) b refused x)) (sym (are.same e)) (write_entry_so k e b refused (entry_at k.entries e) E are)

    pub write_so : (k : KernelState S) (fd : ℕ) (b : List ℕ) (refused : Bool) (E : Entries) → AreRenumbered n k.entries E → Same (write k pid after fd b refused) (write (under E k) pid after fd b refused)
    write_so k fd b refused E are =
        subst (λ (o : Option ℕ). Same (write k pid after fd b refused) (write_held (under E k) pid after b refused o)) (sym (held k E fd)) (write_held_so k b refused (entry_of (fds_at k pid) fd) E are)
