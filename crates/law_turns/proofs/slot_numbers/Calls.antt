-- The calls that neither take nor free a slot, made in two kernels whose tables are in a relation that the changes of one slot keep: the
-- kernels are so again, and else the same.
use Rattle.std.proofs.Common.{◌≡◌, ℕ, zero, suc, ◌+◌, List, [], ◌++◌, Bool, true, false, Option, Some, None, length, drop, take, refl, sym, ap, subst, ◌∙◌}
use Rattle.std.specs.Prelude.{if◌then◌else◌, nat_lt, nat_le, ◌==◌, is_none, Result, Ok, Err, min}
use Rattle.user_calls.specs.Limits.{block_size}
use Rattle.user_calls.specs.declared.calls.Mode.{Mode}
use Rattle.user_calls.specs.declared.calls.Reply.{Reply}
use Rattle.user_calls.specs.declared.calls.Reply.TheVariants.{Done, Refused, Bytes, Fd}
use Rattle.fd_table.specs.declared.names.Mode.{Mode as EntryMode}
use Rattle.fd_table.specs.declared.names.Mode.TheVariants.{Input as ForReading, Fresh, Over, Append}
use Rattle.fd_table.specs.declared.names.Object.{Object}
use Rattle.fd_table.specs.declared.names.Object.TheVariants.{Input, Out, Diag, File, PipeRead, PipeWrite}
use Rattle.fd_table.specs.declared.faults.FdFault.{FdFault}
use Rattle.fd_table.specs.declared.faults.FdFault.TheVariants.{BadFd, FullFds, FullOpen}
use Rattle.fd_table.specs.declared.descriptors.TheConstants.{DESCRIPTORS}
use Rattle.fd_table.specs.Entries.{OpenFile as Opened, Entries, entry_at, free_count, lowest_free_entry, added, advanced, moved_to}
use Rattle.fd_table.specs.Descriptors.{Descriptors, entry_of, lowest_free, installed, dup_answer, close_answer, after_dup, after_close, released_by_close, held_by_dup}
use Rattle.byte_pipe.specs.declared.Take.{Take}
use Rattle.byte_pipe.specs.declared.Take.TheVariants.{Got, Empty, End}
use Rattle.byte_pipe.specs.declared.Put.{Put}
use Rattle.byte_pipe.specs.declared.Put.TheVariants.{Took, Full as NoRoom, Closed}
use Rattle.byte_pipe.specs.PipeState.{PipeState, take_answer, put_answer}
use Rattle.mem_files.specs.Name.{is_openable}
use Rattle.mem_files.specs.Files.{files}
use Rattle.mem_files.specs.Overlay.{written}
use Rattle.mem_files.specs.Listing.{max_size, max_files, with_entry}
use Rattle.proc_table.specs.declared.states.Channel.{Channel}
use Rattle.proc_table.specs.declared.states.Channel.TheVariants.{PipeBytes, PipeRoom}
use Rattle.proc_table.specs.Slots.{Table, at, put_of}
use Rattle.proc_table.specs.Calls.{fds_set, readied, slept, all_woken, exited}
use Rattle.kernel_model.specs.declared.events.Full.{Full}
use Rattle.kernel_model.specs.declared.events.Full.TheVariants.{Open, Fds, Files, Size, Memory}
use Rattle.kernel_model.specs.KernelState.{KernelState, fds_of, fds_at}
use Rattle.kernel_model.specs.Modes.{empties, entry_mode, reads}
use Rattle.kernel_model.specs.Pipes.{pipe_of, put_into, taken_from, reader_gone, writer_gone, with_new}
use Rattle.kernel_model.specs.Replies.{answered, refused_for, marked, sleeps, wakes}
use Rattle.kernel_model.specs.Descriptors.{let_go, let_go_of, taken_away, closed, closed_below, close, close_reply, dup, dup_by, copied, opened_at, with_open, with_reader, with_ends, ends_reply, make_pipe}
use Rattle.kernel_model.specs.Opening.{emptied_if, with_bytes, open_here, open_reply, open_for_reading, open_for_writing, open_file}
use Rattle.kernel_model.specs.Processes.{ended, exit}
use Rattle.kernel_model.specs.Reading.{read, read_file, read_mode, read_by, read_pipe, read_object, read_entry, read_held}
use Rattle.kernel_model.specs.Writing.{lacks_memory, write, write_file, append_file, write_mode, write_by, write_pipe, write_object, write_entry, write_held}

-- what a read and a write see of an entry
abbrev pub seen : Option Opened → Option (Object × ℕ)
seen None = None
seen (Some f) = Some (f.object, f.offset)

-- a relation of tables and entries under which the slot `me` of the one stands for the slot `pid` of the other, and which all changes that
-- its calls make keep; channels get other names
pub record Keeps {S : Type 0} (pid me : ℕ) (to : Channel → Channel) (R : Table S → Entries → Table S → Entries → Type 0) : Type 0 where
  pub bytes : (id : ℕ) → to (PipeBytes id) ≡ PipeBytes id
  pub room : (id : ℕ) → to (PipeRoom id) ≡ PipeRoom id
  pub init : (me == 0) ≡ (pid == 0)
  pub fds : (t u : Table S) (E F : Entries) → R t E u F → fds_of (at u me) ≡ fds_of (at t pid)
  pub put : (t u : Table S) (E F : Entries) → R t E u F → put_of (at u me) ≡ put_of (at t pid)
  pub ready : (t u : Table S) (E F : Entries) (m : S) (reply : Reply) → R t E u F → R (readied t pid m reply) E (readied u me m reply) F
  pub sleep : (t u : Table S) (E F : Entries) (c : Channel) (many : ℕ) → R t E u F → R (slept t pid c many) E (slept u me (to c) many) F
  pub wake : (t u : Table S) (E F : Entries) (c : Channel) → R t E u F → R (all_woken c t) E (all_woken (to c) u) F
  pub exit : (t u : Table S) (E F : Entries) → R t E u F → R (exited t pid) E (exited u me) F
  pub look : (t u : Table S) (E F : Entries) (e : ℕ) → R t E u F → seen (entry_at F e) ≡ seen (entry_at E e)
  pub lowest : (t u : Table S) (E F : Entries) → R t E u F → lowest_free_entry F ≡ lowest_free_entry E
  pub free : (t u : Table S) (E F : Entries) → R t E u F → free_count F ≡ free_count E
  pub answer : (t u : Table S) (E F : Entries) (fd : ℕ) → R t E u F → close_answer F (entry_of (fds_of (at t pid)) fd) ≡ close_answer E (entry_of (fds_of (at t pid)) fd)
  pub close : (t u : Table S) (E F : Entries) (fd : ℕ) → R t E u F
      → R (fds_set t pid (after_close (fds_of (at t pid)) fd (entry_of (fds_of (at t pid)) fd))) (released_by_close E (entry_of (fds_of (at t pid)) fd))
      (fds_set u me (after_close (fds_of (at t pid)) fd (entry_of (fds_of (at t pid)) fd))) (released_by_close F (entry_of (fds_of (at t pid)) fd))
  pub copy : (t u : Table S) (E F : Entries) (fd : ℕ) → R t E u F
      → R (fds_set t pid (after_dup (fds_of (at t pid)) (entry_of (fds_of (at t pid)) fd) (lowest_free (fds_of (at t pid))))) (held_by_dup E (entry_of (fds_of (at t pid)) fd) (lowest_free (fds_of (at t pid))))
      (fds_set u me (after_dup (fds_of (at t pid)) (entry_of (fds_of (at t pid)) fd) (lowest_free (fds_of (at t pid))))) (held_by_dup F (entry_of (fds_of (at t pid)) fd) (lowest_free (fds_of (at t pid))))
  pub opening : (t u : Table S) (E F : Entries) (object : Object) (e : ℕ) → lowest_free_entry E ≡ Some e → R t E u F
      → R (fds_set t pid (installed (fds_of (at t pid)) e)) (added E object) (fds_set u me (installed (fds_of (at t pid)) e)) (added F object)
  pub advance : (t u : Table S) (E F : Entries) (e m : ℕ) → R t E u F → R t (advanced E e m) u (advanced F e m)
  pub move : (t u : Table S) (E F : Entries) (e m : ℕ) → R t E u F → R t (moved_to E e m) u (moved_to F e m)

-- a relation of tables alone, which goes with equal entries
pub record KeepsTables {S : Type 0} (pid me : ℕ) (to : Channel → Channel) (R : Table S → Table S → Type 0) : Type 0 where
  pub bytes : (id : ℕ) → to (PipeBytes id) ≡ PipeBytes id
  pub room : (id : ℕ) → to (PipeRoom id) ≡ PipeRoom id
  pub init : (me == 0) ≡ (pid == 0)
  pub fds : (t u : Table S) → R t u → fds_of (at u me) ≡ fds_of (at t pid)
  pub put : (t u : Table S) → R t u → put_of (at u me) ≡ put_of (at t pid)
  pub ready : (t u : Table S) (m : S) (reply : Reply) → R t u → R (readied t pid m reply) (readied u me m reply)
  pub sleep : (t u : Table S) (c : Channel) (many : ℕ) → R t u → R (slept t pid c many) (slept u me (to c) many)
  pub set_fds : (t u : Table S) (d : Descriptors) → R t u → R (fds_set t pid d) (fds_set u me d)
  pub wake : (t u : Table S) (c : Channel) → R t u → R (all_woken c t) (all_woken (to c) u)
  pub exit : (t u : Table S) → R t u → R (exited t pid) (exited u me)

abbrev pub SameEntries : {S : Type 0} → (Table S → Table S → Type 0) → Table S → Entries → Table S → Entries → Type 0
SameEntries R t E u F = R t u × (F ≡ E)

pub with_entries : {S : Type 0} (pid me : ℕ) (to : Channel → Channel) (R : Table S → Table S → Type 0) → KeepsTables pid me to R → Keeps pid me to (SameEntries R)
with_entries pid me to R k =
    record {
      bytes = k.bytes;
      room = k.room;
      init = k.init;
      fds = λ t u E F r. k.fds t u r.0;
      put = λ t u E F r. k.put t u r.0;
      ready = λ t u E F m reply r. (k.ready t u m reply r.0, r.1);
      sleep = λ t u E F c many r. (k.sleep t u c many r.0, r.1);
      wake = λ t u E F c r. (k.wake t u c r.0, r.1);
      exit = λ t u E F r. (k.exit t u r.0, r.1);
      look = λ t u E F e r. ap (λ (G : Entries). seen (entry_at G e)) r.1;
      lowest = λ t u E F r. ap lowest_free_entry r.1;
      free = λ t u E F r. ap free_count r.1;
      answer = λ t u E F fd r. ap (λ (G : Entries). close_answer G (entry_of (fds_of (at t pid)) fd)) r.1;
      close = λ t u E F fd r. (k.set_fds t u _ r.0, ap (λ (G : Entries). released_by_close G (entry_of (fds_of (at t pid)) fd)) r.1);
      copy = λ t u E F fd r. (k.set_fds t u _ r.0, ap (λ (G : Entries). held_by_dup G (entry_of (fds_of (at t pid)) fd) (lowest_free (fds_of (at t pid)))) r.1);
      opening = λ t u E F object e is r. (k.set_fds t u _ r.0, ap (λ (G : Entries). added G object) r.1);
      advance = λ t u E F e m r. (r.0, ap (λ (G : Entries). advanced G e m) r.1);
      move = λ t u E F e m r. (r.0, ap (λ (G : Entries). moved_to G e m) r.1);
    }

module _ {S : Type 0} (pid me : ℕ) (to : Channel → Channel) (R : Table S → Entries → Table S → Entries → Type 0) (keeps : Keeps pid me to R) where
  -- the kernel k with this table and these entries
  abbrev pub under : Table S → Entries → KernelState S → KernelState S
  under u F k = record k { table = u; entries = F }

  -- l is k with a table and entries that are so
  pub record Same (k l : KernelState S) : Type 0 where
    pub related : R k.table k.entries l.table l.entries
    pub rest : under l.table l.entries k ≡ l

  -- what holds of each kernel of that form
  pub holds_of : (k l : KernelState S) (Q : KernelState S → Type 0) → ((u : Table S) (F : Entries) → R k.table k.entries u F → Q (under u F k)) → Same k l → Q l
  holds_of k l Q each r = subst Q r.rest (each l.table l.entries r.related)

  pub here : (k : KernelState S) (u : Table S) (F : Entries) → R k.table k.entries u F → Same k (under u F k)
  here k u F m = record { related = m; rest = refl }

  pick : (c : Bool) (x y v w : KernelState S) → Same x v → Same y w → Same (if c then x else y) (if c then v else w)
  pick true x y v w is or = is
  pick false x y v w is or = or

  branch : (b c : Bool) (x y v w : KernelState S) → c ≡ b → Same x v → Same y w → Same (if b then x else y) (if c then v else w)
  branch b c x y v w same is or = subst (λ (r : Bool). Same (if b then x else y) (if r then v else w)) (sym same) (pick b x y v w is or)

  -- both tables change so
  pub retabled : (k l : KernelState S) (f g : Table S → Table S) → ((t u : Table S) (E F : Entries) → R t E u F → R (f t) E (g u) F) → Same k l → Same (record k { table = f k.table }) (record l { table = g l.table })
  retabled k l f g each r = record { related = each k.table l.table k.entries l.entries r.related; rest = ap (λ (j : KernelState S). record j { table = g l.table }) r.rest }

  pub sleeping : (k l : KernelState S) (c : Channel) (put : ℕ) → Same k l → Same (sleeps k pid c put) (sleeps l me (to c) put)
  sleeping k l c put r = retabled k l (λ t. slept t pid c put) (λ u. slept u me (to c) put) (λ t u E F m. keeps.sleep t u E F c put m) r

  waking : (k l : KernelState S) (c : Channel) → Same k l → Same (wakes c k) (wakes (to c) l)
  waking k l c r = retabled k l (all_woken c) (all_woken (to c)) (λ t u E F m. keeps.wake t u E F c m) r

  waking_bytes : (k l : KernelState S) (id : ℕ) → Same k l → Same (wakes (PipeBytes id) k) (wakes (PipeBytes id) l)
  waking_bytes k l id r = subst (λ (c : Channel). Same (wakes (PipeBytes id) k) (wakes c l)) (keeps.bytes id) (waking k l (PipeBytes id) r)

  waking_room : (k l : KernelState S) (id : ℕ) → Same k l → Same (wakes (PipeRoom id) k) (wakes (PipeRoom id) l)
  waking_room k l id r = subst (λ (c : Channel). Same (wakes (PipeRoom id) k) (wakes c l)) (keeps.room id) (waking k l (PipeRoom id) r)

  sleeping_bytes : (k l : KernelState S) (id put : ℕ) → Same k l → Same (sleeps k pid (PipeBytes id) put) (sleeps l me (PipeBytes id) put)
  sleeping_bytes k l id put r = subst (λ (c : Channel). Same (sleeps k pid (PipeBytes id) put) (sleeps l me c put)) (keeps.bytes id) (sleeping k l (PipeBytes id) put r)

  sleeping_room : (k l : KernelState S) (id put : ℕ) → Same k l → Same (sleeps k pid (PipeRoom id) put) (sleeps l me (PipeRoom id) put)
  sleeping_room k l id put r = subst (λ (c : Channel). Same (sleeps k pid (PipeRoom id) put) (sleeps l me c put)) (keeps.room id) (sleeping k l (PipeRoom id) put r)

  pub fds : (k : KernelState S) (u : Table S) (F : Entries) → R k.table k.entries u F → fds_at (under u F k) me ≡ fds_at k pid
  fds k u F m = keeps.fds k.table u k.entries F m

  held : (k : KernelState S) (u : Table S) (F : Entries) → R k.table k.entries u F → (fd : ℕ) → entry_of (fds_at (under u F k) me) fd ≡ entry_of (fds_at k pid) fd
  held k u F m fd = ap (λ (d : Descriptors). entry_of d fd) (fds k u F m)

  -- ---- close

  let_go_so : (k : KernelState S) (object : Object) (u : Table S) (F : Entries) → R k.table k.entries u F → Same (let_go k object) (let_go (under u F k) object)
  let_go_so k Input u F m = here k u F m
  let_go_so k Out u F m = here k u F m
  let_go_so k Diag u F m = here k u F m
  let_go_so k (File name mode) u F m = here k u F m
  let_go_so k (PipeRead id) u F m =
      let gone = reader_gone k.pipes id (pipe_of k.pipes id) in
      waking_room (record k { pipes = gone }) (record (under u F k) { pipes = gone }) id (here (record k { pipes = gone }) u F m)
  let_go_so k (PipeWrite id) u F m =
      let gone = writer_gone k.pipes id (pipe_of k.pipes id) in
      waking_bytes (record k { pipes = gone }) (record (under u F k) { pipes = gone }) id (here (record k { pipes = gone }) u F m)

  let_go_of_so : (k l : KernelState S) (r : Result (Option Object) FdFault) → Same k l → Same (let_go_of k r) (let_go_of l r)
  let_go_of_so k l (Err fault) s = s
  let_go_of_so k l (Ok None) s = s
  let_go_of_so k l (Ok (Some object)) s = holds_of k l (λ j. Same (let_go k object) (let_go j object)) (let_go_so k object) s

  -- what it closes is closed in both
  closed_here : (k : KernelState S) (fd : ℕ) (u : Table S) (F : Entries) → R k.table k.entries u F → Same (closed k pid fd) (closed (under u F k) me fd)
  closed_here k fd u F m =
      let d : Descriptors = fds_at k pid in
      let o : Option ℕ = entry_of d fd in
      let gone : KernelState S = record (under u F k) { table = fds_set u me (after_close d fd o); entries = released_by_close F o } in
      subst (λ (e : Descriptors). Same (closed k pid fd) (let_go_of (record (under u F k) { table = fds_set u me (after_close e fd (entry_of e fd)); entries = released_by_close F (entry_of e fd) }) (close_answer F (entry_of e fd)))) (sym (fds k u F m))
      (subst (λ (r : Result (Option Object) FdFault). Same (closed k pid fd) (let_go_of gone r)) (sym (keeps.answer k.table u k.entries F fd m))
      (let_go_of_so (taken_away k pid fd o) gone (close_answer k.entries o) (record { related = keeps.close k.table u k.entries F fd m; rest = refl })))

  closed_so : (k l : KernelState S) (fd : ℕ) → Same k l → Same (closed k pid fd) (closed l me fd)
  closed_so k l fd r = holds_of k l (λ j. Same (closed k pid fd) (closed j me fd)) (λ u F m. closed_here k fd u F m) r

  below_so : (k l : KernelState S) (m : ℕ) → Same k l → Same (closed_below k pid m) (closed_below l me m)
  unfolding closed_below
  below_so k l zero r = r
  below_so k l (suc m) r = closed_so (closed_below k pid m) (closed_below l me m) m (below_so k l m r)

  module _ (after : S) where
    pub answering : (k l : KernelState S) (reply : Reply) → Same k l → Same (answered k pid after reply) (answered l me after reply)
    answering k l reply r = retabled k l (λ t. readied t pid after reply) (λ u. readied u me after reply) (λ t u E F m. keeps.ready t u E F after reply m) r

    pub refusing : (k l : KernelState S) (full : Full) → Same k l → Same (refused_for k pid after full) (refused_for l me after full)
    refusing k l full r =
        let a = answering k l Refused r in
        record { related = a.related; rest = ap (λ (j : KernelState S). record j { table = readied l.table me after Refused; full = marked j.full full }) r.rest }

    refuses : (k : KernelState S) (u : Table S) (F : Entries) → R k.table k.entries u F → Same (answered k pid after Refused) (answered (under u F k) me after Refused)
    refuses k u F m = answering k (under u F k) Refused (here k u F m)

    full_so : (k : KernelState S) (u : Table S) (F : Entries) (full : Full) → R k.table k.entries u F → Same (refused_for k pid after full) (refused_for (under u F k) me after full)
    full_so k u F full m = refusing k (under u F k) full (here k u F m)

    pub close_so : (k l : KernelState S) (fd : ℕ) → Same k l → Same (close k pid after fd) (close l me after fd)
    close_so k l fd r =
        holds_of k l (λ j. Same (close k pid after fd) (answered (closed l me fd) me after (close_reply (close_answer j.entries (entry_of (fds_at j me) fd))))) (λ u F m.
        let answer : close_answer F (entry_of (fds_at (under u F k) me) fd) ≡ close_answer k.entries (entry_of (fds_at k pid) fd) = ap (close_answer F) (held k u F m fd) ∙ keeps.answer k.table u k.entries F fd m in
        subst (λ (a : Result (Option Object) FdFault). Same (close k pid after fd) (answered (closed l me fd) me after (close_reply a))) (sym answer)
        (answering (closed k pid fd) (closed l me fd) _ (closed_so k l fd r))) r

    -- ---- exit and dup

    pub exit_so : (k l : KernelState S) → Same k l → Same (exit k pid after) (exit l me after)
    exit_so k l r =
        branch (pid == 0) (me == 0) (answered k pid after Refused) (ended pid (closed_below k pid DESCRIPTORS)) (answered l me after Refused) (ended me (closed_below l me DESCRIPTORS)) keeps.init (answering k l Refused r)
        (retabled (closed_below k pid DESCRIPTORS) (closed_below l me DESCRIPTORS) (λ t. exited t pid) (λ u. exited u me) (λ t u E F m. keeps.exit t u E F m) (below_so k l DESCRIPTORS r))

    dup_by_so : (k l : KernelState S) (r : Result ℕ FdFault) → Same k l → Same (dup_by k pid after r) (dup_by l me after r)
    dup_by_so k l (Ok fd) s = answering k l (Fd fd) s
    dup_by_so k l (Err BadFd) s = answering k l Refused s
    dup_by_so k l (Err FullFds) s = refusing k l Fds s
    dup_by_so k l (Err FullOpen) s = refusing k l Open s

    pub dup_call_so : (k : KernelState S) (fd : ℕ) (u : Table S) (F : Entries) → R k.table k.entries u F → Same (dup k pid after fd) (dup (under u F k) me after fd)
    dup_call_so k fd u F m =
        let o = entry_of (fds_at k pid) fd in
        let free = lowest_free (fds_at k pid) in
        subst (λ (d : Descriptors). Same (dup k pid after fd) (dup_by (record (under u F k) { table = fds_set u me (after_dup d (entry_of d fd) (lowest_free d)); entries = held_by_dup F (entry_of d fd) (lowest_free d) }) me after (dup_answer (entry_of d fd) (lowest_free d)))) (sym (fds k u F m))
        (dup_by_so (copied k pid o free) (record (under u F k) { table = fds_set u me (after_dup (fds_at k pid) o free); entries = held_by_dup F o free }) (dup_answer o free)
        (record { related = keeps.copy k.table u k.entries F fd m; rest = refl }))

    -- ---- open and pipe

    opened_so : (k : KernelState S) (object : Object) (o : Option ℕ) (u : Table S) (F : Entries) → lowest_free_entry k.entries ≡ o → R k.table k.entries u F → Same (opened_at k pid object o) (opened_at (under u F k) me object o)
    opened_so k object None u F is m = here k u F m
    opened_so k object (Some e) u F is m =
        subst (λ (d : Descriptors). Same (opened_at k pid object (Some e)) (record (under u F k) { table = fds_set u me (installed d e); entries = added F object })) (sym (fds k u F m))
        (record { related = keeps.opening k.table u k.entries F object e is m; rest = refl })

    with_open_here : (k : KernelState S) (object : Object) (u : Table S) (F : Entries) → R k.table k.entries u F → Same (with_open k pid object) (with_open (under u F k) me object)
    with_open_here k object u F m =
        subst (λ (o : Option ℕ). Same (with_open k pid object) (opened_at (under u F k) me object o)) (sym (keeps.lowest k.table u k.entries F m)) (opened_so k object (lowest_free_entry k.entries) u F refl m)

    with_open_so : (k l : KernelState S) (object : Object) → Same k l → Same (with_open k pid object) (with_open l me object)
    with_open_so k l object r = holds_of k l (λ j. Same (with_open k pid object) (with_open j me object)) (λ u F m. with_open_here k object u F m) r

    open_here_so : (k : KernelState S) (u : Table S) (F : Entries) → R k.table k.entries u F → (file : List ℕ) (mode : Mode) → Same (open_here k pid after file mode) (open_here (under u F k) me after file mode)
    open_here_so k u F m file mode =
        let object = File file (entry_mode mode) in
        subst (λ (d : Descriptors). Same (open_here k pid after file mode) (answered (with_open (under u F k) me object) me after (open_reply (lowest_free d)))) (sym (fds k u F m))
        (answering (with_open k pid object) (with_open (under u F k) me object) (open_reply (lowest_free (fds_at k pid))) (with_open_so k (under u F k) object (here k u F m)))

    module _ (k : KernelState S) (u : Table S) (F : Entries) (m : R k.table k.entries u F) (file : List ℕ) (mode : Mode) (refused : Bool) where
      emptied_so : (b : Bool) → Same (open_here (emptied_if b k file) pid after file mode) (open_here (emptied_if b (under u F k) file) me after file mode)
      emptied_so true = open_here_so (with_bytes k file []) u F m file mode
      emptied_so false = open_here_so k u F m file mode

      for_reading_so : (o : Option (List ℕ)) → Same (open_for_reading k pid after file mode o) (open_for_reading (under u F k) me after file mode o)
      for_reading_so None = refuses k u F m
      for_reading_so (Some bytes) = open_here_so k u F m file mode

      for_writing_so : (o : Option (List ℕ)) → Same (open_for_writing k pid after file mode refused o) (open_for_writing (under u F k) me after file mode refused o)
      for_writing_so None =
          pick (nat_le max_files (length k.files)) _ _ _ _ (full_so k u F Files m) (pick refused _ _ _ _ (full_so k u F Memory m) (open_here_so (with_bytes k file []) u F m file mode))
      for_writing_so (Some bytes) = emptied_so (empties mode)

      pub open_so : Same (open_file k pid after file mode refused) (open_file (under u F k) me after file mode refused)
      open_so =
          branch (free_count k.entries == 0) (free_count F == 0) _ _ _ _ (ap (λ (many : ℕ). many == 0) (keeps.free k.table u k.entries F m)) (full_so k u F Open m)
          (branch (is_none (lowest_free (fds_at k pid))) (is_none (lowest_free (fds_at (under u F k) me))) _ _ _ _ (ap (λ (d : Descriptors). is_none (lowest_free d)) (fds k u F m)) (full_so k u F Fds m)
          (pick (is_openable file) _ _ _ _ (pick (reads mode) _ _ _ _ (for_reading_so (files k.files file)) (for_writing_so (files k.files file))) (refuses k u F m)))

    reader_so : (k l : KernelState S) (id : ℕ) → Same k l → Same (with_reader k pid id) (with_reader l me id)
    reader_so k l id r =
        with_open_so (record k { pipes = with_new k.pipes id }) (record l { pipes = with_new l.pipes id }) (PipeRead id)
        (record { related = r.related; rest = ap (λ (j : KernelState S). record j { pipes = with_new j.pipes id }) r.rest })

    same_place : (k l : KernelState S) → Same k l → lowest_free (fds_at l me) ≡ lowest_free (fds_at k pid)
    same_place k l r = ap lowest_free (keeps.fds k.table l.table k.entries l.entries r.related)

    made_so : (k l : KernelState S) (id : ℕ) → Same k l → Same (answered (with_ends k pid id) pid after (ends_reply (lowest_free (fds_at k pid)) (lowest_free (fds_at (with_reader k pid id) pid))))
        (answered (with_ends l me id) me after (ends_reply (lowest_free (fds_at l me)) (lowest_free (fds_at (with_reader l me id) me))))
    made_so k l id r =
        let one = reader_so k l id r in
        let reply = ends_reply (lowest_free (fds_at k pid)) (lowest_free (fds_at (with_reader k pid id) pid)) in
        subst (λ (p : Reply). Same (answered (with_ends k pid id) pid after reply) (answered (with_ends l me id) me after p))
        (sym (λ i. ends_reply (same_place k l r i) (same_place (with_reader k pid id) (with_reader l me id) one i)))
        (answering (with_ends k pid id) (with_ends l me id) reply (with_open_so (with_reader k pid id) (with_reader l me id) (PipeWrite id) one))

    pub pipe_so : (k : KernelState S) (u : Table S) (F : Entries) → R k.table k.entries u F → (refused : Bool) → Same (make_pipe k pid after refused) (make_pipe (under u F k) me after refused)
    pipe_so k u F m refused =
        branch (nat_lt (free_count k.entries) 2) (nat_lt (free_count F) 2) _ _ _ _ (ap (λ (many : ℕ). nat_lt many 2) (keeps.free k.table u k.entries F m)) (full_so k u F Open m)
        (branch (nat_lt (free_count (fds_at k pid)) 2) (nat_lt (free_count (fds_at (under u F k) me)) 2) _ _ _ _ (ap (λ (d : Descriptors). nat_lt (free_count d) 2) (fds k u F m)) (full_so k u F Fds m)
        (pick refused _ _ _ _ (full_so k u F Memory m) (made_so k (under u F k) k.events (here k u F m))))

    -- ---- read

    read_file_so : (k : KernelState S) (e offset long : ℕ) (o : Option (List ℕ)) (u : Table S) (F : Entries) → R k.table k.entries u F → Same (read_file k pid after e offset long o) (read_file (under u F k) me after e offset long o)
    read_file_so k e offset long None u F m = refuses k u F m
    read_file_so k e offset long (Some bytes) u F m =
        let many = length (take long (drop offset bytes)) in
        answering (record k { entries = advanced k.entries e many }) (record (under u F k) { entries = advanced F e many }) (Bytes (take long (drop offset bytes)))
        (record { related = keeps.advance k.table u k.entries F e many m; rest = refl })

    read_mode_so : (k : KernelState S) (e offset long : ℕ) (o : Option (List ℕ)) (mode : EntryMode) (u : Table S) (F : Entries) → R k.table k.entries u F → Same (read_mode k pid after e offset long o mode) (read_mode (under u F k) me after e offset long o mode)
    read_mode_so k e offset long o ForReading u F m = read_file_so k e offset long o u F m
    read_mode_so k e offset long o Fresh u F m = refuses k u F m
    read_mode_so k e offset long o Over u F m = refuses k u F m
    read_mode_so k e offset long o Append u F m = refuses k u F m

    read_by_so : (k l : KernelState S) (id : ℕ) (got : List ℕ) (r : Take) → Same k l → Same (read_by k pid after id got r) (read_by l me after id got r)
    read_by_so k l id got (Got long) s = waking_room (answered k pid after (Bytes got)) (answered l me after (Bytes got)) id (answering k l (Bytes got) s)
    read_by_so k l id got Empty s = sleeping_bytes k l id 0 s
    read_by_so k l id got End s = answering k l (Bytes []) s

    read_pipe_so : (k : KernelState S) (id long : ℕ) (o : Option PipeState) (u : Table S) (F : Entries) → R k.table k.entries u F → Same (read_pipe k pid after id long o) (read_pipe (under u F k) me after id long o)
    read_pipe_so k id long None u F m = refuses k u F m
    read_pipe_so k id long (Some p) u F m =
        let l : KernelState S = record k { pipes = taken_from k.pipes id long (Some p) } in
        read_by_so l (under u F l) id (take long p.bytes) (take_answer p long) (here l u F m)

    read_object_so : (k : KernelState S) (e offset long : ℕ) (object : Object) (u : Table S) (F : Entries) → R k.table k.entries u F → Same (read_object k pid after e offset long object) (read_object (under u F k) me after e offset long object)
    read_object_so k e offset long Input u F m =
        let l : KernelState S = record k { input = drop long k.input } in
        answering l (under u F l) (Bytes (take long k.input)) (here l u F m)
    read_object_so k e offset long Out u F m = refuses k u F m
    read_object_so k e offset long Diag u F m = refuses k u F m
    read_object_so k e offset long (File name mode) u F m = read_mode_so k e offset long (files k.files name) mode u F m
    read_object_so k e offset long (PipeRead id) u F m = read_pipe_so k id long (pipe_of k.pipes id) u F m
    read_object_so k e offset long (PipeWrite id) u F m = refuses k u F m

    read_entry_so : (k : KernelState S) (e long : ℕ) (o : Option Opened) (u : Table S) (F : Entries) → R k.table k.entries u F → Same (read_entry k pid after e long o) (read_entry (under u F k) me after e long o)
    read_entry_so k e long None u F m = refuses k u F m
    read_entry_so k e long (Some f) u F m = read_object_so k e f.offset long f.object u F m

    -- a read sees no count
    read_seen : (k : KernelState S) (p e long : ℕ) (o other : Option Opened) → seen o ≡ seen other → read_entry k p after e long o ≡ read_entry k p after e long other
    read_seen k p e long None None is = refl
    read_seen k p e long None (Some g) is = absurd (let z : ⊥ = cc in z)
    read_seen k p e long (Some f) None is = absurd (let z : ⊥ = cc in z)
    read_seen k p e long (Some f) (Some g) is =
        let both : ◌≡◌ {A = Object × ℕ} (f.object, f.offset) (g.object, g.offset) = cc in
        λ i. read_object k p after e (both i).1 long (both i).0

    read_held_so : (k : KernelState S) (long : ℕ) (o : Option ℕ) (u : Table S) (F : Entries) → R k.table k.entries u F → Same (read_held k pid after long o) (read_held (under u F k) me after long o)
    read_held_so k long None u F m = refuses k u F m
    read_held_so k long (Some e) u F m =
        subst (λ (j : KernelState S). Same (read_held k pid after long (Some e)) j) (sym (read_seen (under u F k) me e long (entry_at F e) (entry_at k.entries e) (keeps.look k.table u k.entries F e m)))
        (read_entry_so k e long (entry_at k.entries e) u F m)

    pub read_so : (k : KernelState S) (fd long : ℕ) (u : Table S) (F : Entries) → R k.table k.entries u F → Same (read k pid after fd long) (read (under u F k) me after fd long)
    read_so k fd long u F m =
        subst (λ (o : Option ℕ). Same (read k pid after fd long) (read_held (under u F k) me after (min long block_size) o)) (sym (held k u F m fd)) (read_held_so k (min long block_size) (entry_of (fds_at k pid) fd) u F m)

    -- ---- write

    write_file_so : (k : KernelState S) (e : ℕ) (file : List ℕ) (offset : ℕ) (b : List ℕ) (refused : Bool) (o : Option (List ℕ)) (u : Table S) (F : Entries) → R k.table k.entries u F
        → Same (write_file k pid after e file offset b refused o) (write_file (under u F k) me after e file offset b refused o)
    write_file_so k e file offset b refused None u F m = refuses k u F m
    write_file_so k e file offset b refused (Some bytes) u F m =
        let l : KernelState S = record k { files = with_entry k.files file (written bytes offset b); entries = advanced k.entries e (length b) } in
        let both : Same l (under u (advanced F e (length b)) l) = record { related = keeps.advance k.table u k.entries F e (length b) m; rest = refl } in
        pick (nat_lt (length bytes) offset) _ _ _ _ (refuses k u F m)
        (pick (nat_lt max_size (offset + length b)) _ _ _ _ (full_so k u F Size m)
        (pick (lacks_memory refused (length bytes) (offset + length b)) _ _ _ _ (full_so k u F Memory m) (answering l (under u (advanced F e (length b)) l) Done both)))

    append_file_so : (k : KernelState S) (e : ℕ) (file b : List ℕ) (refused : Bool) (o : Option (List ℕ)) (u : Table S) (F : Entries) → R k.table k.entries u F
        → Same (append_file k pid after e file b refused o) (append_file (under u F k) me after e file b refused o)
    append_file_so k e file b refused None u F m = refuses k u F m
    append_file_so k e file b refused (Some bytes) u F m =
        let l : KernelState S = record k { files = with_entry k.files file (bytes ++ b); entries = moved_to k.entries e (length bytes + length b) } in
        let both : Same l (under u (moved_to F e (length bytes + length b)) l) = record { related = keeps.move k.table u k.entries F e (length bytes + length b) m; rest = refl } in
        pick (nat_lt max_size (length bytes + length b)) _ _ _ _ (full_so k u F Size m)
        (pick (lacks_memory refused (length bytes) (length bytes + length b)) _ _ _ _ (full_so k u F Memory m) (answering l (under u (moved_to F e (length bytes + length b)) l) Done both))

    write_mode_so : (k : KernelState S) (e : ℕ) (file : List ℕ) (offset : ℕ) (b : List ℕ) (refused : Bool) (mode : EntryMode) (u : Table S) (F : Entries) → R k.table k.entries u F
        → Same (write_mode k pid after e file offset b refused mode) (write_mode (under u F k) me after e file offset b refused mode)
    write_mode_so k e file offset b refused ForReading u F m = refuses k u F m
    write_mode_so k e file offset b refused Fresh u F m = write_file_so k e file offset b refused (files k.files file) u F m
    write_mode_so k e file offset b refused Over u F m = write_file_so k e file offset b refused (files k.files file) u F m
    write_mode_so k e file offset b refused Append u F m = append_file_so k e file b refused (files k.files file) u F m

    write_by_so : (k l : KernelState S) (id put left : ℕ) (r : Put) → Same k l → Same (write_by k pid after id put left r) (write_by l me after id put left r)
    write_by_so k l id put left (Took long) s =
        pick (long == left) _ _ _ _ (waking_bytes (answered k pid after Done) (answered l me after Done) id (answering k l Done s))
        (waking_bytes (sleeps k pid (PipeRoom id) (put + long)) (sleeps l me (PipeRoom id) (put + long)) id (sleeping_room k l id (put + long) s))
    write_by_so k l id put left NoRoom s = waking_bytes (sleeps k pid (PipeRoom id) put) (sleeps l me (PipeRoom id) put) id (sleeping_room k l id put s)
    write_by_so k l id put left Closed s = answering k l Refused s

    write_pipe_so : (k : KernelState S) (id put : ℕ) (xs : List ℕ) (o : Option PipeState) (u : Table S) (F : Entries) → R k.table k.entries u F → Same (write_pipe k pid after id put xs o) (write_pipe (under u F k) me after id put xs o)
    write_pipe_so k id put xs None u F m = refuses k u F m
    write_pipe_so k id put xs (Some p) u F m =
        let l : KernelState S = record k { pipes = put_into k.pipes id xs (Some p) } in
        write_by_so l (under u F l) id put (length xs) (put_answer p xs) (here l u F m)

    write_object_so : (k : KernelState S) (e offset : ℕ) (b : List ℕ) (refused : Bool) (object : Object) (u : Table S) (F : Entries) → R k.table k.entries u F
        → Same (write_object k pid after e offset b refused object) (write_object (under u F k) me after e offset b refused object)
    write_object_so k e offset b refused Input u F m = refuses k u F m
    write_object_so k e offset b refused Out u F m =
        let l : KernelState S = record k { out = k.out ++ b } in
        pick (lacks_memory refused (length k.out) (length k.out + length b)) _ _ _ _ (full_so k u F Memory m) (answering l (under u F l) Done (here l u F m))
    write_object_so k e offset b refused Diag u F m =
        let l : KernelState S = record k { diag = k.diag ++ b } in
        pick (lacks_memory refused (length k.diag) (length k.diag + length b)) _ _ _ _ (full_so k u F Memory m) (answering l (under u F l) Done (here l u F m))
    write_object_so k e offset b refused (File name mode) u F m = write_mode_so k e name offset b refused mode u F m
    write_object_so k e offset b refused (PipeRead id) u F m = refuses k u F m
    write_object_so k e offset b refused (PipeWrite id) u F m =
        let put = put_of (at k.table pid) in
        subst (λ (p : ℕ). Same (write_object k pid after e offset b refused (PipeWrite id)) (write_pipe (under u F k) me after id p (drop p b) (pipe_of k.pipes id))) (sym (keeps.put k.table u k.entries F m))
        (write_pipe_so k id put (drop put b) (pipe_of k.pipes id) u F m)

    write_entry_so : (k : KernelState S) (e : ℕ) (b : List ℕ) (refused : Bool) (o : Option Opened) (u : Table S) (F : Entries) → R k.table k.entries u F → Same (write_entry k pid after e b refused o) (write_entry (under u F k) me after e b refused o)
    write_entry_so k e b refused None u F m = refuses k u F m
    write_entry_so k e b refused (Some f) u F m = write_object_so k e f.offset b refused f.object u F m

    -- nor does a write
    write_seen : (k : KernelState S) (p e : ℕ) (b : List ℕ) (refused : Bool) (o other : Option Opened) → seen o ≡ seen other → write_entry k p after e b refused o ≡ write_entry k p after e b refused other
    write_seen k p e b refused None None is = refl
    write_seen k p e b refused None (Some g) is = absurd (let z : ⊥ = cc in z)
    write_seen k p e b refused (Some f) None is = absurd (let z : ⊥ = cc in z)
    write_seen k p e b refused (Some f) (Some g) is =
        let both : ◌≡◌ {A = Object × ℕ} (f.object, f.offset) (g.object, g.offset) = cc in
        λ i. write_object k p after e (both i).1 b refused (both i).0

    write_held_so : (k : KernelState S) (b : List ℕ) (refused : Bool) (o : Option ℕ) (u : Table S) (F : Entries) → R k.table k.entries u F → Same (write_held k pid after b refused o) (write_held (under u F k) me after b refused o)
    write_held_so k b refused None u F m = refuses k u F m
    write_held_so k b refused (Some e) u F m =
        subst (λ (j : KernelState S). Same (write_held k pid after b refused (Some e)) j) (sym (write_seen (under u F k) me e b refused (entry_at F e) (entry_at k.entries e) (keeps.look k.table u k.entries F e m)))
        (write_entry_so k e b refused (entry_at k.entries e) u F m)

    pub write_so : (k : KernelState S) (fd : ℕ) (b : List ℕ) (refused : Bool) (u : Table S) (F : Entries) → R k.table k.entries u F → Same (write k pid after fd b refused) (write (under u F k) me after fd b refused)
    write_so k fd b refused u F m =
        subst (λ (o : Option ℕ). Same (write k pid after fd b refused) (write_held (under u F k) me after b refused o)) (sym (held k u F m fd)) (write_held_so k b refused (entry_of (fds_at k pid) fd) u F m)
