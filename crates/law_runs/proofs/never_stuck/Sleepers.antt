-- Where nobody is awake each process has to wait for what its call asks for, and init has a child that lives.
use Rattle.std.proofs.Common.{◌≡◌, ℕ, zero, suc, ◌+◌, Bool, true, false, Option, Some, None, length, refl, sym, ap, ◌∙◌, subst, arith}
use Rattle.std.specs.Prelude.{option_map, ◌&&◌}
use Rattle.std.proofs.lemmas.Bool.{eq-eqb, eqb-true, both_ways}
use Rattle.mem_files.specs.Files.{files}
use Rattle.fd_table.specs.declared.names.Object.{Object}
use Rattle.fd_table.specs.declared.names.Object.TheVariants.{Input, Out, Diag, File, PipeRead, PipeWrite}
use Rattle.fd_table.specs.declared.descriptors.TheConstants.{DESCRIPTORS}
use Rattle.fd_table.specs.Entries.{OpenFile, entry_at}
use Rattle.fd_table.specs.Descriptors.{Descriptors, entry_of}
use Rattle.user_calls.specs.declared.calls.Call.{Call}
use Rattle.user_calls.specs.declared.calls.Call.TheVariants.{Wait, Read, Write}
use Rattle.proc_table.specs.declared.states.Channel.{Channel}
use Rattle.proc_table.specs.declared.states.Channel.TheVariants.{PipeBytes, PipeRoom, Children}
use Rattle.proc_table.specs.declared.states.Status.{Status}
use Rattle.proc_table.specs.declared.states.Status.TheVariants.{Runnable, Running, Asleep, Zombie}
use Rattle.proc_table.specs.Slots.{Slot, Process, at, is_free, is_number, is_zombie, is_zombie_child_of, is_zombie_status, parent_or_init}
use Rattle.kernel_model.specs.KernelState.{KernelState, fds_of, fds_at, file_at}
use Rattle.kernel_model.specs.Pipes.{pipe_of}
use Rattle.law_kernel.specs.Outcome.{object_of}
use Rattle.law_kernel.specs.Asking.{MaySleep, AllAsk}
use Rattle.law_kernel.specs.Ends.{has_object, reads_pipe, writes_pipe, read_end_open, write_end_open}
use Rattle.law_kernel.specs.Held.{IsHeld as IsHeldBy}
use Rattle.law_kernel.specs.Sleeping.{Waits, SleepsOn, WaitsForChild}
use Rattle.law_kernel.proofs.kernel.Held.{open_while_held}
use Rattle.sh_machine.specs.State.{User, init}
use Rattle.sh_machine.specs.Turn.{call_of}
use Rattle.process_model.specs.Seen.{Entry, reader, writer, Fds, fd_at, Act, act_of, free, zombie, live, fds_seen, seen_by, seen_slot, Names, view}
use Rattle.process_model.specs.Shows.{IsNamed, ShowsIn}
use Rattle.process_model.specs.Effect.{Holds}
use Rattle.law_runs.specs.Consistent.{IsConsistent}
use Rattle.law_runs.specs.Seen.{IsInit}
use Rattle.law_runs.proofs.views.Fds.{seen_fd, none_open}
use Rattle.law_runs.proofs.never_stuck.Blocked.{IsHeld, Blocked, AllBlocked}
use Rattle.law_runs.proofs.never_stuck.Deciding.{is_awake_status, is_awake, AllAsleep}

reads_that : (id : ℕ) (o : Object) → reads_pipe id o ≡ true → o ≡ PipeRead id
reads_that id Input is = absurd (let z : ⊥ = cc in z)
reads_that id Out is = absurd (let z : ⊥ = cc in z)
reads_that id Diag is = absurd (let z : ⊥ = cc in z)
reads_that id (File name mode) is = absurd (let z : ⊥ = cc in z)
reads_that id (PipeRead other) is = ap PipeRead (sym (eqb-true id other is))
reads_that id (PipeWrite other) is = absurd (let z : ⊥ = cc in z)

writes_that : (id : ℕ) (o : Object) → writes_pipe id o ≡ true → o ≡ PipeWrite id
writes_that id Input is = absurd (let z : ⊥ = cc in z)
writes_that id Out is = absurd (let z : ⊥ = cc in z)
writes_that id Diag is = absurd (let z : ⊥ = cc in z)
writes_that id (File name mode) is = absurd (let z : ⊥ = cc in z)
writes_that id (PipeRead other) is = absurd (let z : ⊥ = cc in z)
writes_that id (PipeWrite other) is = ap PipeWrite (sym (eqb-true id other is))

module _ (g : Names) (k : KernelState User) (settled : IsConsistent k) (shows : ShowsIn g k) where
  -- an entry that has an end of a pipe open has its name
  names_by : (o : Object) (x : Entry) → ((e at : ℕ) → IsNamed g (files k.files) (k.events + 1) (g.name e) o at → g.name e ≡ x) → (e : ℕ) (f : OpenFile) → entry_at k.entries e ≡ Some f → f.object ≡ o → g.name e ≡ x
  names_by o x tells e f is ob = tells e f.offset (subst (λ (p : Object). IsNamed g (files k.files) (k.events + 1) (g.name e) p f.offset) ob (shows.named e f is))

  names_reader : (id e : ℕ) (f : OpenFile) → entry_at k.entries e ≡ Some f → f.object ≡ PipeRead id → g.name e ≡ reader id
  names_reader id = names_by (PipeRead id) (reader id) (λ e at is. is.0)

  names_writer : (id e : ℕ) (f : OpenFile) → entry_at k.entries e ≡ Some f → f.object ≡ PipeWrite id → g.name e ≡ writer id
  names_writer id = names_by (PipeWrite id) (writer id) (λ e at is. is.0)

  -- a descriptor that holds such an object is seen to
  seen_open : (o : Object) (x : Entry) → ((e : ℕ) (f : OpenFile) → entry_at k.entries e ≡ Some f → f.object ≡ o → g.name e ≡ x) → (d : Option ℕ) → object_of (file_at k.entries d) ≡ Some o → option_map g.name d ≡ Some x
  seen_open o x names None is = absurd (let z : ⊥ = cc in z)
  seen_open o x names (Some e) is = by (entry_at k.entries e) refl is
    where
      by : (y : Option OpenFile) → entry_at k.entries e ≡ y → object_of y ≡ Some o → Some (g.name e) ≡ Some x
      by None at_it it = absurd (let z : ⊥ = cc in z)
      by (Some f) at_it it = let z : f.object ≡ o = cc in ap Some (names e f at_it z)

  fd_seen : (o : Object) (x : Entry) → ((e : ℕ) (f : OpenFile) → entry_at k.entries e ≡ Some f → f.object ≡ o → g.name e ≡ x) → (p : ℕ) (y : Process User) (fd : ℕ) → at k.table p ≡ Some y → object_of (file_at k.entries (entry_of (fds_at k p) fd)) ≡ Some o → fd_at (fds_seen g.name y.fds) fd ≡ Some x
  fd_seen o x names p y fd here is =
      seen_fd g.name y.fds fd ∙ seen_open o x names (entry_of y.fds fd) (ap (λ s. object_of (file_at k.entries (entry_of (fds_of s) fd))) (sym here) ∙ is)

  module _ (has_init : IsInit k) where
    -- who holds an entry is seen to hold its name: it is neither init nor a zombie
    init_holds_none : (s : Slot User) → at k.table 0 ≡ s → (fd e : ℕ) → entry_of (fds_of s) fd ≡ Some e → ⊥
    init_holds_none None here fd e holds = none_open DESCRIPTORS fd e holds
    init_holds_none (Some y) here fd e holds = none_open DESCRIPTORS fd e (ap (λ (d : Descriptors). entry_of d fd) (sym (has_init y here).1) ∙ holds)

    holder_by : (x : Entry) (q : ℕ) (y : Process User) → at k.table (suc q) ≡ Some y → (b : Bool) → is_zombie_status y.status ≡ b → (fd e : ℕ) → entry_of y.fds fd ≡ Some e → g.name e ≡ x → Holds (seen_by b g.name y) x
    holder_by x q y here true dead fd e holds named =
        absurd (none_open DESCRIPTORS fd e (ap (λ (d : Descriptors). entry_of d fd) (sym (settled.sound.zombies (suc q) (ap is_zombie here ∙ dead)) ∙ ap fds_of here) ∙ holds))
    holder_by x q y here false alive fd e holds named = record { fd = fd; is = seen_fd g.name y.fds fd ∙ ap (option_map g.name) holds ∙ ap Some named }

    holder_seen : (x : Entry) (q fd e : ℕ) → entry_of (fds_at k q) fd ≡ Some e → g.name e ≡ x → Holds ((view g k).slots q) x
    holder_seen x zero fd e holds named = absurd (init_holds_none (at k.table 0) refl fd e holds)
    holder_seen x (suc q) fd e holds named = by (at k.table (suc q)) refl holds
      where
        by : (s : Slot User) → at k.table (suc q) ≡ s → entry_of (fds_of s) fd ≡ Some e → Holds (seen_slot g.name s) x
        by None here it = absurd (none_open DESCRIPTORS fd e it)
        by (Some y) here it = holder_by x q y here (is_zombie_status y.status) refl fd e it named

    held_seen : (test : Object → Bool) (o : Object) (x : Entry) → ((p : Object) → test p ≡ true → p ≡ o) → ((e : ℕ) (f : OpenFile) → entry_at k.entries e ≡ Some f → f.object ≡ o → g.name e ≡ x) → IsHeldBy k test → IsHeld (view g k) x
    held_seen test o x tells names h = record { holder = h.pid; holds = holder_seen x h.pid h.fd h.entry h.holds (by (entry_at k.entries h.entry) refl h.has) }
      where
        by : (y : Option OpenFile) → entry_at k.entries h.entry ≡ y → has_object test y ≡ true → g.name h.entry ≡ x
        by None at_it it = absurd (let z : ⊥ = cc in z)
        by (Some f) at_it it = names h.entry f at_it (tells f.object it)

    writer_held : (id : ℕ) → write_end_open (pipe_of k.pipes id) ≡ true → IsHeld (view g k) (writer id)
    writer_held id up = held_seen (writes_pipe id) (PipeWrite id) (writer id) (writes_that id) (names_writer id) ((open_while_held k settled.sound (writes_pipe id) (write_end_open (pipe_of k.pipes id)) (settled.ends.writers id)).0 up)

    reader_held : (id : ℕ) → read_end_open (pipe_of k.pipes id) ≡ true → IsHeld (view g k) (reader id)
    reader_held id up = held_seen (reads_pipe id) (PipeRead id) (reader id) (reads_that id) (names_reader id) ((open_while_held k settled.sound (reads_pipe id) (read_end_open (pipe_of k.pipes id)) (settled.ends.readers id)).0 up)

    -- ---- who sleeps is seen to wait

    -- a zombie that is seen to be a child of p is one
    child_by : (p : ℕ) (o : Option ℕ) → parent_or_init o ≡ suc p → is_number (suc p) o ≡ true
    child_by p None is = absurd (omega (arith, is))
    child_by p (Some n) is = eq-eqb (suc p) n (sym is)

    zombie_by : (p : ℕ) (y : Process User) (b : Bool) → is_zombie_status y.status ≡ b → seen_by b g.name y ≡ zombie (suc p) → is_zombie_child_of (suc p) (Some y) ≡ true
    zombie_by p y true dead is = let z : parent_or_init y.parent ≡ suc p = cc in (λ i. child_by p y.parent z i && dead i)
    zombie_by p y false alive is = absurd (let z : ⊥ = cc in z)

    no_zombie : (p : ℕ) → WaitsForChild k.table (suc p) → (q : ℕ) → (view g k).slots q ≡ zombie (suc p) → ⊥
    no_zombie p waits zero is = let z : ⊥ = cc in z
    no_zombie p waits (suc q) is = by (at k.table (suc q)) refl is
      where
        by : (s : Slot User) → at k.table (suc q) ≡ s → seen_slot g.name s ≡ zombie (suc p) → ⊥
        by None here it = let z : ⊥ = cc in z
        by (Some y) here it = both_ways (is_zombie_child_of (suc p) (at k.table (suc q))) (waits.living (suc q)) (ap (is_zombie_child_of (suc p)) here ∙ zombie_by p y (is_zombie_status y.status) refl it)

    blocked_on : (p : ℕ) (y : Process User) (c : Channel) → at k.table (suc p) ≡ Some y → (call : Call) → MaySleep k (suc p) call y.put c → Waits k.table k.pipes (suc p) c → Blocked (view g k) (suc p) (fds_seen g.name y.fds) call
    blocked_on p y (PipeBytes id) here call ask waits =
        subst (Blocked (view g k) (suc p) (fds_seen g.name y.fds)) (sym ask.2)
        (id, fd_seen (PipeRead id) (reader id) (names_reader id) (suc p) y ask.0 here ask.3, shows.holds id waits.pipe waits.found ∙ waits.holds.empty, writer_held id (ap write_end_open waits.found ∙ waits.holds.writer))
    blocked_on p y (PipeRoom id) here call ask waits =
        subst (Blocked (view g k) (suc p) (fds_seen g.name y.fds)) (sym ask.1.1)
        (id, fd_seen (PipeWrite id) (writer id) (names_writer id) (suc p) y ask.1.0 here ask.1.2, ap length (shows.holds id waits.pipe waits.found) ∙ waits.holds.filled, reader_held id (ap read_end_open waits.found ∙ waits.holds.reader))
    blocked_on p y (Children pid) here call ask waits = subst (Blocked (view g k) (suc p) (fds_seen g.name y.fds)) (sym ask.1) (no_zombie p waits.1)

    module _ (asks : AllAsk call_of k) (asleep : AllAsleep k.table) where
      blocked_status : (p parent put : ℕ) (act : Act) (d : Fds) (y : Process User) → at k.table (suc p) ≡ Some y → (s : Status) → y.status ≡ s → seen_by (is_zombie_status s) g.name y ≡ live parent act put d → Blocked (view g k) (suc p) d act.call
      blocked_status p parent put act d y here Runnable s is = absurd (asleep (suc p) (ap is_awake here ∙ ap is_awake_status s))
      blocked_status p parent put act d y here (Running h) s is = absurd (asleep (suc p) (ap is_awake here ∙ ap is_awake_status s))
      blocked_status p parent put act d y here Zombie s is = absurd (let z : ⊥ = cc in z)
      blocked_status p parent put act d y here (Asleep c) s is =
          let its_act : act_of y.machine y.reply ≡ act = cc in
          let its_fds : fds_seen g.name y.fds ≡ d = cc in
          let waits = settled.rests.waits (suc p) c (subst (λ (x : Slot User). SleepsOn x c) (sym here) s) in
          let it = blocked_on p y c here (call_of y.machine y.reply) (asks (suc p) y c here s) waits in
          subst (λ (e : Fds). Blocked (view g k) (suc p) e act.call) its_fds (subst (λ (a : Act). Blocked (view g k) (suc p) (fds_seen g.name y.fds) a.call) its_act it)

      pub all_blocked : AllBlocked (view g k)
      all_blocked zero parent put act d is = absurd (let z : free ≡ live parent act put d = is in let w : ⊥ = cc in w)
      all_blocked (suc p) parent put act d is = by (at k.table (suc p)) refl is
        where
          by : (s : Slot User) → at k.table (suc p) ≡ s → seen_slot g.name s ≡ live parent act put d → Blocked (view g k) (suc p) d act.call
          by None here it = absurd (let z : free ≡ live parent act put d = it in let w : ⊥ = cc in w)
          by (Some y) here it = blocked_status p parent put act d y here y.status refl it

      -- init waits for its children
      init_on : (y : Process User) (c : Channel) → MaySleep k 0 Wait y.put c → Waits k.table k.pipes 0 c → WaitsForChild k.table 0
      init_on y (PipeBytes id) ask waits = absurd (let z : Wait ≡ Read ask.0 ask.1 = ask.2 in let w : ⊥ = cc in w)
      init_on y (PipeRoom id) ask waits = absurd (let z : Wait ≡ Write ask.1.0 ask.0 = ask.1.1 in let w : ⊥ = cc in w)
      init_on y (Children pid) ask waits = waits.1

      init_status : (y : Process User) → at k.table 0 ≡ Some y → (s : Status) → y.status ≡ s → WaitsForChild k.table 0
      init_status y here Runnable s = absurd (asleep 0 (ap is_awake here ∙ ap is_awake_status s))
      init_status y here (Running h) s = absurd (asleep 0 (ap is_awake here ∙ ap is_awake_status s))
      init_status y here Zombie s = absurd (both_ways (is_zombie (at k.table 0)) settled.rests.family.init.alive (ap is_zombie here ∙ ap is_zombie_status s))
      init_status y here (Asleep c) s =
          let waits = settled.rests.waits 0 c (subst (λ (x : Slot User). SleepsOn x c) (sym here) s) in
          let machine : y.machine ≡ init = (has_init y here).0 in
          init_on y c (subst (λ (u : User). MaySleep k 0 (call_of u y.reply) y.put c) machine (asks 0 y c here s)) waits

      pub init_waits : WaitsForChild k.table 0
      init_waits = by (at k.table 0) refl
        where
          by : (s : Slot User) → at k.table 0 ≡ s → WaitsForChild k.table 0
          by None here = absurd (both_ways (is_free (at k.table 0)) settled.rests.family.init.used (ap is_free here))
          by (Some y) here = init_status y here y.status refl
