-- Where nothing was marked, no note is of a refusal that mattered: the schedule alone determines the run.
use Rattle.std.proofs.Common.{◌≡◌, ℕ, ◌+◌, List, [], ◌∷◌, ◌++◌, Bool, true, false, Option, Some, None, length, refl, sym, ap, ◌∙◌}
use Rattle.std.specs.Prelude.{if◌then◌else◌, nat_lt, nat_le, ◌==◌, is_none}
use Rattle.user_calls.specs.declared.calls.Call.{Call}
use Rattle.user_calls.specs.declared.calls.Call.TheVariants.{Fork, Exec, Exit, Wait, MakePipe, Read, Write, OpenFile, Close, Dup}
use Rattle.user_calls.specs.declared.calls.Mode.{Mode}
use Rattle.user_calls.specs.declared.calls.Reply.{Reply}
use Rattle.user_calls.specs.declared.calls.Reply.TheVariants.{Done, Refused}
use Rattle.fd_table.specs.declared.names.Mode.{Mode as EntryMode}
use Rattle.fd_table.specs.declared.names.Mode.TheVariants.{Input as ForReading, Fresh, Over, Append}
use Rattle.fd_table.specs.declared.names.Object.{Object}
use Rattle.fd_table.specs.declared.names.Object.TheVariants.{Input, Out, Diag, File, PipeRead, PipeWrite}
use Rattle.fd_table.specs.Entries.{OpenFile as Opened, free_count, advanced, moved_to}
use Rattle.fd_table.specs.Descriptors.{entry_of, lowest_free}
use Rattle.mem_files.specs.Name.{is_openable}
use Rattle.mem_files.specs.Files.{files}
use Rattle.mem_files.specs.Overlay.{written}
use Rattle.mem_files.specs.Listing.{max_files, max_size, with_entry}
use Rattle.proc_table.specs.Slots.{Slot, at, is_running_on}
use Rattle.kernel_model.specs.declared.events.Event.{Event}
use Rattle.kernel_model.specs.declared.events.Event.TheVariants.{Dispatch, Trap}
use Rattle.kernel_model.specs.declared.events.Full.{Full}
use Rattle.kernel_model.specs.declared.events.Full.TheVariants.{Open, Fds, Files, Size, Memory}
use Rattle.kernel_model.specs.KernelState.{KernelState, fds_at, file_at}
use Rattle.kernel_model.specs.Modes.{reads}
use Rattle.kernel_model.specs.Replies.{answered, refused_for, marked}
use Rattle.kernel_model.specs.Descriptors.{with_reader, with_ends, ends_reply, make_pipe}
use Rattle.kernel_model.specs.Opening.{with_bytes, open_here, open_for_reading, open_for_writing, open_file}
use Rattle.kernel_model.specs.Writing.{lacks_memory, write_file, append_file, write_mode, write_object, write_entry, write_held}
use Rattle.kernel_model.specs.Events.{acted, counted, trapped, happens, run}
use Rattle.kernel_model.specs.Lasting.{IsLater}
use Rattle.kernel_model.specs.Quiet.{no_refusals}
use Rattle.kernel_model.proofs.Lasting.{run_later, no_run}

pub is_marked : (o : Option Full) (full : Full) → marked o full ≡ None → ⊥
is_marked None full is = cc
is_marked (Some first) full is = cc

module _ {S : Type 0} (pid : ℕ) (after : S) where
  -- the state is unmarked only where it is the other one
  abbrev Quiet : KernelState S → KernelState S → Type 0
  Quiet x y = x.full ≡ None → x ≡ y

  either : (b : Bool) (x y z w : KernelState S) → Quiet x z → Quiet y w → Quiet (if b then x else y) (if b then z else w)
  either true x y z w a c = a
  either false x y z w a c = c

  same : (x : KernelState S) → Quiet x x
  same x unmarked = refl

  noted : (refused : Bool) (k l : KernelState S) → Quiet (if refused then refused_for k pid after Memory else l) l
  noted true k l unmarked = absurd (is_marked k.full Memory unmarked)
  noted false k l unmarked = refl

  make_pipe_quiet : (k : KernelState S) (refused : Bool) → Quiet (make_pipe k pid after refused) (make_pipe k pid after false)
  make_pipe_quiet k refused =
      let done : KernelState S = answered (with_ends k pid k.events) pid after (ends_reply (lowest_free (fds_at k pid)) (lowest_free (fds_at (with_reader k pid k.events) pid))) in
      either (nat_lt (free_count k.entries) 2) (refused_for k pid after Open) _ (refused_for k pid after Open) _ (same _)
      (either (nat_lt (free_count (fds_at k pid)) 2) (refused_for k pid after Fds) (if refused then refused_for k pid after Memory else done) (refused_for k pid after Fds) done (same _) (noted refused k done))

  -- ---- open

  for_writing_quiet : (k : KernelState S) (name : List ℕ) (mode : Mode) (refused : Bool) (o : Option (List ℕ)) → Quiet (open_for_writing k pid after name mode refused o) (open_for_writing k pid after name mode false o)
  for_writing_quiet k name mode refused None =
      let made : KernelState S = open_here (with_bytes k name []) pid after name mode in
      either (nat_le max_files (length k.files)) (refused_for k pid after Files) (if refused then refused_for k pid after Memory else made) (refused_for k pid after Files) made (same _) (noted refused k made)
  for_writing_quiet k name mode refused (Some bytes) = same _

  open_quiet : (k : KernelState S) (name : List ℕ) (mode : Mode) (refused : Bool) → Quiet (open_file k pid after name mode refused) (open_file k pid after name mode false)
  open_quiet k name mode refused =
      let reading : KernelState S = open_for_reading k pid after name mode (files k.files name) in
      let writing : Bool → KernelState S = λ b. open_for_writing k pid after name mode b (files k.files name) in
      let named : Bool → KernelState S = λ b. if reads mode then reading else writing b in
      let good : Bool → KernelState S = λ b. if is_openable name then named b else answered k pid after Refused in
      let roomy : Bool → KernelState S = λ b. if is_none (lowest_free (fds_at k pid)) then refused_for k pid after Fds else good b in
      either (free_count k.entries == 0) (refused_for k pid after Open) (roomy refused) (refused_for k pid after Open) (roomy false) (same _)
      (either (is_none (lowest_free (fds_at k pid))) (refused_for k pid after Fds) (good refused) (refused_for k pid after Fds) (good false) (same _)
      (either (is_openable name) (named refused) (answered k pid after Refused) (named false) (answered k pid after Refused)
      (either (reads mode) reading (writing refused) reading (writing false) (same _) (for_writing_quiet k name mode refused (files k.files name)))
      (same _)))

  -- ---- write

  write_file_quiet : (k : KernelState S) (e : ℕ) (name : List ℕ) (offset : ℕ) (b : List ℕ) (refused : Bool) (o : Option (List ℕ)) → Quiet (write_file k pid after e name offset b refused o) (write_file k pid after e name offset b false o)
  write_file_quiet k e name offset b refused None = same _
  write_file_quiet k e name offset b refused (Some bytes) =
      let done : KernelState S = answered (record k { files = with_entry k.files name (written bytes offset b); entries = advanced k.entries e (length b) }) pid after Done in
      let sized : KernelState S → KernelState S = λ l. if nat_lt max_size (offset + length b) then refused_for k pid after Size else l in
      either (nat_lt (length bytes) offset) (answered k pid after Refused) (sized (if lacks_memory refused (length bytes) (offset + length b) then refused_for k pid after Memory else done)) (answered k pid after Refused) (sized done) (same _)
      (either (nat_lt max_size (offset + length b)) (refused_for k pid after Size) (if lacks_memory refused (length bytes) (offset + length b) then refused_for k pid after Memory else done) (refused_for k pid after Size) done (same _) (noted (lacks_memory refused (length bytes) (offset + length b)) k done))

  append_quiet : (k : KernelState S) (e : ℕ) (name b : List ℕ) (refused : Bool) (o : Option (List ℕ)) → Quiet (append_file k pid after e name b refused o) (append_file k pid after e name b false o)
  append_quiet k e name b refused None = same _
  append_quiet k e name b refused (Some bytes) =
      let done : KernelState S = answered (record k { files = with_entry k.files name (bytes ++ b); entries = moved_to k.entries e (length bytes + length b) }) pid after Done in
      either (nat_lt max_size (length bytes + length b)) (refused_for k pid after Size) (if lacks_memory refused (length bytes) (length bytes + length b) then refused_for k pid after Memory else done) (refused_for k pid after Size) done (same _) (noted (lacks_memory refused (length bytes) (length bytes + length b)) k done)

  write_mode_quiet : (k : KernelState S) (e : ℕ) (name : List ℕ) (offset : ℕ) (b : List ℕ) (refused : Bool) (mode : EntryMode) → Quiet (write_mode k pid after e name offset b refused mode) (write_mode k pid after e name offset b false mode)
  write_mode_quiet k e name offset b refused ForReading = same _
  write_mode_quiet k e name offset b refused Fresh = write_file_quiet k e name offset b refused (files k.files name)
  write_mode_quiet k e name offset b refused Over = write_file_quiet k e name offset b refused (files k.files name)
  write_mode_quiet k e name offset b refused Append = append_quiet k e name b refused (files k.files name)

  write_object_quiet : (k : KernelState S) (e offset : ℕ) (b : List ℕ) (refused : Bool) (object : Object) → Quiet (write_object k pid after e offset b refused object) (write_object k pid after e offset b false object)
  write_object_quiet k e offset b refused Input = same _
  write_object_quiet k e offset b refused Out = noted (lacks_memory refused (length k.out) (length k.out + length b)) k (answered (record k { out = k.out ++ b }) pid after Done)
  write_object_quiet k e offset b refused Diag = noted (lacks_memory refused (length k.diag) (length k.diag + length b)) k (answered (record k { diag = k.diag ++ b }) pid after Done)
  write_object_quiet k e offset b refused (File name mode) = write_mode_quiet k e name offset b refused mode
  write_object_quiet k e offset b refused (PipeRead id) = same _
  write_object_quiet k e offset b refused (PipeWrite id) = same _

  write_entry_quiet : (k : KernelState S) (e : ℕ) (b : List ℕ) (refused : Bool) (o : Option Opened) → Quiet (write_entry k pid after e b refused o) (write_entry k pid after e b false o)
  write_entry_quiet k e b refused None = same _
  write_entry_quiet k e b refused (Some f) = write_object_quiet k e f.offset b refused f.object

  write_quiet : (k : KernelState S) (b : List ℕ) (refused : Bool) (o : Option ℕ) → Quiet (write_held k pid after b refused o) (write_held k pid after b false o)
  write_quiet k b refused None = same _
  write_quiet k b refused (Some e) = write_entry_quiet k e b refused (file_at k.entries (Some e))

  acted_quiet : (k : KernelState S) (call : Call) (refused : Bool) → Quiet (acted k pid after call refused) (acted k pid after call false)
  acted_quiet k Fork refused = same _
  acted_quiet k (Exec found) refused = same _
  acted_quiet k Exit refused = same _
  acted_quiet k Wait refused = same _
  acted_quiet k MakePipe refused = make_pipe_quiet k refused
  acted_quiet k (Read fd n) refused = same _
  acted_quiet k (Write fd b) refused = write_quiet k b refused (entry_of (fds_at k pid) fd)
  acted_quiet k (OpenFile name mode) refused = open_quiet k name mode refused
  acted_quiet k (Close fd) refused = same _
  acted_quiet k (Dup fd) refused = same _

module _ {S : Type 0} (call : S → Reply → Call) (next : S → Reply → S) where
  trapped_quiet : (k m : KernelState S) (pid : ℕ) (x : Slot S) (refused : Bool) → trapped call next k pid x refused ≡ Some m → m.full ≡ None → trapped call next k pid x false ≡ Some m
  trapped_quiet k m pid None refused is unmarked = is
  trapped_quiet k m pid (Some p) refused is unmarked =
      let was : acted (counted k) pid (next p.machine p.reply) (call p.machine p.reply) refused ≡ m = cc in
      sym (ap Some (acted_quiet pid (next p.machine p.reply) (counted k) (call p.machine p.reply) refused (ap (λ (j : KernelState S). j.full) was ∙ unmarked))) ∙ is

  happens_quiet : (k m : KernelState S) (e : Event) (refused : Bool) → happens call next k e refused ≡ Some m → m.full ≡ None → happens call next k e false ≡ Some m
  happens_quiet k m (Dispatch h pid) refused is unmarked = is
  happens_quiet k m (Trap h pid) refused is unmarked = by (is_running_on h (at k.table pid)) is where
    by : (b : Bool) → (if b then trapped call next k pid (at k.table pid) refused else None) ≡ Some m → (if b then trapped call next k pid (at k.table pid) false else None) ≡ Some m
    by true some = trapped_quiet k m pid (at k.table pid) refused some unmarked
    by false some = some

  -- what is unmarked later was unmarked before
  unmarked_before : (k m : KernelState S) (n : ℕ) → IsLater k n m → m.full ≡ None → k.full ≡ None
  unmarked_before k m n later unmarked = by k.full refl where
    by : (o : Option Full) → k.full ≡ o → o ≡ None
    by None is = refl
    by (Some full) is = absurd (let clash : Some full ≡ None = sym (later.mark full is) ∙ unmarked in let z : ⊥ = cc in z)

  pub run_quiet : (k m : KernelState S) (es : List Event) (ns : List Bool) → run call next (Some k) es ns ≡ Some m → m.full ≡ None → run call next (Some k) es (no_refusals es) ≡ Some m
  run_quiet k m [] [] is unmarked = is
  run_quiet k m [] (n ∷ ns) is unmarked = absurd (let z : ⊥ = cc in z)
  run_quiet k m (e ∷ es) [] is unmarked = absurd (let z : ⊥ = cc in z)
  run_quiet k m (e ∷ es) (n ∷ ns) is unmarked = by (happens call next k e n) refl (λ l. run_quiet l m es ns) is where
    by : (o : Option (KernelState S)) → happens call next k e n ≡ o → ((l : KernelState S) → run call next (Some l) es ns ≡ Some m → m.full ≡ None → run call next (Some l) es (no_refusals es) ≡ Some m) → run call next o es ns ≡ Some m → run call next (happens call next k e false) es (no_refusals es) ≡ Some m
    by None first on rest = absurd (no_run call next es ns m rest)
    by (Some l) first on rest =
        let quiet : happens call next k e false ≡ Some l = happens_quiet k l e n first (unmarked_before l m (length es) (run_later call next l m es ns rest) unmarked) in
        ap (λ (o : Option (KernelState S)). run call next o es (no_refusals es)) quiet ∙ on l rest unmarked

  pub one_run : (k m n : KernelState S) (es : List Event) (ns os : List Bool) → run call next (Some k) es ns ≡ Some m → run call next (Some k) es os ≡ Some n → m.full ≡ None → n.full ≡ None → m ≡ n
  one_run k m n es ns os first second unmarked too =
      let both : Some m ≡ Some n = sym (run_quiet k m es ns first unmarked) ∙ run_quiet k n es os second too in cc
