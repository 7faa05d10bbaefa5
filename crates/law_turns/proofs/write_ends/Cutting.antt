-- An end of a pipe is closed: a call of another process that holds no end with which it would see it comes to the same before and
-- after that.
use Rattle.std.proofs.Common.{◌≡◌, ℕ, zero, suc, ◌+◌, List, [], Bool, true, false, Option, Some, None, length, drop, take, refl, sym, ap, subst, ◌∙◌}
use Rattle.std.specs.Prelude.{if◌then◌else◌, nat_lt, ◌==◌, Result, Ok, Err, min}
use Rattle.user_calls.specs.Limits.{block_size}
use Rattle.user_calls.specs.declared.calls.Reply.TheVariants.{Refused}
use Rattle.fd_table.specs.declared.names.Mode.{Mode as EntryMode}
use Rattle.fd_table.specs.declared.names.Mode.TheVariants.{Input as ForReading, Fresh, Over, Append}
use Rattle.fd_table.specs.declared.names.Object.{Object}
use Rattle.fd_table.specs.declared.names.Object.TheVariants.{Input, Out, Diag, File, PipeRead, PipeWrite}
use Rattle.fd_table.specs.declared.faults.FdFault.{FdFault}
use Rattle.fd_table.specs.declared.faults.FdFault.TheVariants.{BadFd, FullFds, FullOpen}
use Rattle.fd_table.specs.declared.descriptors.TheConstants.{DESCRIPTORS}
use Rattle.fd_table.specs.Entries.{OpenFile as Opened, Entries, entry_at}
use Rattle.fd_table.specs.Descriptors.{entry_of, lowest_free, dup_answer, close_answer, released_by_close}
use Rattle.byte_pipe.specs.declared.Take.{Take}
use Rattle.byte_pipe.specs.declared.Take.TheVariants.{Got, Empty, End}
use Rattle.byte_pipe.specs.declared.Put.{Put}
use Rattle.byte_pipe.specs.declared.Put.TheVariants.{Took, Full as NoRoom, Closed}
use Rattle.byte_pipe.specs.PipeState.{PipeState, take_answer, put_answer}
use Rattle.mem_files.specs.Files.{files}
use Rattle.mem_files.specs.Listing.{max_size}
use Rattle.proc_table.specs.declared.states.Channel.TheVariants.{PipeBytes, PipeRoom}
use Rattle.proc_table.specs.declared.table.Waited.{Waited}
use Rattle.proc_table.specs.declared.table.Waited.TheVariants.{Reaped, NoChildren, MustSleep}
use Rattle.proc_table.specs.Slots.{at, put_of}
use Rattle.proc_table.specs.Calls.{lowest_free as lowest_free_slot, wait_answer}
use Rattle.kernel_model.specs.KernelState.{KernelState, fds_at}
use Rattle.kernel_model.specs.Pipes.{pipe_of, put_into, taken_from, reader_gone, writer_gone}
use Rattle.kernel_model.specs.Replies.{answered, wakes}
use Rattle.kernel_model.specs.Descriptors.{let_go, let_go_of, taken_away, closed_by, closed, closed_below, close, close_reply, dup_by, copied}
use Rattle.kernel_model.specs.Processes.{fork_into, ended, wait_by}
use Rattle.kernel_model.specs.Reading.{read_file, read_mode, read_by, read_pipe, read_object, read_entry, read_held}
use Rattle.kernel_model.specs.Writing.{lacks_memory, write_file, append_file, write_mode, write_by, write_pipe, write_object, write_entry, write_held}
use Rattle.std.proofs.Common.{◌≢◌, ◌⊎◌, inl, inr}
use Rattle.std.proofs.lemmas.Bool.{cases_eq}
use Rattle.law_kernel.specs.Ends.{AreApart}
use Rattle.byte_pipe.specs.PipeState.{after_put, after_take, after_close_write}
use Rattle.kernel_model.specs.Pipes.{Pipes}
use Rattle.kernel_model.specs.Descriptors.{opened_at}
use Rattle.fd_table.specs.Entries.{lowest_free_entry}
use Rattle.kernel_model.specs.Descriptors.{with_open}
use Rattle.law_kernel.proofs.kernel.PipeNames.{apart_closed}
use Rattle.std.proofs.Common.{get_or-set_other}
use Rattle.std.specs.Prelude.{◌||◌}
use Rattle.fd_table.specs.Entries.{less_held, last_object}
use Rattle.byte_pipe.specs.PipeState.{after_close_read}
use Rattle.law_turns.proofs.entry_numbers.Entries.{changed_entry}
use Rattle.law_turns.proofs.last_closes.Closing.{let_go_entries, held_before}
use Rattle.std.specs.Prelude.{nat_le, nat_lt, is_none}
use Rattle.kernel_model.specs.KernelState.{file_at}
use Rattle.user_calls.specs.declared.calls.Mode.{Mode}
use Rattle.mem_files.specs.Name.{is_openable}
use Rattle.mem_files.specs.Listing.{max_files}
use Rattle.kernel_model.specs.Pipes.{with_new}
use Rattle.kernel_model.specs.Modes.{empties, entry_mode, reads}
use Rattle.kernel_model.specs.Descriptors.{with_reader, with_ends, ends_reply, make_pipe}
use Rattle.kernel_model.specs.Opening.{emptied_if, with_bytes, open_here, open_reply, open_for_reading, open_for_writing, open_file}
use Rattle.kernel_model.specs.Events.{acted}
use Rattle.fd_table.specs.Entries.{free_count}
use Rattle.user_calls.specs.declared.calls.Call.{Call}
use Rattle.user_calls.specs.declared.calls.Call.TheVariants.{Fork, Exec, Exit, Wait, MakePipe, Read, Write, OpenFile, Close, Dup}
use Rattle.law_turns.proofs.write_ends.Ends.{PipeEnd, ReadEnd, WriteEnd, shut_end, MayHold, IsNoEnd, no_writer}
use Rattle.law_turns.proofs.write_ends.Pipes.{edited, shut_write, kept_open, writer_edited, reader_edited, taken_edited, put_edited, edits_commute, other_seen, new_edited, edited_twice, edited_so, seen_now, ends_commute}

module _ (end : PipeEnd) (id : ℕ) where
  -- the end of the pipe is closed
  abbrev pub cut_pipes : Pipes → Pipes
  cut_pipes pipes = edited pipes id (shut_end end id)

  gone_other : (pipes : Pipes) (other : ℕ) → other ≢ id → writer_gone (cut_pipes pipes) other (pipe_of (cut_pipes pipes) other) ≡ cut_pipes (writer_gone pipes other (pipe_of pipes other))
  gone_other pipes other ne =
      writer_edited (cut_pipes pipes) other ∙ edits_commute id other (λ q. ne (sym q)) (shut_end end id) (λ p. kept_open (after_close_write p)) pipes ∙ ap cut_pipes (sym (writer_edited pipes other))

  reads_other : (pipes : Pipes) (other : ℕ) → other ≢ id → reader_gone (cut_pipes pipes) other (pipe_of (cut_pipes pipes) other) ≡ cut_pipes (reader_gone pipes other (pipe_of pipes other))
  reads_other pipes other ne = reader_edited (cut_pipes pipes) other ∙ edits_commute id other (λ q. ne (sym q)) (shut_end end id) (λ p. kept_open (after_close_read p)) pipes ∙ ap cut_pipes (sym (reader_edited pipes other))

  taken_other : (pipes : Pipes) (other m : ℕ) → other ≢ id → taken_from (cut_pipes pipes) other m (pipe_of (cut_pipes pipes) other) ≡ cut_pipes (taken_from pipes other m (pipe_of pipes other))
  taken_other pipes other m ne = taken_edited (cut_pipes pipes) other m ∙ edits_commute id other (λ q. ne (sym q)) (shut_end end id) (λ p. Some (after_take p m)) pipes ∙ ap cut_pipes (sym (taken_edited pipes other m))

  put_other : (pipes : Pipes) (other : ℕ) (xs : List ℕ) → other ≢ id → put_into (cut_pipes pipes) other xs (pipe_of (cut_pipes pipes) other) ≡ cut_pipes (put_into pipes other xs (pipe_of pipes other))
  put_other pipes other xs ne = put_edited (cut_pipes pipes) other xs ∙ edits_commute id other (λ q. ne (sym q)) (shut_end end id) (λ p. Some (after_put p xs)) pipes ∙ ap cut_pipes (sym (put_edited pipes other xs))

-- the other end of the same pipe, or another pipe's
pub read_gone : (end : PipeEnd) (id : ℕ) (pipes : Pipes) (other : ℕ) → AreApart pipes → MayHold end id (PipeRead other) → reader_gone (cut_pipes end id pipes) other (pipe_of (cut_pipes end id pipes) other) ≡ cut_pipes end id (reader_gone pipes other (pipe_of pipes other))
read_gone ReadEnd id pipes other apart may = reads_other ReadEnd id pipes other (λ is. may.0 (ap PipeRead is))
read_gone WriteEnd id pipes other apart may = by (cases_eq other id) where
  by : (other ≡ id) ⊎ (other ≢ id) → reader_gone (cut_pipes WriteEnd id pipes) other (pipe_of (cut_pipes WriteEnd id pipes) other) ≡ cut_pipes WriteEnd id (reader_gone pipes other (pipe_of pipes other))
  by (inl is) =
      let P : ℕ → Type 0 = λ i. reader_gone (cut_pipes WriteEnd id pipes) i (pipe_of (cut_pipes WriteEnd id pipes) i) ≡ cut_pipes WriteEnd id (reader_gone pipes i (pipe_of pipes i)) in
      subst P (sym is) (reader_edited (cut_pipes WriteEnd id pipes) id ∙ ends_commute id pipes apart ∙ ap (λ (l : Pipes). cut_pipes WriteEnd id l) (sym (reader_edited pipes id)))
  by (inr ne) = reads_other WriteEnd id pipes other ne

-- ---- bytes of a pipe whose write end is closed

module _ (id : ℕ) where
  abbrev cut_write : Pipes → Pipes
  cut_write pipes = cut_pipes WriteEnd id pipes

  -- bytes can be taken from the pipe: its reader is open, and it holds some
  pub record HasBytes (pipes : Pipes) : Type 0 where
    pub pipe : PipeState
    pub there : pipe_of pipes id ≡ Some pipe
    pub reader : pipe.reader ≡ true
    pub some : (length pipe.bytes == 0) ≡ false

  module _ (pipes : Pipes) (h : HasBytes pipes) where
    -- it is kept, since its reader is open
    kept_there : (p : PipeState) → p.reader ≡ true → shut_write id p ≡ Some (after_close_write p)
    kept_there p open_too = ap (λ (b : Bool). if b || false then Some (after_close_write p) else None) open_too

    cut_is : cut_write pipes ≡ edited pipes id (λ p. Some (after_close_write p))
    cut_is = edited_so id (shut_write id) (λ p. Some (after_close_write p)) pipes h.pipe h.there (kept_there h.pipe h.reader)

    seen_cut : pipe_of (cut_write pipes) id ≡ Some (after_close_write h.pipe)
    seen_cut = ap (λ (l : Pipes). pipe_of l id) cut_is ∙ seen_now id after_close_write pipes h.pipe h.there

    taken_this : (m : ℕ) → taken_from (cut_write pipes) id m (Some (after_close_write h.pipe)) ≡ cut_write (taken_from pipes id m (Some h.pipe))
    taken_this m =
        ap (taken_from (cut_write pipes) id m) (sym seen_cut) ∙ taken_edited (cut_write pipes) id m ∙ ap (λ (l : Pipes). edited l id (λ p. Some (after_take p m))) cut_is ∙
        edited_twice id after_close_write (λ p. Some (after_take p m)) pipes ∙
        edited_so id (λ p. Some (after_take (after_close_write p) m)) (λ p. shut_write id (after_take p m)) pipes h.pipe h.there (sym (kept_there (after_take h.pipe m) h.reader)) ∙
        sym (ap (λ (o : Option PipeState). cut_write (taken_from pipes id m o)) (sym h.there) ∙ ap cut_write (taken_edited pipes id m) ∙ edited_twice id (λ p. after_take p m) (shut_write id) pipes)

    same_take : (m : ℕ) → take_answer (after_close_write h.pipe) m ≡ take_answer h.pipe m
    same_take m =
        ap (λ (b : Bool). if b then End else Got (min (length h.pipe.bytes) m)) h.some ∙ sym (ap (λ (b : Bool). if b then (if h.pipe.writer then Empty else End) else Got (min (length h.pipe.bytes) m)) h.some)

-- a read of the pipe whose end is closed: of none whose read end is
abbrev pub CanRead : PipeEnd → ℕ → Pipes → Type 0
CanRead ReadEnd id pipes = ⊥
CanRead WriteEnd id pipes = HasBytes id pipes

no_end_if : (end : PipeEnd) (id : ℕ) (b : Bool) (f : Opened) → MayHold end id f.object → IsNoEnd end id (if b then None else Some f)
no_end_if end id true f may = tt
no_end_if end id false f may = may

no_end_less : (end : PipeEnd) (id : ℕ) (x : Option Opened) → IsNoEnd end id x → IsNoEnd end id (less_held x)
no_end_less end id None may = tt
no_end_less end id (Some f) may = no_end_if end id (nat_le f.count 1) _ may

pub no_end_released : (end : PipeEnd) (id : ℕ) (t : Entries) (o : Option ℕ) (d : ℕ) → IsNoEnd end id (entry_at t d) → IsNoEnd end id (entry_at (released_by_close t o) d)
no_end_released end id t None d none = none
no_end_released end id t (Some i) d none = by (cases_eq d i) where
  by : (d ≡ i) ⊎ (d ≢ i) → IsNoEnd end id (entry_at (released_by_close t (Some i)) d)
  by (inl is) =
      let P : ℕ → Type 0 = λ j. IsNoEnd end id (entry_at (released_by_close t (Some j)) d) in
      subst P is (subst (IsNoEnd end id) (sym (changed_entry less_held refl t d)) (no_end_less end id (entry_at t d) none))
  by (inr ne) = subst (IsNoEnd end id) (sym (get_or-set_other t i d (less_held (entry_at t i)) None ne)) none

module _ {S : Type 0} (end : PipeEnd) (id pid : ℕ) (after : S) where
  abbrev cut_here : KernelState S → KernelState S
  cut_here k = record k { pipes = cut_pipes end id k.pipes }

  read_by_cut : (k : KernelState S) (other : ℕ) (got : List ℕ) (r : Take) → read_by (cut_here k) pid after other got r ≡ cut_here (read_by k pid after other got r)
  read_by_cut k other got (Got m) = refl
  read_by_cut k other got Empty = refl
  read_by_cut k other got End = refl

-- a read of the pipe itself finds bytes there
read_this : {S : Type 0} (end : PipeEnd) (id pid : ℕ) (after : S) (k : KernelState S) (m : ℕ) → CanRead end id k.pipes → read_pipe (record k { pipes = cut_pipes end id k.pipes }) pid after id m (pipe_of (cut_pipes end id k.pipes) id) ≡ (let j = read_pipe k pid after id m (pipe_of k.pipes id) in record j { pipes = cut_pipes end id j.pipes })
read_this ReadEnd id pid after k m h = absurd h
read_this WriteEnd id pid after k m h =
    let cut_write : KernelState _ → KernelState _ = λ j. record j { pipes = cut_pipes WriteEnd id j.pipes } in
    ap (read_pipe (cut_write k) pid after id m) (seen_cut id k.pipes h) ∙
    (λ i. read_by (record k { pipes = taken_this id k.pipes h m i }) pid after id (take m h.pipe.bytes) (same_take id k.pipes h m i)) ∙
    read_by_cut WriteEnd id pid after (record k { pipes = taken_from k.pipes id m (Some h.pipe) }) id (take m h.pipe.bytes) (take_answer h.pipe m) ∙
    ap (λ (o : Option PipeState). cut_write (read_pipe k pid after id m o)) (sym h.there)

module _ {S : Type 0} (end : PipeEnd) (id pid : ℕ) where
  -- the end is closed, and nobody is woken
  abbrev pub cut : KernelState S → KernelState S
  cut k = record k { pipes = cut_pipes end id k.pipes }

  pick : (c : Bool) (x y u v : KernelState S) → x ≡ cut u → y ≡ cut v → (if c then x else y) ≡ cut (if c then u else v)
  pick true x y u v is or = is
  pick false x y u v is or = or

  -- ---- close

  pub let_go_cut : (k : KernelState S) (object : Object) → AreApart k.pipes → MayHold end id object → let_go (cut k) object ≡ cut (let_go k object)
  let_go_cut k Input apart ne = refl
  let_go_cut k Out apart ne = refl
  let_go_cut k Diag apart ne = refl
  let_go_cut k (File name mode) apart ne = refl
  let_go_cut k (PipeRead other) apart ne = λ i. wakes (PipeRoom other) (record k { pipes = read_gone end id k.pipes other apart ne i })
  let_go_cut k (PipeWrite other) apart ne = λ i. wakes (PipeBytes other) (record k { pipes = gone_other end id k.pipes other (λ is. no_writer end id (PipeWrite other) ne (ap PipeWrite is)) i })

  let_go_if : (k : KernelState S) (b : Bool) (object : Object) → AreApart k.pipes → MayHold end id object → let_go_of (cut k) (Ok (if b then Some object else None)) ≡ cut (let_go_of k (Ok (if b then Some object else None)))
  let_go_if k true object apart ne = let_go_cut k object apart ne
  let_go_if k false object apart ne = refl

  last_cut : (k : KernelState S) (x : Option Opened) → AreApart k.pipes → IsNoEnd end id x → let_go_of (cut k) (Ok (last_object x)) ≡ cut (let_go_of k (Ok (last_object x)))
  last_cut k None apart ne = refl
  last_cut k (Some f) apart ne = let_go_if k (nat_le f.count 1) f.object apart ne

  -- the process holds no end with which it would see it, and no two pipes have one name
  pub record IsCut (k : KernelState S) : Type 0 where
    pub none : (fd d : ℕ) → entry_of (fds_at k pid) fd ≡ Some d → IsNoEnd end id (entry_at k.entries d)
    pub apart : AreApart k.pipes

  pub closed_by_cut : (k : KernelState S) (fd : ℕ) (o : Option ℕ) → entry_of (fds_at k pid) fd ≡ o → IsCut k → closed_by (cut k) pid fd o ≡ cut (closed_by k pid fd o)
  closed_by_cut k fd None held c = refl
  closed_by_cut k fd (Some d) held c = last_cut (taken_away k pid fd (Some d)) (entry_at k.entries d) c.apart (c.none fd d held)

  let_go_apart : (k : KernelState S) (object : Object) → AreApart k.pipes → AreApart (let_go k object).pipes
  let_go_apart k Input apart = apart
  let_go_apart k Out apart = apart
  let_go_apart k Diag apart = apart
  let_go_apart k (File name mode) apart = apart
  let_go_apart k (PipeRead other) apart = by (pipe_of k.pipes other) where
    by : (o : Option PipeState) → AreApart (reader_gone k.pipes other o)
    by None = apart
    by (Some p) = apart_closed k.pipes other (after_close_read p) apart
  let_go_apart k (PipeWrite other) apart = by (pipe_of k.pipes other) where
    by : (o : Option PipeState) → AreApart (writer_gone k.pipes other o)
    by None = apart
    by (Some p) = apart_closed k.pipes other (after_close_write p) apart

  pub let_go_of_apart : (k : KernelState S) (r : Result (Option Object) FdFault) → AreApart k.pipes → AreApart (let_go_of k r).pipes
  let_go_of_apart k (Err fault) apart = apart
  let_go_of_apart k (Ok None) apart = apart
  let_go_of_apart k (Ok (Some object)) apart = let_go_apart k object apart

  closed_is_cut : (k : KernelState S) (fd : ℕ) → IsCut k → IsCut (closed k pid fd)
  closed_is_cut k fd c =
      let o = entry_of (fds_at k pid) fd in
      let away : KernelState S = taken_away k pid fd o in
      record {
        none = λ gd d held. subst (λ (t : Entries). IsNoEnd end id (entry_at t d)) (sym (let_go_entries 0 pid away (close_answer k.entries o))) (no_end_released end id k.entries o d (c.none gd d (held_before d pid k fd gd held)));
        apart = let_go_of_apart away (close_answer k.entries o) c.apart;
      }

  below_is_cut : (k : KernelState S) (m : ℕ) → IsCut k → IsCut (closed_below k pid m)
  unfolding closed_below
  below_is_cut k zero c = c
  below_is_cut k (suc i) c = closed_is_cut (closed_below k pid i) i (below_is_cut k i c)

  below_cut : (k : KernelState S) (m : ℕ) → IsCut k → closed_below (cut k) pid m ≡ cut (closed_below k pid m)
  unfolding closed_below
  below_cut k zero c = refl
  below_cut k (suc i) c = ap (λ (j : KernelState S). closed j pid i) (below_cut k i c) ∙ closed_by_cut (closed_below k pid i) i (entry_of (fds_at (closed_below k pid i) pid) i) refl (below_is_cut k i c)

  module _ (after : S) where
    close_cut : (k : KernelState S) (fd : ℕ) → IsCut k → close (cut k) pid after fd ≡ cut (close k pid after fd)
    close_cut k fd c =
        let o = entry_of (fds_at k pid) fd in
        λ i. answered (closed_by_cut k fd o refl c i) pid after (close_reply (close_answer k.entries o))

    exit_by : (k : KernelState S) (b : Bool) → IsCut k → (if b then answered (cut k) pid after Refused else ended pid (closed_below (cut k) pid DESCRIPTORS)) ≡ cut (if b then answered k pid after Refused else ended pid (closed_below k pid DESCRIPTORS))
    exit_by k true c = refl
    exit_by k false c = ap (ended pid) (below_cut k DESCRIPTORS c)

    fork_cut : (k : KernelState S) (o : Option ℕ) → fork_into (cut k) pid after o ≡ cut (fork_into k pid after o)
    fork_cut k None = refl
    fork_cut k (Some child) = refl

    wait_cut : (k : KernelState S) (w : Waited) → wait_by (cut k) pid after w ≡ cut (wait_by k pid after w)
    wait_cut k (Reaped child) = refl
    wait_cut k NoChildren = refl
    wait_cut k MustSleep = refl

    dup_cut : (k : KernelState S) (r : Result ℕ FdFault) → dup_by (cut k) pid after r ≡ cut (dup_by k pid after r)
    dup_cut k (Ok fd) = refl
    dup_cut k (Err BadFd) = refl
    dup_cut k (Err FullFds) = refl
    dup_cut k (Err FullOpen) = refl

    -- ---- open and pipe

    opened_cut : (k : KernelState S) (object : Object) (o : Option ℕ) → opened_at (cut k) pid object o ≡ cut (opened_at k pid object o)
    opened_cut k object None = refl
    opened_cut k object (Some e) = refl

    open_cut : (k : KernelState S) (object : Object) → with_open (cut k) pid object ≡ cut (with_open k pid object)
    open_cut k object = opened_cut k object (lowest_free_entry k.entries)

    -- ---- read

    read_file_cut : (k : KernelState S) (d offset m : ℕ) (o : Option (List ℕ)) → read_file (cut k) pid after d offset m o ≡ cut (read_file k pid after d offset m o)
    read_file_cut k d offset m None = refl
    read_file_cut k d offset m (Some bytes) = refl

    read_mode_cut : (k : KernelState S) (d offset m : ℕ) (o : Option (List ℕ)) (mode : EntryMode) → read_mode (cut k) pid after d offset m o mode ≡ cut (read_mode k pid after d offset m o mode)
    read_mode_cut k d offset m o ForReading = read_file_cut k d offset m o
    read_mode_cut k d offset m o Fresh = refl
    read_mode_cut k d offset m o Over = refl
    read_mode_cut k d offset m o Append = refl

    read_other : (k : KernelState S) (other m : ℕ) → other ≢ id → read_pipe (cut k) pid after other m (pipe_of (cut_pipes end id k.pipes) other) ≡ cut (read_pipe k pid after other m (pipe_of k.pipes other))
    read_other k other m ne = ap (read_pipe (cut k) pid after other m) seen ∙ by (pipe_of k.pipes other) refl where
      seen : pipe_of (cut_pipes end id k.pipes) other ≡ pipe_of k.pipes other
      seen = other_seen id other ne (shut_end end id) k.pipes

      by : (o : Option PipeState) → pipe_of k.pipes other ≡ o → read_pipe (cut k) pid after other m o ≡ cut (read_pipe k pid after other m o)
      by None there = refl
      by (Some p) there =
          let taken : taken_from (cut_pipes end id k.pipes) other m (Some p) ≡ cut_pipes end id (taken_from k.pipes other m (Some p)) =
          ap (taken_from (cut_pipes end id k.pipes) other m) (sym (seen ∙ there)) ∙ taken_other end id k.pipes other m ne ∙ ap (λ (o : Option PipeState). cut_pipes end id (taken_from k.pipes other m o)) there in
          (λ i. read_by (record k { pipes = taken i }) pid after other (take m p.bytes) (take_answer p m)) ∙ read_by_cut end id pid after (record k { pipes = taken_from k.pipes other m (Some p) }) other (take m p.bytes) (take_answer p m)

    read_object_cut : (k : KernelState S) (d offset m : ℕ) (object : Object) → (object ≡ PipeRead id → CanRead end id k.pipes) → read_object (cut k) pid after d offset m object ≡ cut (read_object k pid after d offset m object)
    read_object_cut k d offset m Input bytes = refl
    read_object_cut k d offset m Out bytes = refl
    read_object_cut k d offset m Diag bytes = refl
    read_object_cut k d offset m (File name mode) bytes = read_mode_cut k d offset m (files k.files name) mode
    read_object_cut k d offset m (PipeRead other) bytes = by (cases_eq other id) where
      by : (other ≡ id) ⊎ (other ≢ id) → read_object (cut k) pid after d offset m (PipeRead other) ≡ cut (read_object k pid after d offset m (PipeRead other))
      by (inl is) = let P : ℕ → Type 0 = λ i. read_object (cut k) pid after d offset m (PipeRead i) ≡ cut (read_object k pid after d offset m (PipeRead i)) in subst P (sym is) (read_this end id pid after k m (bytes (ap PipeRead is)))
      by (inr ne) = read_other k other m ne
    read_object_cut k d offset m (PipeWrite other) bytes = refl

    -- a read of the pipe finds bytes
    abbrev pub FindsBytes : KernelState S → Option Opened → Type 0
    FindsBytes k None = Unit {0}
    FindsBytes k (Some f) = f.object ≡ PipeRead id → CanRead end id k.pipes

    read_entry_cut : (k : KernelState S) (d m : ℕ) (x : Option Opened) → FindsBytes k x → read_entry (cut k) pid after d m x ≡ cut (read_entry k pid after d m x)
    read_entry_cut k d m None bytes = refl
    read_entry_cut k d m (Some f) bytes = read_object_cut k d f.offset m f.object bytes

    read_held_cut : (k : KernelState S) (m : ℕ) (o : Option ℕ) → FindsBytes k (file_at k.entries o) → read_held (cut k) pid after m o ≡ cut (read_held k pid after m o)
    read_held_cut k m None bytes = refl
    read_held_cut k m (Some d) bytes = read_entry_cut k d m (entry_at k.entries d) bytes

    -- ---- write

    write_file_cut : (k : KernelState S) (d : ℕ) (file : List ℕ) (offset : ℕ) (b : List ℕ) (refused : Bool) (o : Option (List ℕ)) → write_file (cut k) pid after d file offset b refused o ≡ cut (write_file k pid after d file offset b refused o)
    write_file_cut k d file offset b refused None = refl
    write_file_cut k d file offset b refused (Some bytes) =
        pick (nat_lt (length bytes) offset) _ _ _ _ refl (pick (nat_lt max_size (offset + length b)) _ _ _ _ refl (pick (lacks_memory refused (length bytes) (offset + length b)) _ _ _ _ refl refl))

    append_file_cut : (k : KernelState S) (d : ℕ) (file b : List ℕ) (refused : Bool) (o : Option (List ℕ)) → append_file (cut k) pid after d file b refused o ≡ cut (append_file k pid after d file b refused o)
    append_file_cut k d file b refused None = refl
    append_file_cut k d file b refused (Some bytes) = pick (nat_lt max_size (length bytes + length b)) _ _ _ _ refl (pick (lacks_memory refused (length bytes) (length bytes + length b)) _ _ _ _ refl refl)

    write_mode_cut : (k : KernelState S) (d : ℕ) (file : List ℕ) (offset : ℕ) (b : List ℕ) (refused : Bool) (mode : EntryMode) → write_mode (cut k) pid after d file offset b refused mode ≡ cut (write_mode k pid after d file offset b refused mode)
    write_mode_cut k d file offset b refused ForReading = refl
    write_mode_cut k d file offset b refused Fresh = write_file_cut k d file offset b refused (files k.files file)
    write_mode_cut k d file offset b refused Over = write_file_cut k d file offset b refused (files k.files file)
    write_mode_cut k d file offset b refused Append = append_file_cut k d file b refused (files k.files file)

    write_by_cut : (k : KernelState S) (other put left : ℕ) (r : Put) → write_by (cut k) pid after other put left r ≡ cut (write_by k pid after other put left r)
    write_by_cut k other put left (Took m) = pick (m == left) _ _ _ _ refl refl
    write_by_cut k other put left NoRoom = refl
    write_by_cut k other put left Closed = refl

    write_other : (k : KernelState S) (other put : ℕ) (xs : List ℕ) → other ≢ id → write_pipe (cut k) pid after other put xs (pipe_of (cut_pipes end id k.pipes) other) ≡ cut (write_pipe k pid after other put xs (pipe_of k.pipes other))
    write_other k other put xs ne = ap (write_pipe (cut k) pid after other put xs) seen ∙ by (pipe_of k.pipes other) refl where
      seen : pipe_of (cut_pipes end id k.pipes) other ≡ pipe_of k.pipes other
      seen = other_seen id other ne (shut_end end id) k.pipes

      by : (o : Option PipeState) → pipe_of k.pipes other ≡ o → write_pipe (cut k) pid after other put xs o ≡ cut (write_pipe k pid after other put xs o)
      by None there = refl
      by (Some p) there =
          let filled : put_into (cut_pipes end id k.pipes) other xs (Some p) ≡ cut_pipes end id (put_into k.pipes other xs (Some p)) =
          ap (put_into (cut_pipes end id k.pipes) other xs) (sym (seen ∙ there)) ∙ put_other end id k.pipes other xs ne ∙ ap (λ (o : Option PipeState). cut_pipes end id (put_into k.pipes other xs o)) there in
          (λ i. write_by (record k { pipes = filled i }) pid after other put (length xs) (put_answer p xs)) ∙ write_by_cut (record k { pipes = put_into k.pipes other xs (Some p) }) other put (length xs) (put_answer p xs)

    write_object_cut : (k : KernelState S) (d offset : ℕ) (b : List ℕ) (refused : Bool) (object : Object) → MayHold end id object → write_object (cut k) pid after d offset b refused object ≡ cut (write_object k pid after d offset b refused object)
    write_object_cut k d offset b refused Input ne = refl
    write_object_cut k d offset b refused Out ne = pick (lacks_memory refused (length k.out) (length k.out + length b)) _ _ _ _ refl refl
    write_object_cut k d offset b refused Diag ne = pick (lacks_memory refused (length k.diag) (length k.diag + length b)) _ _ _ _ refl refl
    write_object_cut k d offset b refused (File name mode) ne = write_mode_cut k d name offset b refused mode
    write_object_cut k d offset b refused (PipeRead other) ne = refl
    write_object_cut k d offset b refused (PipeWrite other) ne = write_other k other (put_of (at k.table pid)) (drop (put_of (at k.table pid)) b) (λ is. no_writer end id (PipeWrite other) ne (ap PipeWrite is))

    write_entry_cut : (k : KernelState S) (d : ℕ) (b : List ℕ) (refused : Bool) (x : Option Opened) → IsNoEnd end id x → write_entry (cut k) pid after d b refused x ≡ cut (write_entry k pid after d b refused x)
    write_entry_cut k d b refused None ne = refl
    write_entry_cut k d b refused (Some f) ne = write_object_cut k d f.offset b refused f.object ne

    write_held_cut : (k : KernelState S) (b : List ℕ) (refused : Bool) (o : Option ℕ) → ((d : ℕ) → o ≡ Some d → IsNoEnd end id (entry_at k.entries d)) → write_held (cut k) pid after b refused o ≡ cut (write_held k pid after b refused o)
    write_held_cut k b refused None c = refl
    write_held_cut k b refused (Some d) c = write_entry_cut k d b refused (entry_at k.entries d) (c d refl)

    -- ---- open and pipe

    here_cut : (k : KernelState S) (file : List ℕ) (mode : Mode) → open_here (cut k) pid after file mode ≡ cut (open_here k pid after file mode)
    here_cut k file mode = λ i. answered (open_cut k (File file (entry_mode mode)) i) pid after (open_reply (lowest_free (fds_at k pid)))

    emptied_cut : (b : Bool) (k : KernelState S) (file : List ℕ) (mode : Mode) → open_here (emptied_if b (cut k) file) pid after file mode ≡ cut (open_here (emptied_if b k file) pid after file mode)
    emptied_cut true k file mode = here_cut (with_bytes k file []) file mode
    emptied_cut false k file mode = here_cut k file mode

    reading_cut : (k : KernelState S) (file : List ℕ) (mode : Mode) (o : Option (List ℕ)) → open_for_reading (cut k) pid after file mode o ≡ cut (open_for_reading k pid after file mode o)
    reading_cut k file mode None = refl
    reading_cut k file mode (Some bytes) = here_cut k file mode

    writing_cut : (k : KernelState S) (file : List ℕ) (mode : Mode) (refused : Bool) (o : Option (List ℕ)) → open_for_writing (cut k) pid after file mode refused o ≡ cut (open_for_writing k pid after file mode refused o)
    writing_cut k file mode refused None = pick (nat_le max_files (length k.files)) _ _ _ _ refl (pick refused _ _ _ _ refl (here_cut (with_bytes k file []) file mode))
    writing_cut k file mode refused (Some bytes) = emptied_cut (empties mode) k file mode

    open_file_cut : (k : KernelState S) (file : List ℕ) (mode : Mode) (refused : Bool) → open_file (cut k) pid after file mode refused ≡ cut (open_file k pid after file mode refused)
    open_file_cut k file mode refused =
        pick (free_count k.entries == 0) _ _ _ _ refl (pick (is_none (lowest_free (fds_at k pid))) _ _ _ _ refl
        (pick (is_openable file) _ _ _ _ (pick (reads mode) _ _ _ _ (reading_cut k file mode (files k.files file)) (writing_cut k file mode refused (files k.files file))) refl))

    reader_cut : (k : KernelState S) (new : ℕ) → id ≢ new → with_reader (cut k) pid new ≡ cut (with_reader k pid new)
    reader_cut k new ne = (λ i. with_open (record k { pipes = new_edited id new ne (shut_end end id) k.pipes i }) pid (PipeRead new)) ∙ open_cut (record k { pipes = with_new k.pipes new }) (PipeRead new)

    ends_cut : (k : KernelState S) (new : ℕ) → id ≢ new → with_ends (cut k) pid new ≡ cut (with_ends k pid new)
    ends_cut k new ne = ap (λ (j : KernelState S). with_open j pid (PipeWrite new)) (reader_cut k new ne) ∙ open_cut (with_reader k pid new) (PipeWrite new)

    make_pipe_cut : (k : KernelState S) (refused : Bool) → id ≢ k.events → make_pipe (cut k) pid after refused ≡ cut (make_pipe k pid after refused)
    make_pipe_cut k refused ne =
        pick (nat_lt (free_count k.entries) 2) _ _ _ _ refl (pick (nat_lt (free_count (fds_at k pid)) 2) _ _ _ _ refl (pick refused _ _ _ _ refl
        (λ i. answered (ends_cut k k.events ne i) pid after (ends_reply (lowest_free (fds_at k pid)) (lowest_free (fds_at (reader_cut k k.events ne i) pid))))))

    -- if the call reads the pipe it finds bytes there
    abbrev pub ReadsBytes : KernelState S → Call → Type 0
    ReadsBytes k Fork = Unit {0}
    ReadsBytes k (Exec found) = Unit {0}
    ReadsBytes k Exit = Unit {0}
    ReadsBytes k Wait = Unit {0}
    ReadsBytes k MakePipe = Unit {0}
    ReadsBytes k (Read fd m) = FindsBytes k (file_at k.entries (entry_of (fds_at k pid) fd))
    ReadsBytes k (Write fd b) = Unit {0}
    ReadsBytes k (OpenFile name mode) = Unit {0}
    ReadsBytes k (Close fd) = Unit {0}
    ReadsBytes k (Dup fd) = Unit {0}

    -- each of the ten calls
    pub acted_cut : (k : KernelState S) (call : Call) (refused : Bool) → IsCut k → id ≢ k.events → ReadsBytes k call → acted (cut k) pid after call refused ≡ cut (acted k pid after call refused)
    acted_cut k Fork refused c ne bytes = fork_cut k (lowest_free_slot k.table)
    acted_cut k (Exec found) refused c ne bytes = refl
    acted_cut k Exit refused c ne bytes = exit_by k (pid == 0) c
    acted_cut k Wait refused c ne bytes = wait_cut k (wait_answer k.table pid)
    acted_cut k MakePipe refused c ne bytes = make_pipe_cut k refused ne
    acted_cut k (Read fd m) refused c ne bytes = read_held_cut k (min m block_size) (entry_of (fds_at k pid) fd) bytes
    acted_cut k (Write fd b) refused c ne bytes = write_held_cut k b refused (entry_of (fds_at k pid) fd) (c.none fd)
    acted_cut k (OpenFile name mode) refused c ne bytes = open_file_cut k name mode refused
    acted_cut k (Close fd) refused c ne bytes = close_cut k fd c
    acted_cut k (Dup fd) refused c ne bytes = dup_cut (copied k pid (entry_of (fds_at k pid) fd) (lowest_free (fds_at k pid))) (dup_answer (entry_of (fds_at k pid) fd) (lowest_free (fds_at k pid)))
