-- How an open, a close, a dup and a pipe call can end.
use Rattle.std.proofs.Common.{◌≡◌, ℕ, zero, suc, ◌≤◌, List, [], ◌∷◌, Bool, true, false, Option, Some, None, length, get_or, refl, sym, ap, subst, ◌∙◌, arith}
use Rattle.std.proofs.Math.ListN.{set}
use Rattle.std.proofs.lemmas.Bool.{ltb-false}
use Rattle.std.specs.Prelude.{◌==◌, nat_le, nat_lt, is_none, IsSome, if◌then◌else◌}
use Rattle.user_calls.specs.declared.calls.Call.{Call}
use Rattle.user_calls.specs.declared.calls.Call.TheVariants.{MakePipe, OpenFile, Close, Dup}
use Rattle.user_calls.specs.declared.calls.Mode.{Mode}
use Rattle.user_calls.specs.declared.calls.Reply.TheVariants.{Done, Refused}
use Rattle.fd_table.specs.declared.names.Object.{Object}
use Rattle.fd_table.specs.declared.names.Object.TheVariants.{File, PipeRead}
use Rattle.fd_table.specs.Entries.{lowest_free_entry, is_free, free_count}
use Rattle.fd_table.specs.Descriptors.{Descriptors, entry_of, lowest_free, installed, dup_answer, close_answer}
use Rattle.fd_table.proofs.Free.{found as found_free, install_taken}
use Rattle.mem_files.specs.Name.{is_openable}
use Rattle.mem_files.specs.Files.{files}
use Rattle.mem_files.specs.Listing.{max_files}
use Rattle.proc_table.specs.Slots.{Slot, Table, at}
use Rattle.proc_table.specs.Calls.{with_fds, fds_set}
use Rattle.proc_table.proofs.Changes.{written}
use Rattle.kernel_model.specs.declared.events.Full.TheVariants.{Open, Fds, Files, Memory}
use Rattle.kernel_model.specs.KernelState.{KernelState, fds_of, fds_at}
use Rattle.kernel_model.specs.Modes.{entry_mode, empties, reads}
use Rattle.kernel_model.specs.Pipes.{with_new}
use Rattle.kernel_model.specs.Replies.{answered, refused_for}
use Rattle.kernel_model.specs.Descriptors.{closed_by, close, copied, dup_by, dup, opened_at, with_open, with_reader, with_ends, ends_reply, make_pipe, close_reply}
use Rattle.kernel_model.specs.Opening.{open_reply, emptied_if, with_bytes, open_here, open_for_reading, open_for_writing, open_named, open_file}
use Rattle.law_kernel.specs.Outcome.{Outcome, refused, lacks, opens, opens_empty, closes, dups, pipes}
use Rattle.law_kernel.proofs.outcomes.Ways.{denied, no_room, either}
use Rattle.kernel_model.proofs.Opening.{some_by}
use Rattle.fd_table.proofs.Lists.{some_is}

-- ---- a table that a call leaves as it was

set_back : {X : Type 0} (l : List (Option X)) (i : ℕ) → set l i (get_or l i None) ≡ l
set_back [] i = refl
set_back (x ∷ l) zero = refl
set_back (x ∷ l) (suc i) = ap (λ (m : List _). x ∷ m) (set_back l i)

own_fds : {S : Type 0} (x : Slot S) → with_fds (fds_of x) x ≡ x
own_fds None = refl
own_fds (Some p) = refl

fds_back : {S : Type 0} (t : Table S) (pid : ℕ) → fds_set t pid (fds_of (at t pid)) ≡ t
fds_back t pid = ap (set t pid) (own_fds (at t pid)) ∙ set_back t pid

-- ---- free places

-- a process whose descriptors were set has a free place where these have
free_still : {S : Type 0} (fds : Descriptors) (x : Slot S) → IsSome (lowest_free fds) → IsSome (lowest_free (fds_of (with_fds fds x)))
free_still fds None some = refl
free_still fds (Some p) some = some

module _ {S : Type 0} (k : KernelState S) (pid : ℕ) (after : S) (call : Call) where
  abbrev Ends : KernelState S → Type 0
  Ends new = Outcome k pid after call new

  -- ---- open

  module _ (name : List ℕ) (mode : Mode) (is : call ≡ OpenFile name mode) (fd : ℕ) (place : lowest_free (fds_at k pid) ≡ Some fd) where
    here : Ends (open_here k pid after name mode)
    here = opens name mode fd is (ap (λ (o : Option ℕ). answered (with_open k pid (File name (entry_mode mode))) pid after (open_reply o)) place)

    here_empty : Ends (open_here (with_bytes k name []) pid after name mode)
    here_empty = opens_empty name mode fd is (ap (λ (o : Option ℕ). answered (with_open (with_bytes k name []) pid (File name (entry_mode mode))) pid after (open_reply o)) place)

    emptied_ends : (empty : Bool) → Ends (open_here (emptied_if empty k name) pid after name mode)
    emptied_ends true = here_empty
    emptied_ends false = here

    reading_ends : (o : Option (List ℕ)) → Ends (open_for_reading k pid after name mode o)
    reading_ends None = denied
    reading_ends (Some bytes) = here

    writing_ends : (memory : Bool) (o : Option (List ℕ)) → Ends (open_for_writing k pid after name mode memory o)
    writing_ends memory (Some bytes) = emptied_ends (empties mode)
    writing_ends memory None =
        let made : KernelState S = open_here (with_bytes k name []) pid after name mode in
        either (nat_le max_files (length k.files)) (refused_for k pid after Files) (if memory then refused_for k pid after Memory else made) (λ _. no_room Files)
        (λ _. either memory (refused_for k pid after Memory) made (λ _. no_room Memory) (λ _. here_empty))

    named_ends : (memory : Bool) → Ends (open_named k pid after name mode memory)
    named_ends memory =
        either (reads mode) (open_for_reading k pid after name mode (files k.files name)) (open_for_writing k pid after name mode memory (files k.files name)) (λ _. reading_ends (files k.files name)) (λ _. writing_ends memory (files k.files name))

  pub open_ends : (name : List ℕ) (mode : Mode) (memory : Bool) → call ≡ OpenFile name mode → Ends (open_file k pid after name mode memory)
  open_ends name mode memory is =
      let named : KernelState S = open_named k pid after name mode memory in
      let good : KernelState S = if is_openable name then named else answered k pid after Refused in
      let roomy : KernelState S = if is_none (lowest_free (fds_at k pid)) then refused_for k pid after Fds else good in
      either (free_count k.entries == 0) (refused_for k pid after Open) roomy (λ _. no_room Open)
      (λ _. either (is_none (lowest_free (fds_at k pid))) (refused_for k pid after Fds) good (λ _. no_room Fds)
      (λ free. either (is_openable name) named (answered k pid after Refused)
      (λ _. let place = some_is (lowest_free (fds_at k pid)) (some_by (lowest_free (fds_at k pid)) free) in named_ends name mode is place.0 place.1 memory)
      (λ _. denied)))

  -- ---- close and dup

  pub close_ends : (fd : ℕ) → call ≡ Close fd → Ends (close k pid after fd)
  close_ends fd is = by (entry_of (fds_at k pid) fd) refl where
    by : (o : Option ℕ) → entry_of (fds_at k pid) fd ≡ o → Ends (answered (closed_by k pid fd o) pid after (close_reply (close_answer k.entries o)))
    by None held = refused (ap (λ (t : Table S). answered (record k { table = t }) pid after Refused) (fds_back k.table pid))
    by (Some e) held = closes fd is (ap (λ (o : Option ℕ). answered (closed_by k pid fd o) pid after Done) (sym held))

  pub dup_ends : (fd : ℕ) → call ≡ Dup fd → Ends (dup k pid after fd)
  dup_ends fd is = by (entry_of (fds_at k pid) fd) (lowest_free (fds_at k pid)) refl refl where
    by : (entry place : Option ℕ) → entry_of (fds_at k pid) fd ≡ entry → lowest_free (fds_at k pid) ≡ place → Ends (dup_by (copied k pid entry place) pid after (dup_answer entry place))
    by None place held free = refused (ap (λ (t : Table S). answered (record k { table = t }) pid after Refused) (fds_back k.table pid))
    by (Some e) None held free = lacks Fds (ap (λ (t : Table S). refused_for (record k { table = t }) pid after Fds) (fds_back k.table pid))
    by (Some e) (Some place) held free = dups fd e place is held free refl

  -- ---- pipe

  -- the kernel after the read end was opened has a second place
  second_free : (new : KernelState S) (object : Object) (o : Option ℕ) → fds_at new pid ≡ fds_at k pid → 2 ≤ free_count (fds_at k pid) → IsSome (lowest_free (fds_at (opened_at new pid object o) pid))
  second_free new object None same two = (found_free is_free (fds_at new pid)).1 (omega (arith, two, ap free_count same))
  second_free new object (Some e) same two =
      let fds : Descriptors = installed (fds_at new pid) e in
      let some : IsSome (lowest_free fds) = (found_free is_free fds).1 (omega (arith, install_taken (fds_at new pid) e, ap free_count same, two)) in
      subst (λ (l : Descriptors). IsSome (lowest_free l)) (sym (ap fds_of (written (with_fds fds) refl new.table pid))) (free_still fds (at new.table pid) some)

  made : call ≡ MakePipe → 2 ≤ free_count k.entries → 2 ≤ free_count (fds_at k pid) → Ends (answered (with_ends k pid k.events) pid after (ends_reply (lowest_free (fds_at k pid)) (lowest_free (fds_at (with_reader k pid k.events) pid))))
  made is entries two =
      let new : KernelState S = record k { pipes = with_new k.pipes k.events } in
      let first = some_is (lowest_free (fds_at k pid)) ((found_free is_free (fds_at k pid)).1 (omega (arith, two))) in
      let second = some_is (lowest_free (fds_at (with_reader k pid k.events) pid)) (second_free new (PipeRead k.events) (lowest_free_entry k.entries) refl two) in
      pipes first.0 second.0 is entries (ap (λ (o : Option ℕ). answered (with_ends k pid k.events) pid after (ends_reply o (lowest_free (fds_at (with_reader k pid k.events) pid)))) first.1 ∙ ap (λ (o : Option ℕ). answered (with_ends k pid k.events) pid after (ends_reply (Some first.0) o)) second.1)

  pub make_pipe_ends : (memory : Bool) → call ≡ MakePipe → Ends (make_pipe k pid after memory)
  make_pipe_ends memory is =
      let done : KernelState S = answered (with_ends k pid k.events) pid after (ends_reply (lowest_free (fds_at k pid)) (lowest_free (fds_at (with_reader k pid k.events) pid))) in
      let rest : KernelState S = if memory then refused_for k pid after Memory else done in
      let places : KernelState S = if nat_lt (free_count (fds_at k pid)) 2 then refused_for k pid after Fds else rest in
      either (nat_lt (free_count k.entries) 2) (refused_for k pid after Open) places (λ _. no_room Open)
      (λ entries. either (nat_lt (free_count (fds_at k pid)) 2) (refused_for k pid after Fds) rest (λ _. no_room Fds)
      (λ free. either memory (refused_for k pid after Memory) done (λ _. no_room Memory)
      (λ _. made is (ltb-false (free_count k.entries) 2 entries) (ltb-false (free_count (fds_at k pid)) 2 free))))
