-- How a write can end.
use Rattle.std.proofs.Common.{◌≡◌, ℕ, ◌+◌, ◌<◌, ◌≤◌, List, [], ◌++◌, Bool, true, false, Option, Some, None, length, take, refl, sym, ap, ◌∙◌, arith}
use Rattle.std.proofs.lemmas.Bool.{eqb-true, eqb-false}
use Rattle.std.specs.Prelude.{◌==◌, min, not, nat_lt, if◌then◌else◌}
use Rattle.std.proofs.lemmas.List.{nil_from_length, append-nil, take_all, length-append, take_min}
use Rattle.user_calls.specs.declared.calls.Call.{Call}
use Rattle.user_calls.specs.declared.calls.Call.TheVariants.{Write}
use Rattle.user_calls.specs.declared.calls.Reply.TheVariants.{Done, Refused}
use Rattle.fd_table.specs.declared.names.Mode.{Mode}
use Rattle.fd_table.specs.declared.names.Mode.TheVariants.{Input as ForReading, Fresh, Over, Append}
use Rattle.fd_table.specs.declared.names.Object.{Object}
use Rattle.fd_table.specs.declared.names.Object.TheVariants.{Input, Out, Diag, File, PipeRead, PipeWrite}
use Rattle.fd_table.specs.Entries.{OpenFile as Entry, advanced, moved_to}
use Rattle.fd_table.specs.Descriptors.{entry_of}
use Rattle.byte_pipe.specs.declared.Put.TheVariants.{Took, Full as NoRoom, Closed}
use Rattle.byte_pipe.specs.PipeState.{PipeState, after_put, appended, room}
use Rattle.mem_files.specs.Files.{files}
use Rattle.mem_files.specs.Overlay.{written}
use Rattle.mem_files.specs.Listing.{max_size, with_entry}
use Rattle.proc_table.specs.declared.states.Channel.TheVariants.{PipeBytes, PipeRoom}
use Rattle.proc_table.specs.Slots.{at, put_of}
use Rattle.kernel_model.specs.declared.events.Full.TheVariants.{Size, Memory}
use Rattle.kernel_model.specs.KernelState.{KernelState, fds_at, file_at}
use Rattle.kernel_model.specs.Pipes.{Pipes, pipe_of, with_pipe}
use Rattle.kernel_model.specs.Replies.{answered, refused_for, sleeps, wakes}
use Rattle.kernel_model.specs.Writing.{lacks_memory, write_file, append_file, write_mode, write_by, write_pipe, write_object, write_entry, write_held, write}
use Rattle.law_kernel.specs.Outcome.{Outcome, IsWrite, object_of, left_of, refused, tells, complains, writes_over, appends, puts_all, puts_part}
use Rattle.law_kernel.proofs.outcomes.ReadEnds.{with_pipe_back}
use Rattle.law_kernel.proofs.outcomes.Ways.{denied, no_room}

-- ---- what a put appends

-- a put into a pipe whose reader is closed leaves it as it was
put_to_nobody : (p : PipeState) (xs : List ℕ) → p.reader ≡ false → after_put p xs ≡ p
put_to_nobody p xs closed =
    let none : appended p xs ≡ [] = ap (λ (b : Bool). if b then take (room p) xs else []) closed in
    ap (λ (b : List ℕ). record { bytes = b; reader = p.reader; writer = p.writer }) (ap (λ (l : List ℕ). p.bytes ++ l) none ∙ append-nil p.bytes)

appended_none : (p : PipeState) (b : Bool) → (if b then take {A = ℕ} (room p) [] else []) ≡ []
appended_none p true = take_all (room p) [] (omega arith)
appended_none p false = refl

-- ---- the write

module _ {S : Type 0} (k : KernelState S) (pid : ℕ) (after : S) (call : Call) where
  abbrev Ends : KernelState S → Type 0
  Ends new = Outcome k pid after call new

  either : (b : Bool) (x y : KernelState S) → Ends x → Ends y → Ends (if b then x else y)
  either true x y ex ey = ex
  either false x y ex ey = ey

  write_file_ends : (e : ℕ) (name : List ℕ) (mode : Mode) (offset : ℕ) (b : List ℕ) (memory : Bool) (o : Option (List ℕ)) → IsWrite k pid call (File name mode) b → Ends (write_file k pid after e name offset b memory o)
  write_file_ends e name mode offset b memory None is = denied
  write_file_ends e name mode offset b memory (Some bytes) is =
      let done : KernelState S = answered (record k { files = with_entry k.files name (written bytes offset b); entries = advanced k.entries e (length b) }) pid after Done in
      let rest : KernelState S = if lacks_memory memory (length bytes) (offset + length b) then refused_for k pid after Memory else done in
      let size : KernelState S = if nat_lt max_size (offset + length b) then refused_for k pid after Size else rest in
      either (nat_lt (length bytes) offset) (answered k pid after Refused) size denied
      (either (nat_lt max_size (offset + length b)) (refused_for k pid after Size) rest (no_room Size)
      (either (lacks_memory memory (length bytes) (offset + length b)) (refused_for k pid after Memory) done (no_room Memory) (writes_over name mode e b (written bytes offset b) is refl)))

  append_file_ends : (e : ℕ) (name : List ℕ) (mode : Mode) (b : List ℕ) (memory : Bool) (o : Option (List ℕ)) → IsWrite k pid call (File name mode) b → Ends (append_file k pid after e name b memory o)
  append_file_ends e name mode b memory None is = denied
  append_file_ends e name mode b memory (Some bytes) is =
      let end : ℕ = length bytes + length b in
      let done : KernelState S = answered (record k { files = with_entry k.files name (bytes ++ b); entries = moved_to k.entries e end }) pid after Done in
      let rest : KernelState S = if lacks_memory memory (length bytes) end then refused_for k pid after Memory else done in
      either (nat_lt max_size end) (refused_for k pid after Size) rest (no_room Size)
      (either (lacks_memory memory (length bytes) end) (refused_for k pid after Memory) done (no_room Memory)
      (appends name mode e b (bytes ++ b) is (ap (λ (n : ℕ). answered (record k { files = with_entry k.files name (bytes ++ b); entries = moved_to k.entries e n }) pid after Done) (sym (length-append bytes b)))))

  write_mode_ends : (e : ℕ) (name : List ℕ) (offset : ℕ) (b : List ℕ) (memory : Bool) (mode : Mode) → IsWrite k pid call (File name mode) b → Ends (write_mode k pid after e name offset b memory mode)
  write_mode_ends e name offset b memory ForReading is = denied
  write_mode_ends e name offset b memory Fresh is = write_file_ends e name Fresh offset b memory (files k.files name) is
  write_mode_ends e name offset b memory Over is = write_file_ends e name Over offset b memory (files k.files name) is
  write_mode_ends e name offset b memory Append is = append_file_ends e name Append b memory (files k.files name) is

  module _ (id : ℕ) (b : List ℕ) (is : IsWrite k pid call (PipeWrite id) b) (p : PipeState) (found : pipe_of k.pipes id ≡ Some p) where
    abbrev xs : List ℕ
    xs = left_of k pid b

    abbrev put : ℕ
    put = put_of (at k.table pid)

    abbrev now : KernelState S
    now = record k { pipes = with_pipe k.pipes id (after_put p xs) }

    -- some bytes went
    took : (n : ℕ) (all : Bool) → (n == length xs) ≡ all → n ≤ length xs → (n < length xs → (p.reader ≡ true) × (room p ≡ n)) → appended p xs ≡ take n xs → Ends (if all then wakes (PipeBytes id) (answered now pid after Done) else wakes (PipeBytes id) (sleeps now pid (PipeRoom id) (put + n)))
    took n true test few part are = puts_all id p b is found (are ∙ take_all n xs (omega (arith, eqb-true n (length xs) test))) refl
    took n false test few part are = let some = by (eqb-false n (length xs) test) in puts_part id n p b is found (part some).0 (part some).1 are some refl where
      by : (n ≡ length xs → ⊥) → n < length xs
      by ne = omega (arith, few, ne)

    answers : (none reader full : Bool) → (length xs == 0) ≡ none → p.reader ≡ reader → (room p == 0) ≡ full
        → Ends (write_by now pid after id put (length xs) (if none then Took 0 else (if not reader then Closed else (if full then NoRoom else Took (min (room p) (length xs))))))
    answers true reader full test r f =
        took 0 (0 == length xs) refl (omega arith) (λ some. absurd (omega (arith, some, eqb-true (length xs) 0 test))) (ap (appended p) (nil_from_length xs (eqb-true (length xs) 0 test)) ∙ appended_none p p.reader)
    answers false false full test r f =
        refused (ap (λ (l : Pipes). answered (record k { pipes = l }) pid after Refused) (ap (with_pipe k.pipes id) (put_to_nobody p xs r) ∙ with_pipe_back k.pipes id p found))
    answers false true true test r f =
        let are : appended p xs ≡ take (room p) xs = ap (λ (o : Bool). if o then take (room p) xs else []) r in
        let nothing : take (room p) xs ≡ take 0 xs = ap (λ (n : ℕ). take n xs) (eqb-true (room p) 0 f) in
        puts_part id 0 p b is found r (eqb-true (room p) 0 f) (are ∙ nothing) (by (eqb-false (length xs) 0 test)) (ap (λ (n : ℕ). wakes (PipeBytes id) (sleeps now pid (PipeRoom id) n)) (let same : put ≡ put + 0 = omega arith in same)) where
          by : (length xs ≡ 0 → ⊥) → 0 < length xs
          by ne = omega (arith, ne)
    answers false true false test r f =
        let are : appended p xs ≡ take (room p) xs = ap (λ (o : Bool). if o then take (room p) xs else []) r in
        took (min (room p) (length xs)) (min (room p) (length xs) == length xs) refl (omega arith) (λ some. (r, omega (arith, some))) (are ∙ sym (take_min (room p) xs))

    write_found : Ends (write_pipe k pid after id put xs (Some p))
    write_found = answers (length xs == 0) p.reader (room p == 0) refl refl refl

  write_pipe_ends : (id : ℕ) (b : List ℕ) (o : Option PipeState) → pipe_of k.pipes id ≡ o → IsWrite k pid call (PipeWrite id) b → Ends (write_pipe k pid after id (put_of (at k.table pid)) (left_of k pid b) o)
  write_pipe_ends id b None found is = denied
  write_pipe_ends id b (Some p) found is = write_found id b is p found

  write_object_ends : (e offset : ℕ) (b : List ℕ) (memory : Bool) (object : Object) → IsWrite k pid call object b → Ends (write_object k pid after e offset b memory object)
  write_object_ends e offset b memory Input is = denied
  write_object_ends e offset b memory Out is = either (lacks_memory memory (length k.out) (length k.out + length b)) _ _ (no_room Memory) (tells b is refl)
  write_object_ends e offset b memory Diag is = either (lacks_memory memory (length k.diag) (length k.diag + length b)) _ _ (no_room Memory) (complains b is refl)
  write_object_ends e offset b memory (File name mode) is = write_mode_ends e name offset b memory mode is
  write_object_ends e offset b memory (PipeRead id) is = denied
  write_object_ends e offset b memory (PipeWrite id) is = write_pipe_ends id b (pipe_of k.pipes id) refl is

  write_entry_ends : (e : ℕ) (b : List ℕ) (memory : Bool) (o : Option Entry) → ((object : Object) → object_of o ≡ Some object → IsWrite k pid call object b) → Ends (write_entry k pid after e b memory o)
  write_entry_ends e b memory None is = denied
  write_entry_ends e b memory (Some f) is = write_object_ends e f.offset b memory f.object (is f.object refl)

  write_held_ends : (b : List ℕ) (memory : Bool) (o : Option ℕ) → ((object : Object) → object_of (file_at k.entries o) ≡ Some object → IsWrite k pid call object b) → Ends (write_held k pid after b memory o)
  write_held_ends b memory None is = denied
  write_held_ends b memory (Some e) is = write_entry_ends e b memory (file_at k.entries (Some e)) is

  pub write_ends : (fd : ℕ) (b : List ℕ) (memory : Bool) → call ≡ Write fd b → Ends (write k pid after fd b memory)
  write_ends fd b memory is = write_held_ends b memory (entry_of (fds_at k pid) fd) (λ object held. (fd, is, held))
