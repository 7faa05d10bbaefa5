-- An end of a pipe that is closed is held by no process, and the pipe of an end that is open is there.
use Rattle.std.proofs.Common.{◌≡◌, ℕ, zero, suc, ◌+◌, ◌≤◌, Bool, true, false, Option, Some, None, length, refl, sym, ap, ◌∙◌, arith}
use Rattle.std.specs.Prelude.{option_map, count_by}
use Rattle.std.proofs.lemmas.Bool.{eq-eqb}
use Rattle.byte_pipe.specs.PipeState.{PipeState}
use Rattle.byte_pipe.specs.Limits.{pipe_size}
use Rattle.fd_table.specs.declared.names.Object.{Object}
use Rattle.fd_table.specs.declared.names.Object.TheVariants.{Input, Out, Diag, File, PipeRead, PipeWrite}
use Rattle.fd_table.specs.Entries.{OpenFile, entry_at}
use Rattle.fd_table.specs.Descriptors.{entry_of}
use Rattle.fd_table.proofs.Lists.{within_list}
use Rattle.mem_files.specs.Files.{FileMap, files}
use Rattle.proc_table.specs.Slots.{Slot, Process, at, is_zombie_status, tally}
use Rattle.kernel_model.specs.KernelState.{KernelState, fds_of, fds_at}
use Rattle.kernel_model.specs.Pipes.{pipe_of}
use Rattle.law_kernel.specs.Ends.{has_object, reads_pipe, writes_pipe, read_end_open, write_end_open}
use Rattle.law_kernel.proofs.kernel.Held.{has_one, there_is_counted}
use Rattle.law_kernel.proofs.kernel.OnePipe.{small_found}
use Rattle.sh_machine.specs.State.{User}
use Rattle.process_model.specs.Seen.{Entry, input, out, diag, reader, writer, file, seen_by, seen_slot, Names, view}
use Rattle.process_model.specs.Shows.{IsNamed, ShowsIn}
use Rattle.process_model.specs.Effect.{Holds, NoHolder}
use Rattle.law_runs.specs.Consistent.{IsConsistent}
use Rattle.law_runs.proofs.views.Fds.{seen_fd, held_is_used}

module _ (g : Names) (F : FileMap) (n : ℕ) where
  -- an entry that has the name of a pipe's end is open on that end
  names_reader : (id : ℕ) (x : Entry) (o : Object) (at : ℕ) → x ≡ reader id → IsNamed g F n x o at → o ≡ PipeRead id
  names_reader id x Input at i is = absurd (let e : reader id ≡ input = sym i ∙ is in let z : ⊥ = cc in z)
  names_reader id x Out at i is = absurd (let e : reader id ≡ out = sym i ∙ is in let z : ⊥ = cc in z)
  names_reader id x Diag at i is = absurd (let e : reader id ≡ diag = sym i ∙ is in let z : ⊥ = cc in z)
  names_reader id x (File name mode) at i is = absurd (let e : reader id ≡ file is.id = sym i ∙ is.is in let z : ⊥ = cc in z)
  names_reader id x (PipeRead k) at i is = let e : reader k ≡ reader id = sym is.0 ∙ i in let z : k ≡ id = cc in ap PipeRead z
  names_reader id x (PipeWrite k) at i is = absurd (let e : reader id ≡ writer k = sym i ∙ is.0 in let z : ⊥ = cc in z)

  names_writer : (id : ℕ) (x : Entry) (o : Object) (at : ℕ) → x ≡ writer id → IsNamed g F n x o at → o ≡ PipeWrite id
  names_writer id x Input at i is = absurd (let e : writer id ≡ input = sym i ∙ is in let z : ⊥ = cc in z)
  names_writer id x Out at i is = absurd (let e : writer id ≡ out = sym i ∙ is in let z : ⊥ = cc in z)
  names_writer id x Diag at i is = absurd (let e : writer id ≡ diag = sym i ∙ is in let z : ⊥ = cc in z)
  names_writer id x (File name mode) at i is = absurd (let e : writer id ≡ file is.id = sym i ∙ is.is in let z : ⊥ = cc in z)
  names_writer id x (PipeRead k) at i is = absurd (let e : writer id ≡ reader k = sym i ∙ is.0 in let z : ⊥ = cc in z)
  names_writer id x (PipeWrite k) at i is = let e : writer k ≡ writer id = sym is.0 ∙ i in let z : k ≡ id = cc in ap PipeWrite z

module _ (g : Names) (k : KernelState User) (settled : IsConsistent k) (shows : ShowsIn g k) where
  pub used : (r fd e : ℕ) → entry_of (fds_at k r) fd ≡ Some e → (f : OpenFile) × (entry_at k.entries e ≡ Some f)
  used = held_is_used k settled.sound

  -- who is seen to hold a name holds an entry of that name
  held_by : (x : Entry) (r : ℕ) → Holds ((view g k).slots r) x → (fd : ℕ) × (e : ℕ) × (entry_of (fds_at k r) fd ≡ Some e) × (g.name e ≡ x)
  held_by x zero h = absurd h
  held_by x (suc r) h = by (at k.table (suc r)) refl h
    where
      by_entry : (p : Process User) → at k.table (suc r) ≡ Some p → (fd : ℕ) (o : Option ℕ) → entry_of p.fds fd ≡ o → option_map g.name o ≡ Some x → (fd : ℕ) × (e : ℕ) × (entry_of (fds_at k (suc r)) fd ≡ Some e) × (g.name e ≡ x)
      by_entry p here fd None is named = absurd (let z : ⊥ = cc in z)
      by_entry p here fd (Some e) is named = (fd, e, ap (λ s. entry_of (fds_of s) fd) here ∙ is, let z : g.name e ≡ x = cc in z)

      by_status : (p : Process User) → at k.table (suc r) ≡ Some p → (b : Bool) → Holds (seen_by b g.name p) x → (fd : ℕ) × (e : ℕ) × (entry_of (fds_at k (suc r)) fd ≡ Some e) × (g.name e ≡ x)
      by_status p here true h = absurd h
      by_status p here false h = by_entry p here h.fd (entry_of p.fds h.fd) refl (sym (seen_fd g.name p.fds h.fd) ∙ h.is)

      by : (s : Slot User) → at k.table (suc r) ≡ s → Holds (seen_slot g.name s) x → (fd : ℕ) × (e : ℕ) × (entry_of (fds_at k (suc r)) fd ≡ Some e) × (g.name e ≡ x)
      by None here h = absurd h
      by (Some p) here h = by_status p here (is_zombie_status p.status) h

  one_held : (test : Object → Bool) (x : Entry) → ((o : Object) (at e : ℕ) → g.name e ≡ x → IsNamed g (files k.files) (k.events + 1) (g.name e) o at → test o ≡ true) → (r : ℕ) → Holds ((view g k).slots r) x → 1 ≤ count_by (has_object test) k.entries
  one_held test x tells r h =
      let at_it = held_by x r h in
      let f = used r at_it.0 at_it.1 at_it.2 in
      has_one k settled.sound test (record {
        pid = r;
        fd = at_it.0;
        entry = at_it.1;
        holds = at_it.2;
        has = ap (has_object test) f.1 ∙ tells f.0.object f.0.offset at_it.1 at_it.3 (shows.named at_it.1 f.0 f.1);
      })

  pub no_reader : (id : ℕ) (p : PipeState) → pipe_of k.pipes id ≡ Some p → p.reader ≡ false → NoHolder (view g k) (reader id)
  no_reader id p found off r h =
      let some = one_held (reads_pipe id) (reader id) (λ o at e named is. ap (reads_pipe id) (names_reader g (files k.files) (k.events + 1) id (g.name e) o at named is) ∙ eq-eqb id id refl) r h in
      let none : tally (read_end_open (pipe_of k.pipes id)) ≡ 0 = ap (λ o. tally (read_end_open o)) found ∙ ap tally off in
      absurd (omega (arith, some, none, settled.ends.readers id))

  pub no_writer : (id : ℕ) (p : PipeState) → pipe_of k.pipes id ≡ Some p → p.writer ≡ false → NoHolder (view g k) (writer id)
  no_writer id p found off r h =
      let some = one_held (writes_pipe id) (writer id) (λ o at e named is. ap (writes_pipe id) (names_writer g (files k.files) (k.events + 1) id (g.name e) o at named is) ∙ eq-eqb id id refl) r h in
      let none : tally (write_end_open (pipe_of k.pipes id)) ≡ 0 = ap (λ o. tally (write_end_open o)) found ∙ ap tally off in
      absurd (omega (arith, some, none, settled.ends.writers id))

  pub small : (id : ℕ) (p : PipeState) → pipe_of k.pipes id ≡ Some p → length p.bytes ≤ pipe_size
  small id p found = small_found k.pipes id p settled.rests.small found

  some_pipe : (end : Option PipeState → Bool) → end None ≡ false → (o : Option PipeState) → 1 ≤ tally (end o) → (p : PipeState) × (o ≡ Some p)
  some_pipe end none None some = absurd (omega (arith, ap tally none, some))
  some_pipe end none (Some p) some = (p, refl)

  counted_once : (test : Object → Bool) (e : ℕ) (f : OpenFile) → entry_at k.entries e ≡ Some f → test f.object ≡ true → 1 ≤ count_by (has_object test) k.entries
  counted_once test e f is has = there_is_counted (has_object test) k.entries e None (within_list k.entries e f is) (ap (has_object test) is ∙ has)

  pub reader_there : (e id : ℕ) (f : OpenFile) → entry_at k.entries e ≡ Some f → f.object ≡ PipeRead id → (p : PipeState) × (pipe_of k.pipes id ≡ Some p)
  reader_there e id f is ob =
      let some = counted_once (reads_pipe id) e f is (ap (reads_pipe id) ob ∙ eq-eqb id id refl) in
      some_pipe read_end_open refl (pipe_of k.pipes id) (omega (arith, some, settled.ends.readers id))

  pub writer_there : (e id : ℕ) (f : OpenFile) → entry_at k.entries e ≡ Some f → f.object ≡ PipeWrite id → (p : PipeState) × (pipe_of k.pipes id ≡ Some p)
  writer_there e id f is ob =
      let some = counted_once (writes_pipe id) e f is (ap (writes_pipe id) ob ∙ eq-eqb id id refl) in
      some_pipe write_end_open refl (pipe_of k.pipes id) (omega (arith, some, settled.ends.writers id))
