-- A closed end of a pipe, and a new pipe, lose no wake-up: with its last descriptor an end is closed, and those who wait at the other are woken.
use Rattle.std.proofs.Common.{◌≡◌, ℕ, zero, suc, Bool, true, false, Option, Some, None, refl, length, ◌≤◌}
use Rattle.std.proofs.lemmas.Bool.{both_ways}
use Rattle.std.specs.Prelude.{◌||◌, if◌then◌else◌, Result, Ok, Err}
use Rattle.fd_table.specs.declared.faults.FdFault.{FdFault}
use Rattle.fd_table.specs.declared.names.Object.{Object}
use Rattle.fd_table.specs.declared.names.Object.TheVariants.{Input, Out, Diag, File, PipeRead, PipeWrite}
use Rattle.fd_table.specs.Entries.{lowest_free_entry}
use Rattle.fd_table.specs.Descriptors.{entry_of, after_close, close_answer, installed}
use Rattle.byte_pipe.specs.Limits.{pipe_size}
use Rattle.byte_pipe.specs.PipeState.{PipeState, after_close_read, after_close_write}
use Rattle.proc_table.specs.declared.states.Channel.{Channel}
use Rattle.proc_table.specs.declared.states.Channel.TheVariants.{PipeBytes, PipeRoom}
use Rattle.proc_table.specs.Slots.{Table, same_channel}
use Rattle.kernel_model.specs.KernelState.{KernelState, fds_at}
use Rattle.kernel_model.specs.Pipes.{Pipes, pipe_of, with_pipe, without_pipe, with_new, reader_gone, writer_gone}
use Rattle.kernel_model.specs.Descriptors.{let_go, let_go_of, taken_away, closed, closed_below, opened_at, with_open, with_reader, with_ends}
use Rattle.law_kernel.specs.Sleeping.{Waits, WaitsForBytes, WaitsForRoom, AreSmall}
use Rattle.law_kernel.specs.Busy.{IsBusy}
use Rattle.law_kernel.proofs.kernel.OnePipe.{pipe_still, given_up, it_holds, new_still, small_found, small_with, small_without, small_new}
use Rattle.law_kernel.proofs.kernel.PipeReads.{same_room}
use Rattle.law_kernel.proofs.kernel.PipeWrites.{same_bytes}
use Rattle.law_kernel.proofs.kernel.Slots.{fds_busy, wake_busy, change_busy}

-- ---- the read end

reader_by : {S : Type 0} (t : Table S) (pipes : Pipes) (id : ℕ) (p : PipeState) (b : Bool) → p.writer ≡ b → pipe_of pipes id ≡ Some p → (q : ℕ) (d : Channel) → same_channel (PipeRoom id) d ≡ false → Waits t pipes q d → Waits t (if b then with_pipe pipes id (after_close_read p) else without_pipe pipes id) q d
reader_by t pipes id p true writes found =
    pipe_still t pipes id (PipeRoom id) p (after_close_read p) found
    (record { bytes = λ _ v. record { empty = v.empty; writer = v.writer }; room = λ mine v. absurd (both_ways (same_channel (PipeRoom id) (PipeRoom id)) mine (same_room id)) })
reader_by t pipes id p false writes found =
    given_up t pipes id (PipeRoom id) (λ _ w. both_ways p.writer writes (it_holds WaitsForBytes pipes id p found w).writer)
    (λ mine w. both_ways (same_channel (PipeRoom id) (PipeRoom id)) mine (same_room id))

reader_still : {S : Type 0} (t : Table S) (pipes : Pipes) (id : ℕ) (o : Option PipeState) → pipe_of pipes id ≡ o → (q : ℕ) (d : Channel) → same_channel (PipeRoom id) d ≡ false → Waits t pipes q d → Waits t (reader_gone pipes id o) q d
reader_still t pipes id None found q d unlike w = w
reader_still t pipes id (Some p) found q d unlike w = reader_by t pipes id p p.writer refl found q d unlike w

-- ---- the write end

writer_by : {S : Type 0} (t : Table S) (pipes : Pipes) (id : ℕ) (p : PipeState) (b : Bool) → p.reader ≡ b → pipe_of pipes id ≡ Some p → (q : ℕ) (d : Channel) → same_channel (PipeBytes id) d ≡ false → Waits t pipes q d → Waits t (if b || false then with_pipe pipes id (after_close_write p) else without_pipe pipes id) q d
writer_by t pipes id p true reads found =
    pipe_still t pipes id (PipeBytes id) p (after_close_write p) found
    (record { bytes = λ mine v. absurd (both_ways (same_channel (PipeBytes id) (PipeBytes id)) mine (same_bytes id)); room = λ _ v. record { filled = v.filled; reader = v.reader } })
writer_by t pipes id p false reads found =
    given_up t pipes id (PipeBytes id) (λ mine w. both_ways (same_channel (PipeBytes id) (PipeBytes id)) mine (same_bytes id))
    (λ _ w. both_ways p.reader reads (it_holds WaitsForRoom pipes id p found w).reader)

writer_still : {S : Type 0} (t : Table S) (pipes : Pipes) (id : ℕ) (o : Option PipeState) → pipe_of pipes id ≡ o → (q : ℕ) (d : Channel) → same_channel (PipeBytes id) d ≡ false → Waits t pipes q d → Waits t (writer_gone pipes id o) q d
writer_still t pipes id None found q d unlike w = w
writer_still t pipes id (Some p) found q d unlike w = writer_by t pipes id p p.reader refl found q d unlike w

-- ---- no pipe grows by a close

small_by : (b : Bool) (pipes : Pipes) (id : ℕ) (now : PipeState) → AreSmall pipes → length now.bytes ≤ pipe_size → AreSmall (if b then with_pipe pipes id now else without_pipe pipes id)
small_by true pipes id now small fits = small_with pipes id now small fits
small_by false pipes id now small fits = small_without pipes id small

small_reader : (pipes : Pipes) (id : ℕ) (o : Option PipeState) → pipe_of pipes id ≡ o → AreSmall pipes → AreSmall (reader_gone pipes id o)
small_reader pipes id None found small = small
small_reader pipes id (Some p) found small = small_by p.writer pipes id (after_close_read p) small (small_found pipes id p small found)

small_writer : (pipes : Pipes) (id : ℕ) (o : Option PipeState) → pipe_of pipes id ≡ o → AreSmall pipes → AreSmall (writer_gone pipes id o)
small_writer pipes id None found small = small
small_writer pipes id (Some p) found small = small_by (p.reader || false) pipes id (after_close_write p) small (small_found pipes id p small found)

module _ {S : Type 0} (pid : ℕ) where
  -- pid's call is under way
  abbrev Busy : KernelState S → Type 0
  Busy k = IsBusy k.table k.pipes pid

  -- ---- what a close lets go

  let_go_busy : (k : KernelState S) (object : Object) → Busy k → Busy (let_go k object)
  let_go_busy k Input b = b
  let_go_busy k Out b = b
  let_go_busy k Diag b = b
  let_go_busy k (File name mode) b = b
  let_go_busy k (PipeRead id) b =
      let gone = reader_gone k.pipes id (pipe_of k.pipes id) in
      wake_busy k.table k.pipes gone pid (PipeRoom id) (small_reader k.pipes id (pipe_of k.pipes id) refl b.small) (reader_still k.table k.pipes id (pipe_of k.pipes id) refl) b
  let_go_busy k (PipeWrite id) b =
      let gone = writer_gone k.pipes id (pipe_of k.pipes id) in
      wake_busy k.table k.pipes gone pid (PipeBytes id) (small_writer k.pipes id (pipe_of k.pipes id) refl b.small) (writer_still k.table k.pipes id (pipe_of k.pipes id) refl) b

  let_go_of_busy : (k : KernelState S) (o : Result (Option Object) FdFault) → Busy k → Busy (let_go_of k o)
  let_go_of_busy k (Err fault) b = b
  let_go_of_busy k (Ok None) b = b
  let_go_of_busy k (Ok (Some object)) b = let_go_busy k object b

  pub closed_busy : (k : KernelState S) (fd : ℕ) → Busy k → Busy (closed k pid fd)
  closed_busy k fd b =
      let e = entry_of (fds_at k pid) fd in
      let_go_of_busy (taken_away k pid fd e) (close_answer k.entries e) (fds_busy k.table k.pipes pid (after_close (fds_at k pid) fd e) b)

  pub closed_below_busy : (k : KernelState S) (n : ℕ) → Busy k → Busy (closed_below k pid n)
  unfolding closed_below
  closed_below_busy k zero b = b
  closed_below_busy k (suc n) b = closed_busy (closed_below k pid n) n (closed_below_busy k n b)

  -- ---- what is opened

  opened_busy : (k : KernelState S) (object : Object) (e : Option ℕ) → Busy k → Busy (opened_at k pid object e)
  opened_busy k object None b = b
  opened_busy k object (Some e) b = fds_busy k.table k.pipes pid (installed (fds_at k pid) e) b

  pub open_busy : (k : KernelState S) (object : Object) → Busy k → Busy (with_open k pid object)
  open_busy k object b = opened_busy k object (lowest_free_entry k.entries) b

  pub ends_busy : (k : KernelState S) (id : ℕ) → Busy k → Busy (with_ends k pid id)
  ends_busy k id b =
      open_busy (with_reader k pid id) (PipeWrite id)
      (open_busy (record k { pipes = with_new k.pipes id }) (PipeRead id) (change_busy k.table k.pipes (with_new k.pipes id) pid (small_new k.pipes id b.small) (new_still k.table k.pipes id) b))
