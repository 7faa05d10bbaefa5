-- How many pipes have room: a pipe that changes counts for one, and a close makes them no more.
use Rattle.std.proofs.Common.{◌≡◌, ℕ, zero, suc, ◌+◌, ◌≤◌, [], ◌∷◌, Bool, true, false, Option, Some, None, refl, ap, arith}
use Rattle.std.specs.Prelude.{min, ◌==◌, ◌||◌, if◌then◌else◌, Result, Ok, Err}
use Rattle.fd_table.specs.declared.faults.FdFault.{FdFault}
use Rattle.fd_table.specs.declared.names.Object.{Object}
use Rattle.fd_table.specs.declared.names.Object.TheVariants.{Input, Out, Diag, File, PipeRead, PipeWrite}
use Rattle.fd_table.specs.Descriptors.{entry_of, close_answer}
use Rattle.fd_table.specs.Entries.{lowest_free_entry}
use Rattle.byte_pipe.specs.PipeState.{PipeState, room, after_close_read, after_close_write}
use Rattle.kernel_model.specs.KernelState.{KernelState, fds_at}
use Rattle.kernel_model.specs.Pipes.{Pipes, pipe_of, with_pipe, without_pipe, with_new, reader_gone, writer_gone}
use Rattle.kernel_model.specs.Descriptors.{let_go, let_go_of, taken_away, closed, closed_below, opened_at, with_open}

-- 1 where the pipe has room
abbrev pub has_room : PipeState → ℕ
has_room p = min 1 (room p)

abbrev pub roomy : Pipes → ℕ
roomy [] = 0
roomy (x ∷ rest) = has_room x.1 + roomy rest

pub roomy_with : (pipes : Pipes) (id : ℕ) (p now : PipeState) → pipe_of pipes id ≡ Some p → roomy (with_pipe pipes id now) + has_room p ≡ roomy pipes + has_room now
roomy_with [] id p now is = absurd (let z : ⊥ = cc in z)
roomy_with (x ∷ rest) id p now is = by (id == x.0) (roomy_with rest id p now) is where
  by : (b : Bool) → (pipe_of rest id ≡ Some p → roomy (with_pipe rest id now) + has_room p ≡ roomy rest + has_room now) → (if b then Some x.1 else pipe_of rest id) ≡ Some p → roomy (if b then (x.0, now) ∷ rest else x ∷ with_pipe rest id now) + has_room p ≡ has_room x.1 + roomy rest + has_room now
  by true later found = let it : x.1 ≡ p = cc in omega (arith, ap has_room it)
  by false later found = omega (arith, later found)

roomy_without : (pipes : Pipes) (id : ℕ) → roomy (without_pipe pipes id) ≤ roomy pipes
roomy_without [] id = omega arith
roomy_without (x ∷ rest) id = by (id == x.0) (roomy_without rest id) where
  by : (b : Bool) → roomy (without_pipe rest id) ≤ roomy rest → roomy (if b then rest else x ∷ without_pipe rest id) ≤ has_room x.1 + roomy rest
  by true later = omega arith
  by false later = omega (arith, later)

pub roomy_new : (pipes : Pipes) (id : ℕ) → roomy (with_new pipes id) ≤ roomy pipes + 1
roomy_new [] id = omega arith
roomy_new (x ∷ rest) id = omega (arith, roomy_new rest id)

-- ---- a close

closed_by : (b : Bool) (pipes : Pipes) (id : ℕ) (p now : PipeState) → pipe_of pipes id ≡ Some p → has_room now ≡ has_room p → roomy (if b then with_pipe pipes id now else without_pipe pipes id) ≤ roomy pipes
closed_by true pipes id p now found same = omega (arith, roomy_with pipes id p now found, same)
closed_by false pipes id p now found same = roomy_without pipes id

reader_roomy : (pipes : Pipes) (id : ℕ) (o : Option PipeState) → pipe_of pipes id ≡ o → roomy (reader_gone pipes id o) ≤ roomy pipes
reader_roomy pipes id None found = omega arith
reader_roomy pipes id (Some p) found = closed_by p.writer pipes id p (after_close_read p) found refl

writer_roomy : (pipes : Pipes) (id : ℕ) (o : Option PipeState) → pipe_of pipes id ≡ o → roomy (writer_gone pipes id o) ≤ roomy pipes
writer_roomy pipes id None found = omega arith
writer_roomy pipes id (Some p) found = closed_by (p.reader || false) pipes id p (after_close_write p) found refl

module _ {S : Type 0} (pid : ℕ) where
  let_go_roomy : (k : KernelState S) (object : Object) → roomy (let_go k object).pipes ≤ roomy k.pipes
  let_go_roomy k Input = omega arith
  let_go_roomy k Out = omega arith
  let_go_roomy k Diag = omega arith
  let_go_roomy k (File name mode) = omega arith
  let_go_roomy k (PipeRead id) = reader_roomy k.pipes id (pipe_of k.pipes id) refl
  let_go_roomy k (PipeWrite id) = writer_roomy k.pipes id (pipe_of k.pipes id) refl

  let_go_of_roomy : (k : KernelState S) (o : Result (Option Object) FdFault) → roomy (let_go_of k o).pipes ≤ roomy k.pipes
  let_go_of_roomy k (Err fault) = omega arith
  let_go_of_roomy k (Ok None) = omega arith
  let_go_of_roomy k (Ok (Some object)) = let_go_roomy k object

  pub closed_roomy : (k : KernelState S) (fd : ℕ) → roomy (closed k pid fd).pipes ≤ roomy k.pipes
  closed_roomy k fd = let_go_of_roomy (taken_away k pid fd (entry_of (fds_at k pid) fd)) (close_answer k.entries (entry_of (fds_at k pid) fd))

  pub closed_below_roomy : (k : KernelState S) (n : ℕ) → roomy (closed_below k pid n).pipes ≤ roomy k.pipes
  unfolding closed_below
  closed_below_roomy k zero = omega arith
  closed_below_roomy k (suc n) = omega (arith, closed_roomy (closed_below k pid n) n, closed_below_roomy k n)

  -- ---- an open changes no pipe

  opened_pipes : (k : KernelState S) (object : Object) (place : Option ℕ) → (opened_at k pid object place).pipes ≡ k.pipes
  opened_pipes k object None = refl
  opened_pipes k object (Some e) = refl

  pub open_roomy : (k : KernelState S) (object : Object) → roomy (with_open k pid object).pipes ≡ roomy k.pipes
  open_roomy k object = ap roomy (opened_pipes k object (lowest_free_entry k.entries))
