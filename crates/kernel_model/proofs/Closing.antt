-- A close and a dup keep a kernel sound; once all of its descriptors are closed, a process holds none.
use Rattle.std.proofs.Common.{◌≡◌, ◌≢◌, ◌⊎◌, ℕ, zero, suc, ◌<◌, Option, Some, None, get_or, refl, ap, ◌∙◌, arith, inl, inr, get_or-set_same}
use Rattle.std.proofs.Math.ListN.{set}
use Rattle.std.proofs.lemmas.Bool.{cases_eq}
use Rattle.std.specs.Prelude.{Result, Ok, Err}
use Rattle.fd_table.specs.declared.names.Object.{Object}
use Rattle.fd_table.specs.declared.names.Object.TheVariants.{Input, Out, Diag, File, PipeRead, PipeWrite}
use Rattle.fd_table.specs.declared.faults.FdFault.{FdFault}
use Rattle.fd_table.specs.declared.faults.FdFault.TheVariants.{BadFd, FullFds, FullOpen}
use Rattle.fd_table.specs.Descriptors.{Descriptors, entry_of, lowest_free, close_answer, after_close}
use Rattle.fd_table.proofs.Lists.{within_list}
use Rattle.proc_table.specs.declared.states.Channel.TheVariants.{PipeBytes, PipeRoom}
use Rattle.proc_table.specs.Slots.{at}
use Rattle.proc_table.specs.Calls.{woken, with_fds}
use Rattle.proc_table.proofs.Changes.{written, mapped}
use Rattle.kernel_model.specs.KernelState.{KernelState, fds_of, fds_at}
use Rattle.kernel_model.specs.Sound.{IsMid, Keeps}
use Rattle.kernel_model.specs.Descriptors.{let_go, let_go_of, taken_away, closed, closed_below, copied, dup_by, close, dup}
use Rattle.kernel_model.proofs.Sound.{woken_near}
use Rattle.kernel_model.proofs.Keeps.{ready_keeps, wake_mid, close_mid, dup_mid, fds_given}
use Rattle.kernel_model.proofs.Offsets.{item_cases}

closed_place : (fds : Descriptors) (fd : ℕ) (entry : Option ℕ) → entry_of fds fd ≡ entry → entry_of (after_close fds fd entry) fd ≡ None
closed_place fds fd None is = is
closed_place fds fd (Some e) is = get_or-set_same fds fd None None (within_list fds fd e is)

closed_stays : (fds : Descriptors) (fd i : ℕ) (entry : Option ℕ) → entry_of fds i ≡ None → entry_of (after_close fds fd entry) i ≡ None
closed_stays fds fd i None is = is
closed_stays fds fd i (Some e) is = by (item_cases fds fd i None) where
  by : (get_or (set fds fd None) i None ≡ None) ⊎ (get_or (set fds fd None) i None ≡ get_or fds i None) → entry_of (set fds fd None) i ≡ None
  by (inl now) = now
  by (inr now) = now ∙ is

module _ {S : Type 0} (n pid : ℕ) where
  -- the kernel in the middle of a call of pid, and after it
  abbrev Mid : KernelState S → Type 0
  Mid k = IsMid n k.table k.entries pid

  abbrev After : KernelState S → Type 0
  After k = Keeps n k.table k.entries

  let_go_mid : (k : KernelState S) (object : Object) → Mid k → Mid (let_go k object)
  let_go_mid k Input m = m
  let_go_mid k Out m = m
  let_go_mid k Diag m = m
  let_go_mid k (File name mode) m = m
  let_go_mid k (PipeRead id) m = wake_mid n k.table k.entries pid (PipeRoom id) m
  let_go_mid k (PipeWrite id) m = wake_mid n k.table k.entries pid (PipeBytes id) m

  let_go_of_mid : (k : KernelState S) (r : Result (Option Object) FdFault) → Mid k → Mid (let_go_of k r)
  let_go_of_mid k (Err fault) m = m
  let_go_of_mid k (Ok None) m = m
  let_go_of_mid k (Ok (Some object)) m = let_go_mid k object m

  pub closed_mid : (k : KernelState S) (fd : ℕ) → Mid k → Mid (closed k pid fd)
  closed_mid k fd m =
      let_go_of_mid (taken_away k pid fd (entry_of (fds_at k pid) fd)) (close_answer k.entries (entry_of (fds_at k pid) fd)) (close_mid n k.table k.entries pid fd m)

  pub closed_below_mid : (k : KernelState S) (m : ℕ) → Mid k → Mid (closed_below k pid m)
  unfolding closed_below
  closed_below_mid k zero h = h
  closed_below_mid k (suc m) h = closed_mid (closed_below k pid m) m (closed_below_mid k m h)

  let_go_fds : (k : KernelState S) (r : Result (Option Object) FdFault) → fds_at (let_go_of k r) pid ≡ fds_at k pid
  let_go_fds k (Err fault) = refl
  let_go_fds k (Ok None) = refl
  let_go_fds k (Ok (Some Input)) = refl
  let_go_fds k (Ok (Some Out)) = refl
  let_go_fds k (Ok (Some Diag)) = refl
  let_go_fds k (Ok (Some (File name mode))) = refl
  let_go_fds k (Ok (Some (PipeRead id))) = ap fds_of (mapped (woken (PipeRoom id)) refl k.table pid) ∙ (woken_near (PipeRoom id) (at k.table pid)).fds
  let_go_fds k (Ok (Some (PipeWrite id))) = ap fds_of (mapped (woken (PipeBytes id)) refl k.table pid) ∙ (woken_near (PipeBytes id) (at k.table pid)).fds

  closed_fds : (k : KernelState S) (fd : ℕ) → Mid k → fds_at (closed k pid fd) pid ≡ after_close (fds_at k pid) fd (entry_of (fds_at k pid) fd)
  closed_fds k fd m =
      let entry = entry_of (fds_at k pid) fd in
      let fds = after_close (fds_at k pid) fd entry in
      let_go_fds (taken_away k pid fd entry) (close_answer k.entries entry) ∙ ap fds_of (written (with_fds fds) refl k.table pid) ∙ fds_given fds (at k.table pid) m.runs

  bare_step : (k : KernelState S) (m i : ℕ) → Mid k → (i < m → entry_of (fds_at k pid) i ≡ None) → i < suc m → entry_of (fds_at (closed k pid m) pid) i ≡ None
  bare_step k m i h before lt = ap (λ (fds : Descriptors). entry_of fds i) (closed_fds k m h) ∙ by (cases_eq i m) where
    by : (i ≡ m) ⊎ (i ≢ m) → entry_of (after_close (fds_at k pid) m (entry_of (fds_at k pid) m)) i ≡ None
    by (inl is) = ap (λ (j : ℕ). entry_of (after_close (fds_at k pid) m (entry_of (fds_at k pid) m)) j) is ∙ closed_place (fds_at k pid) m (entry_of (fds_at k pid) m) refl
    by (inr ne) = closed_stays (fds_at k pid) m i (entry_of (fds_at k pid) m) (before (omega arith))

  -- the descriptors below m are closed
  pub bare_below : (k : KernelState S) (m i : ℕ) → Mid k → i < m → entry_of (fds_at (closed_below k pid m) pid) i ≡ None
  unfolding closed_below
  bare_below k zero i h lt = absurd (omega arith)
  bare_below k (suc m) i h lt = bare_step (closed_below k pid m) m i (closed_below_mid k m h) (λ below. bare_below k m i h below) lt

  pub close_after : (k : KernelState S) (after : S) (fd : ℕ) → Mid k → After (close k pid after fd)
  close_after k after fd m = ready_keeps n (closed k pid fd).table (closed k pid fd).entries pid after _ (closed_mid k fd m)

  dup_by_after : (k : KernelState S) (after : S) (r : Result ℕ FdFault) → Mid k → After (dup_by k pid after r)
  dup_by_after k after (Ok fd) m = ready_keeps n k.table k.entries pid after _ m
  dup_by_after k after (Err BadFd) m = ready_keeps n k.table k.entries pid after _ m
  dup_by_after k after (Err FullFds) m = ready_keeps n k.table k.entries pid after _ m
  dup_by_after k after (Err FullOpen) m = ready_keeps n k.table k.entries pid after _ m

  pub dup_after : (k : KernelState S) (after : S) (fd : ℕ) → Mid k → After (dup k pid after fd)
  dup_after k after fd m = dup_by_after (copied k pid (entry_of (fds_at k pid) fd) (lowest_free (fds_at k pid))) after _ (dup_mid n k.table k.entries pid fd m)
