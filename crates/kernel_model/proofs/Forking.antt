-- A fork keeps a kernel sound.
use Rattle.std.proofs.Common.{◌≡◌, ℕ, List, ◌∷◌, ◌++◌, Option, Some, None, refl, sym, ap, subst, ◌∙◌, arith}
use Rattle.user_calls.specs.declared.calls.Reply.TheVariants.{Done, Refused}
use Rattle.fd_table.specs.Descriptors.{Descriptors, entry_of, lowest_free, installed, installed_at, close_answer, without, after_close}
use Rattle.fd_table.specs.declared.descriptors.TheConstants.{DESCRIPTORS}
use Rattle.fd_table.proofs.Counting.{fork_kept, closed_table_not_counted}
use Rattle.proc_table.specs.Slots.{Slot, at, is_running, is_running_status}
use Rattle.proc_table.specs.Calls.{forked, newborn, lowest_free as lowest_free_slot}
use Rattle.proc_table.proofs.Changes.{was_free, child_within}
use Rattle.proc_table.proofs.Counts.{fork_states}
use Rattle.kernel_model.specs.KernelState.{KernelState, fds_of, fds_at}
use Rattle.kernel_model.specs.Sound.{IsMid, Keeps}
use Rattle.kernel_model.specs.Processes.{fork_into}
use Rattle.kernel_model.proofs.Held.{runs_within, all_in_use, fork_keeps}
use Rattle.kernel_model.proofs.Keeps.{ready_keeps, slot_sound}
use Rattle.kernel_model.proofs.Offsets.{all_held_small}

module _ {S : Type 0} (n pid : ℕ) where
  -- the kernel in the middle of a call of pid, and after it
  abbrev Mid : KernelState S → Type 0
  Mid k = IsMid n k.table k.entries pid

  abbrev After : KernelState S → Type 0
  After k = Keeps n k.table k.entries

  pub fork_into_after : (k : KernelState S) (after : S) (place : Option ℕ) → lowest_free_slot k.table ≡ place → Mid k → After (fork_into k pid after place)
  fork_into_after k after None found m = ready_keeps n k.table k.entries pid after Refused m
  fork_into_after k after (Some child) found m =
      let t = k.table in
      let E = k.entries in
      let fds = fds_at k pid in
      let x : Slot S = Some (newborn pid after fds) in
      let within = child_within t child found in
      let was : at t child ≡ None = was_free t child found in
      let P : Slot S → Type 0 = λ y. (before after : List Descriptors) → Rattle.fd_table.specs.Holders.CountHolders E (before ++ fds_of y ∷ after) → Rattle.fd_table.specs.Holders.CountHolders (Rattle.fd_table.specs.Descriptors.all_held E fds) (before ++ fds ∷ after) in
      ready_keeps n (forked t child pid after fds) (Rattle.fd_table.specs.Descriptors.all_held E fds) pid after Done (
      record {
        sound = slot_sound t child x E (Rattle.fd_table.specs.Descriptors.all_held E fds) within
            (subst P (sym was) (λ before later counts. fork_kept E fds before later (all_in_use t E pid (runs_within t pid m.runs) m.sound) (closed_table_not_counted E DESCRIPTORS before later counts)))
            (m.sound.places pid) refl (all_held_small E fds m.sound.offsets) m.sound;
        runs = ap is_running (fork_keeps t child pid x found m.runs) ∙ m.runs;
        count = omega (arith, fork_states is_running_status t child pid after fds found, m.count);
      })
