-- Only a refusal marks: each other way to end leaves the mark as it was.
use Rattle.std.proofs.Common.{◌≡◌, ℕ, zero, suc, [], true, Option, Some, None, refl, ap, subst, sym, ◌∙◌}
use Rattle.std.specs.Prelude.{Result, Ok, Err}
use Rattle.user_calls.specs.declared.calls.Call.{Call}
use Rattle.user_calls.specs.declared.calls.Reply.TheVariants.{Refused}
use Rattle.fd_table.specs.declared.descriptors.TheConstants.{DESCRIPTORS}
use Rattle.fd_table.specs.declared.faults.FdFault.{FdFault}
use Rattle.fd_table.specs.declared.names.Object.{Object}
use Rattle.fd_table.specs.declared.names.Object.TheVariants.{Input, Out, Diag, File, PipeRead, PipeWrite}
use Rattle.fd_table.specs.Entries.{lowest_free_entry}
use Rattle.fd_table.specs.Descriptors.{entry_of, close_answer}
use Rattle.proc_table.specs.Slots.{Slot, at, is_running}
use Rattle.proc_table.specs.Calls.{made_ready}
use Rattle.proc_table.proofs.Changes.{written}
use Rattle.kernel_model.specs.KernelState.{KernelState, fds_at}
use Rattle.kernel_model.specs.Modes.{entry_mode}
use Rattle.kernel_model.specs.Pipes.{with_new}
use Rattle.kernel_model.specs.Opening.{with_bytes}
use Rattle.kernel_model.specs.Descriptors.{let_go_of, taken_away, closed, closed_below, opened_at, with_open, with_reader}
use Rattle.law_kernel.specs.Outcome.{Outcome, refused, lacks, forks, runs, exits, reaps, waits, opens, opens_empty, closes, dups, pipes, reads_input, reads_file, takes, waits_for_bytes, meets_end, tells, complains, writes_over, appends, puts_all, puts_part}
use Rattle.law_kernel.specs.Refused.{IsRefused}

module _ {S : Type 0} (pid : ℕ) where
  opened_mark : (k : KernelState S) (object : Object) (place : Option ℕ) → (opened_at k pid object place).full ≡ k.full
  opened_mark k object None = refl
  opened_mark k object (Some e) = refl

  open_mark : (k : KernelState S) (object : Object) → (with_open k pid object).full ≡ k.full
  open_mark k object = opened_mark k object (lowest_free_entry k.entries)

  let_go_mark : (k : KernelState S) (r : Result (Option Object) FdFault) → (let_go_of k r).full ≡ k.full
  let_go_mark k (Err fault) = refl
  let_go_mark k (Ok None) = refl
  let_go_mark k (Ok (Some Input)) = refl
  let_go_mark k (Ok (Some Out)) = refl
  let_go_mark k (Ok (Some Diag)) = refl
  let_go_mark k (Ok (Some (File name mode))) = refl
  let_go_mark k (Ok (Some (PipeRead id))) = refl
  let_go_mark k (Ok (Some (PipeWrite id))) = refl

  closed_mark : (k : KernelState S) (fd : ℕ) → (closed k pid fd).full ≡ k.full
  closed_mark k fd = let_go_mark (taken_away k pid fd (entry_of (fds_at k pid) fd)) (close_answer k.entries (entry_of (fds_at k pid) fd))

  closed_below_mark : (k : KernelState S) (n : ℕ) → (closed_below k pid n).full ≡ k.full
  unfolding closed_below
  closed_below_mark k zero = refl
  closed_below_mark k (suc n) = closed_mark (closed_below k pid n) n ∙ closed_below_mark k n

  was_refused : (after : S) (x : Slot S) → is_running x ≡ true → IsRefused (made_ready after Refused x)
  was_refused after None running = absurd (let z : ⊥ = cc in z)
  was_refused after (Some p) running = (refl, refl)

  module _ (k : KernelState S) (after : S) (call : Call) (new : KernelState S) (running : is_running (at k.table pid) ≡ true) (granted : IsRefused (at new.table pid) → ⊥) where
    marks_not : (l : KernelState S) → new ≡ l → l.full ≡ k.full → new.full ≡ k.full
    marks_not l is same = ap (λ (n : KernelState S). n.full) is ∙ same

    pub unmarked : Outcome k pid after call new → new.full ≡ k.full
    unmarked (refused is) = marks_not _ is refl
    unmarked (lacks full is) =
        absurd (granted (subst IsRefused (sym (ap (λ (n : KernelState S). at n.table pid) is ∙ written (made_ready after Refused) refl k.table pid)) (was_refused after (at k.table pid) running)))
    unmarked (forks child c free is) = marks_not _ is refl
    unmarked (runs c is) = marks_not _ is refl
    unmarked (exits c ne is) = marks_not _ is (closed_below_mark k DESCRIPTORS)
    unmarked (reaps child c dead is) = marks_not _ is refl
    unmarked (waits child c none some is) = marks_not _ is refl
    unmarked (opens name mode fd c is) = marks_not _ is (open_mark k (File name (entry_mode mode)))
    unmarked (opens_empty name mode fd c is) = marks_not _ is (open_mark (with_bytes k name []) (File name (entry_mode mode)))
    unmarked (closes fd c is) = marks_not _ is (closed_mark k fd)
    unmarked (dups fd entry place c held free is) = marks_not _ is refl
    unmarked (pipes reader writer c two is) =
        let made : KernelState S = record k { pipes = with_new k.pipes k.events } in
        marks_not _ is (open_mark (with_reader k pid k.events) (PipeWrite k.events) ∙ open_mark made (PipeRead k.events))
    unmarked (reads_input n r is) = marks_not _ is refl
    unmarked (reads_file name mode entry n got r is) = marks_not _ is refl
    unmarked (takes id n p r found some is) = marks_not _ is refl
    unmarked (waits_for_bytes id p r found empty unshut is) = marks_not _ is refl
    unmarked (meets_end id p r found empty shut is) = marks_not _ is refl
    unmarked (tells b w is) = marks_not _ is refl
    unmarked (complains b w is) = marks_not _ is refl
    unmarked (writes_over name mode entry b bytes w is) = marks_not _ is refl
    unmarked (appends name mode entry b bytes w is) = marks_not _ is refl
    unmarked (puts_all id p b w found all is) = marks_not _ is refl
    unmarked (puts_part id n p b w found reads filled part some is) = marks_not _ is refl
