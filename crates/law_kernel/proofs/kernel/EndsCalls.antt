-- Each call keeps the ends of pipes and the entries that hold them in step, in whichever way it ends.
use Rattle.std.proofs.Common.{◌≡◌, ℕ, [], Bool, Some, None, length, refl, sym, subst}
use Rattle.user_calls.specs.declared.calls.Call.{Call}
use Rattle.fd_table.specs.declared.descriptors.TheConstants.{DESCRIPTORS}
use Rattle.fd_table.specs.declared.names.Object.TheVariants.{File}
use Rattle.fd_table.specs.Entries.{advanced, moved_to}
use Rattle.fd_table.specs.Descriptors.{held_by_dup, all_held}
use Rattle.byte_pipe.specs.PipeState.{after_take, after_put}
use Rattle.kernel_model.specs.KernelState.{KernelState, fds_at}
use Rattle.kernel_model.specs.Pipes.{pipe_of}
use Rattle.kernel_model.specs.Modes.{entry_mode}
use Rattle.kernel_model.specs.Opening.{with_bytes}
use Rattle.kernel_model.specs.Events.{acted}
use Rattle.law_kernel.specs.Outcome.{Outcome, left_of, refused, lacks, forks, runs, exits, reaps, waits, opens, opens_empty, closes, dups, pipes, reads_input, reads_file, takes, waits_for_bytes, meets_end, tells, complains, writes_over, appends, puts_all, puts_part}
use Rattle.law_kernel.proofs.outcomes.Outcomes.{every_call_ends}
use Rattle.law_kernel.specs.Ends.{EndsAgree}
use Rattle.law_kernel.proofs.kernel.EntryCounts.{advanced_count, moved_count, dup_count, fork_count}
use Rattle.law_kernel.proofs.kernel.EndsClosed.{entries_agree, bytes_agree, closed_agrees, closed_below_agrees}
use Rattle.law_kernel.proofs.kernel.EndsOpened.{other_agrees, ends_agree}

module _ {S : Type 0} (pid : ℕ) (after : S) where
  -- the ends of the kernel's pipes and its entries are in step
  abbrev Agrees : KernelState S → Type 0
  Agrees k = EndsAgree k.entries k.pipes

  module _ (k : KernelState S) (call : Call) (new : KernelState S) (none : pipe_of k.pipes k.events ≡ None) (a : Agrees k) where
    so : (l : KernelState S) → new ≡ l → Agrees l → Agrees new
    so l is agrees = subst Agrees (sym is) agrees

    outcome_agrees : Outcome k pid after call new → Agrees new
    outcome_agrees (refused is) = so _ is a
    outcome_agrees (lacks full is) = so _ is a
    outcome_agrees (forks child c free is) = so _ is (entries_agree k.entries (all_held k.entries (fds_at k pid)) k.pipes (λ test. fork_count test k.entries (fds_at k pid)) a)
    outcome_agrees (runs c is) = so _ is a
    outcome_agrees (exits c ne is) = so _ is (closed_below_agrees pid k DESCRIPTORS a)
    outcome_agrees (reaps child c dead is) = so _ is a
    outcome_agrees (waits child c dead some is) = so _ is a
    outcome_agrees (opens name mode fd c is) = so _ is (other_agrees pid k (File name (entry_mode mode)) (λ id. refl) (λ id. refl) a)
    outcome_agrees (opens_empty name mode fd c is) = so _ is (other_agrees pid (with_bytes k name []) (File name (entry_mode mode)) (λ id. refl) (λ id. refl) a)
    outcome_agrees (closes fd c is) = so _ is (closed_agrees pid k fd a)
    outcome_agrees (dups fd entry place c held free is) =
        so _ is (entries_agree k.entries (held_by_dup k.entries (Some entry) (Some place)) k.pipes (λ test. dup_count test k.entries (Some entry) (Some place)) a)
    outcome_agrees (pipes reader writer c two is) = so _ is (ends_agree pid k k.events none a two)
    outcome_agrees (reads_input n r is) = so _ is a
    outcome_agrees (reads_file name mode entry n got r is) = so _ is (entries_agree k.entries (advanced k.entries entry n) k.pipes (λ test. advanced_count test k.entries entry n) a)
    outcome_agrees (takes id n p r found some is) = so _ is (bytes_agree k.entries k.pipes id p (after_take p n) found refl refl a)
    outcome_agrees (waits_for_bytes id p r found empty unshut is) = so _ is a
    outcome_agrees (meets_end id p r found empty shut is) = so _ is a
    outcome_agrees (tells b w is) = so _ is a
    outcome_agrees (complains b w is) = so _ is a
    outcome_agrees (writes_over name mode entry b bytes w is) =
        so _ is (entries_agree k.entries (advanced k.entries entry (length b)) k.pipes (λ test. advanced_count test k.entries entry (length b)) a)
    outcome_agrees (appends name mode entry b bytes w is) =
        so _ is (entries_agree k.entries (moved_to k.entries entry (length bytes)) k.pipes (λ test. moved_count test k.entries entry (length bytes)) a)
    outcome_agrees (puts_all id p b w found all is) = so _ is (bytes_agree k.entries k.pipes id p (after_put p (left_of k pid b)) found refl refl a)
    outcome_agrees (puts_part id n p b w found reads filled part some is) = so _ is (bytes_agree k.entries k.pipes id p (after_put p (left_of k pid b)) found refl refl a)

  -- a pipe would be named by this event, whose name no pipe has yet
  pub acted_agrees : (k : KernelState S) (call : Call) (memory : Bool) → pipe_of k.pipes k.events ≡ None → Agrees k → Agrees (acted k pid after call memory)
  acted_agrees k call memory none a = outcome_agrees k call (acted k pid after call memory) none a (every_call_ends k pid after call memory)
