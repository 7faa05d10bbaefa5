-- Each call leaves a kernel in which whoever sleeps has to, in whichever way it ends.
use Rattle.std.proofs.Common.{◌≡◌, ℕ, [], Bool, Some, take, refl, sym, subst}
use Rattle.user_calls.specs.declared.calls.Call.{Call}
use Rattle.user_calls.specs.declared.calls.Reply.{Reply}
use Rattle.user_calls.specs.declared.calls.Reply.TheVariants.{Done, Bytes as Given, Fd, Ends, Refused}
use Rattle.fd_table.specs.declared.descriptors.TheConstants.{DESCRIPTORS}
use Rattle.fd_table.specs.declared.names.Object.TheVariants.{File}
use Rattle.fd_table.specs.Descriptors.{after_dup}
use Rattle.proc_table.specs.declared.states.Channel.{Channel}
use Rattle.proc_table.specs.declared.states.Channel.TheVariants.{Children}
use Rattle.proc_table.specs.Slots.{at}
use Rattle.proc_table.specs.Calls.{slept, reaped}
use Rattle.kernel_model.specs.KernelState.{KernelState, fds_at}
use Rattle.kernel_model.specs.Modes.{entry_mode}
use Rattle.kernel_model.specs.Replies.{answered}
use Rattle.kernel_model.specs.Opening.{with_bytes}
use Rattle.kernel_model.specs.Descriptors.{closed, closed_below, copied, with_open, with_ends}
use Rattle.kernel_model.specs.Events.{acted}
use Rattle.law_kernel.specs.Outcome.{Outcome, left_of, refused, lacks, forks, runs, exits, reaps, waits, opens, opens_empty, closes, dups, pipes, reads_input, reads_file, takes, waits_for_bytes, meets_end, tells, complains, writes_over, appends, puts_all, puts_part}
use Rattle.law_kernel.proofs.outcomes.Outcomes.{every_call_ends}
use Rattle.law_kernel.specs.Sleeping.{Waits, Lives, Rests}
use Rattle.law_kernel.specs.Busy.{IsBusy}
use Rattle.law_kernel.proofs.kernel.Slots.{rests, ready_rests, sleep_busy, slept_waits, asleep_where, fds_busy}
use Rattle.law_kernel.proofs.kernel.PipeReads.{take_rests, sleep_rests}
use Rattle.law_kernel.proofs.kernel.PipeWrites.{done_rests, part_rests}
use Rattle.law_kernel.proofs.kernel.Closes.{closed_busy, closed_below_busy, open_busy, ends_busy}
use Rattle.law_kernel.proofs.kernel.Children.{fork_busy, reap_busy, has_to_wait}
use Rattle.law_kernel.proofs.kernel.Exits.{exit_rests}

module _ {S : Type 0} (pid : ℕ) (after : S) where
  -- the call of pid is under way, and is over
  abbrev Busy : KernelState S → Type 0
  Busy k = IsBusy k.table k.pipes pid

  abbrev AtRest : KernelState S → Type 0
  AtRest k = Rests k.table k.pipes

  answering : (k : KernelState S) (reply : Reply) → Busy k → AtRest (answered k pid after reply)
  answering k reply b = ready_rests k.table k.pipes pid after reply b

  module _ (k : KernelState S) (call : Call) (new : KernelState S) (lives : Lives (at k.table pid)) (b : Busy k) where
    so : (l : KernelState S) → new ≡ l → AtRest l → AtRest new
    so l is r = subst AtRest (sym is) r

    -- only what no sleeper waits for changes
    going_on : (reply : Reply) → AtRest (answered k pid after reply)
    going_on reply = ready_rests k.table k.pipes pid after reply b

    outcome_rests : Outcome k pid after call new → AtRest new
    outcome_rests (refused is) = so _ is (going_on Refused)
    outcome_rests (lacks full is) = so _ is (going_on Refused)
    outcome_rests (forks child c free is) = so _ is (ready_rests _ k.pipes pid after Done (fork_busy k.table k.pipes pid child after (fds_at k pid) free lives b))
    outcome_rests (runs c is) = so _ is (going_on Done)
    outcome_rests (exits c ne is) =
        let gone : KernelState S = closed_below k pid DESCRIPTORS in
        so _ is (exit_rests gone.table pid gone.pipes ne (closed_below_busy pid k DESCRIPTORS b))
    outcome_rests (reaps child c dead is) = so _ is (ready_rests (reaped k.table pid) k.pipes pid after Done (reap_busy k.table k.pipes pid child dead b))
    outcome_rests (waits child c none some is) =
        let t = slept k.table pid (Children pid) 0 in
        let has_to : Waits t k.pipes pid (Children pid) = slept_waits k.table k.pipes pid 0 pid (Children pid) (Children pid) (refl, has_to_wait k.table pid child none some) in
        so _ is (rests t k.pipes pid (sleep_busy k.table k.pipes pid (Children pid) 0 b) (λ c sleeps. subst (λ (d : Channel). Waits t k.pipes pid d) (asleep_where k.table pid (Children pid) 0 c sleeps) has_to))
    outcome_rests (opens name mode fd c is) = so _ is (answering (with_open k pid (File name (entry_mode mode))) (Fd fd) (open_busy pid k (File name (entry_mode mode)) b))
    outcome_rests (opens_empty name mode fd c is) =
        let made : KernelState S = with_bytes k name [] in
        so _ is (answering (with_open made pid (File name (entry_mode mode))) (Fd fd) (open_busy pid made (File name (entry_mode mode)) b))
    outcome_rests (closes fd c is) = so _ is (answering (closed k pid fd) Done (closed_busy pid k fd b))
    outcome_rests (dups fd entry place c held free is) =
        so _ is (answering (copied k pid (Some entry) (Some place)) (Fd place) (fds_busy k.table k.pipes pid (after_dup (fds_at k pid) (Some entry) (Some place)) b))
    outcome_rests (pipes reader writer c two is) = so _ is (answering (with_ends k pid k.events) (Ends reader writer) (ends_busy pid k k.events b))
    outcome_rests (reads_input n r is) = so _ is (going_on (Given (take n k.input)))
    outcome_rests (reads_file name mode entry n got r is) = so _ is (going_on (Given got))
    outcome_rests (takes id n p r found some is) = so _ is (take_rests k pid after id b p found n (take n p.bytes) some)
    outcome_rests (waits_for_bytes id p r found empty unshut is) = so _ is (sleep_rests k pid after id b p found (record { empty = empty; writer = unshut }))
    outcome_rests (meets_end id p r found empty shut is) = so _ is (going_on (Given []))
    outcome_rests (tells bs w is) = so _ is (going_on Done)
    outcome_rests (complains bs w is) = so _ is (going_on Done)
    outcome_rests (writes_over name mode entry bs bytes w is) = so _ is (going_on Done)
    outcome_rests (appends name mode entry bs bytes w is) = so _ is (going_on Done)
    outcome_rests (puts_all id p bs w found all is) = so _ is (done_rests k pid after id (left_of k pid bs) b p found)
    outcome_rests (puts_part id n p bs w found reads filled part some is) = so _ is (part_rests k pid after id (left_of k pid bs) b p found n _ reads filled some)

  pub acted_rests : (k : KernelState S) (call : Call) (memory : Bool) → Lives (at k.table pid) → Busy k → AtRest (acted k pid after call memory)
  acted_rests k call memory lives b = outcome_rests k call (acted k pid after call memory) lives b (every_call_ends k pid after call memory)
