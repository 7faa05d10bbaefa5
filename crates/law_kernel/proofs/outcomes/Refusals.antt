-- A call that is refused changes nothing but the mark: each other way to end leaves another reply, or no reply yet.
use Rattle.std.proofs.Common.{◌≡◌, ℕ, Option, Some, None, refl, sym, ap, subst, ◌∙◌}
use Rattle.user_calls.specs.declared.calls.Call.{Call}
use Rattle.user_calls.specs.declared.calls.Reply.{Reply}
use Rattle.user_calls.specs.declared.calls.Reply.TheVariants.{Done, Bytes as Given, Fd, Ends, Refused}
use Rattle.proc_table.specs.declared.states.Channel.{Channel}
use Rattle.proc_table.specs.declared.states.Channel.TheVariants.{PipeBytes, PipeRoom, Children}
use Rattle.proc_table.specs.declared.states.Status.TheVariants.{Zombie}
use Rattle.proc_table.specs.Slots.{Slot, Table, at}
use Rattle.proc_table.specs.Calls.{readied, made_ready, slept, put_to_sleep, all_woken, woken, with_status, exited, given}
use Rattle.proc_table.proofs.Changes.{written, mapped, exit_self}
use Rattle.fd_table.specs.declared.descriptors.TheConstants.{DESCRIPTORS}
use Rattle.kernel_model.specs.declared.events.Full.{Full}
use Rattle.kernel_model.specs.KernelState.{KernelState}
use Rattle.kernel_model.specs.Replies.{answered, marked}
use Rattle.kernel_model.specs.Descriptors.{closed_below}
use Rattle.law_kernel.specs.Outcome.{Outcome, refused, lacks, forks, runs, exits, reaps, waits, opens, opens_empty, closes, dups, pipes, reads_input, reads_file, takes, waits_for_bytes, meets_end, tells, complains, writes_over, appends, puts_all, puts_part}
use Rattle.law_kernel.specs.Refused.{IsRefused, with_mark}

-- ---- what a process was answered

by_reply : {S : Type 0} (m : S) (r : Reply) (x : Slot S) → IsRefused (made_ready m r x) → r ≡ Refused
by_reply m r None is = absurd is
by_reply m r (Some p) is = is.1

woken_reply : {S : Type 0} (c : Channel) (m : S) (r : Reply) (x : Slot S) → IsRefused (woken c (made_ready m r x)) → r ≡ Refused
woken_reply c m r None is = absurd is
woken_reply c m r (Some p) is = is.1

asleep : {S : Type 0} (c : Channel) (put : ℕ) (x : Slot S) → IsRefused (put_to_sleep c put x) → ⊥
asleep c put None is = is
asleep c put (Some p) is = let no = is.0 in cc

asleep_on_room : {S : Type 0} (id other put : ℕ) (x : Slot S) → IsRefused (woken (PipeBytes id) (put_to_sleep (PipeRoom other) put x)) → ⊥
asleep_on_room id other put None is = is
asleep_on_room id other put (Some p) is = let no = is.0 in cc

dead : {S : Type 0} (x : Slot S) → IsRefused (with_status Zombie x) → ⊥
dead None is = is
dead (Some p) is = let no = is.0 in cc

module _ {S : Type 0} (t : Table S) (pid : ℕ) where
  answer_is : (m : S) (r : Reply) → IsRefused (at (readied t pid m r) pid) → r ≡ Refused
  answer_is m r is = by_reply m r (at t pid) (subst IsRefused (written (made_ready m r) refl t pid) is)

  answer_after_wake : (c : Channel) (m : S) (r : Reply) → IsRefused (at (all_woken c (readied t pid m r)) pid) → r ≡ Refused
  answer_after_wake c m r is =
      woken_reply c m r (at t pid) (subst IsRefused (mapped (woken c) refl (readied t pid m r) pid ∙ ap (woken c) (written (made_ready m r) refl t pid)) is)

  no_answer : (c : Channel) (put : ℕ) → IsRefused (at (slept t pid c put) pid) → ⊥
  no_answer c put is = asleep c put (at t pid) (subst IsRefused (written (put_to_sleep c put) refl t pid) is)

  no_answer_yet : (id other put : ℕ) → IsRefused (at (all_woken (PipeBytes id) (slept t pid (PipeRoom other) put)) pid) → ⊥
  no_answer_yet id other put is =
      asleep_on_room id other put (at t pid) (subst IsRefused (mapped (woken (PipeBytes id)) refl (slept t pid (PipeRoom other) put) pid ∙ ap (woken (PipeBytes id)) (written (put_to_sleep (PipeRoom other) put) refl t pid)) is)

  no_answer_ever : IsRefused (at (exited t pid) pid) → ⊥
  no_answer_ever is = dead (given pid (at t pid)) (subst IsRefused (exit_self t pid) is)

-- ---- the call

module _ {S : Type 0} (k : KernelState S) (pid : ℕ) (after : S) (call : Call) (new : KernelState S) (was : IsRefused (at new.table pid)) where
  abbrev Same : Type 0
  Same = new ≡ with_mark (answered k pid after Refused) new.full

  -- the process was answered, and not so
  otherwise : (j : KernelState S) (r : Reply) → new ≡ answered j pid after r → (r ≡ Refused → ⊥) → Same
  otherwise j r is other = absurd (other (answer_is j.table pid after r (subst (λ (n : KernelState S). IsRefused (at n.table pid)) is was)))

  woke : (j : KernelState S) (c : Channel) (r : Reply) → new ≡ record (answered j pid after r) { table = all_woken c (readied j.table pid after r) } → (r ≡ Refused → ⊥) → Same
  woke j c r is other = absurd (other (answer_after_wake j.table pid c after r (subst (λ (n : KernelState S). IsRefused (at n.table pid)) is was)))

  sleeping : (j : KernelState S) (c : Channel) (put : ℕ) → new ≡ record j { table = slept j.table pid c put } → Same
  sleeping j c put is = absurd (no_answer j.table pid c put (subst (λ (n : KernelState S). IsRefused (at n.table pid)) is was))

  marked_so : (full : Option Full) → new ≡ with_mark (answered k pid after Refused) full → Same
  marked_so full is = is ∙ ap (λ (f : Option Full). with_mark (answered k pid after Refused) f) (sym (ap (λ (n : KernelState S). n.full) is))

  pub refused_same : Outcome k pid after call new → Same
  refused_same (refused is) = marked_so k.full is
  refused_same (lacks full is) = marked_so (marked k.full full) is
  refused_same (forks child c free is) = otherwise _ Done is (λ e. cc)
  refused_same (runs c is) = otherwise k Done is (λ e. cc)
  refused_same (exits c ne is) = absurd (no_answer_ever (closed_below k pid DESCRIPTORS).table pid (subst (λ (n : KernelState S). IsRefused (at n.table pid)) is was))
  refused_same (reaps child c dead is) = otherwise _ Done is (λ e. cc)
  refused_same (waits child c none some is) = sleeping k (Children pid) 0 is
  refused_same (opens name mode fd c is) = otherwise _ (Fd fd) is (λ e. cc)
  refused_same (opens_empty name mode fd c is) = otherwise _ (Fd fd) is (λ e. cc)
  refused_same (closes fd c is) = otherwise _ Done is (λ e. cc)
  refused_same (dups fd entry place c held free is) = otherwise _ (Fd place) is (λ e. cc)
  refused_same (pipes reader writer c two is) = otherwise _ (Ends reader writer) is (λ e. cc)
  refused_same (reads_input n c is) = otherwise _ (Given _) is (λ e. cc)
  refused_same (reads_file name mode entry n got c is) = otherwise _ (Given got) is (λ e. cc)
  refused_same (takes id n p c found some is) = woke _ (PipeRoom id) (Given _) is (λ e. cc)
  refused_same (waits_for_bytes id p c found empty unshut is) = sleeping k (PipeBytes id) 0 is
  refused_same (meets_end id p c found none closed is) = otherwise k (Given _) is (λ e. cc)
  refused_same (tells b c is) = otherwise _ Done is (λ e. cc)
  refused_same (complains b c is) = otherwise _ Done is (λ e. cc)
  refused_same (writes_over name mode entry b bytes c is) = otherwise _ Done is (λ e. cc)
  refused_same (appends name mode entry b bytes c is) = otherwise _ Done is (λ e. cc)
  refused_same (puts_all id p b c found all is) = woke _ (PipeBytes id) Done is (λ e. cc)
  refused_same (puts_part id n p b c found reads filled part some is) =
      absurd (no_answer_yet k.table pid id id _ (subst (λ (m : KernelState S). IsRefused (at m.table pid)) is was))
