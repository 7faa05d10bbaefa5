-- A call after which its process sleeps, and which put no byte, woke nobody: one process more sleeps after it.
use Rattle.std.proofs.Common.{◌≡◌, ◌≢◌, ◌⊎◌, inl, inr, ◌∙◌, ℕ, zero, suc, ◌+◌, Bool, true, false, Some, None, length, refl, sym, ap, subst, arith}
use Rattle.std.proofs.lemmas.Bool.{both_ways, cases_eq, eqb-true, lt-ltb}
use Rattle.std.specs.Prelude.{count_by, nat_lt}
use Rattle.user_calls.specs.declared.calls.Call.{Call}
use Rattle.user_calls.specs.declared.calls.Reply.{Reply}
use Rattle.user_calls.specs.declared.calls.Reply.TheVariants.{Refused}
use Rattle.byte_pipe.specs.PipeState.{PipeState, room}
use Rattle.proc_table.specs.declared.states.Channel.{Channel}
use Rattle.proc_table.specs.declared.states.Channel.TheVariants.{PipeBytes, PipeRoom, Children}
use Rattle.proc_table.specs.declared.states.Status.{Status}
use Rattle.proc_table.specs.declared.states.Status.TheVariants.{Runnable, Running, Asleep, Zombie}
use Rattle.proc_table.specs.Slots.{Slot, Table, Process, at, put_of, same_channel, is_asleep, is_asleep_on, is_asleep_on_status, is_running_on_status}
use Rattle.proc_table.specs.Calls.{all_woken, put_to_sleep, readied, slept}
use Rattle.proc_table.proofs.Changes.{written, kept}
use Rattle.proc_table.proofs.Counts.{wake_asleep}
use Rattle.kernel_model.specs.declared.events.Full.{Full}
use Rattle.kernel_model.specs.KernelState.{KernelState}
use Rattle.kernel_model.specs.Pipes.{pipe_of}
use Rattle.kernel_model.specs.Processes.{ended}
use Rattle.kernel_model.specs.Replies.{answered, refused_for, sleeps, wakes}
use Rattle.law_kernel.specs.Sleeping.{AllWait, SleepsOn, WaitsForBytes, IsThere}
use Rattle.law_kernel.specs.Outcome.{Outcome, refused, lacks, forks, runs, exits, reaps, waits, opens, opens_empty, closes, dups, pipes, reads_input, reads_file, takes, waits_for_bytes, meets_end, tells, complains, writes_over, appends, puts_all, puts_part}
use Rattle.law_kernel.proofs.lengths.Asleep.{answered_awake, woken_too, exited_awake, one_more, put_then, none_pass}

-- a test of being asleep on a channel finds who sleeps there
asleep_there : (c : Channel) (s : Status) → is_asleep_on_status c s ≡ true → (d : Channel) × (s ≡ Asleep d) × (same_channel c d ≡ true)
asleep_there c Runnable is = absurd (let z : ⊥ = cc in z)
asleep_there c (Running h) is = absurd (let z : ⊥ = cc in z)
asleep_there c (Asleep d) is = (d, refl, is)
asleep_there c Zombie is = absurd (let z : ⊥ = cc in z)

found_there : {S : Type 0} (c : Channel) (x : Slot S) → is_asleep_on c x ≡ true → (d : Channel) × (SleepsOn x d × (same_channel c d ≡ true))
found_there c None is = absurd (let z : ⊥ = cc in z)
found_there c (Some p) is = let there = asleep_there c p.status is in (there.0, (there.1, there.2))

none_more : (a n : ℕ) → nat_lt a (a + n) ≡ false → n ≡ 0
none_more a zero less = refl
none_more a (suc n) less = absurd (both_ways (nat_lt a (a + suc n)) less (lt-ltb a (a + suc n) (omega arith)))

module _ {S : Type 0} (k : KernelState S) (pid h : ℕ) (p : Process S) (there : at k.table pid ≡ Some p) (runs_there : is_running_on_status h p.status ≡ true) (wait : AllWait k.table k.pipes) where
  -- if pid sleeps then, and has put nothing, there is one more that sleeps
  abbrev pub Falls : KernelState S → Type 0
  Falls new = is_asleep (at new.table pid) ≡ true → nat_lt (put_of (at k.table pid)) (put_of (at new.table pid)) ≡ false → count_by is_asleep new.table ≡ count_by is_asleep k.table + 1

  awake : (new : KernelState S) → is_asleep (at new.table pid) ≡ false → Falls new
  awake new up sleeps less = absurd (both_ways (is_asleep (at new.table pid)) up sleeps)

  by_reply : (before new : KernelState S) (after : S) (reply : Reply) → new ≡ answered before pid after reply → Falls new
  by_reply before new after reply is = subst Falls (sym is) (awake (answered before pid after reply) (answered_awake before.table pid after reply))

  by_mark : (new : KernelState S) (after : S) (full : Full) → new ≡ refused_for k pid after full → Falls new
  by_mark new after full is = subst Falls (sym is) (awake (refused_for k pid after full) (answered_awake k.table pid after Refused))

  by_wake : (before new : KernelState S) (after : S) (reply : Reply) (c : Channel) → new ≡ wakes c (answered before pid after reply) → Falls new
  by_wake before new after reply c is =
      subst Falls (sym is) (awake (wakes c (answered before pid after reply)) (woken_too c (readied before.table pid after reply) pid (answered_awake before.table pid after reply)))

  by_sleep : (new : KernelState S) (c : Channel) (put : ℕ) → new ≡ sleeps k pid c put → Falls new
  by_sleep new c put is = subst Falls (sym is) (λ asleep less. one_more k.table pid h p c put there runs_there)

  by_exit : (before new : KernelState S) → new ≡ ended pid before → Falls new
  by_exit before new is = subst Falls (sym is) (awake (ended pid before) (exited_awake before.table pid))

  -- nobody waits for bytes of a pipe that is full
  no_reader : (id : ℕ) (pipe : PipeState) → pipe_of k.pipes id ≡ Some pipe → room pipe ≡ 0 → (q : ℕ) (d : Channel) → same_channel (PipeBytes id) d ≡ true → SleepsOn (at k.table q) d → ⊥
  no_reader id pipe found full q (PipeBytes other) same sleeps =
      let w : IsThere WaitsForBytes k.pipes other = wait q (PipeBytes other) sleeps in
      let one : Some w.pipe ≡ Some pipe = sym w.found ∙ ap (λ (n : ℕ). pipe_of k.pipes n) (sym (eqb-true id other same)) ∙ found in
      let it : w.pipe ≡ pipe = cc in
      let empty : length pipe.bytes ≡ 0 = ap (λ (x : PipeState). length x.bytes) (sym it) ∙ ap length w.holds.empty in
      omega (arith, full, empty)
  no_reader id pipe found full q (PipeRoom other) same sleeps = absurd (let z : ⊥ = cc in z)
  no_reader id pipe found full q (Children other) same sleeps = absurd (let z : ⊥ = cc in z)

  none_there : (id put : ℕ) (pipe : PipeState) → pipe_of k.pipes id ≡ Some pipe → room pipe ≡ 0 → (q : ℕ) → is_asleep_on (PipeBytes id) (at (slept k.table pid (PipeRoom id) put) q) ≡ false
  none_there id put pipe found full q = by (cases_eq q pid) where
    other : (b : Bool) → is_asleep_on (PipeBytes id) (at k.table q) ≡ b → b ≡ false
    other false is = refl
    other true is = let one = found_there (PipeBytes id) (at k.table q) is in absurd (no_reader id pipe found full q one.0 one.1.1 one.1.0)

    by : (q ≡ pid) ⊎ (q ≢ pid) → is_asleep_on (PipeBytes id) (at (slept k.table pid (PipeRoom id) put) q) ≡ false
    by (inl same) =
        ap (λ (n : ℕ). is_asleep_on (PipeBytes id) (at (slept k.table pid (PipeRoom id) put) n)) same
        ∙ ap (is_asleep_on (PipeBytes id)) (written (put_to_sleep (PipeRoom id) put) refl k.table pid ∙ ap (put_to_sleep (PipeRoom id) put) there)
    by (inr apart) =
        ap (is_asleep_on (PipeBytes id)) (kept k.table pid q (put_to_sleep (PipeRoom id) put (at k.table pid)) apart) ∙ other (is_asleep_on (PipeBytes id) (at k.table q)) refl

  by_put : (before new : KernelState S) (id n : ℕ) (pipe : PipeState) → before.table ≡ k.table → pipe_of k.pipes id ≡ Some pipe → room pipe ≡ n → new ≡ wakes (PipeBytes id) (sleeps before pid (PipeRoom id) (put_of (at k.table pid) + n)) → Falls new
  by_put before new id n pipe same found space is asleep less =
      let put = put_of (at k.table pid) + n in
      let table : new.table ≡ all_woken (PipeBytes id) (slept k.table pid (PipeRoom id) put) = ap (λ (x : KernelState S). x.table) is ∙ ap (λ (t : Table S). all_woken (PipeBytes id) (slept t pid (PipeRoom id) put)) same in
      let stays : put_of (at new.table pid) ≡ put = ap (λ (t : Table S). put_of (at t pid)) table ∙ put_then k.table pid p (PipeBytes id) (PipeRoom id) put there in
      let none : n ≡ 0 = none_more (put_of (at k.table pid)) n (ap (nat_lt (put_of (at k.table pid))) (sym stays) ∙ less) in
      omega (
        arith,
        ap (count_by is_asleep) table,
        wake_asleep (PipeBytes id) (slept k.table pid (PipeRoom id) put),
        none_pass (is_asleep_on (PipeBytes id)) (slept k.table pid (PipeRoom id) put) (none_there id put pipe found (space ∙ none)),
        one_more k.table pid h p (PipeRoom id) put there runs_there,
      )

  pub falls : (after : S) (call : Call) (new : KernelState S) → Outcome k pid after call new → Falls new
  falls after call new (refused is) = by_reply k new after Refused is
  falls after call new (lacks full is) = by_mark new after full is
  falls after call new (forks child called free is) = by_reply _ new after _ is
  falls after call new (runs called is) = by_reply k new after _ is
  falls after call new (exits called ne is) = by_exit _ new is
  falls after call new (reaps child called found is) = by_reply _ new after _ is
  falls after call new (waits child called none found is) = by_sleep new _ _ is
  falls after call new (opens name mode fd called is) = by_reply _ new after _ is
  falls after call new (opens_empty name mode fd called is) = by_reply _ new after _ is
  falls after call new (closes fd called is) = by_reply _ new after _ is
  falls after call new (dups fd entry place called held free is) = by_reply _ new after _ is
  falls after call new (pipes reader writer called free is) = by_reply _ new after _ is
  falls after call new (reads_input n read is) = by_reply _ new after _ is
  falls after call new (reads_file name mode entry n got read is) = by_reply _ new after _ is
  falls after call new (takes id n pipe read found some is) = by_wake _ new after _ (PipeRoom id) is
  falls after call new (waits_for_bytes id pipe read found none writer is) = by_sleep new _ _ is
  falls after call new (meets_end id pipe read found none closed is) = by_reply k new after _ is
  falls after call new (tells b wrote is) = by_reply _ new after _ is
  falls after call new (complains b wrote is) = by_reply _ new after _ is
  falls after call new (writes_over name mode entry b bytes wrote is) = by_reply _ new after _ is
  falls after call new (appends name mode entry b bytes wrote is) = by_reply _ new after _ is
  falls after call new (puts_all id pipe b wrote found all is) = by_wake _ new after _ (PipeBytes id) is
  falls after call new (puts_part id n pipe b wrote found reader space part more is) = by_put _ new id n pipe refl found space is
