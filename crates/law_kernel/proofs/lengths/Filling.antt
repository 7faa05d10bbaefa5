-- A write that puts a part leaves its pipe full: so calls that do more are paid for by pipes with room and by calls that don't sleep.
use Rattle.std.proofs.Common.{◌≡◌, ℕ, ◌+◌, ◌*◌, ◌<◌, ◌≤◌, List, [], ◌∷◌, Bool, true, false, Option, Some, None, length, take, refl, sym, ap, ◌∙◌, subst, arith, length-append}
use Rattle.std.proofs.lemmas.Bool.{both_ways, ltb-true}
use Rattle.std.proofs.lemmas.List.{length-take}
use Rattle.std.specs.Prelude.{nat_lt, not, ◌&&◌, if◌then◌else◌}
use Rattle.fd_table.specs.declared.descriptors.TheConstants.{DESCRIPTORS}
use Rattle.fd_table.specs.declared.names.Object.TheVariants.{File, PipeRead, PipeWrite}
use Rattle.user_calls.specs.declared.calls.Call.{Call}
use Rattle.user_calls.specs.declared.calls.Reply.{Reply}
use Rattle.user_calls.specs.declared.calls.Reply.TheVariants.{Refused}
use Rattle.byte_pipe.specs.PipeState.{PipeState, room, appended, after_put, after_take}
use Rattle.proc_table.specs.declared.states.Channel.{Channel}
use Rattle.proc_table.specs.declared.states.Channel.TheVariants.{PipeBytes, PipeRoom}
use Rattle.proc_table.specs.Slots.{Slot, Table, Process, at, put_of, is_asleep, is_running_on, tally}
use Rattle.proc_table.specs.Calls.{all_woken, readied, slept, put_to_sleep}
use Rattle.proc_table.proofs.Changes.{written}
use Rattle.kernel_model.specs.declared.events.Event.{Event}
use Rattle.kernel_model.specs.declared.events.Event.TheVariants.{Dispatch, Trap}
use Rattle.kernel_model.specs.declared.events.Full.{Full}
use Rattle.kernel_model.specs.KernelState.{KernelState}
use Rattle.kernel_model.specs.Pipes.{Pipes, pipe_of, with_pipe, with_new}
use Rattle.kernel_model.specs.Processes.{ended}
use Rattle.kernel_model.specs.Replies.{answered, refused_for, sleeps, wakes}
use Rattle.kernel_model.specs.Descriptors.{closed, closed_below, with_reader, with_ends}
use Rattle.kernel_model.specs.Modes.{entry_mode}
use Rattle.kernel_model.specs.Opening.{with_bytes}
use Rattle.kernel_model.specs.Events.{acted, can_dispatch, counted, happens, trapped}
use Rattle.law_kernel.specs.Outcome.{Outcome, left_of, refused, lacks, forks, runs, exits, reaps, waits, opens, opens_empty, closes, dups, pipes, reads_input, reads_file, takes, waits_for_bytes, meets_end, tells, complains, writes_over, appends, puts_all, puts_part}
use Rattle.law_kernel.proofs.outcomes.Outcomes.{every_call_ends}
use Rattle.law_kernel.specs.Kinds.{does_more, stays_awake, fell_asleep, count_event, count_events}
use Rattle.law_kernel.proofs.lengths.Asleep.{answered_awake, woken_too, exited_awake, put_then}
use Rattle.law_kernel.proofs.lengths.Rooms.{has_room, roomy, roomy_with, roomy_new, closed_roomy, closed_below_roomy, open_roomy}

-- what a slot has put, once it sleeps with nothing put
put_none : {S : Type 0} (c : Channel) (x : Slot S) → put_of (put_to_sleep c 0 x) ≡ 0
put_none c None = refl
put_none c (Some p) = refl

nothing_put : {S : Type 0} (t : Table S) (pid : ℕ) (c : Channel) → put_of (at (slept t pid c 0) pid) ≡ 0
nothing_put t pid c = ap put_of (written (put_to_sleep c 0) refl t pid) ∙ put_none c (at t pid)

-- a pipe that takes as many bytes as it has room for is full
filled : (p : PipeState) (xs : List ℕ) → appended p xs ≡ take (room p) xs → room p < length xs → has_room (after_put p xs) ≡ 0
filled p xs all more =
    omega (arith, length-append p.bytes (appended p xs), ap length all, length-take (room p) xs, more)

more_by : (a g : Bool) (now was : ℕ) → (a ≡ false → now ≤ was + 1) → (a ≡ true → now + tally g ≤ was) → tally (not (a && not g)) + now ≤ was + 2 * tally (not a)
more_by false g now was up down = omega (arith, up refl)
more_by true false now was up down = omega (arith, down refl)
more_by true true now was up down = omega (arith, down refl)

module _ {S : Type 0} (k : KernelState S) (pid : ℕ) where
  -- what a call of pid spends
  abbrev pub Fills : KernelState S → Type 0
  Fills new = tally (not (fell_asleep k pid new)) + roomy new.pipes ≤ roomy k.pipes + 2 * tally (not (is_asleep (at new.table pid)))

  awake : (new : KernelState S) → is_asleep (at new.table pid) ≡ false → roomy new.pipes ≤ roomy k.pipes + 1 → Fills new
  awake new up few =
      more_by (is_asleep (at new.table pid)) (nat_lt (put_of (at k.table pid)) (put_of (at new.table pid))) (roomy new.pipes) (roomy k.pipes) (λ _. few)
      (λ down. absurd (both_ways (is_asleep (at new.table pid)) up down))

  by_reply : (before new : KernelState S) (after : S) (reply : Reply) → roomy before.pipes ≤ roomy k.pipes + 1 → new ≡ answered before pid after reply → Fills new
  by_reply before new after reply few is = subst Fills (sym is) (awake (answered before pid after reply) (answered_awake before.table pid after reply) few)

  by_mark : (new : KernelState S) (after : S) (full : Full) → new ≡ refused_for k pid after full → Fills new
  by_mark new after full is = subst Fills (sym is) (awake (refused_for k pid after full) (answered_awake k.table pid after Refused) (omega arith))

  by_wake : (before new : KernelState S) (after : S) (reply : Reply) (c : Channel) → roomy before.pipes ≤ roomy k.pipes + 1 → new ≡ wakes c (answered before pid after reply) → Fills new
  by_wake before new after reply c few is =
      subst Fills (sym is) (awake (wakes c (answered before pid after reply)) (woken_too c (readied before.table pid after reply) pid (answered_awake before.table pid after reply)) few)

  by_exit : (before new : KernelState S) → roomy before.pipes ≤ roomy k.pipes → new ≡ ended pid before → Fills new
  by_exit before new few is = subst Fills (sym is) (awake (ended pid before) (exited_awake before.table pid) (omega (arith, few)))

  by_sleep : (new : KernelState S) (c : Channel) → new ≡ sleeps k pid c 0 → Fills new
  by_sleep new c is =
      subst Fills (sym is)
      (more_by (is_asleep (at (slept k.table pid c 0) pid)) (nat_lt (put_of (at k.table pid)) (put_of (at (slept k.table pid c 0) pid))) (roomy k.pipes) (roomy k.pipes) (λ _. omega arith) (λ _. none (nat_lt (put_of (at k.table pid)) (put_of (at (slept k.table pid c 0) pid))) refl)) where
        none : (g : Bool) → nat_lt (put_of (at k.table pid)) (put_of (at (slept k.table pid c 0) pid)) ≡ g → roomy k.pipes + tally g ≤ roomy k.pipes
        none false less = omega arith
        none true less = absurd (omega (arith, ltb-true (put_of (at k.table pid)) (put_of (at (slept k.table pid c 0) pid)) less, nothing_put k.table pid c))

  -- a part: the pipe had room for it, and has none then
  module _ (id n : ℕ) (p : PipeState) (b : List ℕ) (q : Process S) (there : at k.table pid ≡ Some q) (found : pipe_of k.pipes id ≡ Some p) (space : room p ≡ n) (part : appended p (left_of k pid b) ≡ take n (left_of k pid b)) (more : n < length (left_of k pid b)) where
    abbrev then_pipes : Pipes
    then_pipes = with_pipe k.pipes id (after_put p (left_of k pid b))

    abbrev then_table : Table S
    then_table = all_woken (PipeBytes id) (slept k.table pid (PipeRoom id) (put_of (at k.table pid) + n))

    full_then : has_room (after_put p (left_of k pid b)) ≡ 0
    full_then = filled p (left_of k pid b) (part ∙ ap (λ m. take m (left_of k pid b)) (sym space)) (omega (arith, space, more))

    one_less : roomy then_pipes + has_room p ≡ roomy k.pipes
    one_less = omega (arith, roomy_with k.pipes id p (after_put p (left_of k pid b)) found, full_then)

    put_more : (g : Bool) → nat_lt (put_of (at k.table pid)) (put_of (at then_table pid)) ≡ g → roomy then_pipes + tally g ≤ roomy k.pipes
    put_more false less = omega (arith, one_less)
    put_more true less =
        omega (arith, one_less, space, ltb-true (put_of (at k.table pid)) (put_of (at then_table pid)) less, put_then k.table pid q (PipeBytes id) (PipeRoom id) (put_of (at k.table pid) + n) there)

    by_part : (new : KernelState S) → new ≡ wakes (PipeBytes id) (sleeps (record k { pipes = then_pipes }) pid (PipeRoom id) (put_of (at k.table pid) + n)) → Fills new
    by_part new is =
        subst Fills (sym is)
        (more_by (is_asleep (at then_table pid)) (nat_lt (put_of (at k.table pid)) (put_of (at then_table pid))) (roomy then_pipes) (roomy k.pipes) (λ _. omega (arith, one_less))
        (λ _. put_more (nat_lt (put_of (at k.table pid)) (put_of (at then_table pid))) refl))

  changed : (id : ℕ) (p now : PipeState) → pipe_of k.pipes id ≡ Some p → roomy (with_pipe k.pipes id now) ≤ roomy k.pipes + 1
  changed id p now found = omega (arith, roomy_with k.pipes id p now found)

  both_ends : roomy (with_ends k pid k.events).pipes ≤ roomy k.pipes + 1
  both_ends = omega (arith, open_roomy pid (with_reader k pid k.events) (PipeWrite k.events), open_roomy pid (record k { pipes = with_new k.pipes k.events }) (PipeRead k.events), roomy_new k.pipes k.events)

  few : roomy k.pipes ≤ roomy k.pipes + 1
  few = omega arith

  pub fills : (q : Process S) → at k.table pid ≡ Some q → (after : S) (call : Call) (new : KernelState S) → Outcome k pid after call new → Fills new
  fills q there after call new (refused is) = by_reply k new after Refused few is
  fills q there after call new (lacks full is) = by_mark new after full is
  fills q there after call new (forks child called free is) = by_reply _ new after _ few is
  fills q there after call new (runs called is) = by_reply k new after _ few is
  fills q there after call new (exits called ne is) = by_exit (closed_below k pid DESCRIPTORS) new (closed_below_roomy pid k DESCRIPTORS) is
  fills q there after call new (reaps child called found is) = by_reply _ new after _ few is
  fills q there after call new (waits child called none found is) = by_sleep new _ is
  fills q there after call new (opens name mode fd called is) = by_reply _ new after _ (omega (arith, open_roomy pid k (File name (entry_mode mode)))) is
  fills q there after call new (opens_empty name mode fd called is) = by_reply _ new after _ (omega (arith, open_roomy pid (with_bytes k name []) (File name (entry_mode mode)))) is
  fills q there after call new (closes fd called is) = by_reply _ new after _ (omega (arith, closed_roomy pid k fd)) is
  fills q there after call new (dups fd entry place called held free is) = by_reply _ new after _ few is
  fills q there after call new (pipes reader writer called free is) = by_reply _ new after _ both_ends is
  fills q there after call new (reads_input n read is) = by_reply _ new after _ few is
  fills q there after call new (reads_file name mode entry n got read is) = by_reply _ new after _ few is
  fills q there after call new (takes id n p read found some is) = by_wake _ new after _ (PipeRoom id) (changed id p (after_take p n) found) is
  fills q there after call new (waits_for_bytes id p read found none writer is) = by_sleep new _ is
  fills q there after call new (meets_end id p read found none closed is) = by_reply k new after _ few is
  fills q there after call new (tells b wrote is) = by_reply _ new after _ few is
  fills q there after call new (complains b wrote is) = by_reply _ new after _ few is
  fills q there after call new (writes_over name mode entry b bytes wrote is) = by_reply _ new after _ few is
  fills q there after call new (appends name mode entry b bytes wrote is) = by_reply _ new after _ few is
  fills q there after call new (puts_all id p b wrote found all is) = by_wake _ new after _ (PipeBytes id) (changed id p (after_put p (left_of k pid b)) found) is
  fills q there after call new (puts_part id n p b wrote found reader space part more is) = by_part id n p b q there found space part more new is

-- ---- along a run

module _ {S : Type 0} (call : S → Reply → Call) (next : S → Reply → S) where
  abbrev pub roomy_if : Option (KernelState S) → ℕ
  roomy_if None = 0
  roomy_if (Some k) = roomy k.pipes

  -- what an event spends
  abbrev Spends : KernelState S → Event → Option (KernelState S) → Type 0
  Spends k e o = count_event call next does_more k e o + roomy_if o ≤ roomy k.pipes + 2 * count_event call next stays_awake k e o

  spends_where : (k : KernelState S) (e : Event) (b : Bool) (o : Option (KernelState S)) → Spends k e o → Spends k e (if b then o else None)
  spends_where k e true o s = s
  spends_where k e false o s = omega arith

  trap_spends : (k : KernelState S) (h pid : ℕ) (n : Bool) (x : Slot S) → at k.table pid ≡ x → Spends k (Trap h pid) (trapped call next k pid x n)
  trap_spends k h pid n None is = omega arith
  trap_spends k h pid n (Some p) is =
      let after = next p.machine p.reply in
      let c = call p.machine p.reply in
      fills (counted k) pid p is after c (acted (counted k) pid after c n) (every_call_ends (counted k) pid after c n)

  spends : (k : KernelState S) (e : Event) (n : Bool) → Spends k e (happens call next k e n)
  spends k (Dispatch h pid) n = spends_where k (Dispatch h pid) (can_dispatch k.table h pid) (Some _) (omega arith)
  spends k (Trap h pid) n = spends_where k (Trap h pid) (is_running_on h (at k.table pid)) (trapped call next k pid (at k.table pid) n) (trap_spends k h pid n (at k.table pid) refl)

  pub all_spend : (events : List Event) (notes : List Bool) (o : Option (KernelState S)) → count_events call next does_more o events notes ≤ roomy_if o + 2 * count_events call next stays_awake o events notes
  all_spend events notes None = omega arith
  all_spend [] notes (Some k) = omega arith
  all_spend (e ∷ es) [] (Some k) = omega arith
  all_spend (e ∷ es) (n ∷ ns) (Some k) = omega (arith, spends k e n, all_spend es ns (happens call next k e n))
