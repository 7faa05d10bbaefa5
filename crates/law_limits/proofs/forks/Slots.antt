-- Let each process count itself and those that it still forks, itself and through these. Where all of them together are no more than there
-- are slots, it stays so; and whoever forks finds a free one.
use Rattle.std.proofs.Common.{◌≡◌, ℕ, zero, suc, ◌+◌, ◌≤◌, [], ◌∷◌, Some, None, refl, ap, arith}
use Rattle.std.specs.Prelude.{count_by, cond, length, IsSome}
use Rattle.std.proofs.lemmas.List.Sums.{sum_by-cons}
use Rattle.user_calls.specs.declared.calls.Call.{Call}
use Rattle.user_calls.specs.declared.calls.Reply.{Reply}
use Rattle.user_calls.specs.declared.calls.Reply.TheVariants.{Child, Done}
use Rattle.fd_table.proofs.Free.{found}
use Rattle.proc_table.specs.declared.pid.TheConstants.{PROCS}
use Rattle.proc_table.specs.Slots.{Slot, Table, at, is_free}
use Rattle.proc_table.specs.Calls.{lowest_free}
use Rattle.kernel_model.specs.KernelState.{KernelState}
use Rattle.kernel_model.specs.Alike.{IsStill}
use Rattle.kernel_model.specs.Turns.{after_turn}
use Rattle.kernel_model.specs.Giving.{FindsSlotNext, HasSlotsAhead}
use Rattle.law_turns.proofs.private_turns.Begun.{after_still}
use Rattle.law_limits.proofs.opens.Left.{IsPaidOnce, IsSpent, slot_left, table_left, turn_spends, turns_keep}

-- no call costs anything: what is counted is forked only at a reply
abbrev pub nothing : Call → ℕ
nothing made = 0

paid_once : IsPaidOnce nothing
paid_once = record { exits = refl; waits = refl; reads = λ fd n. refl; writes = λ fd b. refl }

module _ {S : Type 0} (call : S → Reply → Call) (next : S → Reply → S) (ahead : S → ℕ) (each : (m : S) → 1 ≤ ahead m) where
  abbrev of_slot : Slot S → ℕ
  of_slot x = slot_left call next nothing ahead x

  abbrev of_table : Table S → ℕ
  of_table t = table_left call next nothing ahead t

  abbrev one_if_free : Slot S → ℕ
  one_if_free x = cond {A = ℕ} (is_free x) 1 0

  -- a slot is free, or its process counts itself
  one_each : (x : Slot S) → 1 ≤ one_if_free x + of_slot x
  one_each None = omega arith
  one_each (Some y) = omega (arith, each (next y.machine y.reply))

  all_count : (t : Table S) → length t ≤ count_by is_free t + of_table t
  all_count [] = omega arith
  all_count (x ∷ t) = omega (arith, sum_by-cons one_if_free x t, sum_by-cons of_slot x t, one_each x, all_count t)

  one_counts_more : (t : Table S) (q : ℕ) → length t + of_slot (at t q) ≤ count_by is_free t + of_table t + 1
  one_counts_more [] q = omega arith
  one_counts_more (x ∷ t) zero = omega (arith, sum_by-cons one_if_free x t, sum_by-cons of_slot x t, all_count t)
  one_counts_more (x ∷ t) (suc q) = omega (arith, sum_by-cons one_if_free x t, sum_by-cons of_slot x t, one_each x, one_counts_more t q)

  none_free : (t : Table S) → lowest_free t ≡ None → count_by is_free t ≡ 0
  none_free t none = by (count_by is_free t) refl where
    by : (n : ℕ) → count_by is_free t ≡ n → count_by is_free t ≡ 0
    by zero is = is
    by (suc n) is =
        let some : IsSome (lowest_free t) = (found is_free t).1 (omega (arith, is)) in
        absurd (let z : ⊥ = cc in z)

  -- a kernel between two turns, in which all processes and those that they still fork are no more than there are slots
  record HasEnough (k : KernelState S) : Type 0 where
    still : IsStill k
    enough : of_table k.table ≤ PROCS

  module _ (spent : IsSpent call next nothing ahead) where
    turn_enough : (k now : KernelState S) (q : ℕ) → IsStill k → HasEnough k → after_turn call next k q ≡ Some now → HasEnough now
    turn_enough k now q still has it =
        record { still = after_still call next k now q still it; enough = omega (arith, (turn_spends call next nothing ahead paid_once spent k now q still it).costs, has.enough) }

    finds_slot : (k : KernelState S) (q : ℕ) → HasEnough k → FindsSlotNext call next k q
    finds_slot k q has y there forks none =
        let after = next y.machine y.reply in
        let two : 2 ≤ of_slot (at k.table q) = omega (arith, ap of_slot there, spent.splits y.machine y.reply forks, each (next after Child), each (next after Done)) in
        let over : PROCS + 2 ≤ PROCS + 1 = omega (arith, two, one_counts_more k.table q, none_free k.table none, has.still.sound.slots, has.enough) in
        let z : ⊥ = omega (arith, over) in
        z

    pub slots_ahead : (k : KernelState S) → IsStill k → of_table k.table ≤ PROCS → HasSlotsAhead call next k
    slots_ahead k still few pids m q it = finds_slot m q (turns_keep call next nothing ahead HasEnough turn_enough k m pids still (record { still = still; enough = few }) it)
