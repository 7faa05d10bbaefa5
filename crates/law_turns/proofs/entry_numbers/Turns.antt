-- Whatever turns one kernel can take, one that is the same but for the numbers of its entries can take.
use Rattle.std.proofs.Common.{◌≡◌, ℕ, ◌+◌, List, [], ◌∷◌, true, Option, Some, None, refl, sym, ap, subst, ◌∙◌}
use Rattle.user_calls.specs.declared.calls.Call.{Call}
use Rattle.user_calls.specs.declared.calls.Reply.{Reply}
use Rattle.proc_table.specs.declared.states.Status.TheVariants.{Running}
use Rattle.proc_table.specs.Slots.{Slot, Process, at, is_runnable, is_runnable_status, is_running}
use Rattle.proc_table.specs.Calls.{dispatched, with_status}
use Rattle.proc_table.proofs.Changes.{written}
use Rattle.std.specs.Prelude.{count_by}
use Rattle.kernel_model.specs.declared.events.Event.TheVariants.{Trap}
use Rattle.kernel_model.specs.KernelState.{KernelState}
use Rattle.kernel_model.specs.Events.{counted, then_happens}
use Rattle.kernel_model.specs.Sound.{IsMid}
use Rattle.kernel_model.proofs.Keeps.{mid}
use Rattle.kernel_model.proofs.Lasting.{no_run}
use Rattle.kernel_model.proofs.Sound.{dispatch_sound}
use Rattle.kernel_model.specs.Alike.{IsStill}
use Rattle.kernel_model.specs.Turns.{Turn, by_turns, turn_events, turn_notes}
use Rattle.law_turns.proofs.orders.Back.{could_turn}
use Rattle.law_turns.proofs.orders.Follow.{given_0, after_turn, given_happens, turn_happens, turn_still}
use Rattle.kernel_model.specs.Numbers.{SameButNumbers, renumbered_slot, renumbered_fds}
use Rattle.law_turns.specs.Taken.{IsTakenToo}
use Rattle.law_turns.proofs.entry_numbers.Acted.{acted_same}
use Rattle.law_turns.proofs.entry_numbers.Numberings.{same_back}
use Rattle.law_turns.proofs.entry_numbers.Still.{outcome_so, slots_so, still_so}
use Rattle.law_turns.proofs.entry_numbers.Tables.{dispatch_table}

-- the kernels after a dispatch
given_so : {S : Type 0} (k l : KernelState S) (pid : ℕ) → SameButNumbers k l → SameButNumbers (counted (given_0 k pid)) (counted (given_0 l pid))
given_so k l pid a =
    let to = a.numbering.to in
    record {
      numbering = a.numbering;
      is = record {
        entries = a.is.entries;
        rest =
            (λ i. record k { table = sym (dispatch_table to k.table pid 0) i; entries = l.entries; events = k.events + 1 + 1 }) ∙
            ap (λ (j : KernelState _). counted (given_0 j pid)) a.is.rest;
      };
    }

given_mid : {S : Type 0} (k : KernelState S) (pid : ℕ) (p : Process S) → IsStill k → at k.table pid ≡ Some p → IsMid (count_by is_running (dispatched k.table pid 0)) (dispatched k.table pid 0) k.entries pid
given_mid k pid p still there =
    mid (dispatched k.table pid 0) k.entries pid (dispatch_sound k.table pid 0 k.entries still.sound) (ap is_running (written (with_status (Running 0)) refl k.table pid ∙ ap (with_status (Running 0)) there))

module _ {S : Type 0} (call : S → Reply → Call) (next : S → Reply → S) where
  turn_is : (k : KernelState S) (t : Turn) (p : Process S) → IsStill k → at k.table t.pid ≡ Some p → is_runnable_status p.status ≡ true → by_turns call next (Some k) (t ∷ []) ≡ Some (after_turn call next k t.pid p t.refused)
  turn_is k t p still there ready =
      ap (λ (o : Option (KernelState S)). then_happens call next o (Trap 0 t.pid) t.refused) (given_happens call next k t.pid p t.refused still there ready) ∙ turn_happens call next k t.pid p t.refused still there ready

  -- both take the turn of the process
  taken_by : (k l m : KernelState S) (t : Turn) (x : Slot S) → at k.table t.pid ≡ x → is_runnable x ≡ true → IsStill k → SameButNumbers k l → by_turns call next (Some k) (t ∷ []) ≡ Some m → IsTakenToo call next l (t ∷ []) m
  taken_by k l m t None there ready still a is = absurd (let z : ⊥ = cc in z)
  taken_by k l m t (Some p) there ready still a is =
      let q : Process S = record p { fds = renumbered_fds a.numbering.to p.fds } in
      let there_l : at l.table t.pid ≡ Some q = slots_so k l t.pid a ∙ ap (renumbered_slot a.numbering.to) there in
      let still_l = still_so k l a still in
      let both : SameButNumbers (after_turn call next k t.pid p t.refused) (after_turn call next l t.pid q t.refused) =
      acted_same (counted (given_0 k t.pid)) (counted (given_0 l t.pid)) _ t.pid (next p.machine p.reply) (call p.machine p.reply) t.refused (given_mid k t.pid p still there) (given_so k l t.pid a) in
      let now : Some (after_turn call next k t.pid p t.refused) ≡ Some m = sym (turn_is k t p still there ready) ∙ is in
      let same : after_turn call next k t.pid p t.refused ≡ m = cc in
      let then_same = subst (λ (j : KernelState S). SameButNumbers j (after_turn call next l t.pid q t.refused)) same both in
      record {
        last = after_turn call next l t.pid q t.refused;
        turns = turn_is l t q still_l there_l ready;
        same = then_same;
        still = turn_still call next l t.pid q t.refused still_l there_l ready;
        outcome = outcome_so m (after_turn call next l t.pid q t.refused) then_same;
      }

  pub one_taken : (k l m : KernelState S) (t : Turn) → IsStill k → SameButNumbers k l → by_turns call next (Some k) (t ∷ []) ≡ Some m → IsTakenToo call next l (t ∷ []) m
  one_taken k l m t still a is = taken_by k l m t (at k.table t.pid) refl (could_turn call next k t (m, is)) still a is

  -- after the first turn
  taken_more : (l m : KernelState S) (t : Turn) (ts : List Turn) (j : KernelState S) (one : IsTakenToo call next l (t ∷ []) j) → IsTakenToo call next one.last ts m → IsTakenToo call next l (t ∷ ts) m
  taken_more l m t ts j one later =
      record {
        last = later.last;
        turns = ap (λ (o : Option (KernelState S)). by_turns call next o ts) one.turns ∙ later.turns;
        same = later.same;
        still = later.still;
        outcome = later.outcome;
      }

  pub all_taken : (k l m : KernelState S) (ts : List Turn) → IsStill k → SameButNumbers k l → by_turns call next (Some k) ts ≡ Some m → IsTakenToo call next l ts m
  all_taken k l m [] still a is =
      let here : k ≡ m = cc in
      let same = subst (λ (j : KernelState S). SameButNumbers j l) here a in
      record { last = l; turns = refl; same = same; still = still_so k l a still; outcome = outcome_so m l same }
  all_taken k l m (t ∷ ts) still a is = by (by_turns call next (Some k) (t ∷ [])) refl (λ j i. all_taken j i m ts) is where
    by : (o : Option (KernelState S)) → by_turns call next (Some k) (t ∷ []) ≡ o → ((j i : KernelState S) → IsStill j → SameButNumbers j i → by_turns call next (Some j) ts ≡ Some m → IsTakenToo call next i ts m) → by_turns call next o ts ≡ Some m → IsTakenToo call next l (t ∷ ts) m
    by None first on rest = absurd (no_run call next (turn_events ts) (turn_notes ts) m rest)
    by (Some j) first on rest =
        let one = one_taken k l j t still a first in
        taken_more l m t ts j one (on j one.last (still_so one.last j (same_back j one.last one.same) one.still) one.same rest)
