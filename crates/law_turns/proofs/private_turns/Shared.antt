-- A turn that changes its process's slot and a count of holders can be taken before or after any other process's turn.
use Rattle.std.proofs.Common.{◌≡◌, ◌≢◌, ℕ, ◌+◌, ◌≤◌, true, false, Option, Some, None, refl, sym, ap, subst, ◌∙◌, arith}
use Rattle.std.proofs.Math.ListN.{set}
use Rattle.std.proofs.lemmas.List.{map-set}
use Rattle.std.specs.Prelude.{map, count_by}
use Rattle.user_calls.specs.declared.calls.Call.{Call}
use Rattle.user_calls.specs.declared.calls.Call.TheVariants.{Fork, Exec, Exit, Wait, MakePipe, Read, Write, OpenFile, Close, Dup}
use Rattle.user_calls.specs.declared.calls.Reply.{Reply}
use Rattle.fd_table.specs.Entries.{OpenFile as Entry, Entries, entry_at}
use Rattle.fd_table.specs.Descriptors.{holders_in}
use Rattle.proc_table.specs.declared.states.Status.TheVariants.{Running}
use Rattle.proc_table.specs.Slots.{Process, at, is_free, is_runnable_status, is_running}
use Rattle.proc_table.specs.Calls.{with_status}
use Rattle.proc_table.proofs.Changes.{written, kept}
use Rattle.kernel_model.specs.declared.events.Event.TheVariants.{Dispatch}
use Rattle.kernel_model.specs.KernelState.{KernelState}
use Rattle.kernel_model.specs.Sound.{IsSound}
use Rattle.kernel_model.specs.Descriptors.{closed_below}
use Rattle.kernel_model.specs.Events.{acted, counted}
use Rattle.kernel_model.proofs.Keeps.{mid}
use Rattle.kernel_model.proofs.Closing.{closed_below_mid}
use Rattle.law_kernel.proofs.kernel.SoundRuns.{InOrder, InOrderIf, then_in_order}
use Rattle.kernel_model.specs.Idle.{renamed_entry, idle_kernel}
use Rattle.kernel_model.specs.Alike.{Alike, IsStill, HasNamesUpTo}
use Rattle.kernel_model.specs.Turns.{after_turn}
use Rattle.law_turns.proofs.orders.Entries.{entry_renamed}
use Rattle.law_turns.proofs.orders.Names.{acted_alike}
use Rattle.law_turns.proofs.orders.Follow.{after_turn as turned, given_0, given_happens, turn_still, given_names}
use Rattle.law_turns.proofs.orders.Back.{could_turn}
use Rattle.law_turns.proofs.orders.Turning.{relike}
use Rattle.law_turns.proofs.orders.Booted.{alike_itself}
use Rattle.law_turns.specs.Retold.{Left, retold_slot, retold}
use Rattle.law_turns.proofs.private_turns.Unseen.{status_told}
use Rattle.law_turns.proofs.private_turns.Recount.{Suits, G, recount}
use Rattle.law_turns.proofs.private_turns.Unheld.{IsSafeCall, acted_held}
use Rattle.law_turns.proofs.private_turns.Staying.{Holds, holds_alive, in_own, below_keeps}
use Rattle.law_turns.proofs.private_turns.Holders.{is_open, is_safe}
use Rattle.law_turns.proofs.private_turns.Begun.{after_still}
use Rattle.law_turns.proofs.private_turns.Turned.{idle_told, turn_is, turn_keeps, ready_slot}

renamed_recount : (name φ : ℕ → ℕ) (x : Option Entry) → renamed_entry name (recount φ x) ≡ recount φ (renamed_entry name x)
renamed_recount name φ None = refl
renamed_recount name φ (Some f) = refl

recount_renamed : (name φ : ℕ → ℕ) (e : ℕ) (t : Entries) → map (renamed_entry name) (G φ e t) ≡ G φ e (map (renamed_entry name) t)
recount_renamed name φ e t =
    map-set (renamed_entry name) t e (recount φ (entry_at t e)) ∙ ap (λ (y : Option Entry). set (map (renamed_entry name) t) e y) (renamed_recount name φ (entry_at t e) ∙ ap (recount φ) (sym (entry_renamed name t e)))

-- after a dispatch counts are right
pub given_sound : {S : Type 0} (call : S → Reply → Call) (next : S → Reply → S) (k : KernelState S) (q : ℕ) (y : Process S) → IsStill k → at k.table q ≡ Some y → is_runnable_status y.status ≡ true → IsSound (given_0 k q).table (given_0 k q).entries
given_sound call next k q y still there ready =
    let order : InOrder (given_0 k q) = subst InOrderIf (given_happens call next k q y false still there ready) (then_in_order call next (Some k) (Dispatch 0 q) false (record { sound = still.sound; files = still.files })) in
    order.sound

pub given_runs : {S : Type 0} (k : KernelState S) (q : ℕ) (y : Process S) → at k.table q ≡ Some y → is_running (at (given_0 k q).table q) ≡ true
given_runs k q y there = ap is_running (written (with_status (Running 0)) refl k.table q ∙ ap (with_status (Running 0)) there)

module _ {S : Type 0} (call : S → Reply → Call) (next : S → Reply → S) (p : ℕ) (x : Process S) (left : Left S) (φ : ℕ → ℕ) (e need : ℕ) (suits : Suits φ need) (enough : need ≤ holders_in x.fds e) where
  -- what p's turn changes
  abbrev pub change : KernelState S → KernelState S
  change k = record (retold p left k) { entries = G φ e k.entries }

  abbrev pub changes : KernelState S → KernelState S
  changes k = record (change k) { events = k.events + 1 + 1 }

  change_names : (n : ℕ) (k : KernelState S) → HasNamesUpTo n k → HasNamesUpTo n (change k)
  change_names n k names f g one two agree =
      (λ i. record (idle_kernel f 0 k) { table = idle_told p left f k.table i; entries = recount_renamed f φ e k.entries i }) ∙ ap change (names f g one two agree) ∙
      sym (λ i. record (idle_kernel g 0 k) { table = idle_told p left g k.table i; entries = recount_renamed g φ e k.entries i })

  safe_by : (d : KernelState S) (q : ℕ) (ne : q ≢ p) (after : S) → IsSound d.table d.entries → is_running (at d.table q) ≡ true → Holds x (at d.table p) → (c : Call) → IsSafeCall p left q ne φ e need suits after d c
  safe_by d q ne after sound runs h Fork = tt
  safe_by d q ne after sound runs h (Exec found) = tt
  safe_by d q ne after sound runs h Exit = λ i fd.
      let m = closed_below_mid (count_by is_running d.table) q d i (mid d.table d.entries q sound runs) in
      is_safe e (closed_below d q i).table (closed_below d q i).entries m.sound p need x (below_keeps x p q ne d i h) suits.some enough q i ne fd
  safe_by d q ne after sound runs h Wait = tt
  safe_by d q ne after sound runs h MakePipe = tt
  safe_by d q ne after sound runs h (Read fd n) = tt
  safe_by d q ne after sound runs h (Write fd b) = tt
  safe_by d q ne after sound runs h (OpenFile file mode) = tt
  safe_by d q ne after sound runs h (Close fd) = is_safe e d.table d.entries sound p need x h suits.some enough q fd ne
  safe_by d q ne after sound runs h (Dup fd) = tt

  module _ (own : (l : KernelState S) → IsStill l → Holds x (at l.table p) → after_turn call next l p ≡ Some (changes l)) where
    own_still : (l : KernelState S) → IsStill l → Holds x (at l.table p) → IsStill (changes l)
    own_still l still h = after_still call next l (changes l) p still (own l still h)

    -- what two turns in either order come to is alike
    pub record Either (k l : KernelState S) (q : ℕ) : Type 0 where
      pub first : after_turn call next k p ≡ Some (changes k)
      pub still : IsStill l
      pub holds : Holds x (at l.table p)
      pub second : after_turn call next l p ≡ Some (changes l)
      pub after : KernelState S
      pub third : after_turn call next (changes k) q ≡ Some after
      pub after_still : IsStill after
      pub both_still : IsStill (changes l)
      pub alike : Alike after (changes l)

    either_by : (k : KernelState S) (q : ℕ) (y : Process S) → q ≢ p → IsStill k → Holds x (at k.table p) → at k.table q ≡ Some y → is_runnable_status y.status ≡ true → Either k (turned call next k q y false) q
    either_by k q y ne still h there ready =
        let l : KernelState S = turned call next k q y false in
        let l_still : IsStill l = turn_still call next k q y false still there ready in
        let l_holds : Holds x (at l.table p) = turn_keeps call next k p q x y ne h in
        let a : KernelState S = changes k in
        let a_still : IsStill a = own_still k still h in
        let a_there : at a.table q ≡ Some y = kept k.table p q (retold_slot left (at k.table p)) ne ∙ there in
        let c : KernelState S = turned call next a q y false in
        let c_still : IsStill c = turn_still call next a q y false a_still a_there ready in
        let d : KernelState S = counted (given_0 k q) in
        let names : HasNamesUpTo k.events (change d) = change_names k.events (counted (given_0 k q)) (given_names call next k q y false still there ready) in
        let given : counted (given_0 a q) ≡ record (change d) { events = k.events + 1 + 1 + 1 + 1 } = λ i. record (counted (given_0 a q)) { table = status_told p left q ne k.table (Running 0) i } in
        let alike : Alike c (acted (change d) q (next y.machine y.reply) (call y.machine y.reply) false) =
        subst (λ (m : KernelState S). Alike (acted m q (next y.machine y.reply) (call y.machine y.reply) false) (acted (change d) q (next y.machine y.reply) (call y.machine y.reply) false)) (sym given)
        (acted_alike (record (change d) { events = k.events + 1 + 1 + 1 + 1 }) (change d) k.events k.events q (next y.machine y.reply) (call y.machine y.reply) false names names (omega arith) (omega arith) (relike (change d) (record (change d) { events = k.events + 1 + 1 + 1 + 1 }) (change d) (change d) (alike_itself (change d)) refl refl)) in
        let d_holds : Holds x (at d.table p) = in_own x p q ne k.table _ h in
        let d_sound : IsSound d.table d.entries = given_sound call next k q y still there ready in
        let d_runs : is_running (at d.table q) ≡ true = given_runs k q y there in
        let same : acted (change d) q (next y.machine y.reply) (call y.machine y.reply) false ≡ change l =
        acted_held p left q ne φ e need suits (next y.machine y.reply) d (call y.machine y.reply) false (ap is_free d_holds.there) (holds_alive x (at d.table p) d_holds)
        (is_open e d.table d.entries d_sound p need x d_holds suits.some enough) (safe_by d q ne (next y.machine y.reply) d_sound d_runs d_holds (call y.machine y.reply)) in
        let alike_l : Alike c (change l) = subst (λ (m : KernelState S). Alike c m) same alike in
        record {
          first = own k still h;
          still = l_still;
          holds = l_holds;
          second = own l l_still l_holds;
          after = c;
          third = turn_is call next a q y a_still a_there ready;
          after_still = c_still;
          both_still = own_still l l_still l_holds;
          alike = relike c c (change l) (changes l) alike_l refl refl;
        }

    pub either : (k l : KernelState S) (q : ℕ) → q ≢ p → IsStill k → Holds x (at k.table p) → after_turn call next k q ≡ Some l → Either k l q
    either k l q ne still h second =
        let r = ready_slot (at k.table q) (could_turn call next k (record { pid = q; refused = false }) (l, second)) in
        let both : Some (turned call next k q r.process false) ≡ Some l = sym (turn_is call next k q r.process still r.there r.ready) ∙ second in
        let same : turned call next k q r.process false ≡ l = cc in
        subst (λ (m : KernelState S). Either k m q) same (either_by k q r.process ne still h r.there r.ready)
