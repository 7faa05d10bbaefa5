-- A process's slot with another machine, reply and count of bytes put: closes of the process, and calls of others, don't see it.
use Rattle.std.proofs.Common.{◌≡◌, ◌≢◌, ℕ, ◌+◌, false, Option, Some, None, refl, sym, ap, subst, ◌∙◌}
use Rattle.std.proofs.Math.ListN.{set}
use Rattle.std.proofs.lemmas.List.{map-set, set_comm}
use Rattle.std.specs.Prelude.{map, Result, Ok, Err}
use Rattle.user_calls.specs.declared.calls.Call.{Call}
use Rattle.user_calls.specs.declared.calls.Call.TheVariants.{Close}
use Rattle.user_calls.specs.declared.calls.Reply.{Reply}
use Rattle.fd_table.specs.declared.faults.FdFault.{FdFault}
use Rattle.fd_table.specs.declared.names.Object.{Object}
use Rattle.fd_table.specs.declared.names.Object.TheVariants.{Input, Out, Diag, File, PipeRead, PipeWrite}
use Rattle.fd_table.specs.Descriptors.{Descriptors, entry_of, close_answer, after_close, released_by_close}
use Rattle.proc_table.specs.declared.states.Channel.{Channel}
use Rattle.proc_table.specs.declared.states.Channel.TheVariants.{PipeBytes, PipeRoom}
use Rattle.proc_table.specs.declared.states.Status.{Status}
use Rattle.proc_table.specs.declared.states.Status.TheVariants.{Runnable, Running}
use Rattle.proc_table.specs.Slots.{Slot, Table, Process, at, is_free}
use Rattle.proc_table.specs.Calls.{dispatched, with_status, with_fds, fds_set, made_ready, woken}
use Rattle.proc_table.proofs.Changes.{written, kept, mapped}
use Rattle.kernel_model.specs.KernelState.{KernelState, fds_of, fds_at}
use Rattle.kernel_model.specs.Pipes.{pipe_of, reader_gone, writer_gone}
use Rattle.kernel_model.specs.Descriptors.{let_go, let_go_of, taken_away, closed, close, close_reply}
use Rattle.kernel_model.specs.Events.{acted, counted}
use Rattle.kernel_model.specs.Idle.{idle_slot, idle_kernel}
use Rattle.kernel_model.specs.Alike.{IsOneToOne}
use Rattle.kernel_model.specs.Woke.{woke_slot, woke_table, woke}
use Rattle.kernel_model.specs.Numbers.{SameButNumbers, renumbered_slot}
use Rattle.kernel_model.specs.Anyhow.{AlikeAnyhow}
use Rattle.law_turns.proofs.orders.Calls.{acted_idle}
use Rattle.law_turns.proofs.orders.Follow.{after_turn as turned, given_0}
use Rattle.law_turns.specs.Retold.{Left, retold_slot, retold_table}
use Rattle.law_turns.proofs.private_turns.Staying.{Holds, holds_alive, in_own}
use Rattle.law_turns.proofs.private_turns.Turned.{set_twice, turn_keeps}
use Rattle.law_turns.proofs.private_turns.Unheard.{acted_told}
use Rattle.law_turns.proofs.private_turns.Wakes.{closed_told}
use Rattle.law_turns.proofs.entry_numbers.Calls.{closed_so}

-- ---- the count of events isn't seen by a close

let_go_events : {S : Type 0} (k : KernelState S) (n : ℕ) (r : Result (Option Object) FdFault) → let_go_of (record k { events = n }) r ≡ record (let_go_of k r) { events = n }
let_go_events k n (Err fault) = refl
let_go_events k n (Ok None) = refl
let_go_events k n (Ok (Some Input)) = refl
let_go_events k n (Ok (Some Out)) = refl
let_go_events k n (Ok (Some Diag)) = refl
let_go_events k n (Ok (Some (File name mode))) = refl
let_go_events k n (Ok (Some (PipeRead id))) = refl
let_go_events k n (Ok (Some (PipeWrite id))) = refl

pub closed_events : {S : Type 0} (k : KernelState S) (n p fd : ℕ) → closed (record k { events = n }) p fd ≡ record (closed k p fd) { events = n }
closed_events k n p fd = let o = entry_of (fds_at k p) fd in let_go_events (taken_away k p fd o) n (close_answer k.entries o)

-- ---- the slot

module _ {S : Type 0} (m : S) (r : Reply) (put : ℕ) where
  abbrev pub touch : Slot S → Slot S
  touch None = None
  touch (Some y) = Some (record y { status = Runnable; machine = m; reply = r; put = put })

  touch_status : (s : Status) (x : Slot S) → touch (with_status s x) ≡ touch x
  touch_status s None = refl
  touch_status s (Some y) = refl

  touch_ready : (n : S) (reply : Reply) (x : Slot S) → touch (made_ready n reply x) ≡ touch x
  touch_ready n reply None = refl
  touch_ready n reply (Some y) = refl

  pub touch_fds : (x : Slot S) → fds_of (touch x) ≡ fds_of x
  touch_fds None = refl
  touch_fds (Some y) = refl

  fds_touch : (fds : Descriptors) (x : Slot S) → with_fds fds (touch x) ≡ touch (with_fds fds x)
  fds_touch fds None = refl
  fds_touch fds (Some y) = refl

  woken_touch : (c : Channel) (x : Slot S) → woken c (touch x) ≡ touch (woken c x)
  woken_touch c None = refl
  woken_touch c (Some y) = refl

  pub idle_touch : (name : ℕ → ℕ) (x : Slot S) → idle_slot name (touch x) ≡ touch (idle_slot name x)
  idle_touch name None = refl
  idle_touch name (Some y) = refl

  woke_touch : (x : Slot S) → woke_slot (touch x) ≡ touch (woke_slot x)
  woke_touch None = refl
  woke_touch (Some y) = refl

  number_touch : (to : ℕ → ℕ) (x : Slot S) → renumbered_slot to (touch x) ≡ touch (renumbered_slot to x)
  number_touch to None = refl
  number_touch to (Some y) = refl

  module _ (p : ℕ) where
    -- ---- the table

    abbrev pub touched : Table S → Table S
    touched t = set t p (touch (at t p))

    abbrev pub touches : KernelState S → KernelState S
    touches k = record k { table = touched k.table }

    -- what was written there before isn't seen
    pub touched_over : (f : Slot S → Slot S) → f None ≡ None → ((x : Slot S) → touch (f x) ≡ touch x) → (t : Table S) → touched (set t p (f (at t p))) ≡ touched t
    touched_over f none each t =
        ap (λ (y : Slot S). set (set t p (f (at t p))) p (touch y)) (written f none t p) ∙ set_twice t p (f (at t p)) (touch (f (at t p))) ∙ ap (set t p) (each (at t p))

    pub touched_map : (g : Slot S → Slot S) → g None ≡ None → ((x : Slot S) → g (touch x) ≡ touch (g x)) → (t : Table S) → map g (touched t) ≡ touched (map g t)
    touched_map g none each t = map-set g t p (touch (at t p)) ∙ ap (set (map g t) p) (each (at t p) ∙ ap touch (sym (mapped g none t p)))

    touched_fds : (t : Table S) (fds : Descriptors) → fds_set (touched t) p fds ≡ touched (fds_set t p fds)
    touched_fds t fds =
        ap (λ (y : Slot S). set (touched t) p (with_fds fds y)) (written touch refl t p) ∙ set_twice t p (touch (at t p)) (with_fds fds (touch (at t p))) ∙ ap (set t p) (fds_touch fds (at t p)) ∙
        sym (ap (λ (y : Slot S). set (fds_set t p fds) p (touch y)) (written (with_fds fds) refl t p) ∙ set_twice t p (with_fds fds (at t p)) (touch (with_fds fds (at t p))))

    pub touched_run : (t : Table S) (q : ℕ) → q ≢ p → dispatched (touched t) q 0 ≡ touched (dispatched t q 0)
    touched_run t q other =
        ap (λ (y : Slot S). set (touched t) q (with_status (Running 0) y)) (kept t p q (touch (at t p)) other) ∙
        set_comm t p q (touch (at t p)) (with_status (Running 0) (at t q)) (λ is. other (sym is)) ∙
        ap (λ (y : Slot S). set (dispatched t q 0) p (touch y)) (sym (kept t q p (with_status (Running 0) (at t q)) (λ is. other (sym is))))

    -- ---- a close of p

    pub own_fds : (k : KernelState S) → fds_at (touches k) p ≡ fds_at k p
    own_fds k = ap fds_of (written touch refl k.table p) ∙ touch_fds (at k.table p)

    let_go_touched : (k : KernelState S) (object : Object) → let_go (touches k) object ≡ touches (let_go k object)
    let_go_touched k Input = refl
    let_go_touched k Out = refl
    let_go_touched k Diag = refl
    let_go_touched k (File name mode) = refl
    let_go_touched k (PipeRead id) = λ i. record k { pipes = reader_gone k.pipes id (pipe_of k.pipes id); table = touched_map (woken (PipeRoom id)) refl (woken_touch (PipeRoom id)) k.table i }
    let_go_touched k (PipeWrite id) = λ i. record k { pipes = writer_gone k.pipes id (pipe_of k.pipes id); table = touched_map (woken (PipeBytes id)) refl (woken_touch (PipeBytes id)) k.table i }

    let_go_of_touched : (k : KernelState S) (a : Result (Option Object) FdFault) → let_go_of (touches k) a ≡ touches (let_go_of k a)
    let_go_of_touched k (Err fault) = refl
    let_go_of_touched k (Ok None) = refl
    let_go_of_touched k (Ok (Some object)) = let_go_touched k object

    pub closed_touched : (k : KernelState S) (fd : ℕ) → closed (touches k) p fd ≡ touches (closed k p fd)
    closed_touched k fd =
        let o = entry_of (fds_at k p) fd in
        (λ i. let_go_of (record (touches k) { table = fds_set (touched k.table) p (after_close (own_fds k i) fd (entry_of (own_fds k i) fd)); entries = released_by_close k.entries (entry_of (own_fds k i) fd) }) (close_answer k.entries (entry_of (own_fds k i) fd))) ∙
        (λ i. let_go_of (record k { table = touched_fds k.table (after_close (fds_at k p) fd o) i; entries = released_by_close k.entries o }) (close_answer k.entries o)) ∙ let_go_of_touched (taken_away k p fd o) (close_answer k.entries o)

    close_touched : (k : KernelState S) (n : S) (fd : ℕ) → touches (close k p n fd) ≡ touches (closed k p fd)
    close_touched k n fd =
        let reply : Reply = close_reply (close_answer k.entries (entry_of (fds_at k p) fd)) in
        λ i. record (closed k p fd) { table = touched_over (made_ready n reply) refl (touch_ready n reply) (closed k p fd).table i }

    -- a turn of p that closes a descriptor
    pub turn_touched : (k : KernelState S) (n : S) (fd : ℕ) → touches (close (counted (given_0 k p)) p n fd) ≡ record (closed (touches k) p fd) { events = k.events + 1 + 1 }
    turn_touched k n fd =
        close_touched (counted (given_0 k p)) n fd ∙ sym (closed_touched (counted (given_0 k p)) fd) ∙
        (λ i. closed (record (touches k) { table = touched_over (with_status (Running 0)) refl (touch_status (Running 0)) k.table i; events = k.events + 1 + 1 }) p fd) ∙ closed_events (touches k) (k.events + 1 + 1) p fd

    -- ---- a call of another process

    abbrev lf : Process S → Left S
    lf x = record { machine = m; reply = r; fds = x.fds; put = put }

    touched_retold : (x : Process S) (t : Table S) → Holds x (at t p) → touched t ≡ retold_table p (lf x) t
    touched_retold x t h =
        ap (set t p) (ap touch h.there ∙ (λ i. Some (record h.now { status = sym h.ready i; machine = m; reply = r; fds = h.fds i; put = put })) ∙ sym (ap (retold_slot (lf x)) h.there))

    module _ (call : S → Reply → Call) (next : S → Reply → S) (x : Process S) (k : KernelState S) (q : ℕ) (y : Process S) (other : q ≢ p) (h : Holds x (at k.table p)) where
      pub turned_touched : turned call next (touches k) q y false ≡ touches (turned call next k q y false)
      turned_touched =
          let d : KernelState S = counted (given_0 k q) in
          let d_holds : Holds x (at d.table p) = in_own x p q other k.table _ h in
          let after : S = next y.machine y.reply in
          let b : Call = call y.machine y.reply in
          (λ i. acted (record d { table = touched_run k.table q other i }) q after b false) ∙ (λ i. acted (record d { table = touched_retold x d.table d_holds i }) q after b false) ∙
          acted_told p (lf x) q other after d b false (ap is_free d_holds.there) (holds_alive x (at d.table p) d_holds) ∙
          (λ i. record (turned call next k q y false) { table = sym (touched_retold x (turned call next k q y false).table (turn_keeps call next k p q x y other h)) i })

    -- ---- what is alike stays so

    idle_touched : (name : ℕ → ℕ) (k : KernelState S) → idle_kernel name 0 (woke (touches k)) ≡ touches (idle_kernel name 0 (woke k))
    idle_touched name k =
        λ i. record (idle_kernel name 0 (woke k)) { table = (ap (map (idle_slot name)) (touched_map woke_slot refl woke_touch k.table) ∙ touched_map (idle_slot name) refl (idle_touch name) (woke_table k.table)) i }

    numbers_touched : (k l : KernelState S) → SameButNumbers k l → SameButNumbers (touches k) (touches l)
    numbers_touched k l a =
        record {
          numbering = a.numbering;
          is = record {
            entries = a.is.entries;
            rest = (λ i. record k { table = touched_map (renumbered_slot a.numbering.to) refl (number_touch a.numbering.to) k.table i; entries = l.entries }) ∙ ap touches a.is.rest;
          };
        }

    pub alike_touched : (k l : KernelState S) → AlikeAnyhow k l → AlikeAnyhow (touches k) (touches l)
    alike_touched k l a =
        record {
          first = a.first;
          second = a.second;
          first_one_to_one = a.first_one_to_one;
          second_one_to_one = a.second_one_to_one;
          same =
              subst (λ (j : KernelState S). SameButNumbers j (idle_kernel a.second 0 (woke (touches l)))) (sym (idle_touched a.first k))
              (subst (λ (j : KernelState S). SameButNumbers (touches (idle_kernel a.first 0 (woke k))) j) (sym (idle_touched a.second l)) (numbers_touched _ _ a.same));
        }

    -- a close under other names, once touched
    closed_named : (name : ℕ → ℕ) → IsOneToOne name → (k : KernelState S) (fd : ℕ) → touches (closed (idle_kernel name 0 (woke k)) p fd) ≡ idle_kernel name 0 (woke (touches (closed k p fd)))
    closed_named name one k fd =
        let w : KernelState S = woke k in
        let e : ℕ = name k.events in
        let v : KernelState S = idle_kernel name e w in
        ap touches (closed_events v 0 p fd) ∙ ap (λ (j : KernelState S). record j { events = 0 }) (sym (close_touched v m fd) ∙ ap touches (acted_idle name one e p m w (Close fd) false refl)) ∙
        (λ i. record (idle_kernel name 0 w) {
          entries = (idle_kernel name 0 (close w p m fd)).entries;
          pipes = (idle_kernel name 0 (close w p m fd)).pipes;
          files = (close w p m fd).files;
          input = (close w p m fd).input;
          out = (close w p m fd).out;
          diag = (close w p m fd).diag;
          full = (close w p m fd).full;
          table = sym (touched_map (idle_slot name) refl (idle_touch name) (close w p m fd).table) i;
        }) ∙
        ap (idle_kernel name 0) (close_touched w m fd ∙ ap touches (closed_told p k fd) ∙ sym (λ i. record (woke (closed k p fd)) { table = touched_map woke_slot refl woke_touch (closed k p fd).table i }))

    -- a close keeps kernels alike
    pub alike_closed : (k l : KernelState S) (fd : ℕ) → AlikeAnyhow k l → AlikeAnyhow (touches (closed k p fd)) (touches (closed l p fd))
    alike_closed k l fd a =
        let u : KernelState S = idle_kernel a.first 0 (woke k) in
        let v : KernelState S = idle_kernel a.second 0 (woke l) in
        let both : SameButNumbers (closed u p fd) (closed v p fd) = record { numbering = a.same.numbering; is = closed_so a.same.numbering p u v fd a.same.is } in
        record {
          first = a.first;
          second = a.second;
          first_one_to_one = a.first_one_to_one;
          second_one_to_one = a.second_one_to_one;
          same =
              subst (λ (j : KernelState S). SameButNumbers j (idle_kernel a.second 0 (woke (touches (closed l p fd))))) (closed_named a.first a.first_one_to_one k fd)
              (subst (λ (j : KernelState S). SameButNumbers (touches (closed u p fd)) j) (closed_named a.second a.second_one_to_one l fd) (numbers_touched (closed u p fd) (closed v p fd) both));
        }
