-- The law of an exit of a process that can close at once whatever descriptors it holds.
use Rattle.std.proofs.Common.{◌≡◌, ◌≢◌, ◌⊎◌, ℕ, false, Option, Some, None, refl, sym, ap, subst, ◌∙◌, arith}
use Rattle.user_calls.specs.declared.calls.Call.{Call}
use Rattle.user_calls.specs.declared.calls.Reply.{Reply}
use Rattle.fd_table.specs.declared.names.Object.{Object}
use Rattle.fd_table.specs.declared.names.Object.TheVariants.{Input, Out, Diag, File, PipeRead, PipeWrite}
use Rattle.fd_table.specs.Entries.{OpenFile as Opened, entry_at}
use Rattle.fd_table.specs.Descriptors.{Descriptors, entry_of}
use Rattle.proc_table.specs.declared.states.Status.TheVariants.{Runnable, Running}
use Rattle.proc_table.specs.Slots.{Process, at}
use Rattle.proc_table.specs.Calls.{with_status}
use Rattle.kernel_model.specs.KernelState.{KernelState, fds_at, file_at}
use Rattle.kernel_model.specs.Pipes.{pipe_of}
use Rattle.kernel_model.specs.Events.{counted}
use Rattle.kernel_model.specs.Alike.{IsStill}
use Rattle.kernel_model.specs.Begun.{IsBegun}
use Rattle.kernel_model.specs.Closes.{FindsFreeNext, IsClosedAtOnce, NobodyElseWrites}
use Rattle.kernel_model.specs.Turns.{after_turn}
use Rattle.kernel_model.specs.Giving.{ExitsNext}
use Rattle.law_kernel.proofs.outcomes.Outcomes.{every_call_ends}
use Rattle.law_turns.proofs.orders.Back.{could_turn}
use Rattle.law_turns.proofs.orders.Follow.{after_turn as turned, given_0}
use Rattle.law_turns.proofs.private_turns.Begun.{begun_still}
use Rattle.law_turns.proofs.private_turns.Holders.{holds_one, is_open}
use Rattle.law_turns.proofs.private_turns.Staying.{Holds, holds_itself}
use Rattle.law_turns.proofs.private_turns.Turned.{turn_is, turn_keeps, ready_slot, runnable_by}
use Rattle.law_turns.proofs.last_closes.Objects.{IsOpenOn, outcome_on}
use Rattle.law_turns.proofs.write_ends.Ends.{ReadEnd, WriteEnd, IsNotEnd}
use Rattle.law_turns.proofs.write_ends.Facts.{named}
use Rattle.law_turns.proofs.write_ends.NextCalls.{readers_put_nothing}
use Rattle.law_turns.proofs.write_ends.Runs.{ends, fresh}
use Rattle.law_turns.proofs.read_ends.Others.{OthersHaveNone, OnlyP, fds_status, others_own, outcome_only}
use Rattle.law_turns.specs.Exits.{InEitherOrderAnyhow, IsDoneAnyhow, InEitherOrderReaping}
use Rattle.law_turns.proofs.exits.Leaving.{leaves, own_exit}
use Rattle.law_turns.proofs.exits.Exited.{exit_either}

no_writer_there : (id : ℕ) (x : Option Opened) → ((f : Opened) → x ≡ Some f → f.object ≢ PipeWrite id) → IsNotEnd WriteEnd id x
no_writer_there id None none = tt
no_writer_there id (Some f) none = none f refl

is_no_writer : (id : ℕ) (x : Option Opened) → IsNotEnd WriteEnd id x → (f : Opened) → x ≡ Some f → f.object ≢ PipeWrite id
is_no_writer id None none f is = absurd (let z : ⊥ = cc in z)
is_no_writer id (Some g) none f is = let same : g ≡ f = cc in subst (λ (h : Opened). h.object ≢ PipeWrite id) same none

module _ {S : Type 0} (call : S → Reply → Call) (next : S → Reply → S) where
  pub exits_either : (k a l : KernelState S) (p q : ℕ) → IsBegun call next k → ExitsNext call next k p → p ≢ 0 → q ≢ p → FindsFreeNext call next k q → after_turn call next k p ≡ Some a → after_turn call next k q ≡ Some l
      → InEitherOrderAnyhow call next a l p q ⊎ (IsDoneAnyhow call next a l p ⊎ InEitherOrderReaping call next k a l p q)
  exits_either k a l p q b e child ne free first second =
      let x : Process S = e.process in
      let h : Holds x (at k.table p) = holds_itself x (at k.table p) e.there e.ready in
      let r = ready_slot (at k.table q) (could_turn call next k (record { pid = q; refused = false }) (l, second)) in
      let ready : r.process.status ≡ Runnable = runnable_by r.process.status r.ready in
      let still : IsStill k = begun_still call next k b in
      let one : Some (leaves call next p x e.calls child k) ≡ Some a = sym (own_exit call next p x e.calls child k still h) ∙ first in
      let two : Some (turned call next k q r.process false) ≡ Some l = sym (turn_is call next k q r.process still r.there r.ready) ∙ second in
      let same_a : leaves call next p x e.calls child k ≡ a = cc in
      let same_l : turned call next k q r.process false ≡ l = cc in
      let Q : KernelState S → KernelState S → Type 0 = λ i j. InEitherOrderAnyhow call next i j p q ⊎ (IsDoneAnyhow call next i j p ⊎ InEitherOrderReaping call next k i j p q) in
      subst (λ (j : KernelState S). Q j l) same_a
      (subst (λ (j : KernelState S). Q (leaves call next p x e.calls child k) j) same_l
      (exit_either call next p x e.calls child k b q r.process ne e.there e.ready r.there ready e.at_once (free r.process r.there) (λ rd n reads. readers_put_nothing call next k b q r.process r.there rd n reads)))

  -- ---- after q's turn

  module _ (k : KernelState S) (p q : ℕ) (b : IsBegun call next k) (other : q ≢ p) (y : Process S) (there : at k.table q ≡ Some y) (ready : y.status ≡ Runnable) where
    abbrev now : KernelState S
    now = turned call next k q y false

    -- that nobody else writes to a pipe whose read end is open
    nobody_stays : (pipe e : ℕ) (file : Opened) → entry_at k.entries e ≡ Some file → file.object ≡ PipeRead pipe → NobodyElseWrites k pipe p → NobodyElseWrites now pipe p
    nobody_stays pipe e file used on nobody r fd f ne held =
        let d : KernelState S = counted (given_0 k q) in
        let only : OthersHaveNone pipe p k.entries k.table = λ s far gd i holds. no_writer_there pipe (entry_at k.entries i) (λ g is. nobody s gd g far (ap (file_at k.entries) holds ∙ is)) in
        let given : OnlyP pipe p q other d = others_own pipe p q other k.entries k.table (with_status (Running 0)) (fds_status (Running 0)) only in
        let past : pipe ≢ d.events = λ is. named pipe k.entries k.pipes (ends call next k b) ReadEnd e file used on (ap (pipe_of k.pipes) is ∙ fresh call next k b d.events (omega arith)) in
        let after : OnlyP pipe p q other now = outcome_only pipe p q other d (next y.machine y.reply) (call y.machine y.reply) now given past (every_call_ends d q (next y.machine y.reply) (call y.machine y.reply) false) in
        by after (entry_of (fds_at now r) fd) refl held
      where
        by : OthersHaveNone pipe p now.entries now.table → (o : Option ℕ) → entry_of (fds_at now r) fd ≡ o → file_at now.entries o ≡ Some f → f.object ≢ PipeWrite pipe
        by all None holds is = absurd (let z : ⊥ = cc in z)
        by all (Some i) holds is = is_no_writer pipe (entry_at now.entries i) (all r ne fd i holds) f is

    once_stays : (e : ℕ) (file : Opened) → entry_at k.entries e ≡ Some file → (object : Object) → file.object ≡ object → IsClosedAtOnce k p object → IsClosedAtOnce now p object
    once_stays e file used Input on is = tt
    once_stays e file used Out on is = tt
    once_stays e file used Diag on is = tt
    once_stays e file used (File name mode) on is = tt
    once_stays e file used (PipeRead pipe) on nobody = nobody_stays pipe e file used on nobody
    once_stays e file used (PipeWrite pipe) on is = tt

    module _ (x : Process S) (h : Holds x (at k.table p)) (once : (fd : ℕ) (file : Opened) → file_at k.entries (entry_of x.fds fd) ≡ Some file → IsClosedAtOnce k p file.object) where
      held_stays : (fd e : ℕ) (f : Opened) → entry_of x.fds fd ≡ Some e → entry_at now.entries e ≡ Some f → IsClosedAtOnce now p f.object
      held_stays fd e f held is =
          let o = is_open e k.table k.entries (begun_still call next k b).sound p 1 x h (omega arith) (holds_one x.fds fd e held) in
          let d : KernelState S = counted (given_0 k q) in
          let on : IsOpenOn o.0.object (entry_at now.entries e) =
          outcome_on o.0.object e q d (next y.machine y.reply) (call y.machine y.reply) now (record { file = o.0; used = o.1; on = refl }) (every_call_ends d q (next y.machine y.reply) (call y.machine y.reply) false) in
          let same : f.object ≡ o.0.object = subst (IsOpenOn o.0.object) is on in
          subst (IsClosedAtOnce now p) (sym same) (once_stays e o.0 o.1 o.0.object refl (once fd o.0 (ap (file_at k.entries) held ∙ o.1)))

      all_stay : (fd : ℕ) (f : Opened) → file_at now.entries (entry_of x.fds fd) ≡ Some f → IsClosedAtOnce now p f.object
      all_stay fd f is = by (entry_of x.fds fd) refl is where
        by : (o : Option ℕ) → entry_of x.fds fd ≡ o → file_at now.entries o ≡ Some f → IsClosedAtOnce now p f.object
        by None held it = absurd (let z : ⊥ = cc in z)
        by (Some e) held it = held_stays fd e f held it

  pub exits_stay : (k l : KernelState S) (p q : ℕ) → IsBegun call next k → ExitsNext call next k p → q ≢ p → after_turn call next k q ≡ Some l → ExitsNext call next l p
  exits_stay k l p q b e ne second =
      let x : Process S = e.process in
      let h : Holds x (at k.table p) = holds_itself x (at k.table p) e.there e.ready in
      let r = ready_slot (at k.table q) (could_turn call next k (record { pid = q; refused = false }) (l, second)) in
      let ready : r.process.status ≡ Runnable = runnable_by r.process.status r.ready in
      let two : Some (turned call next k q r.process false) ≡ Some l = sym (turn_is call next k q r.process (begun_still call next k b) r.there r.ready) ∙ second in
      let same_l : turned call next k q r.process false ≡ l = cc in
      let now : Holds x (at (turned call next k q r.process false).table p) = turn_keeps call next k p q x r.process ne h in
      subst (λ (j : KernelState S). ExitsNext call next j p) same_l
      (record {
        process = now.now;
        there = now.there;
        ready = now.ready;
        calls = (λ i. call (now.machine i) (now.reply i)) ∙ e.calls;
        at_once = λ fd f is. all_stay k p q b ne r.process r.there ready x h e.at_once fd f (ap (λ (g : Descriptors). file_at (turned call next k q r.process false).entries (entry_of g fd)) (sym now.fds) ∙ is);
      })
