-- A turn that closes the write end of a pipe, and any other process's turn: a read of the pipe finds bytes, or isn't needed.
use Rattle.std.proofs.Common.{◌≡◌, ◌≢◌, ℕ, ◌<◌, ◌≤◌, true, false, Option, Some, None, List, [], ◌∷◌, length, refl, sym, ap, subst, ◌∙◌, arith}
use Rattle.std.proofs.lemmas.Bool.{ne_eqb}
use Rattle.std.specs.Prelude.{◌==◌}
use Rattle.user_calls.specs.declared.calls.Call.{Call}
use Rattle.user_calls.specs.declared.calls.Call.TheVariants.{Read}
use Rattle.user_calls.specs.declared.calls.Reply.{Reply}
use Rattle.byte_pipe.specs.PipeState.{PipeState}
use Rattle.fd_table.specs.declared.names.Object.{Object}
use Rattle.fd_table.specs.declared.names.Object.TheVariants.{PipeRead, PipeWrite}
use Rattle.fd_table.specs.Entries.{OpenFile as Opened, entry_at, last_object}
use Rattle.fd_table.specs.Descriptors.{entry_of}
use Rattle.proc_table.specs.declared.states.Channel.TheVariants.{PipeBytes}
use Rattle.proc_table.specs.declared.states.Status.TheVariants.{Runnable, Running}
use Rattle.proc_table.specs.Slots.{Slot, Process, at, is_runnable_status}
use Rattle.proc_table.specs.Calls.{with_status}
use Rattle.proc_table.proofs.Changes.{written}
use Rattle.kernel_model.specs.KernelState.{KernelState, fds_of, fds_at, file_at}
use Rattle.kernel_model.specs.Pipes.{pipe_of}
use Rattle.kernel_model.specs.Replies.{sleeps}
use Rattle.kernel_model.specs.Events.{acted, counted}
use Rattle.kernel_model.specs.Idle.{idle_kernel}
use Rattle.kernel_model.specs.Alike.{IsStill}
use Rattle.kernel_model.specs.Turns.{after_turn}
use Rattle.kernel_model.specs.Woke.{woke, woke_table}
use Rattle.kernel_model.specs.Closes.{ClosesNext, FindsFreeNext}
use Rattle.law_kernel.specs.Ends.{EndsAgree}
use Rattle.law_kernel.proofs.outcomes.Outcomes.{every_call_ends}
use Rattle.law_turns.proofs.orders.Follow.{after_turn as turned, given_0, turn_still}
use Rattle.law_turns.specs.Retold.{retold_table}
use Rattle.law_turns.proofs.private_turns.Staying.{Holds}
use Rattle.law_turns.proofs.private_turns.Turned.{turn_keeps}
use Rattle.law_turns.proofs.last_closes.Objects.{IsOpenOn, outcome_on}
use Rattle.law_turns.proofs.last_closes.Turned.{Closes}
use Rattle.law_turns.specs.Writers.{FindsBytesNext, ReadsEmptyNext, IsDoneAlready, InEitherOrderAwake}
use Rattle.law_turns.proofs.write_ends.Ends.{WriteEnd, IsNoEnd, IsNotEnd}
use Rattle.law_turns.proofs.write_ends.Empty.{table_woke, slept_woke, read_waits}
use Rattle.law_turns.proofs.write_ends.Cutting.{cut}
use Rattle.law_turns.proofs.write_ends.Facts.{reader_there, writer_there, only_end}
use Rattle.law_turns.proofs.write_ends.Gone.{shut, shut_by, gone_shut}
use Rattle.law_turns.proofs.write_ends.Turned.{lf, told, gave, both_events, own, its_close, h, r, runs, is_a, is_l, end_either}

holds_some : (xs : List ℕ) → xs ≢ [] → (length xs == 0) ≡ false
holds_some [] ne = absurd (ne refl)
holds_some (x ∷ xs) ne = ne_eqb (length (x ∷ xs)) 0 (λ none. omega (arith, none))

pub no_end_of_writers : (id : ℕ) (x : Option Opened) → IsNotEnd WriteEnd id x → IsNoEnd WriteEnd id x
no_end_of_writers id None ne = tt
no_end_of_writers id (Some f) ne = ne

-- ---- a read of the empty pipe

module _ {S : Type 0} (call : S → Reply → Call) (next : S → Reply → S) (p : ℕ) (x : Process S) (fd e id : ℕ) (c : Closes call next p x fd e (PipeWrite id)) (k : KernelState S) (q : ℕ) (y : Process S) (other : q ≢ p) (still : IsStill k)
    (holds_p : Holds x (at k.table p)) (there : at k.table q ≡ Some y) (up : y.status ≡ Runnable) (file : Opened) (used : entry_at k.entries e ≡ Some file) (writes : file.object ≡ PipeWrite id) (agree : EndsAgree k.entries k.pipes)
    (rd n : ℕ) (f : Opened) (pp : PipeState) (is : call y.machine y.reply ≡ Read rd n) (holds : file_at k.entries (entry_of y.fds rd) ≡ Some f) (reads : f.object ≡ PipeRead id) (pipe : pipe_of k.pipes id ≡ Some pp) (empty : pp.bytes ≡ [])
    (put : y.put ≡ 0) where
  abbrev d : KernelState S
  d = counted (given_0 k q)

  abbrev l : KernelState S
  l = turned call next k q y false

  abbrev last : Option Object
  last = last_object (entry_at k.entries e)

  abbrev here : KernelState S → KernelState S
  here j = told WriteEnd call next p x fd e id c j

  abbrev asleep : KernelState S
  asleep = sleeps d q (PipeBytes id) 0

  ready : is_runnable_status y.status ≡ true
  ready = ap is_runnable_status up

  on_here : IsOpenOn (PipeWrite id) (entry_at k.entries e)
  on_here = subst (IsOpenOn (PipeWrite id)) (sym used) writes

  l_on : IsOpenOn (PipeWrite id) (entry_at l.entries e)
  l_on = outcome_on (PipeWrite id) e q d (next y.machine y.reply) (call y.machine y.reply) l (record { file = file; used = used; on = writes }) (every_call_ends d q (next y.machine y.reply) (call y.machine y.reply) false)

  open_too : pp.writer ≡ true
  open_too =
      let w = writer_there id k.entries k.pipes agree e file used writes in
      let both : Some w.0 ≡ Some pp = sym w.1 ∙ pipe in
      let same : w.0 ≡ pp = cc in
      ap (λ (r : PipeState). r.writer) (sym same) ∙ w.2

  slept_now : l ≡ asleep
  slept_now =
      ap (λ (m : Call). acted d q (next y.machine y.reply) m false) is ∙
      read_waits d q (next y.machine y.reply) id pp pipe empty open_too rd n y.fds f (ap fds_of (written (with_status (Running 0)) refl k.table q) ∙ ap (λ (z : Slot S). fds_of (with_status (Running 0) z)) there) holds reads

  tables_same : woke_table (here k).table ≡ woke_table (here asleep).table
  tables_same =
      let left = lf WriteEnd call next p x fd e id c in
      sym (table_woke p left asleep.table ∙ ap (retold_table p left) (slept_woke k.table q y (PipeBytes id) there up put) ∙ sym (table_woke p left k.table))

  shut_same : (o : Option Object) → idle_kernel (λ name. name) 0 (woke (shut_by WriteEnd id e p (here k) o)) ≡ idle_kernel (λ name. name) 0 (woke (shut_by WriteEnd id e p (here asleep) o))
  shut_same None = λ i. idle_kernel (λ name. name) 0 (record (woke (gave WriteEnd call next p x fd e id c k)) { table = tables_same i })
  shut_same (Some object) = λ i. idle_kernel (λ name. name) 0 (record (woke (cut WriteEnd id p (gave WriteEnd call next p x fd e id c k))) { table = tables_same i })

  done_already : IsDoneAlready call next (both_events WriteEnd call next p x fd e id c k) l p
  done_already =
      let l_still : IsStill l = turn_still call next k q y false still there ready in
      record {
        both = both_events WriteEnd call next p x fd e id c l;
        taken = own WriteEnd call next p x fd e id c l l_still (turn_keeps call next k p q x y other holds_p) l_on;
        alike = record {
          first = λ name. name;
          second = λ name. name;
          first_one_to_one = λ i j same. same;
          second_one_to_one = λ i j same. same;
          same =
              ap (idle_kernel (λ name. name) 0) (gone_shut WriteEnd id e p (here k) on_here) ∙ shut_same last ∙
              ap (λ (j : KernelState S). idle_kernel (λ name. name) 0 (woke (shut WriteEnd id e p (here j)))) (sym slept_now) ∙ ap (idle_kernel (λ name. name) 0) (sym (gone_shut WriteEnd id e p (here l) l_on));
        };
      }

-- ---- both orders

module _ {S : Type 0} (call : S → Reply → Call) (next : S → Reply → S) (k a l : KernelState S) (p q pipe : ℕ) (still : IsStill k) (agree : EndsAgree k.entries k.pipes) (fresh : (n : ℕ) → k.events < n → pipe_of k.pipes n ≡ None)
    (e : ClosesNext call next (λ o. o ≡ PipeWrite pipe) k p) (other : q ≢ p) (first : after_turn call next k p ≡ Some a) (second : after_turn call next k q ≡ Some l) where
  others : (fd d : ℕ) → entry_of (fds_at k q) fd ≡ Some d → d ≢ e.entry → IsNoEnd WriteEnd pipe (entry_at k.entries d)
  others fd d held ne = no_end_of_writers pipe (entry_at k.entries d) (only_end pipe k.entries k.pipes agree WriteEnd e.entry e.file e.used e.of d ne)

  -- the close of a write end, and another process's turn
  pub writer_either : FindsFreeNext call next k q → (e.file.count ≤ 1 → FindsBytesNext call next k pipe q) → InEitherOrderAwake call next a l p q
  writer_either free finds = end_either WriteEnd call next k a l p q pipe still agree fresh e other others first second free (λ one z rd n i f there is held ne at_i reads.
      let r = reader_there pipe k.entries k.pipes agree i f at_i reads in
      let some = finds one z rd n f r.0 there is (ap (file_at k.entries) held ∙ at_i) reads r.1 in
      record { pipe = r.0; there = r.1; reader = r.2; some = holds_some r.0.bytes some })

  -- q's read of the empty pipe isn't needed
  pub empty_read : ReadsEmptyNext call next k pipe q → IsDoneAlready call next a l p
  empty_read w =
      let ready = r WriteEnd call next k a l p q pipe still agree fresh e other others first second in
      let both : Some ready.process ≡ Some w.process = sym ready.there ∙ w.there in
      let it : ready.process ≡ w.process = cc in
      let up : w.process.status ≡ Runnable = ap (λ (z : Process S). z.status) (sym it) ∙ runs WriteEnd call next k a l p q pipe still agree fresh e other others first second in
      let is_l_too : turned call next k q w.process false ≡ l = ap (λ (z : Process S). turned call next k q z false) (sym it) ∙ is_l WriteEnd call next k a l p q pipe still agree fresh e other others first second in
      let closes = its_close WriteEnd call next k a l p q pipe still agree fresh e other others first second in
      let holds_p = h WriteEnd call next k a l p q pipe still agree fresh e other others first second in
      subst (λ (j : KernelState S). IsDoneAlready call next j l p) (is_a WriteEnd call next k a l p q pipe still agree fresh e other others first second)
      (subst (λ (j : KernelState S). IsDoneAlready call next (both_events WriteEnd call next p e.process e.fd e.entry pipe closes k) j p) is_l_too
      (done_already call next p e.process e.fd e.entry pipe closes k q w.process other still holds_p w.there up e.file e.used e.of agree w.fd w.most w.file w.pipe w.calls w.holds w.reads w.named w.empty w.put))
