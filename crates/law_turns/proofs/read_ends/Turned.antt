-- A turn that closes the read end of a pipe to which nobody else writes, and any other process's turn.
use Rattle.std.proofs.Common.{◌≡◌, ◌≢◌, ℕ, ◌<◌, false, Option, Some, None, refl, sym, ap, subst, ◌∙◌, arith}
use Rattle.user_calls.specs.declared.calls.Call.{Call}
use Rattle.user_calls.specs.declared.calls.Reply.{Reply}
use Rattle.fd_table.specs.declared.names.Object.TheVariants.{PipeRead, PipeWrite}
use Rattle.fd_table.specs.Entries.{OpenFile as Opened, entry_at}
use Rattle.fd_table.specs.Descriptors.{entry_of}
use Rattle.proc_table.specs.declared.states.Status.TheVariants.{Running}
use Rattle.proc_table.specs.Slots.{Process, at}
use Rattle.proc_table.specs.Calls.{with_status}
use Rattle.kernel_model.specs.KernelState.{KernelState, fds_at, file_at}
use Rattle.kernel_model.specs.Pipes.{pipe_of}
use Rattle.kernel_model.specs.Events.{counted}
use Rattle.kernel_model.specs.Alike.{IsStill}
use Rattle.kernel_model.specs.Closes.{ClosesNext, FindsFreeNext, NobodyElseWrites}
use Rattle.kernel_model.specs.Turns.{after_turn}
use Rattle.law_kernel.specs.Ends.{EndsAgree}
use Rattle.law_kernel.proofs.outcomes.Outcomes.{every_call_ends}
use Rattle.law_turns.proofs.orders.Back.{could_turn}
use Rattle.law_turns.proofs.orders.Follow.{after_turn as turned, given_0}
use Rattle.law_turns.proofs.private_turns.Turned.{turn_is, ready_slot}
use Rattle.law_turns.specs.Writers.{InEitherOrderAwake}
use Rattle.law_turns.proofs.write_ends.Ends.{ReadEnd, WriteEnd, IsNoEnd, IsNotEnd}
use Rattle.law_turns.proofs.write_ends.Facts.{named, only_end}
use Rattle.law_turns.proofs.write_ends.Turned.{end_either}
use Rattle.law_turns.proofs.read_ends.Others.{OthersHaveNone, OnlyP, fds_status, others_own, outcome_only}

no_end_of_both : (id : ℕ) (x : Option Opened) → IsNotEnd ReadEnd id x → IsNotEnd WriteEnd id x → IsNoEnd ReadEnd id x
no_end_of_both id None reads writes = tt
no_end_of_both id (Some f) reads writes = (reads, writes)

no_writer_there : (id : ℕ) (x : Option Opened) → ((f : Opened) → x ≡ Some f → f.object ≢ PipeWrite id) → IsNotEnd WriteEnd id x
no_writer_there id None none = tt
no_writer_there id (Some f) none = none f refl

is_no_writer : (id : ℕ) (x : Option Opened) → IsNotEnd WriteEnd id x → (f : Opened) → x ≡ Some f → f.object ≢ PipeWrite id
is_no_writer id None none f is = absurd (let z : ⊥ = cc in z)
is_no_writer id (Some g) none f is = let same : g ≡ f = cc in subst (λ (h : Opened). h.object ≢ PipeWrite id) same none

module _ {S : Type 0} (call : S → Reply → Call) (next : S → Reply → S) (k : KernelState S) (p q pipe : ℕ) (still : IsStill k) (agree : EndsAgree k.entries k.pipes) (fresh : (n : ℕ) → k.events < n → pipe_of k.pipes n ≡ None)
    (e : ClosesNext call next (λ o. o ≡ PipeRead pipe) k p) (nobody : NobodyElseWrites k pipe p) (other : q ≢ p) where
  only : OthersHaveNone pipe p k.entries k.table
  only r ne fd d held = no_writer_there pipe (entry_at k.entries d) (λ f is. nobody r fd f ne (ap (file_at k.entries) held ∙ is))

  others : (fd d : ℕ) → entry_of (fds_at k q) fd ≡ Some d → d ≢ e.entry → IsNoEnd ReadEnd pipe (entry_at k.entries d)
  others fd d held ne = no_end_of_both pipe (entry_at k.entries d) (only_end pipe k.entries k.pipes agree ReadEnd e.entry e.file e.used e.of d ne) (only q other fd d held)

  module _ (l : KernelState S) (second : after_turn call next k q ≡ Some l) where
    -- that nobody else writes stays so over q's turn
    pub nobody_stays : NobodyElseWrites l pipe p
    nobody_stays r fd f ne held =
        let ready = ready_slot (at k.table q) (could_turn call next k (record { pid = q; refused = false }) (l, second)) in
        let y : Process S = ready.process in
        let d : KernelState S = counted (given_0 k q) in
        let now : KernelState S = turned call next k q y false in
        let both : Some now ≡ Some l = sym (turn_is call next k q y still ready.there ready.ready) ∙ second in
        let is_l : now ≡ l = cc in
        let given : OnlyP pipe p q other d = others_own pipe p q other k.entries k.table (with_status (Running 0)) (fds_status (Running 0)) only in
        let past : pipe ≢ d.events = λ is. named pipe k.entries k.pipes agree ReadEnd e.entry e.file e.used e.of (ap (pipe_of k.pipes) is ∙ fresh d.events (omega arith)) in
        let after : OnlyP pipe p q other now = outcome_only pipe p q other d (next y.machine y.reply) (call y.machine y.reply) now given past (every_call_ends d q (next y.machine y.reply) (call y.machine y.reply) false) in
        seen r fd f ne held (subst (OnlyP pipe p q other) is_l after) where
          seen : (r fd : ℕ) (f : Opened) → r ≢ p → file_at l.entries (entry_of (fds_at l r) fd) ≡ Some f → OthersHaveNone pipe p l.entries l.table → f.object ≢ PipeWrite pipe
          seen r fd f ne held all = by (entry_of (fds_at l r) fd) refl held where
            by : (o : Option ℕ) → entry_of (fds_at l r) fd ≡ o → file_at l.entries o ≡ Some f → f.object ≢ PipeWrite pipe
            by None holds is = absurd (let z : ⊥ = cc in z)
            by (Some i) holds is = is_no_writer pipe (entry_at l.entries i) (all r ne fd i holds) f is

    -- the close, and q's turn: where it is the last one, no other entry is the read end, so q doesn't read it
    pub reader_either : (a : KernelState S) → after_turn call next k p ≡ Some a → FindsFreeNext call next k q → InEitherOrderAwake call next a l p q
    reader_either a first free = end_either ReadEnd call next k a l p q pipe still agree fresh e other others first second free (λ one z rd n i f there is held ne at_i reads.
        only_reader i ne f at_i reads) where
          only_reader : (i : ℕ) → i ≢ e.entry → (f : Opened) → entry_at k.entries i ≡ Some f → f.object ≢ PipeRead pipe
          only_reader i ne f is = is_no_end (entry_at k.entries i) (only_end pipe k.entries k.pipes agree ReadEnd e.entry e.file e.used e.of i ne) f is where
            is_no_end : (x : Option Opened) → IsNotEnd ReadEnd pipe x → (f : Opened) → x ≡ Some f → f.object ≢ PipeRead pipe
            is_no_end None none f is = absurd (let z : ⊥ = cc in z)
            is_no_end (Some g) none f is = let same : g ≡ f = cc in subst (λ (h : Opened). h.object ≢ PipeRead pipe) same none
