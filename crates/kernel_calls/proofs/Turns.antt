-- A close changes neither the machine of the process nor the reply that it takes.
use Rattle.std.proofs.Common.{◌≡◌, ◌∙◌, ℕ, Option, Some, None, refl, ap, subst}
use Rattle.std.specs.Prelude.{IfSome, Result, Ok, Err}
use Rattle.user_calls.specs.declared.calls.Reply.{Reply}
use Rattle.fd_table.specs.declared.names.Object.{Object}
use Rattle.fd_table.specs.declared.names.Object.TheVariants.{Input, Out, Diag, File, PipeRead, PipeWrite}
use Rattle.fd_table.specs.declared.faults.FdFault.{FdFault}
use Rattle.fd_table.specs.Descriptors.{Descriptors, after_close, close_answer, entry_of}
use Rattle.proc_table.specs.declared.states.Channel.{Channel}
use Rattle.proc_table.specs.declared.states.Channel.TheVariants.{PipeBytes, PipeRoom}
use Rattle.proc_table.specs.Slots.{Slot, at}
use Rattle.proc_table.specs.Calls.{with_fds, woken}
use Rattle.proc_table.proofs.Changes.{mapped, written}
use Rattle.kernel_model.specs.KernelState.{KernelState, fds_at}
use Rattle.kernel_model.specs.Descriptors.{closed, let_go_of, taken_away}

-- the machine of a slot's process, and its reply
abbrev pub turn_of : {S : Type 0} → Slot S → Option (S × Reply)
turn_of None = None
turn_of (Some p) = Some (p.machine, p.reply)

to_turn : {S : Type 0} (P : S → Reply → Type 0) (x : Slot S) → IfSome x (λ p. P p.machine p.reply) → IfSome (turn_of x) (λ t. P t.0 t.1)
to_turn P None is = tt
to_turn P (Some p) is = is

from_turn : {S : Type 0} (P : S → Reply → Type 0) (x : Slot S) → IfSome (turn_of x) (λ t. P t.0 t.1) → IfSome x (λ p. P p.machine p.reply)
from_turn P None is = tt
from_turn P (Some p) is = is

-- what holds of the machine and the reply of one slot holds of those of the other, where they are the same
pub along : {S : Type 0} (P : S → Reply → Type 0) (x y : Slot S) → turn_of x ≡ turn_of y → IfSome x (λ p. P p.machine p.reply) → IfSome y (λ p. P p.machine p.reply)
along P x y same is = from_turn P y (subst (λ (o : Option (_ × Reply)). IfSome o (λ t. P t.0 t.1)) same (to_turn P x is))

fds_turn : {S : Type 0} (fds : Descriptors) (x : Slot S) → turn_of (with_fds fds x) ≡ turn_of x
fds_turn fds None = refl
fds_turn fds (Some p) = refl

woken_turn : {S : Type 0} (channel : Channel) (x : Slot S) → turn_of (woken channel x) ≡ turn_of x
woken_turn channel None = refl
woken_turn channel (Some p) = refl

module _ {S : Type 0} (pid : ℕ) where
  let_go_turn : (k : KernelState S) (r : Result (Option Object) FdFault) → turn_of (at (let_go_of k r).table pid) ≡ turn_of (at k.table pid)
  let_go_turn k (Err fault) = refl
  let_go_turn k (Ok None) = refl
  let_go_turn k (Ok (Some Input)) = refl
  let_go_turn k (Ok (Some Out)) = refl
  let_go_turn k (Ok (Some Diag)) = refl
  let_go_turn k (Ok (Some (File name mode))) = refl
  let_go_turn k (Ok (Some (PipeRead id))) = ap turn_of (mapped (woken (PipeRoom id)) refl k.table pid) ∙ woken_turn (PipeRoom id) (at k.table pid)
  let_go_turn k (Ok (Some (PipeWrite id))) = ap turn_of (mapped (woken (PipeBytes id)) refl k.table pid) ∙ woken_turn (PipeBytes id) (at k.table pid)

  pub closed_turn : (k : KernelState S) (fd : ℕ) → turn_of (at (closed k pid fd).table pid) ≡ turn_of (at k.table pid)
  closed_turn k fd =
      let entry = entry_of (fds_at k pid) fd in
      let fds = after_close (fds_at k pid) fd entry in
      let_go_turn (taken_away k pid fd entry) (close_answer k.entries entry) ∙ ap turn_of (written (with_fds fds) refl k.table pid) ∙ fds_turn fds (at k.table pid)
