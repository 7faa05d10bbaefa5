-- A process that sleeps makes a call that may sleep there: the call that put it to sleep is one, and no call of another process
-- takes that from it.
use Rattle.std.proofs.Common.{◌≡◌, ℕ, Option, Some, None, refl, sym, ap, subst, ◌∙◌, arith}
use Rattle.user_calls.specs.declared.calls.Call.{Call}
use Rattle.user_calls.specs.declared.calls.Reply.{Reply}
use Rattle.fd_table.specs.declared.names.Object.{Object}
use Rattle.fd_table.specs.declared.names.Object.TheVariants.{PipeRead, PipeWrite}
use Rattle.fd_table.specs.Entries.{Entries, entry_at}
use Rattle.fd_table.specs.Descriptors.{Descriptors, entry_of}
use Rattle.proc_table.specs.declared.states.Channel.{Channel}
use Rattle.proc_table.specs.declared.states.Channel.TheVariants.{PipeBytes, PipeRoom, Children}
use Rattle.proc_table.specs.declared.states.Status.TheVariants.{Asleep}
use Rattle.proc_table.specs.Slots.{Slot, Process, at}
use Rattle.kernel_model.specs.KernelState.{KernelState, fds_of, file_at}
use Rattle.law_kernel.specs.Outcome.{object_of, object_at}
use Rattle.law_kernel.specs.Asking.{MaySleep, AllAsk}
use Rattle.law_kernel.proofs.kernel.Leaves.{Left, Leaves}

-- ---- what a descriptor holds

-- what a process's descriptor holds, by its own descriptors
pub object_by : {S : Type 0} (k : KernelState S) (q fd : ℕ) (p : Process S) → at k.table q ≡ Some p → object_at k q fd ≡ object_of (file_at k.entries (entry_of p.fds fd))
object_by k q fd p is = ap (λ (x : Slot _). object_of (file_at k.entries (entry_of (fds_of x) fd))) is

entry_stays : (E F : Entries) (o : Option ℕ) (object : Object) → ((e : ℕ) → o ≡ Some e → object_of (entry_at E e) ≡ Some object → object_of (entry_at F e) ≡ Some object) → object_of (file_at E o) ≡ Some object → object_of (file_at F o) ≡ Some object
entry_stays E F None object stays is = is
entry_stays E F (Some e) object stays is = stays e refl is

module _ {S : Type 0} (k l : KernelState S) (q : ℕ) (now : Process S) (c : Channel) (is : at l.table q ≡ Some now) (left : Left k.table k.entries l.entries q now c) where
  object_stays : (fd : ℕ) (object : Object) → object_at k q fd ≡ Some object → object_at l q fd ≡ Some object
  object_stays fd object has =
      let p = left.slot.p in
      let before : object_of (file_at k.entries (entry_of p.fds fd)) ≡ Some object = sym (object_by k q fd p left.slot.was) ∙ has in
      object_by l q fd now is ∙ ap (λ (fds : Descriptors). object_of (file_at l.entries (entry_of fds fd))) left.slot.fds
      ∙ entry_stays k.entries l.entries (entry_of p.fds fd) object (λ e held. left.objects fd e object held) before

  -- what it may do asleep, it may still
  may_still : (call : Call) (d : Channel) → MaySleep k q call left.slot.p.put d → MaySleep l q call now.put d
  may_still call (PipeBytes id) m = (m.0, m.1, m.2, object_stays m.0 (PipeRead id) m.3)
  may_still call (PipeRoom id) m = (m.0, (m.1.0, m.1.1, object_stays m.1.0 (PipeWrite id) m.1.2), omega (arith, m.2, left.slot.put))
  may_still call (Children pid) m = m

-- so it goes on asking
pub asks_still : {S : Type 0} (call : S → Reply → Call) (k l : KernelState S) (q : ℕ) → AllAsk call k → Leaves q k l → (now : Process S) (c : Channel) → at l.table q ≡ Some now → now.status ≡ Asleep c → MaySleep l q (call now.machine now.reply) now.put c
asks_still call k l q all leaves now c is sleeps =
    let left = leaves now c is sleeps in
    let old = left.slot.p in
    let same : call now.machine now.reply ≡ call old.machine old.reply = ap (λ m. call m now.reply) left.slot.machine ∙ ap (call old.machine) left.slot.reply in
    subst (λ (d : Call). MaySleep l q d now.put c) (sym same) (may_still k l q now c is left (call old.machine old.reply) c (all q old c left.slot.was left.slot.asleep))
