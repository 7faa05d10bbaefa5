-- What harts share may go to their threads.
use denote.RattleType.{RattleType}
use denote.Param.Send.{IsSend, IsSync, Frees, sendable, view_send, recorded_send, struct_send, recorded_sync, struct_sync, plain_send}
use denote.Struct.Declared as Declared
use Rattle.std.specs.contracts.alloc.Global as Global
use Rattle.std.specs.contracts.impls.GlobalAllocator.TheImpl as heap
use Rattle.std.specs.contracts.snapshot.Snapshot as Snapshot
use Rattle.std.specs.declared.alloc.Allocator as Allocator
use Rattle.std.specs.declared.sync.ledger.Ledger as Ledger
use Rattle.std.proofs.Crossing.{crosses}
use Rattle.std.proofs.sync.ledger.Book.TheSendSync as BookSends
use Rattle.std.proofs.sync.ledger.Share.TheSendSync as ShareSends
use Rattle.std.proofs.sync.Mutex.TheSendSync as MutexSends
use Rattle.user_calls.proofs.slots.CallSlot.TheSendSync as CallSlotSends
use Rattle.user_calls.specs.declared.machine.Machine as Machine
use Rattle.kernel_calls.specs.contracts.state.State as State
use Rattle.kernel_calls.proofs.state.State.TheSendSync as StateSends
use Rattle.kernel_events.specs.contracts.kernel.Kernel as Kernel
use Rattle.kernel_events.specs.contracts.kernel.Kernel.TheInside as Inside
use Rattle.kernel_events.proofs.log.Log.TheSendSync as LogSends
use Rattle.kernel_threads.specs.declared.naming.Run as Run
use Rattle.kernel_threads.specs.contracts.locked.Locked as Locked
use Rattle.kernel_threads.specs.contracts.locked.Locked.TheInside as LockedInside
use Rattle.kernel_threads.specs.contracts.sharing.Shared as Shared

global_send : IsSend Global.the_row
global_send = search sendable

global_frees : Frees heap.ghosts heap.ghosts.dealloc_token
global_frees = search (crosses)

snapshot_send : (Y : RattleType) → IsSend (Snapshot.the_row Y)
snapshot_send Y = record { owned = λ d vs. ((λ vss. (tt, ((λ uss. (tt, tt)), tt))), tt); leaving = λ k f vs. tt }

module _ (M A S : RattleType) (g : Machine.Ghosts M.Denot S.Denot) (a : Allocator.Ghosts A.Denot) where
  pub kernel_send : IsSend M → IsSend A → Frees a a.dealloc_token → IsSend (Kernel.the_row M A S g a)
  kernel_send =
      λ m h f. view_send (Inside.the_row M A S g a) _ _ _ _ (
      recorded_send (Inside.the_field M A S g a).row _ _ (Inside.the_type M A S g a).to_one (
      struct_send (Declared.shape (Inside.the_type M A S g a)) (
        StateSends.the_send M A S g a m h f,
        (LogSends.the_send A a h f, (snapshot_send (State.the_row M A S g a), (CallSlotSends.the_send, tt))),
      )))

module _ (N M S : RattleType) (r : Run.Ghosts N.Denot) (l : Ledger.Ghosts N.Denot) (g : Machine.Ghosts M.Denot S.Denot) where
  locked_send : IsSend M → IsSend (Locked.the_row N M S r l g)
  locked_send =
      λ m. view_send (LockedInside.the_row N M S r l g) _ _ _ _ (
      recorded_send (LockedInside.the_field N M S r l g).row _ _ (LockedInside.the_type N M S r l g).to_one (
      struct_send (Declared.shape (LockedInside.the_type N M S r l g)) (
        kernel_send M Global.the_row S g heap.ghosts m global_send global_frees,
        (plain_send _ _ _ _ _, (BookSends.the_send N l, (ShareSends.the_send N l, tt))),
      )))

  pub shared_sync : IsSend M → IsSync (Shared.the_row N M S r l g)
  shared_sync =
      λ m. recorded_sync (Shared.the_field N M S r l g).row _ _ (Shared.the_type N M S r l g).to_one (
      struct_sync (Declared.shape (Shared.the_type N M S r l g)) (
        MutexSends.the_sync (Locked.the_row N M S r l g) (locked_send m),
        tt,
      ))
