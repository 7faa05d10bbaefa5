-- A machine of a script over the ordinary heap may go to another thread: whatever it is in, it borrows trees and lines, and owns nothing that is one thread's.
use denote.RattleType.{RattleType}
use denote.Ref.{NamedLft}
use denote.Param.Send.{IsSend, IsSync, sendable, recorded_send, struct_send, enum_send, recorded_sync, enum_sync, plain_send}
use denote.Struct.Declared as Declared
use denote.Enum.Declared as Choice
use Rattle.std.proofs.Crossing.{crosses}
use Rattle.std.specs.contracts.alloc.Global as Global
use Rattle.std.specs.contracts.impls.GlobalAllocator.TheImpl as heap
use Rattle.std.proofs.alloc.Global.TheSendSync as HeapSends
use Rattle.sh_lexer.proofs.bytes.Bytes.TheSendSync as BytesSends
use Rattle.sh_tree.proofs.words.Words.TheSendSync as WordsSends
use Rattle.sh_tree.proofs.tree.Cmd.TheLaws.TheKnot as CmdSends
use Rattle.sh_tree.specs.contracts.tree.Cmd as Cmd
use Rattle.script_load.specs.contracts.line.Line as Line
use Rattle.user_progs.proofs.prog.Prog.TheSendSync as ProgSends
use Rattle.sh_machine.proofs.place.Place.TheSendSync as PlaceSends
use Rattle.sh_machine.specs.contracts.user.User as User
use Rattle.sh_machine.specs.contracts.user.Kind as Kind
use Rattle.sh_machine.specs.contracts.state.At as At
use Rattle.sh_machine.specs.contracts.state.Parent as Parent
use Rattle.sh_machine.specs.contracts.node.Node as Node
use Rattle.sh_machine.specs.contracts.rest.Rest as Rest
use Rattle.sh_machine.specs.declared.naming.Naming as Naming

cmd_sync : IsSync (Cmd.the_row Global.the_row heap.ghosts)
cmd_sync = search (crosses, sendable, CmdSends.crosses, BytesSends.the_sync, WordsSends.the_sync, HeapSends.the_sync) depth 60 fits 20000

cmd_field : IsSync (Cmd.the_field Global.the_row heap.ghosts).row
cmd_field = search (crosses, sendable, CmdSends.sync-Cmd, BytesSends.the_sync, WordsSends.the_sync, HeapSends.the_sync) depth 60 fits 20000

line_sync : IsSync (Line.the_row Global.the_row heap.ghosts)
line_sync =
    recorded_sync (Line.the_field Global.the_row heap.ghosts).row _ _ (Line.the_type Global.the_row heap.ghosts).to_one (
    enum_sync (Choice.shape (Line.the_type Global.the_row heap.ghosts)) (
      (cmd_field, tt),
      (
        (search sendable depth 20 fits 20000, (search (sendable, BytesSends.the_sync, HeapSends.the_sync), tt)),
        ((search (sendable, BytesSends.the_sync, HeapSends.the_sync), tt), tt),
      ),
    ))

module _ (ℓ : NamedLft) (N : RattleType) (n : Naming.Ghosts N.Denot) where
  node_send : IsSend (Node.the_field ℓ Global.the_row N n heap.ghosts).row
  node_send = struct_send (Declared.shape (Node.the_type ℓ Global.the_row N n heap.ghosts)) (search (crosses, sendable, cmd_sync, PlaceSends.the_send) depth 60 fits 20000)

  rest_send : IsSend (Rest.the_field ℓ Global.the_row N n heap.ghosts).row
  rest_send = struct_send (Declared.shape (Rest.the_type ℓ Global.the_row N n heap.ghosts)) (search (crosses, sendable, line_sync) depth 60 fits 20000)

  parent_send : IsSend (Parent.the_field ℓ Global.the_row N n heap.ghosts).row
  parent_send =
      enum_send (Choice.shape (Parent.the_type ℓ Global.the_row N n heap.ghosts)) (
        (node_send, (node_send, tt)),
        (
          (node_send, (node_send, (plain_send _ _ _ _ _, (plain_send _ _ _ _ _, tt)))),
          (
            (node_send, (plain_send _ _ _ _ _, (plain_send _ _ _ _ _, tt))),
            (
              (plain_send _ _ _ _ _, tt),
              (tt, (tt, (tt, tt))),
            ),
          ),
        ),
      )

  at_send : IsSend (At.the_field ℓ Global.the_row N n heap.ghosts).row
  at_send =
      enum_send (Choice.shape (At.the_type ℓ Global.the_row N n heap.ghosts)) (
        (search sendable depth 20 fits 20000, (rest_send, tt)),
        (
          (search sendable, tt),
          (
            (search sendable, (search sendable, (node_send, tt))),
            (
              (search sendable, (node_send, tt)),
              (
                (node_send, (node_send, tt)),
                (
                  (node_send, tt),
                  (
                    (parent_send, tt),
                    (
                      (search sendable depth 20 fits 20000, (node_send, tt)),
                      (
                        (node_send, tt),
                        (tt, (tt, tt)),
                      ),
                    ),
                  ),
                ),
              ),
            ),
          ),
        ),
      )

  kind_send : IsSend (Kind.the_field ℓ Global.the_row N n heap.ghosts).row
  kind_send =
      enum_send (Choice.shape (Kind.the_type ℓ Global.the_row N n heap.ghosts)) (
        tt,
        (
          (search sendable, (at_send, tt)),
          ((search (sendable, ProgSends.the_field_send, HeapSends.the_sync), tt), tt),
        ),
      )

  pub user_send : IsSend (User.the_row ℓ Global.the_row N n heap.ghosts)
  user_send =
      recorded_send (User.the_field ℓ Global.the_row N n heap.ghosts).row _ _ (User.the_type ℓ Global.the_row N n heap.ghosts).to_one (
      struct_send (Declared.shape (User.the_type ℓ Global.the_row N n heap.ghosts)) (kind_send, tt))
