-- What the threads of a run share, and what goes to them.
use denote.RattleType.{RattleType}
use denote.Memory.{raw_all}
use denote.Param.Send.{IsSend, IsSync, sendable, whole-keyless, view_sync}
use denote.Param.SendFields.{declared_sync}
use Rattle.std.specs.contracts.alloc.Global as Global
use Rattle.std.specs.contracts.impls.GlobalAllocator.TheImpl as Impl
use Rattle.std.specs.contracts.boxed.Box as Box
use Rattle.std.specs.contracts.vec.Vec as Vec
use Rattle.std.proofs.Crossing.{frees}
use Rattle.std.proofs.boxed.Box.TheSendSync as boxed
use Rattle.std.proofs.vec.Vec.TheSendSync as vec
use Rattle.std.proofs.alloc.Global.TheSendSync as global
use Rattle.std.proofs.sync.atomic.AtomicU64.TheSendSync as atomic
use Rattle.atomic_table.specs.contracts.shared.Seat as Seat
use Rattle.atomic_table.proofs.shared.Seat.TheSendSync as seat
use Rattle.crossbeam_queue.specs.contracts.array_queue.plain.ArrayQueue as ArrayQueue
use Rattle.crossbeam_queue.proofs.array_queue.plain.ArrayQueue.TheSendSync as queue
use Rattle.sq_schema.specs.contracts.txn.Txn as Txn
use Rattle.sq_schema.proofs.txn.Txn.TheSendSync as txn
use Rattle.sq_shared.specs.contracts.request.Request as Request
use Rattle.sq_shared.proofs.request.Request.TheSendSync as request
use Rattle.sq_moves.proofs.recon.Recon.TheSendSync as recon
use Rattle.sq_shared.specs.contracts.tree.StatusTree as StatusTree
use Rattle.sq_shared.specs.contracts.tree.TreeSeat as TreeSeat
use Rattle.sq_shared.specs.contracts.tree.TreeSeat.TheInside as Held
use Rattle.sq_shared.proofs.tree.StatusTree.TheSendSync as tree
use Rattle.sq_shared.specs.contracts.link.SharedLink as SharedLink
use Rattle.sq_shared.proofs.link.SharedLink.TheSendSync as link
use Rattle.sq_history.proofs.history.History.TheSendSync as history
use Rattle.sq_node.specs.contracts.receipt.Receipt as Receipt
use Rattle.sq_node.proofs.receipt.Receipt.TheSendSync as receipt
use Rattle.sq_node.specs.contracts.fabric.Fabric as Fabric
use Rattle.sq_node.specs.contracts.fabric.Fabric.TheInside as Shared

-- threads may share a seat of a table: who has a `&` to it can make no step
table_seat : (S V : RattleType) → IsSend S → IsSync (Seat.the_row S V)
table_seat S V s = record { shared = λ d b o κ q. whole-keyless (raw_all (Seat.the_row S V).mir) (Seat.the_row S V).own_val (seat.the_send S V s).owned q d b o }

tree_seat : IsSync TreeSeat.the_row
tree_seat = view_sync Held.the_row _ _ _ _ (declared_sync Held.the_type (table_seat _ _ (search sendable depth 10), tt))

vec_sync : (T : RattleType) → IsSync T → IsSync (Vec.the_row T Global.the_row Impl.ghosts)
vec_sync T y = vec.the_sync T Global.the_row Impl.ghosts y global.the_sync

queue_sync : (T : RattleType) → IsSend T → IsSync (ArrayQueue.the_row T Global.the_row Impl.ghosts)
queue_sync T s = search (queue.the_sync, global.the_send, global.the_sync, frees) depth 10

boxed_send : (T : RattleType) → IsSend T → IsSend (Box.the_row T Global.the_row Impl.ghosts)
boxed_send T s = boxed.the_send T Global.the_row Impl.ghosts s global.the_send frees

-- threads may share what a run shares
pub fabric_sync : IsSync Fabric.the_row
fabric_sync =
    view_sync Shared.the_row _ _ _ _
    (declared_sync Shared.the_type (
      recon.the_sync,
      (
        search sendable,
        (
          search sendable,
          (
            search sendable,
            (
              vec_sync StatusTree.the_row tree.the_sync,
              (
                vec_sync TreeSeat.the_row tree_seat,
                (
                  vec_sync SharedLink.the_row link.the_sync,
                  (
                    history.the_sync Receipt.the_row receipt.the_send receipt.the_sync,
                    (vec_sync _ (queue_sync Request.the_row request.the_send), (vec_sync _ (queue_sync _ (boxed_send Txn.the_row txn.the_send)), (atomic.the_sync, (atomic.the_sync, tt)))),
                  ),
                ),
              ),
            ),
          ),
        ),
      ),
    ))
