-- Nodes at work, made of their parts.
use Rattle.std.proofs.Common.{ℕ, List, [], sym, subst}
use Rattle.sq_store.specs.ChunkValue.{ChunkValue}
use Rattle.sq_moves.specs.OpeningValue.{OpeningValue}
use Rattle.sq_exec.specs.CoreValue.{CoreValue}
use Rattle.sq_shared.specs.declared.view.View.{View}
use Rattle.sq_node_model.specs.NodeValue.{ReceiptValue, NodeAtWork, NodeValue, node_of}
use Rattle.sq_node_model.specs.BeganWith.{BeganWith}
use Rattle.sq_node_model.specs.NodeHolds.{NodeHolds}
use Rattle.sq_node_model.specs.AtWork.{AllHolds, IsFreshWith}

-- the node with this partition, these views of its seats, these chunks that were sent and received, and these receipts
abbrev pub node_with : CoreValue → (ℕ → View) → (ℕ → List ChunkValue) → (ℕ → List ChunkValue) → List ReceiptValue → NodeValue
node_with core views sent received receipts =
    node_of (record { core = core; views = views; sent = sent; received = received; receipts = receipts })

-- all holds of a fresh node where it does of the one with its partition
pub fresh_holds : (o : OpeningValue) (began : BeganWith) (core : CoreValue) (node : NodeAtWork) → IsFreshWith core node
    → NodeHolds o began (node_with core node.views node.sent node.received []) → AllHolds o began node
fresh_holds o began core node new h =
    subst (NodeHolds o began) (λ i. node_with (sym new.partition i) node.views node.sent node.received (sym new.receipts i)) h
