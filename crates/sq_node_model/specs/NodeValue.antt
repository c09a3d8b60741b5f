-- A node: a partition, with what its thread did on the trees and links that it shares with others.
use Rattle.std.specs.Prelude.{ℕ, Bool, ◌==◌, if◌then◌else◌, List, Option}
use Rattle.sq_schema.specs.TxnValue.{TxnValue}
use Rattle.sq_schema.specs.declared.txn.Reply.{Reply}
use Rattle.sq_store.specs.StoreValue.{StoreValue}
use Rattle.sq_store.specs.ChunkValue.{ChunkValue}
use Rattle.sq_exec.specs.declared.run.Run.{Run}
use Rattle.sq_exec.specs.OutLink.{OutLinkValue}
use Rattle.sq_exec.specs.CoreValue.{CoreValue, out_at, inbox_at, given_up_at, loaded_at}
use Rattle.sq_shared.specs.declared.view.View.{View}

-- the answer to a transaction: the transaction, how many transactions the log of its root key held
-- before it, and the reply
pub record ReceiptValue : Type 0 where
  pub txn : TxnValue
  pub position : ℕ
  pub reply : Reply

-- the partition, its families, and the receipts in the order in which they were written; by
-- segment, the nodes of its tree that were begun and completed here, each with its pull, the leaves
-- that were given up, and what was loaded; by destination, the end of the link to it, and the
-- chunks that were sent; by source, the chunks that were received, and the one of them that isn't
-- loaded yet
pub record NodeValue : Type 0 where
  pub part : ℕ
  pub store : StoreValue
  pub receipts : List ReceiptValue
  pub begun : ℕ → List (ℕ × ℕ)
  pub completed : ℕ → List (ℕ × ℕ)
  pub given_up : ℕ → List Bool
  pub loaded : ℕ → List Run
  pub outs : ℕ → OutLinkValue
  pub sent : ℕ → List ChunkValue
  pub received : ℕ → List ChunkValue
  pub inboxes : ℕ → Option ChunkValue

-- a node at work: its partition, the views of its seats by segment, what its ends of links sent and
-- received by the other partition, and its receipts
pub record NodeAtWork : Type 0 where
  pub core : CoreValue
  pub views : ℕ → View
  pub sent : ℕ → List ChunkValue
  pub received : ℕ → List ChunkValue
  pub receipts : List ReceiptValue

-- what the node keeps, by segment and by link
abbrev pub node_of : NodeAtWork → NodeValue
node_of node =
    record {
      part = node.core.part;
      store = node.core.store;
      receipts = node.receipts;
      begun = λ seg. (node.views seg).begun;
      completed = λ seg. (node.views seg).completed;
      given_up = given_up_at node.core;
      loaded = loaded_at node.core;
      outs = out_at node.core;
      sent = node.sent;
      received = node.received;
      inboxes = inbox_at node.core;
    }

-- a function with another value at this key
abbrev pub put : {X : Type 0} → ℕ → X → (ℕ → X) → ℕ → X
put key value f k = if k == key then value else f k
