-- What each step of a node does to it.
use Rattle.std.specs.Prelude.{ℕ, List, [], ◌∷◌, ◌++◌, Some, None}
use Rattle.sq_schema.specs.TxnValue.{TxnValue}
use Rattle.sq_schema.specs.declared.txn.Reply.{Reply}
use Rattle.sq_store.specs.StoreValue.{StoreValue, log_length, store_after, with_families}
use Rattle.sq_store.specs.ChunkValue.{ChunkValue}
use Rattle.sq_exec.specs.declared.outcome.Outcome.{Outcome}
use Rattle.sq_exec.specs.declared.outcome.Outcome.TheVariants.{Done, Moved, Waits}
use Rattle.sq_exec.specs.GivenUp.{given_up_with}
use Rattle.sq_exec.specs.Runs.{runs_with}
use Rattle.sq_exec.specs.Work.{WorkValue}
use Rattle.sq_exec.specs.OutLink.{OutLinkValue}
use Rattle.sq_exec.specs.Moving.{with_work}
use Rattle.sq_node_model.specs.NodeValue.{ReceiptValue, NodeValue, put}

-- a node of a tree was begun: its leaves are given up, and its keys are the last work of the link
abbrev pub node_begun : NodeValue → ℕ → WorkValue → NodeValue
node_begun node dst work =
    record node {
      begun = put work.seg ((work.node, work.pull) ∷ node.begun work.seg) node.begun;
      given_up = put work.seg (given_up_with (node.given_up work.seg) work.node) node.given_up;
      outs = put dst (with_work (node.outs dst) work) node.outs;
    }

-- a chunk was cut: it left this end of the link, and these families
abbrev pub node_cut : NodeValue → ℕ → OutLinkValue → StoreValue → NodeValue
node_cut node dst out store = record node { store = store; outs = put dst out node.outs }

-- the chunk of an outbox was pushed onto its link
abbrev pub node_sent : NodeValue → ℕ → ChunkValue → NodeValue
node_sent node dst chunk =
    record node {
      outs = put dst (record (node.outs dst) { outbox = None }) node.outs;
      sent = put dst (node.sent dst ++ chunk ∷ []) node.sent;
    }

-- a chunk was popped off a link into the inbox
abbrev pub node_received : NodeValue → ℕ → ChunkValue → NodeValue
node_received node src chunk =
    record node {
      received = put src (node.received src ++ chunk ∷ []) node.received;
      inboxes = put src (Some chunk) node.inboxes;
    }

-- the chunk of an inbox was loaded: its families are here, and its keys are loaded
abbrev pub node_loaded : NodeValue → ℕ → ChunkValue → NodeValue
node_loaded node src chunk =
    record node {
      store = with_families node.store chunk.families;
      loaded = put chunk.note.seg (runs_with (node.loaded chunk.note.seg) chunk.note) node.loaded;
      inboxes = put src None node.inboxes;
    }

-- a node of a tree was completed
abbrev pub node_completed : NodeValue → ℕ → ℕ → ℕ → NodeValue
node_completed node seg n pull = record node { completed = put seg ((n, pull) ∷ node.completed seg) node.completed }

-- the receipt of a transaction that had this reply on these families
abbrev pub receipt_of : StoreValue → TxnValue → Reply → ReceiptValue
receipt_of store txn reply = record { txn = txn; position = log_length store txn.root; reply = reply }

-- a transaction had this reply: if it committed it is at the end of its family's log, and it has
-- its receipt either way
abbrev pub node_answered : NodeValue → TxnValue → Reply → NodeValue
node_answered node txn reply =
    record node {
      store = store_after node.store txn reply;
      receipts = node.receipts ++ receipt_of node.store txn reply ∷ [];
    }

-- this is the outcome of a transaction that was submitted or resumed: it was answered, or what the
-- node keeps didn't change
abbrev pub node_served : NodeValue → TxnValue → Outcome → NodeValue
node_served node txn (Done reply) = node_answered node txn reply
node_served node txn (Moved who) = node
node_served node txn (Waits seg leaf) = node

-- the receipts after this outcome of a transaction at a partition with these families: it has one
-- if it ran
abbrev pub receipts_after : StoreValue → TxnValue → Outcome → List ReceiptValue → List ReceiptValue
receipts_after store txn (Done reply) receipts = receipts ++ receipt_of store txn reply ∷ []
receipts_after store txn (Moved who) receipts = receipts
receipts_after store txn (Waits seg leaf) receipts = receipts
