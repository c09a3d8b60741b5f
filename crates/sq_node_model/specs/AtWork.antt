-- What each step does to a node at work, and what it requires.
use Rattle.std.specs.Prelude.{◌≡◌, ℕ, true, [], ◌∷◌, ◌++◌, slice_get, Some, None}
use Rattle.sq_schema.specs.TxnValue.{TxnValue}
use Rattle.sq_moves.specs.declared.status.Status.{Status}
use Rattle.sq_moves.specs.declared.status.Status.TheVariants.{Partial}
use Rattle.sq_moves.specs.Node.{is_node}
use Rattle.sq_store.specs.declared.chunk.Note.{Note}
use Rattle.sq_store.specs.ChunkValue.{ChunkValue}
use Rattle.sq_moves.specs.declared.recon.Range.{Range}
use Rattle.sq_moves.specs.OpeningValue.{OpeningValue}
use Rattle.sq_moves.specs.Opening.{IsOpening}
use Rattle.sq_store.specs.StoreValue.{StoreValue}
use Rattle.sq_exec.specs.declared.outcome.Outcome.{Outcome}
use Rattle.sq_exec.specs.CoreValue.{CoreValue, out_at, with_out, with_inbox}
use Rattle.sq_exec.specs.Work.{WorkValue}
use Rattle.sq_exec.specs.Moving.{LoadsFrom, whole_node, begun_core}
use Rattle.sq_shared.specs.declared.view.View.{View}
use Rattle.sq_shared.specs.Plays.{Won}
use Rattle.sq_node_model.specs.NodeValue.{NodeValue, NodeAtWork, node_of, put}
use Rattle.sq_node_model.specs.Steps.{node_begun, node_loaded, node_served, receipts_after}
use Rattle.sq_node_model.specs.Stages.{runs_in}
use Rattle.sq_node_model.specs.BeganWith.{BeganWith}
use Rattle.sq_node_model.specs.NodeHolds.{NodeHolds}
use Rattle.sq_node_model.specs.Cores.{staged_core, IsCoreOf, IsLoadable, HasNoneToLoad, IsUnused}

-- the node keeps all its invariants
abbrev pub AllHolds : OpeningValue → BeganWith → NodeAtWork → Type 0
AllHolds o began node = NodeHolds o began (node_of node)

-- if a node keeps all its invariants before a step, it does after it
abbrev pub Keeps : OpeningValue → BeganWith → NodeAtWork → NodeAtWork → Type 0
Keeps o began node after = AllHolds o began node → AllHolds o began after

-- it does so under each opening and each beginning of a stage
abbrev pub KeepsAlways : NodeAtWork → NodeAtWork → Type 0
KeepsAlways node after = (o : OpeningValue) (began : BeganWith) → Keeps o began node after

-- it does so under each opening and each beginning of the stage that its partition is in
abbrev pub KeepsInStage : NodeAtWork → NodeAtWork → Type 0
KeepsInStage node after =
    (o : OpeningValue) (began : BeganWith) → IsOpening o → IsCoreOf o began.stage node.core → Keeps o began node after

-- it does so if keys move from that partition to its own in the stage
abbrev pub KeepsAsReceiver : ℕ → NodeAtWork → NodeAtWork → Type 0
KeepsAsReceiver src node after =
    (o : OpeningValue) (began : BeganWith) → IsOpening o → IsCoreOf o began.stage node.core
    → runs_in o began.stage src node.core.part ≡ true → Keeps o began node after

-- under each opening and each beginning of a stage under which the node keeps all its invariants,
-- it has nothing to load from the partition
abbrev pub HasNoneToLoadFrom : ℕ → NodeAtWork → Type 0
HasNoneToLoadFrom src node =
    (o : OpeningValue) (began : BeganWith) → IsOpening o → IsCoreOf o began.stage node.core → AllHolds o began node
    → HasNoneToLoad o began.stage (node_of node) src

-- the partition of the node loaded a chunk that came from that one and can be loaded
pub record LoadsOne (node : NodeAtWork) (src : ℕ) (new : CoreValue) : Type 0 where
  pub note : Note
  pub step : LoadsFrom node.core src note new
  pub loadable : IsLoadable node.core src step.chunk

-- the node has this partition, before any step of its thread
pub record IsFreshWith (core : CoreValue) (node : NodeAtWork) : Type 0 where
  pub partition : node.core ≡ core
  pub unused : IsUnused node.views node.sent node.received
  pub receipts : node.receipts ≡ []

-- each node of a partition that opens with this store as the stage begins keeps all its invariants
-- before any step of its thread
abbrev pub NewNodesHold : OpeningValue → BeganWith → ℕ → StoreValue → Type 0
NewNodesHold o began part store =
    (node : NodeAtWork) → IsFreshWith (staged_core o began.stage part store) node → AllHolds o began node

-- the node with the partition in this state
abbrev pub with_partition : NodeAtWork → CoreValue → NodeAtWork
with_partition node core = record node { core = core }

-- the node with these views of the seats
abbrev pub with_views : NodeAtWork → (ℕ → View) → NodeAtWork
with_views node views = record node { views = views }

-- the seats, by segment, began and completed no more than before
pub record DidNoMore (before now : ℕ → View) : Type 0 where
  pub begun : (seg : ℕ) → (now seg).begun ≡ (before seg).begun
  pub completed : (seg : ℕ) → (now seg).completed ≡ (before seg).completed

-- a word that a seat won: the segment of its tree, the tree node, the pull, and the view of the
-- seat since
pub record WonWord : Type 0 where
  pub seg : ℕ
  pub node : ℕ
  pub pull : ℕ
  pub view : View

-- the seat of the node won the word, which gave the tree node this status
abbrev pub WinsAs : (ℕ → Status) → NodeAtWork → WonWord → Type 0
WinsAs status node word = Won (node.views word.seg) word.node (status word.pull) word.view

-- the work on the tree node of the word once it is begun, if it is one of this segment
abbrev pub work_won : NodeAtWork → WonWord → Range → WorkValue
work_won node word segment = whole_node node.core segment word.seg word.node word.pull

-- the segment of this number moves out of the partition in this stage
pub record MovesOut (o : OpeningValue) (i part seg : ℕ) (segment : Range) : Type 0 where
  pub there : slice_get o.recon.segments seg ≡ Some segment
  pub source : segment.src ≡ part
  pub runs : runs_in o i segment.src segment.dst ≡ true

-- the node once it began the tree node of the word, whose keys its partition gave up
abbrev pub once_begun : NodeAtWork → WonWord → NodeAtWork
once_begun node word = record node {
  core = begun_core node.core word.seg word.node word.pull;
  views = put word.seg word.view node.views;
}

-- the value of the node after that: its partition gave up the keys of the tree node, which is to be
-- sent to the segment's destination
abbrev pub begun_value : NodeAtWork → WonWord → Range → NodeValue
begun_value node word segment = node_begun (node_of node) segment.dst (work_won node word segment)

-- the seat of a node, whose partition is in this stage, won the word for a tree node of this
-- segment
pub record WinsBegin (o : OpeningValue) (i : ℕ) (node : NodeAtWork) (word : WonWord) (segment : Range) : Type 0 where
  pub core : IsCoreOf o i node.core
  pub there : slice_get o.recon.segments word.seg ≡ Some segment
  pub won : WinsAs Partial node word

-- it did so for a segment that moves out of the partition in this stage
pub record WinsBeginOutward (o : OpeningValue) (i : ℕ) (node : NodeAtWork) (word : WonWord) : Type 0 where
  pub core : IsCoreOf o i node.core
  pub segment : Range
  pub moves : MovesOut o i node.core.part word.seg segment
  pub one : is_node word.node ≡ true
  pub won : WinsAs Partial node word

-- the node once the chunk of an outbox was pushed onto its link
abbrev pub once_sent : NodeAtWork → ℕ → ChunkValue → NodeAtWork
once_sent node dst chunk = record node {
  core = with_out node.core dst (record (out_at node.core dst) { outbox = None });
  sent = put dst (node.sent dst ++ chunk ∷ []) node.sent;
}

-- the node once a chunk was popped off a link into the inbox
abbrev pub once_received : NodeAtWork → ℕ → ChunkValue → NodeAtWork
once_received node src chunk = record node {
  core = with_inbox node.core src (Some chunk);
  received = put src (node.received src ++ chunk ∷ []) node.received;
}

-- the node once it completed the tree node of the word
abbrev pub once_completed : NodeAtWork → WonWord → NodeAtWork
once_completed node word = with_views node (put word.seg word.view node.views)

-- the node after this outcome of a transaction, which left the partition in this state: it has a
-- receipt if it ran
abbrev pub once_served : NodeAtWork → CoreValue → TxnValue → Outcome → NodeAtWork
once_served node core txn outcome = record node {
  core = core;
  receipts = receipts_after node.core.store txn outcome node.receipts;
}

-- this is the step of a node that loads a chunk that came from the partition
abbrev pub LoadsAs : NodeAtWork → CoreValue → ℕ → ChunkValue → Type 0
LoadsAs node new src chunk = node_of (with_partition node new) ≡ node_loaded (node_of node) src chunk

-- this is the step of a node that serves a transaction so
abbrev pub ServesAs : NodeAtWork → CoreValue → TxnValue → Outcome → Type 0
ServesAs node core txn outcome = node_of (once_served node core txn outcome) ≡ node_served (node_of node) txn outcome
