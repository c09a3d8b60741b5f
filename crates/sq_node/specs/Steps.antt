-- What each step of a node does to it.
use Rattle.std.specs.Prelude.{◌≡◌, ℕ, Bool, ◌+◌, ◌<◌, ◌==◌, ◌&&◌, ◌⊎◌, true, false, List, length, slice_get, slice_set, Some, None, IsSome, is_some}
use Rattle.sq_schema.specs.TxnValue.{TxnValue}
use Rattle.sq_moves.specs.declared.status.Status.TheVariants.{Partial}
use Rattle.sq_moves.specs.Node.{is_node}
use Rattle.sq_moves.specs.declared.recon.Range.{Range}
use Rattle.sq_moves.specs.ReconValue.{stage_on, stage_in}
use Rattle.sq_shared.specs.Plays.{Won}
use Rattle.sq_shared.specs.Seat.{SeatValue}
use Rattle.sq_store.specs.declared.chunk.Note.{Note}
use Rattle.sq_store.specs.ChunkValue.{ChunkValue, IsChunk}
use Rattle.sq_exec.specs.CoreValue.{CoreValue, out_at, with_out, inbox_at, with_inbox, loaded_at}
use Rattle.sq_exec.specs.OutLink.{may_cut}
use Rattle.sq_exec.specs.Runs.{is_whole}
use Rattle.sq_exec.specs.Moving.{begun_core, may_load, CutsFor, LoadsFrom}
use Rattle.sq_exec.specs.Serving.{must_wait, submit_refusal, resume_refusal, IsTaken, IsResumed}
use Rattle.sq_exec.specs.declared.outcome.Outcome.{Outcome}
use Rattle.sq_exec.specs.declared.outcome.Outcome.TheVariants.{Done, Moved, Waits}
use Rattle.sq_exec.specs.declared.outcome.Resumed.{Resumed}
use Rattle.sq_shared.specs.declared.tree.walks.LeafClaim.{LeafClaim}
use Rattle.sq_shared.specs.declared.tree.walks.LeafClaim.TheVariants as leaf_claim
use Rattle.sq_shared.specs.declared.numbers.TheConstants.{MAX_CLAIMS}
use Rattle.sq_shared.specs.Numbers.{reactive_pull}
use Rattle.sq_shared.specs.Seats.{StepsAt, ClaimsLeaf}
use Rattle.sq_node.specs.declared.stepped.Stepped.{Stepped}
use Rattle.sq_node.specs.declared.stepped.Stepped.TheVariants.{Did, Nothing, Memory}
use Rattle.sq_node.specs.FabricValue.{FabricValue}
use Rattle.sq_node.specs.Ends.{EndValue, end_at, passed_on, WasFull, WasEmpty}
use Rattle.sq_node.specs.Looks.{SeatsLooked, HasNoneToComplete, LooksAndCompletes}
use Rattle.sq_node.specs.NodeState.{NodeState}
use Rattle.sq_node_model.specs.Steps.{receipts_after}

-- a chunk for partition `dst` was cut
pub record Cuts (old : NodeState) (dst : ℕ) (new : NodeState) : Type 0 where
  pub note : Note
  pub cut : CutsFor old.core dst note new.core
  pub after : new ≡ record old { core = new.core }

-- there is nothing to cut for this partition, or its outbox holds a chunk
abbrev pub HasNoneToCut : CoreValue → ℕ → Type 0
HasNoneToCut core dst = may_cut (out_at core dst) ≡ false

-- a chunk was cut for the first partition for which one can be cut
abbrev pub CutStep : NodeState → Stepped → NodeState → Type 0
CutStep old Did new = (dst : ℕ) × Cuts old dst new × ((lower : ℕ) → lower < dst → HasNoneToCut old.core lower)
CutStep old Nothing new = (new ≡ old) × ((dst : ℕ) → HasNoneToCut old.core dst)
CutStep old Memory new = new ≡ old

-- the chunk for partition `dst` was sent
pub record SendsChunk (old : NodeState) (dst : ℕ) (new : NodeState) : Type 0 where
  pub chunk : ChunkValue
  pub end : EndValue
  pub cut : (out_at old.core dst).outbox ≡ Some chunk
  pub there : end_at old.sends dst ≡ Some end
  pub after : new ≡ record old {
    core = with_out old.core dst (record (out_at old.core dst) { outbox = None });
    sends = slice_set old.sends dst (Some (passed_on end chunk));
  }

-- there is no chunk for partition `dst`, or no link to it, or the link was full at one moment
abbrev pub HasNoneToSend : FabricValue → NodeState → ℕ → Type 0
HasNoneToSend fabric node dst =
    ((out_at node.core dst).outbox ≡ None)
    ⊎ ((end_at node.sends dst ≡ None)
    ⊎ ((end : EndValue) × (end_at node.sends dst ≡ Some end) × WasFull fabric.links end))

-- the chunk for the first partition that can be sent one was sent
abbrev pub SendStep : FabricValue → NodeState → Stepped → NodeState → Type 0
SendStep fabric old Did new = (dst : ℕ) × SendsChunk old dst new × ((lower : ℕ) → lower < dst → HasNoneToSend fabric old lower)
SendStep fabric old Nothing new = (new ≡ old) × ((dst : ℕ) → HasNoneToSend fabric old dst)
SendStep fabric old Memory new = ⊥

-- a chunk was received from partition `src`
pub record Receives (old : NodeState) (src : ℕ) (new : NodeState) : Type 0 where
  pub chunk : ChunkValue
  pub end : EndValue
  pub exists : src < length old.core.inboxes
  pub empty : inbox_at old.core src ≡ None
  pub there : end_at old.recvs src ≡ Some end
  pub after : new ≡ record old {
    core = with_inbox old.core src (Some chunk);
    recvs = slice_set old.recvs src (Some (passed_on end chunk));
  }

-- the chunk received from partition `src` isn't loaded, or there is no link from it, or the link
-- was empty at one moment
abbrev pub HasNoneToReceive : NodeState → ℕ → Type 0
HasNoneToReceive node src =
    (is_some (inbox_at node.core src) ≡ true)
    ⊎ ((end_at node.recvs src ≡ None)
    ⊎ ((end : EndValue) × (end_at node.recvs src ≡ Some end) × WasEmpty end))

-- a chunk was received from the first partition from which one can be
abbrev pub RecvStep : NodeState → Stepped → NodeState → Type 0
RecvStep old Did new = (src : ℕ) × Receives old src new × ((lower : ℕ) → lower < src → HasNoneToReceive old lower)
RecvStep old Nothing new = (new ≡ old) × ((src : ℕ) → HasNoneToReceive old src)
RecvStep old Memory new = ⊥

-- the chunk received from partition `src` can be loaded, and keys move from it in the running stage
abbrev pub may_load_now : CoreValue → ℕ → Bool
may_load_now core src = (stage_on core.recon src core.part == core.stage) && may_load core src

-- the chunk received from partition `src` was loaded
pub record Loads (old : NodeState) (src : ℕ) (new : NodeState) : Type 0 where
  pub note : Note
  pub can : may_load_now old.core src ≡ true
  pub load : LoadsFrom old.core src note new.core
  pub sound : IsChunk load.chunk
  pub after : new ≡ record old { core = new.core }

-- the chunk of the first partition whose chunk can be loaded was loaded
abbrev pub LoadStep : NodeState → Stepped → NodeState → Type 0
LoadStep old Did new = (src : ℕ) × Loads old src new × ((lower : ℕ) → lower < src → may_load_now old.core lower ≡ false)
LoadStep old Nothing new = (new ≡ old) × ((src : ℕ) → may_load_now old.core src ≡ false)
LoadStep old Memory new = new ≡ old

-- a node did nothing but look at trees
pub record Looks (old new : NodeState) : Type 0 where
  pub seats : SeatsLooked old.seats new.seats
  pub after : new ≡ record old { seats = new.seats }

-- node `n` belongs to a segment that leaves this partition in the running stage
pub record IsOutward (core : CoreValue) (seg n : ℕ) : Type 0 where
  pub segment : Range
  pub there : slice_get core.recon.segments seg ≡ Some segment
  pub leaves : segment.src ≡ core.part
  pub runs : stage_in core.recon segment ≡ core.stage
  pub node : is_node n ≡ true

-- a node of a segment that leaves here was begun
pub record Begins (old new : NodeState) : Type 0 where
  pub seg : ℕ
  pub node : ℕ
  pub pull : ℕ
  pub outward : IsOutward old.core seg node
  pub won : StepsAt seg (λ v w. Won v node (Partial pull) w) old.seats new.seats
  pub after : new ≡ record old { core = begun_core old.core seg node pull; seats = new.seats }

abbrev pub RequestStep : NodeState → Stepped → NodeState → Type 0
RequestStep old Did new = Begins old new
RequestStep old Nothing new = Looks old new
RequestStep old Memory new = new ≡ old

-- a node whose last chunk was loaded was completed, after looks and before further ones
pub record Completes (old new : NodeState) : Type 0 where
  pub seg : ℕ
  pub node : ℕ
  pub whole : is_whole (loaded_at old.core seg) node ≡ true
  pub between : List SeatValue
  pub looked : SeatsLooked old.seats between
  pub then : List SeatValue
  pub completed : StepsAt seg (λ v w. LooksAndCompletes v node w) between then
  pub looked_after : SeatsLooked then new.seats
  pub after : new ≡ record old { seats = new.seats }

abbrev pub CompleteStep : NodeState → Stepped → NodeState → Type 0
CompleteStep old Did new = Completes old new
CompleteStep old Nothing new =
    Looks old new × ((seg n : ℕ) → is_whole (loaded_at old.core seg) n ≡ true → HasNoneToComplete old.seats new.seats seg n)
CompleteStep old Memory new = ⊥

-- how many claims a node has won after it claimed a leaf: one more if it won this one
abbrev pub claims_after : LeafClaim → ℕ → ℕ
claims_after (leaf_claim.Claimed n) claims = claims + 1
claims_after (leaf_claim.Held n st) claims = claims

-- the leaf of a segment was claimed for the partition's next reactive pull, or was found to have a
-- pull
pub record ClaimsOne (seg leaf : ℕ) (old new : NodeState) : Type 0 where
  pub claim : LeafClaim
  pub few : old.claims < MAX_CLAIMS
  pub seats : StepsAt seg (ClaimsLeaf leaf (reactive_pull old.core.part old.claims) claim) old.seats new.seats
  pub counts : new.claims ≡ claims_after claim old.claims

-- the seats and the count of claims are unchanged
abbrev pub ClaimsNone : NodeState → NodeState → Type 0
ClaimsNone old new = (new.seats ≡ old.seats) × (new.claims ≡ old.claims)

-- the leaf of a segment was claimed, unless the node has already won MAX_CLAIMS claims
abbrev pub ClaimsAt : ℕ → ℕ → NodeState → NodeState → Type 0
ClaimsAt seg leaf old new = ClaimsOne seg leaf old new ⊎ ((old.claims ≡ MAX_CLAIMS) × ClaimsNone old new)

-- what is claimed for a transaction that a partition took: the leaf if it waits, otherwise nothing
abbrev pub ClaimsFor : Outcome → NodeState → NodeState → Type 0
ClaimsFor (Done reply) old new = ClaimsNone old new
ClaimsFor (Moved to) old new = ClaimsNone old new
ClaimsFor (Waits seg leaf) old new = ClaimsAt seg leaf old new

-- a job was submitted, which the partition doesn't refuse, and has its receipt if it ran
pub record Submits (old new : NodeState) : Type 0 where
  pub txn : TxnValue
  pub outcome : Outcome
  pub accepted : submit_refusal old.core txn ≡ None
  pub taken : IsTaken (must_wait old.core txn.root) old.core txn outcome new.core
  pub claims : ClaimsFor outcome old new
  pub after : new ≡ record old {
    core = new.core;
    seats = new.seats;
    claims = new.claims;
    receipts = receipts_after old.core.store txn outcome old.receipts;
  }

abbrev pub JobStep : NodeState → Stepped → NodeState → Type 0
JobStep old Did new = Submits old new
JobStep old Nothing new = new ≡ old
JobStep old Memory new = new ≡ old

-- a waiting transaction was resumed, and has its receipt if it ran
pub record Resumes (old new : NodeState) : Type 0 where
  pub resumed : Resumed
  pub taken : IsResumed old.core resumed new.core
  pub after : new ≡ record old {
    core = new.core;
    receipts = receipts_after old.core.store resumed.txn resumed.outcome old.receipts;
  }

abbrev pub ResumeStep : NodeState → Stepped → NodeState → Type 0
ResumeStep old Did new = Resumes old new
ResumeStep old Nothing new = (new ≡ old) × IsSome (resume_refusal old.core)
ResumeStep old Memory new = new ≡ old
