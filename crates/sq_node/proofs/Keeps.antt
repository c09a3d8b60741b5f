-- Each step of a node keeps what holds of it.
use Rattle.std.proofs.lemmas.List.{length-set}
use Rattle.std.proofs.Common.{◌≡◌, ℕ, Bool, true, false, List, slice_get, Option, Some, None, refl, sym, ap, ◌∙◌, subst}
use Rattle.std.specs.Prelude.{IfSome, ◌==◌, ◌&&◌}
use Rattle.std.proofs.lemmas.Bool.{and_parts, eq-eqb}
use Rattle.std.specs.Option.{option_map_or}
use Rattle.sq_store.specs.ChunkValue.{ChunkValue, IsChunk}
use Rattle.sq_moves.specs.declared.recon.Range.{Range}
use Rattle.sq_moves.specs.ReconValue.{ReconValue, stage_on, stage_in}
use Rattle.sq_moves.specs.OpeningValue.{OpeningValue}
use Rattle.sq_moves.specs.Opening.{IsOpening}
use Rattle.sq_schema.specs.TxnValue.{TxnValue}
use Rattle.sq_store.specs.StoreValue.{StoreValue}
use Rattle.sq_moves.specs.declared.status.Status.TheVariants.{Partial, Complete}
use Rattle.sq_shared.specs.Plays.{Won}
use Rattle.sq_shared.specs.Seat.{SeatValue}
use Rattle.sq_exec.specs.declared.outcome.Outcome.{Outcome}
use Rattle.sq_exec.specs.OutLink.{OutLinkValue}
use Rattle.sq_exec.specs.Runs.{is_whole}
use Rattle.sq_exec.specs.CoreValue.{CoreValue, out_at, with_out, loaded_at, inbox_at}
use Rattle.sq_exec.specs.Serving.{must_wait, IsTaken}
use Rattle.sq_exec.specs.Moving.{can_load, loaded_core, begun_in, may_load}
use Rattle.sq_shared.specs.Seats.{StepsAt}
use Rattle.sq_node_model.specs.Stages.{runs_in}
use Rattle.sq_node_model.specs.BeganWith.{BeganWith}
use Rattle.sq_node_model.specs.NodeValue.{ReceiptValue, put}
use Rattle.sq_node_model.specs.Steps.{receipts_after}
use Rattle.sq_node_model.specs.NodeHolds.{NodeHolds}
use Rattle.sq_node_model.specs.Cores.{IsCoreOf, IsLoadable, HasNoneToLoad}
use Rattle.sq_node_model.proofs.Made.{node_with}
use Rattle.sq_node_model.proofs.Staged.{link_runs}
use Rattle.sq_node_model.proofs.Puts.{put_each, put_same, put_other}
use Rattle.sq_node_model.proofs.CoreBegun.{core_looked, core_completed, core_begun}
use Rattle.sq_node_model.proofs.CoreCut.{core_cut}
use Rattle.sq_node_model.proofs.CoreLinks.{core_sent, core_received}
use Rattle.sq_node_model.proofs.CoreLoad.{core_loaded}
use Rattle.sq_node_model.proofs.CoreRefused.{came_loaded}
use Rattle.sq_node_model.proofs.CoreServed.{core_submitted, core_resumed}
use Rattle.sq_node.specs.declared.stepped.Stepped.{Stepped}
use Rattle.sq_node.specs.declared.stepped.Stepped.TheVariants.{Did, Nothing, Memory}
use Rattle.sq_node.specs.FabricValue.{FabricValue}
use Rattle.sq_node.specs.NodeState.{NodeState, node_value, views_of, passed_by}
use Rattle.sq_node.specs.Holds.{HoldsUnder, KeepsAll}
use Rattle.sq_node.specs.Looks.{SeatsLooked, LooksAndCompletes}
use Rattle.sq_node.specs.Steps.{JobStep, RequestStep, CutStep, SendStep, RecvStep, LoadStep, CompleteStep, ResumeStep, Looks, may_load_now}
use Rattle.sq_node.proofs.Bridges.{SameDone, only_looked_same, passed_one, view_before, views_after, looked_same, claimed_same}

pub same_keeps : (old new : NodeState) → new ≡ old → KeepsAll old new
same_keeps old new same o began is h = subst (HoldsUnder o began) (sym same) h

-- a partition with other families, and with another end of a link
with_core : {i : ℕ} (o : OpeningValue) (core : CoreValue) (dst : ℕ) (out : OutLinkValue) (store : StoreValue) → IsCoreOf o i core → IsCoreOf o i (record (with_out core dst out) { store = store })
with_core o core dst out store of = record { plan = of.plan; recon = of.recon; stage = of.stage; outs = length-set core.outs dst out ∙ of.outs; given_up = of.given_up; loaded = of.loaded }

pub cut_keeps : (old : NodeState) (answer : Stepped) (new : NodeState) → CutStep old answer new → KeepsAll old new
cut_keeps old Did new step o began is h =
    let cuts = step.1 in
    subst (HoldsUnder o began) (sym cuts.after)
    (record {
      core = subst (IsCoreOf o began.stage) (sym cuts.cut.after) (with_core o old.core step.0 cuts.cut.out cuts.cut.store h.core);
      holds = core_cut old.core new.core (views_of old.seats) (passed_by old.sends) (passed_by old.recvs) old.receipts step.0 cuts.note cuts.cut o is h.holds;
    })
cut_keeps old Nothing new step o began is h = same_keeps old new step.0 o began is h
cut_keeps old Memory new step o began is h = same_keeps old new step o began is h

pub send_keeps : (fabric : FabricValue) (old : NodeState) (answer : Stepped) (new : NodeState) → SendStep fabric old answer new → KeepsAll old new
send_keeps fabric old Did new step o began is h =
    let sends = step.1 in
    subst (HoldsUnder o began) (sym sends.after)
    (record {
      core = with_core o old.core step.0 (record (out_at old.core step.0) { outbox = None }) old.core.store h.core;
      holds = core_sent o old.core (views_of old.seats) (passed_by old.sends) _ (passed_by old.recvs) old.receipts step.0 sends.chunk sends.cut (passed_one old.sends step.0 sends.end sends.chunk sends.there) h.holds;
    })
send_keeps fabric old Nothing new step o began is h = same_keeps old new step.0 o began is h
send_keeps fabric old Memory new step o began is h = absurd step

pub recv_keeps : (old : NodeState) (answer : Stepped) (new : NodeState) → RecvStep old answer new → KeepsAll old new
recv_keeps old Did new step o began is h =
    let receives = step.1 in
    let of = h.core in
    subst (HoldsUnder o began) (sym receives.after)
    (record {
      core = record { plan = of.plan; recon = of.recon; stage = of.stage; outs = of.outs; given_up = of.given_up; loaded = of.loaded };
      holds = core_received o old.core (views_of old.seats) (passed_by old.sends) (passed_by old.recvs) _ old.receipts step.0 receives.chunk receives.exists receives.empty (passed_one old.recvs step.0 receives.end receives.chunk receives.there) h.holds;
    })
recv_keeps old Nothing new step o began is h = same_keeps old new step.0 o began is h
recv_keeps old Memory new step o began is h = absurd step

loaded_core_of : {i : ℕ} (o : OpeningValue) (core : CoreValue) (src : ℕ) (chunk : ChunkValue) → IsCoreOf o i core → IsCoreOf o i (loaded_core core src chunk)
loaded_core_of o core src chunk of = record { plan = of.plan; recon = of.recon; stage = of.stage; outs = of.outs; given_up = of.given_up; loaded = length-set core.loaded chunk.note.seg _ ∙ of.loaded }

-- keys come from a partition in the running stage by the opening as by the partition that they come to
runs_now : (o : OpeningValue) (i : ℕ) (core : CoreValue) (src : ℕ) → IsCoreOf o i core → (stage_on core.recon src core.part == core.stage) ≡ runs_in o i src core.part
runs_now o i core src of = λ k. stage_on (of.recon k) src core.part == of.stage k

pub load_keeps : (old : NodeState) (answer : Stepped) (new : NodeState) → LoadStep old answer new → KeepsAll old new
load_keeps old Did new step o began is h =
    let src = step.0 in
    let loads = step.1 in
    let now = and_parts (stage_on old.core.recon src old.core.part == old.core.stage) (may_load old.core src) loads.can in
    let load = loads.load in
    let can : can_load old.core src load.chunk ≡ true = ap (λ (inbox : Option ChunkValue). option_map_or (can_load old.core src) inbox false) (sym load.came) ∙ now.1 in
    let loadable : IsLoadable old.core src load.chunk = record { can = can; sound = loads.sound } in
    let runs : runs_in o began.stage src old.core.part ≡ true = sym (runs_now o began.stage old.core src h.core) ∙ now.0 in
    subst (HoldsUnder o began) (sym loads.after)
    (record {
      core = subst (IsCoreOf o began.stage) (sym load.after) (loaded_core_of o old.core src load.chunk h.core);
      holds = core_loaded o began.stage old.core new.core (views_of old.seats) (passed_by old.sends) (passed_by old.recvs) old.receipts src loads.note h.core load loadable runs is h.holds;
    })
load_keeps old Nothing new step o began is h = same_keeps old new step.0 o began is h
load_keeps old Memory new step o began is h = same_keeps old new step o began is h

-- where the seats began and completed nothing more
seats_keep : {began : BeganWith} (o : OpeningValue) (core : CoreValue) (old new : List SeatValue) (sent received : ℕ → List ChunkValue) (receipts : List ReceiptValue) → ((seg : ℕ) → SameDone (views_of old seg) (views_of new seg))
    → NodeHolds o began (node_with core (views_of old) sent received receipts) → NodeHolds o began (node_with core (views_of new) sent received receipts)
seats_keep o core old new sent received receipts same h =
    core_looked o core (views_of old) (views_of new) sent received receipts (λ seg. (same seg).begun) (λ seg. (same seg).completed) h

-- where the seats only looked
looked_keep : {began : BeganWith} (o : OpeningValue) (core : CoreValue) (old new : List SeatValue) (sent received : ℕ → List ChunkValue) (receipts : List ReceiptValue) → SeatsLooked old new
    → NodeHolds o began (node_with core (views_of old) sent received receipts) → NodeHolds o began (node_with core (views_of new) sent received receipts)
looked_keep o core old new sent received receipts looked = seats_keep o core old new sent received receipts (looked_same old new looked)

pub looks_keep : (old new : NodeState) → Looks old new → KeepsAll old new
looks_keep old new looks o began is h =
    subst (HoldsUnder o began) (sym looks.after)
    (record {
      core = h.core;
      holds = looked_keep o old.core old.seats new.seats (passed_by old.sends) (passed_by old.recvs) old.receipts looks.seats h.holds;
    })

begun_core_of : {i : ℕ} (o : OpeningValue) (core : CoreValue) (seg n pull : ℕ) (found : Option Range) → IsCoreOf o i core → IsCoreOf o i (begun_in core seg n pull found)
begun_core_of o core seg n pull None of = of
begun_core_of o core seg n pull (Some segment) of = record {
  plan = of.plan;
  recon = of.recon;
  stage = of.stage;
  outs = length-set core.outs segment.dst _ ∙ of.outs;
  given_up = length-set core.given_up seg _ ∙ of.given_up;
  loaded = of.loaded;
}

pub request_keeps : (old : NodeState) (answer : Stepped) (new : NodeState) → RequestStep old answer new → KeepsAll old new
request_keeps old Did new step o began is h =
    let at = step.seg in
    let outward = step.outward in
    let there : slice_get o.recon.segments at ≡ Some outward.segment = ap (λ (r : ReconValue). slice_get r.segments at) (sym h.core.recon) ∙ outward.there in
    let won = step.won in
    let runs : runs_in o began.stage outward.segment.src outward.segment.dst ≡ true =
    eq-eqb (stage_in o.recon outward.segment) began.stage (ap (λ (r : ReconValue). stage_in r outward.segment) (sym h.core.recon) ∙ outward.runs ∙ h.core.stage) in
    let before = view_before at _ old.seats new.seats won in
    subst (HoldsUnder o began) (sym step.after)
    (record {
      core = begun_core_of {i = began.stage} o old.core at step.node step.pull (slice_get old.core.recon.segments at) h.core;
      holds = core_begun o began.stage is old.core (views_of old.seats) (views_of new.seats) (passed_by old.sends) (passed_by old.recvs) old.receipts at step.node step.pull won.after.view outward.segment h.core there
          (subst (λ view. Won view step.node (Partial step.pull) won.after.view) (sym before) won.told)
          (views_after at _ old.seats new.seats won) outward.leaves runs outward.node h.holds;
    })
request_keeps old Nothing new step o began is h = looks_keep old new step o began is h
request_keeps old Memory new step o began is h = same_keeps old new step o began is h

-- a value that is put at a key in place of another that was put there
put_twice : {X : Type 0} (key : ℕ) (first value : X) (f : ℕ → X) (k : ℕ) → put key value f k ≡ put key value (put key first f) k
put_twice key first value f =
    put_each (λ k x. x ≡ put key value (put key first f) k) key value f
    (sym (put_same key value (put key first f)))
    (λ k apart. sym (put_other key value (put key first f) k apart ∙ put_other key first f k apart))

-- where a seat looked at a node of a tree, and then completed it
completes_keep : {began : BeganWith} (o : OpeningValue) (core : CoreValue) (old new : List SeatValue) (sent received : ℕ → List ChunkValue) (receipts : List ReceiptValue) (seg n : ℕ)
    → (done : StepsAt seg (λ v w. LooksAndCompletes v n w) old new) → is_whole (loaded_at core seg) n ≡ true
    → NodeHolds o began (node_with core (views_of old) sent received receipts) → NodeHolds o began (node_with core (views_of new) sent received receipts)
completes_keep o core old new sent received receipts seg n done whole h =
    let view = done.told.1 in
    let looked = put seg view (views_of old) in
    let same : (k : ℕ) → SameDone (views_of old k) (looked k) =
    put_each (λ k v. SameDone (views_of old k) v) seg view (views_of old)
    (subst (λ v. SameDone v view) (sym (view_before seg _ old new done)) (only_looked_same done.before.view view done.told.2))
    (λ k apart. record { begun = refl; completed = refl }) in
    core_completed o core looked (views_of new) sent received receipts seg n done.told.0 done.after.view whole
    (subst (λ v. Won v n (Complete done.told.0) done.after.view) (sym (put_same seg view (views_of old))) done.told.3)
    (λ k. views_after seg _ old new done k ∙ put_twice seg view done.after.view (views_of old) k)
    (core_looked o core (views_of old) looked sent received receipts (λ k. (same k).begun) (λ k. (same k).completed) h)

pub complete_keeps : (old : NodeState) (answer : Stepped) (new : NodeState) → CompleteStep old answer new → KeepsAll old new
complete_keeps old Did new step o began is h =
    let sent = passed_by old.sends in
    let received = passed_by old.recvs in
    subst (HoldsUnder o began) (sym step.after)
    (record {
      core = h.core;
      holds = looked_keep o old.core step.then new.seats sent received old.receipts step.looked_after
          (completes_keep o old.core step.between step.then sent received old.receipts step.seg step.node step.completed step.whole
          (looked_keep o old.core old.seats step.between sent received old.receipts step.looked h.holds));
    })
complete_keeps old Nothing new step o began is h = looks_keep old new step.0 o began is h
complete_keeps old Memory new step o began is h = absurd step

taken_core_of : {i : ℕ} (o : OpeningValue) (waits : Bool) (old new : CoreValue) (txn : TxnValue) (outcome : Outcome) → IsTaken waits old txn outcome new → IsCoreOf o i old → IsCoreOf o i new
taken_core_of {i} o true old new txn outcome taken of = subst (IsCoreOf o i) (sym taken.last) (record { plan = of.plan; recon = of.recon; stage = of.stage; outs = of.outs; given_up = of.given_up; loaded = of.loaded })
taken_core_of {i} o false old new txn outcome taken of = subst (IsCoreOf o i) (sym taken.after) (record { plan = of.plan; recon = of.recon; stage = of.stage; outs = of.outs; given_up = of.given_up; loaded = of.loaded })

pub job_keeps : (old : NodeState) (answer : Stepped) (new : NodeState) → JobStep old answer new → KeepsAll old new
job_keeps old Did new step o began is h =
    let receipts = receipts_after old.core.store step.txn step.outcome old.receipts in
    subst (HoldsUnder o began) (sym step.after)
    (record {
      core = taken_core_of o (must_wait old.core step.txn.root) old.core new.core step.txn step.outcome step.taken h.core;
      holds = seats_keep o new.core old.seats new.seats (passed_by old.sends) (passed_by old.recvs) receipts (claimed_same step.outcome old new step.claims)
          (core_submitted (views_of old.seats) (passed_by old.sends) (passed_by old.recvs) old.receipts o is old.core new.core (must_wait old.core step.txn.root) step.txn step.outcome h.core step.taken h.holds);
    })
job_keeps old Nothing new step o began is h = same_keeps old new step o began is h
job_keeps old Memory new step o began is h = same_keeps old new step o began is h

pub resume_keeps : (old : NodeState) (answer : Stepped) (new : NodeState) → ResumeStep old answer new → KeepsAll old new
resume_keeps old Did new step o began is h =
    let of = h.core in
    subst (HoldsUnder o began) (sym step.after)
    (record {
      core = subst (IsCoreOf o began.stage) (sym step.taken.after) (record { plan = of.plan; recon = of.recon; stage = of.stage; outs = of.outs; given_up = of.given_up; loaded = of.loaded });
      holds = core_resumed (views_of old.seats) (passed_by old.sends) (passed_by old.recvs) old.receipts o is old.core new.core step.resumed h.core step.taken h.holds;
    })
resume_keeps old Nothing new step o began is h = same_keeps old new step.0 o began is h
resume_keeps old Memory new step o began is h = same_keeps old new step o began is h

-- where no chunk that came can be loaded, each that belongs here covers a key that was loaded
pub none_to_load : (node : NodeState) → ((src : ℕ) → may_load_now node.core src ≡ false) → ((src : ℕ) → IfSome (inbox_at node.core src) IsChunk) → (o : OpeningValue) (began : BeganWith) → IsOpening o → HoldsUnder o began node
    → (src : ℕ) → HasNoneToLoad o began.stage (node_value node) src
none_to_load node none chunks o began is h src chunk came arrived =
    came_loaded o is node.core (views_of node.seats) (passed_by node.sends) (passed_by node.recvs) node.receipts h.core h.holds src chunk
    (subst (λ (found : Option ChunkValue). IfSome found IsChunk) came (chunks src)) arrived came
    (sym (ap (λ b. b && may_load node.core src) (runs_now o began.stage node.core src h.core ∙ link_runs o began.stage src node.core.part chunk.note.seg arrived.segment)) ∙ none src)
