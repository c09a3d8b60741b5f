-- Where a step went, what the trace before it was like.
use Rattle.std.proofs.Common.{Contains, ◌≡◌, inl, inr, ℕ, ◌<◌, Bool, true, false, ◌==◌, nat_le, nat_lt, not, ◌&&◌, ◌+◌, is_none, if◌then◌else◌, length, find, slice_get, Option, Some, None, Result, Ok, Err, refl, sym, ap, ◌∙◌, true≢false}
use Rattle.std.specs.List.{list_all}
use Rattle.std.proofs.lemmas.Bool.{cases_Bool, leb-false, not-false, cond_both, cond-false, true_from_ne_false, and_parts, eqb-true}
use Rattle.sq_moves.specs.declared.tree_fault.SplitFault.{SplitFault}
use Rattle.sq_moves.specs.declared.tree_fault.SplitFault.TheVariants as split
use Rattle.sq_moves.specs.declared.tree_fault.ClaimFault.{ClaimFault}
use Rattle.sq_moves.specs.declared.tree_fault.ClaimFault.TheVariants as claim
use Rattle.sq_moves.specs.declared.tree_fault.BeginFault.{BeginFault}
use Rattle.sq_moves.specs.declared.tree_fault.BeginFault.TheVariants as begin
use Rattle.sq_moves.specs.declared.tree_fault.CompleteFault.{CompleteFault}
use Rattle.sq_moves.specs.declared.tree_fault.CompleteFault.TheVariants as complete
use Rattle.sq_moves.specs.Node.{is_node}
use Rattle.sq_moves.specs.Answer.{split_answer, claim_answer, begin_answer, complete_answer}
use Rattle.sq_moves.specs.declared.status.Status.TheVariants.{Claimed, Partial}
use Rattle.sq_moves.proofs.Went.{SplitWent, split_went, ClaimWent, claim_went, begin_went, complete_went}
use Rattle.sq_store.specs.declared.chunk.Note.{Note}
use Rattle.std.proofs.lemmas.Option.{slice_get_within}
use Rattle.sq_moves.specs.declared.recon.Range.{Range}
use Rattle.sq_moves.specs.ReconValue.{ReconValue, is_link, stage_on, stage_in, stages, of_stage}
use Rattle.sq_moves.specs.OpeningValue.{OpeningValue}
use Rattle.sq_schema.specs.TxnValue.{TxnValue}
use Rattle.sq_schema.specs.Effect.{reply}
use Rattle.sq_model.specs.Waiting.{has_to_wait}
use Rattle.sq_model.specs.Place.{runner}
use Rattle.sq_model.specs.Tables.{now, is_full}
use Rattle.sq_model.specs.declared.step.Step.{Step}
use Rattle.sq_model.specs.declared.step.Step.TheVariants.{Prepare, Split, Claim, Begin, Cut, Push, Pop, Load, Complete, Report, Next, Finish, Submit}
use Rattle.sq_model.specs.declared.answer.Answer.{Answer}
use Rattle.sq_model.specs.declared.answer.Answer.TheVariants.{Done, WasCut, WasLoaded, Refused, Replied, Moved, Waits}
use Rattle.sq_model.specs.declared.answer.Refusal.{Refusal}
use Rattle.sq_model.specs.declared.answer.Refusal.TheVariants.{NotMoving, NoSuchSegment, NoSuchNode, NoSuchLink, NoSuchPartition, OutboxFull, InboxEmpty, AlreadyMoving, NotFinished, LogFull, LastStage}
use Rattle.sq_model.specs.Trace.{Trace, stage, notes, loads, link, cut_count, push_count, pop_count, load_count}
use Rattle.sq_model.specs.Leader.{is_moving, is_started}
use Rattle.sq_model.specs.Nodes.{Item, status_of}
use Rattle.sq_model.specs.Links.{has_last, open_items, next_item, next_note}
use Rattle.sq_model.specs.Answers.{answer, while_moving, running, is_running_link, is_last_stage, in_segment, at_node, partitions, has_all, counts_reported, split_answered, claim_answered, begin_answered, complete_answered, cut_for, load_of, wait_answer, run_answer, routed}
use Rattle.sq_model.specs.Legal.{IsAnswer}
use Rattle.sq_model.proofs.Lists.{found_in}
use Rattle.sq_model.proofs.Link.{IsOf, link_has}

abbrev is_refused : Answer → Bool
is_refused (Refused refusal) = true
is_refused _ = false

-- a step that wasn't refused was answered what the trace determines
answered : (o : OpeningValue) (t : Trace) (step : Step) (given : Answer) → is_refused given ≡ false → IsAnswer o t step given → given ≡ answer o t step
answered o t step given went (inl right) = right
answered o t step given went (inr lacked) = absurd (let e = sym (ap is_refused lacked.0) ∙ went in cc)

-- there was no cause for this refusal, and what comes after it is the answer
past : (cause : Bool) (refusal : Refusal) (rest given : Answer) → is_refused given ≡ false → given ≡ (if cause then Refused refusal else rest) → (cause ≡ false) × (given ≡ rest)
past true refusal rest given went e = absurd (let f = sym (ap is_refused e) ∙ went in cc)
past false refusal rest given went e = (refl, e)

-- a Prepare went, so the move wasn't started
pub prepare_goes : (o : OpeningValue) (t : Trace) (part : ℕ) → IsAnswer o t (Prepare part) Done → is_started t ≡ false
prepare_goes o t part given =
    let a = past (nat_le o.old.parts part) NoSuchPartition _ Done refl (answered o t (Prepare part) Done refl given) in
    (past (is_started t) AlreadyMoving Done Done refl a.1).0

-- the segment is of the running stage
pub record IsRunning (o : OpeningValue) (t : Trace) (seg : ℕ) : Type 0 where
  pub segment : Range
  pub there : slice_get o.recon.segments seg ≡ Some segment
  pub stage : stage_in o.recon segment ≡ stage t

pub of_stage_is : (recon : ReconValue) (i : ℕ) (found : Option Range) → is_none (of_stage recon i found) ≡ false → (segment : Range) × (found ≡ Some segment) × (stage_in recon segment ≡ i)
of_stage_is recon i None some = absurd (true≢false some)
of_stage_is recon i (Some segment) some =
    elim (cases_Bool (stage_in recon segment == i)) [
      | inl same ↦ (segment, refl, eqb-true (stage_in recon segment) i same)
      | inr other ↦ absurd (true≢false (sym (ap is_none (cond-false (stage_in recon segment == i) (Some segment) None other)) ∙ some))
    ]

-- a step of a node of a tree that went, and what held before it
pub record NodeGoes (o : OpeningValue) (t : Trace) (seg node : ℕ) (Held : Type 0) : Type 0 where
  pub runs : IsRunning o t seg
  pub segment : seg < length o.recon.segments
  pub exists : is_node node ≡ true
  pub held : Held

node_goes : {Held : Type 0} (o : OpeningValue) (t : Trace) (step : Step) (seg node : ℕ) (given : Answer) → answer o t step ≡ while_moving t (in_segment o t seg (at_node node given)) → (Done ≡ given → Held) → IsAnswer o t step Done
    → NodeGoes o t seg node Held
node_goes o t step seg node given is held went =
    let a = past (not (is_moving t)) NotMoving (in_segment o t seg (at_node node given)) Done refl (answered o t step Done refl went ∙ is) in
    let b = past (is_none (running o t seg)) NoSuchSegment (at_node node given) Done refl a.1 in
    let c = past (not (is_node node)) NoSuchNode given Done refl b.1 in
    let at = of_stage_is o.recon (stage t) (slice_get o.recon.segments seg) b.0 in
    record { runs = record { segment = at.0; there = at.1; stage = at.2 }; segment = slice_get_within o.recon.segments seg at.0 at.1; exists = not-false (is_node node) c.0; held = held c.1 }

split_done : (result : Result (Unit {0}) SplitFault) → Done ≡ split_answered result → result ≡ Ok tt
split_done (Ok done) e = refl
split_done (Err split.IsLeaf) e = absurd cc
split_done (Err split.NotLive) e = absurd cc
split_done (Err (split.NotFree found)) e = absurd cc

-- a Split that went
pub split_goes : (o : OpeningValue) (t : Trace) (seg node : ℕ) → IsAnswer o t (Split seg node) Done → NodeGoes o t seg node (SplitWent (status_of t seg) node)
split_goes o t seg node given =
    let result = split_answer (status_of t seg) node in
    node_goes o t (Split seg node) seg node (split_answered result) refl (λ done. split_went (status_of t seg) node (split_done result done)) given

claim_done : (result : Result (Unit {0}) ClaimFault) → Done ≡ claim_answered result → result ≡ Ok tt
claim_done (Ok done) e = refl
claim_done (Err claim.NotLive) e = absurd cc
claim_done (Err (claim.NotFree found)) e = absurd cc

-- a Claim that went
pub claim_goes : (o : OpeningValue) (t : Trace) (seg node pull : ℕ) → IsAnswer o t (Claim seg node pull) Done → NodeGoes o t seg node (ClaimWent (status_of t seg) node)
claim_goes o t seg node pull given =
    let result = claim_answer (status_of t seg) node pull in
    node_goes o t (Claim seg node pull) seg node (claim_answered result) refl (λ done. claim_went (status_of t seg) node pull (claim_done result done)) given

begin_done : (result : Result (Unit {0}) BeginFault) → Done ≡ begin_answered result → result ≡ Ok tt
begin_done (Ok done) e = refl
begin_done (Err (begin.NotClaimed found)) e = absurd cc
begin_done (Err begin.WrongPull) e = absurd cc

-- a Begin that went: the pull had claimed the node
pub begin_goes : (o : OpeningValue) (t : Trace) (seg node pull : ℕ) → IsAnswer o t (Begin seg node pull) Done → NodeGoes o t seg node (status_of t seg node ≡ Claimed pull)
begin_goes o t seg node pull given =
    let result = begin_answer (status_of t seg) node pull in
    node_goes o t (Begin seg node pull) seg node (begin_answered result) refl (λ done. begin_went (status_of t seg) node pull (begin_done result done)) given

complete_done : (loaded : Bool) (result : Result (Unit {0}) CompleteFault) → Done ≡ complete_answered loaded result → (loaded ≡ true) × (result ≡ Ok tt)
complete_done true (Ok done) e = (refl, refl)
complete_done false (Ok done) e = absurd cc
complete_done loaded (Err (complete.NotPartial found)) e = absurd cc
complete_done loaded (Err complete.WrongPull) e = absurd cc

-- a Complete that went: the node's last chunk was loaded, and the pull had begun the node
pub complete_goes : (o : OpeningValue) (t : Trace) (seg node pull : ℕ) → IsAnswer o t (Complete seg node pull) Done → NodeGoes o t seg node ((has_last seg node (loads t) ≡ true) × (status_of t seg node ≡ Partial pull))
complete_goes o t seg node pull given =
    let result = complete_answer (status_of t seg) node pull in
    node_goes o t (Complete seg node pull) seg node (complete_answered (has_last seg node (loads t)) result) refl
    (λ done. let completes = complete_done (has_last seg node (loads t)) result done in (completes.0, complete_went (status_of t seg) node pull completes.1)) given

-- a link that isn't refused is one of the running stage
link_runs : (o : OpeningValue) (t : Trace) (src dst : ℕ) → not (is_running_link o t src dst) ≡ false → stage_on o.recon src dst ≡ stage t
link_runs o t src dst runs = eqb-true (stage_on o.recon src dst) (stage t) (and_parts (is_link o.recon.ranges src dst) (stage_on o.recon src dst == stage t) (not-false (is_running_link o t src dst) runs)).1

-- a Push and a Pop that went
pub push_runs : (o : OpeningValue) (t : Trace) (src dst : ℕ) → IsAnswer o t (Push src dst) Done → stage_on o.recon src dst ≡ stage t
push_runs o t src dst given =
    let a = past (not (is_moving t)) NotMoving _ Done refl (answered o t (Push src dst) Done refl given) in
    link_runs o t src dst (past (not (is_running_link o t src dst)) NoSuchLink _ Done refl a.1).0

pub pop_runs : (o : OpeningValue) (t : Trace) (src dst : ℕ) → IsAnswer o t (Pop src dst) Done → stage_on o.recon src dst ≡ stage t
pop_runs o t src dst given =
    let a = past (not (is_moving t)) NotMoving _ Done refl (answered o t (Pop src dst) Done refl given) in
    link_runs o t src dst (past (not (is_running_link o t src dst)) NoSuchLink _ Done refl a.1).0

-- a Cut that went
pub record CutGoes (o : OpeningValue) (t : Trace) (src dst : ℕ) (note : Note) (families : ℕ) : Type 0 where
  pub moving : is_moving t ≡ true
  pub stage : stage_on o.recon src dst ≡ stage t
  pub item : Item
  pub next : next_item (open_items o t src dst) ≡ Some item
  pub noted : note ≡ next_note o t src dst item

cut_was : (o : OpeningValue) (t : Trace) (src dst : ℕ) (note : Note) (families : ℕ) (next : Option Item) → WasCut note families ≡ cut_for o t src dst next → (item : Item) × (next ≡ Some item) × (note ≡ next_note o t src dst item)
cut_was o t src dst note families None e = absurd cc
cut_was o t src dst note families (Some item) e = (item, refl, cc)

pub cut_goes : (o : OpeningValue) (t : Trace) (src dst : ℕ) (note : Note) (families : ℕ) → IsAnswer o t (Cut src dst) (WasCut note families) → CutGoes o t src dst note families
cut_goes o t src dst note families given =
    let a = past _ _ _ (WasCut note families) refl (answered o t (Cut src dst) (WasCut note families) refl given) in
    let b = past (not (is_running_link o t src dst)) NoSuchLink _ (WasCut note families) refl a.1 in
    let c = past (nat_lt (push_count t src dst) (cut_count t src dst)) OutboxFull _ (WasCut note families) refl b.1 in
    let d = cut_was o t src dst note families (next_item (open_items o t src dst)) c.1 in
    record { moving = not-false (is_moving t) a.0; stage = link_runs o t src dst b.0; item = d.0; next = d.1; noted = d.2 }

-- a Load that went
pub record LoadGoes (o : OpeningValue) (t : Trace) (src dst : ℕ) (note : Note) (families : ℕ) : Type 0 where
  pub moving : is_moving t ≡ true
  pub stage : stage_on o.recon src dst ≡ stage t
  pub found : find (λ other. other.number == load_count t src dst) (link src dst (notes t)) ≡ Some note

load_was : (o : OpeningValue) (t : Trace) (note : Note) (families : ℕ) (found : Option Note) → WasLoaded note families ≡ load_of o t found → found ≡ Some note
load_was o t note families None e = absurd cc
load_was o t note families (Some other) e = let same : note ≡ other = cc in ap Some (sym same)

pub load_goes : (o : OpeningValue) (t : Trace) (src dst : ℕ) (note : Note) (families : ℕ) → IsAnswer o t (Load src dst) (WasLoaded note families) → LoadGoes o t src dst note families
load_goes o t src dst note families given =
    let a = past _ _ _ (WasLoaded note families) refl (answered o t (Load src dst) (WasLoaded note families) refl given) in
    let b = past (not (is_running_link o t src dst)) NoSuchLink _ (WasLoaded note families) refl a.1 in
    let c = past (load_count t src dst == pop_count t src dst) InboxEmpty _ (WasLoaded note families) refl b.1 in
    record { moving = not-false (is_moving t) a.0; stage = link_runs o t src dst b.0; found = load_was o t note families (find (λ other. other.number == load_count t src dst) (link src dst (notes t))) c.1 }

-- whether this was asked, where one answer is a refusal
asked : (test : Bool) (refusal : Refusal) → Done ≡ (if test then Done else Refused refusal) → test ≡ true
asked true refusal e = refl
asked false refusal e = absurd cc

-- a Report went, so each segment into the partition is whole
pub report_goes : (o : OpeningValue) (t : Trace) (part : ℕ) → IsAnswer o t (Report part) Done → has_all o t part ≡ true
report_goes o t part given =
    let a = past (not (is_moving t)) NotMoving _ Done refl (answered o t (Report part) Done refl given) in
    let b = past (nat_le o.old.parts part) NoSuchPartition _ Done refl a.1 in
    asked (has_all o t part) NotFinished b.1

-- a Next went, so another stage comes, and each partition has reported, or counts as if it had
pub record NextGoes (o : OpeningValue) (t : Trace) : Type 0 where
  pub moving : is_moving t ≡ true
  pub more : is_last_stage o t ≡ false
  pub reported : list_all (counts_reported o t) (partitions o) ≡ true

pub next_goes : (o : OpeningValue) (t : Trace) → IsAnswer o t Next Done → NextGoes o t
next_goes o t given =
    let a = past (not (is_moving t)) NotMoving _ Done refl (answered o t Next Done refl given) in
    let b = past (is_last_stage o t) LastStage _ Done refl a.1 in
    record { moving = not-false (is_moving t) a.0; more = b.0; reported = asked (list_all (counts_reported o t) (partitions o)) NotFinished b.1 }

-- a Finish went, so the last stage runs, and each partition has reported, or counts as if it had
pub record FinishGoes (o : OpeningValue) (t : Trace) : Type 0 where
  pub last : stage t + 1 ≡ stages o.recon
  pub reported : list_all (counts_reported o t) (partitions o) ≡ true

pub finish_goes : (o : OpeningValue) (t : Trace) → IsAnswer o t Finish Done → FinishGoes o t
finish_goes o t given =
    let a = past (not (is_moving t)) NotMoving _ Done refl (answered o t Finish Done refl given) in
    let all = asked (is_last_stage o t && list_all (counts_reported o t) (partitions o)) NotFinished a.1 in
    let parts = and_parts (is_last_stage o t) (list_all (counts_reported o t) (partitions o)) all in
    record { last = eqb-true (stage t + 1) (stages o.recon) parts.0; reported = parts.1 }

abbrev is_wait : Answer → Bool
is_wait (Waits id seg leaf) = true
is_wait _ = false

routed_is_no_wait : (o : OpeningValue) (t : Trace) (part : ℕ) (txn : TxnValue) (who : Option ℕ) → is_wait (routed o t part txn who) ≡ false
routed_is_no_wait o t part txn None = refl
routed_is_no_wait o t part txn (Some who) =
    cond_both (who == part) (run_answer o t txn) (Moved txn.id who) (λ given. is_wait given ≡ false)
    (λ here. cond_both (is_full o t txn.root) (Refused LogFull) (Replied txn.id (reply (now o t txn.root) txn)) (λ given. is_wait given ≡ false) (λ full. refl) (λ room. refl))
    (λ there. refl)

-- a transaction was made to wait
pub record WaitGoes (o : OpeningValue) (t : Trace) (part : ℕ) (txn : TxnValue) : Type 0 where
  pub exists : part < o.old.parts
  pub has_to : has_to_wait o t part txn.root ≡ true

pub wait_goes : (o : OpeningValue) (t : Trace) (part : ℕ) (txn : TxnValue) (id seg leaf : ℕ) → IsAnswer o t (Submit part txn) (Waits id seg leaf) → WaitGoes o t part txn
wait_goes o t part txn id seg leaf given =
    let a = past (nat_le o.old.parts part) NoSuchPartition _ (Waits id seg leaf) refl (answered o t (Submit part txn) (Waits id seg leaf) refl given) in
    record {
      exists = leb-false o.old.parts part a.0;
      has_to =
          true_from_ne_false (has_to_wait o t part txn.root) (λ at_once.
          true≢false (ap is_wait (a.1 ∙ cond-false (has_to_wait o t part txn.root) (wait_answer o t part txn) (routed o t part txn (runner o t txn.root)) at_once) ∙ routed_is_no_wait o t part txn (runner o t txn.root)));
    }

-- the note of a Cut that went is of its link
pub cut_is_of : (o : OpeningValue) (t : Trace) (src dst : ℕ) (note : Note) (families : ℕ) → CutGoes o t src dst note families → IsOf src dst note
cut_is_of o t src dst note families goes = record { source = ap (λ n. n.src) goes.noted; destination = ap (λ n. n.dst) goes.noted }

-- and so is the note of a Load that went, and was cut
pub load_is_of : (o : OpeningValue) (t : Trace) (src dst : ℕ) (note : Note) (families : ℕ) → LoadGoes o t src dst note families → Contains (notes t) note × IsOf src dst note
load_is_of o t src dst note families goes =
    link_has src dst (notes t) note (found_in (λ other. other.number == load_count t src dst) (link src dst (notes t)) note goes.found).0
