-- Split, Claim, Complete and Status keep what holds.
use Rattle.std.proofs.Common.{subst, ◌≡◌, ℕ, Bool, true, false, List, [], ◌∷◌, refl, sym, ap, ◌∙◌, arith, true≢false}
use Rattle.std.specs.Prelude.{◌<◌, ◌==◌, ◌&&◌, if◌then◌else◌, length, is_none, slice_get, slice_index_or, Some, Result, Ok, Err, IsTrue}
use Rattle.std.specs.Option.{option_map_or}
use Rattle.std.proofs.lemmas.List.{length-set}
use Rattle.std.proofs.lemmas.Bool.{ne_eqb, not-false}
use Rattle.std.proofs.lemmas.Option.{slice_get-get_or, slice_get_within}
use Rattle.std.proofs.Common.{eq-eqb}
use Rattle.sq_moves.specs.declared.status.Status.{Status}
use Rattle.sq_moves.specs.declared.status.Status.TheVariants as status
use Rattle.sq_moves.specs.declared.tree_fault.SplitFault.{SplitFault}
use Rattle.sq_moves.specs.declared.tree_fault.SplitFault.TheVariants as split
use Rattle.sq_moves.specs.declared.tree_fault.ClaimFault.{ClaimFault}
use Rattle.sq_moves.specs.declared.tree_fault.ClaimFault.TheVariants as claim
use Rattle.sq_moves.specs.declared.tree_fault.CompleteFault.{CompleteFault}
use Rattle.sq_moves.specs.declared.tree_fault.CompleteFault.TheVariants as complete
use Rattle.sq_moves.specs.Node.{is_node}
use Rattle.sq_moves.specs.Status.{reading}
use Rattle.sq_moves.specs.Tree.{status_at, with_status}
use Rattle.sq_moves.specs.Answer.{split_answer, claim_answer, complete_answer}
use Rattle.sq_moves.proofs.Placed.{status_at-with_status}
use Rattle.sq_moves.specs.declared.recon.Range.{Range}
use Rattle.sq_moves.specs.ReconValue.{of_stage}
use Rattle.sq_moves.specs.OpeningValue.{OpeningValue}
use Rattle.sq_model.proofs.Steps.{of_stage_is}
use Rattle.sq_exec.specs.Runs.{is_whole}
use Rattle.sq_exec.specs.CoreValue.{loaded_at}
use Rattle.sq_model.specs.declared.step.Step.{Step}
use Rattle.sq_model.specs.declared.step.Step.TheVariants.{Split, Claim, Complete, Status as StatusOf}
use Rattle.sq_model.specs.declared.answer.Answer.{Answer}
use Rattle.sq_model.specs.declared.answer.Answer.TheVariants.{Done, Reads}
use Rattle.sq_model.specs.declared.answer.Refusal.TheVariants.{NoSuchSegment, NoSuchNode, IsLeaf, NotFree, NotLive, NotPartial, WrongPull, NotLoaded}
use Rattle.sq_model.specs.Trace.{Trace, stage, loads}
use Rattle.sq_model.specs.Links.{has_last}
use Rattle.sq_model.specs.Nodes.{status_of, set_if}
use Rattle.sq_model.specs.Answers.{answer, in_segment, at_node, split_answered, claim_answered, complete_answered}
use Rattle.sq_transition.specs.WorldValue.{WorldValue, core_at, tree_at, status_in, range_of, destination_of}
use Rattle.sq_transition.specs.LeaderResults.{StepResult}
use Rattle.sq_transition.specs.TreeResults.{if_segment, if_node, with_node, if_done, is_loaded_whole}
use Rattle.sq_transition.specs.Transition.{step_result}
use Rattle.sq_transition.specs.Holds.{SegmentsHold}
use Rattle.sq_transition.proofs.Sets.{by_place, get_or-set}
use Rattle.sq_transition.proofs.Changed.{PartsHold, segments_changed}
use Rattle.sq_transition.proofs.Keeps.{Keeps, keeps_if, keeps_refused, keeps_moving}
use Rattle.sq_transition.proofs.LinkEnds.{AllEndsBelow}

IsTrue-from : {b : Bool} → b ≡ true → IsTrue b
IsTrue-from e = e

-- a step that is about a segment
pub keeps_segment : (o : OpeningValue) (t : Trace) (w : WorldValue) (step : Step) (seg : ℕ) (result : StepResult) (answer : Answer) → PartsHold o t w
    → (seg < length o.recon.segments → Keeps o t step result answer) → Keeps o t step (if_segment w seg result) (in_segment o t seg answer)
keeps_segment o t w step seg result answer h kept =
    keeps_if o t step _ _ _ _ _ _ (λ i. is_none (of_stage (h.plans.recon i) (h.leader.stage i) (slice_get (h.plans.recon i).segments seg)))
    (λ _. keeps_refused o t w step NoSuchSegment h)
    (λ runs. let at = of_stage_is o.recon (stage t) (slice_get o.recon.segments seg) runs in kept (slice_get_within o.recon.segments seg at.0 at.1))

-- a step that is about a node
pub keeps_node : (o : OpeningValue) (t : Trace) (w : WorldValue) (step : Step) (node : ℕ) (result : StepResult) (answer : Answer) → PartsHold o t w
    → (is_node node ≡ true → Keeps o t step result answer) → Keeps o t step (if_node w node result) (at_node node answer)
keeps_node o t w step node result answer h kept =
    keeps_if o t step _ _ _ _ _ _ refl
    (λ _. keeps_refused o t w step NoSuchNode h)
    (λ is. kept (not-false (is_node node) is))

-- the status of a node where another one's of its segment is set
status_set : (sts : List Status) (node n : ℕ) (new : Status) → is_node node ≡ true → status_at (with_status sts node new) n ≡ (if node == n then new else status_at sts n)
status_set sts node n new is =
    status_at-with_status sts node n new (IsTrue-from is) ∙ by_place node n (λ b. (if n == node then new else status_at sts n) ≡ (if b then new else status_at sts n))
    (λ same. ap (λ b. if b then new else status_at sts n) (eq-eqb n node (sym same)))
    (λ apart. ap (λ b. if b then new else status_at sts n) (ne_eqb n node (λ e. apart (sym e))))

-- the status of a node where another one's is set, of any segment
pub status_in-with_node : (w : WorldValue) (seg node g n : ℕ) (new : Status) → seg < length w.trees → is_node node ≡ true
    → status_in (with_node w seg node new) g n ≡ set_if seg node new g n (status_in w g n)
status_in-with_node w seg node g n new there is =
    let tree = with_status (tree_at w seg) node new in
    ap (λ sts. status_at sts n) (get_or-set w.trees seg g tree [] there)
    ∙ by_place seg g (λ b. status_at (if b then tree else tree_at w g) n ≡ (if b && (node == n) then new else status_in w g n))
    (λ same. subst (λ k. status_at tree n ≡ (if node == n then new else status_in w k n)) same (status_set (tree_at w seg) node n new is))
    (λ apart. refl)

-- the segments, where the status of one node is set
pub node_set : (o : OpeningValue) (t after : Trace) (w : WorldValue) (seg node : ℕ) (new : Status) → SegmentsHold o t w → seg < length o.recon.segments → is_node node ≡ true
    → ((g n : ℕ) → status_of after g n ≡ set_if seg node new g n (status_of t g n)) → SegmentsHold o after (with_node w seg node new)
node_set o t after w seg node new h below is sets =
    let there : seg < length w.trees = omega (arith, h.count) in
    record {
      count = length-set w.trees seg (with_status (tree_at w seg) node new) ∙ h.count;
      statuses = λ g n within. status_in-with_node w seg node g n new there is ∙ ap (set_if seg node new g n) (h.statuses g n within) ∙ sym (sets g n);
    }

-- a claim that goes is one of a node
claim_kept : (o : OpeningValue) (t : Trace) (w : WorldValue) (seg node pull : ℕ) (claimed : Result (Unit {0}) ClaimFault) → PartsHold o t w
    → (claimed ≡ Ok tt → PartsHold o ((Claim seg node pull, Done) ∷ t) (with_node w seg node (status.Claimed pull)))
    → Keeps o t (Claim seg node pull) (if_done (claim_answered claimed) w (with_node w seg node (status.Claimed pull))) (claim_answered claimed)
claim_kept o t w seg node pull (Ok tt) h went = (refl, went refl)
claim_kept o t w seg node pull (Err claim.NotLive) h went = keeps_refused o t w (Claim seg node pull) NotLive h
claim_kept o t w seg node pull (Err (claim.NotFree found)) h went = keeps_refused o t w (Claim seg node pull) NotFree h

-- a split that goes is one of a node
split_kept : (o : OpeningValue) (t : Trace) (w : WorldValue) (seg node : ℕ) (split_it : Result (Unit {0}) SplitFault) → PartsHold o t w
    → (split_it ≡ Ok tt → PartsHold o ((Split seg node, Done) ∷ t) (with_node w seg node status.Split))
    → Keeps o t (Split seg node) (if_done (split_answered split_it) w (with_node w seg node status.Split)) (split_answered split_it)
split_kept o t w seg node (Ok tt) h went = (refl, went refl)
split_kept o t w seg node (Err split.IsLeaf) h went = keeps_refused o t w (Split seg node) IsLeaf h
split_kept o t w seg node (Err split.NotLive) h went = keeps_refused o t w (Split seg node) NotLive h
split_kept o t w seg node (Err (split.NotFree found)) h went = keeps_refused o t w (Split seg node) NotFree h

-- the statuses of a segment, as the history has them
pub statuses_same : (o : OpeningValue) (t : Trace) (w : WorldValue) (seg : ℕ) → PartsHold o t w → seg < length o.recon.segments → status_in w seg ≡ status_of t seg
statuses_same o t w seg h below = λ i n. h.segments.statuses seg n below i

pub split_keeps : (o : OpeningValue) (t : Trace) (w : WorldValue) (seg node : ℕ) → PartsHold o t w → Keeps o t (Split seg node) (step_result w (Split seg node)) (answer o t (Split seg node))
split_keeps o t w seg node h =
    keeps_moving o t w (Split seg node) _ _ h (keeps_segment o t w (Split seg node) seg _ _ h (λ below. keeps_node o t w (Split seg node) node _ _ h (λ is.
    subst (λ sts. Keeps o t (Split seg node) (if_done (split_answered (split_answer (status_in w seg) node)) w (with_node w seg node status.Split)) (split_answered (split_answer sts node)))
    (statuses_same o t w seg h below)
    (split_kept o t w seg node (split_answer (status_in w seg) node) h
    (λ went. segments_changed h (node_set o t ((Split seg node, Done) ∷ t) w seg node status.Split h.segments below is (λ g n. refl)))))))

pub claim_keeps : (o : OpeningValue) (t : Trace) (w : WorldValue) (seg node pull : ℕ) → PartsHold o t w → Keeps o t (Claim seg node pull) (step_result w (Claim seg node pull)) (answer o t (Claim seg node pull))
claim_keeps o t w seg node pull h =
    keeps_moving o t w (Claim seg node pull) _ _ h (keeps_segment o t w (Claim seg node pull) seg _ _ h (λ below. keeps_node o t w (Claim seg node pull) node _ _ h (λ is.
    subst (λ sts. Keeps o t (Claim seg node pull) (if_done (claim_answered (claim_answer (status_in w seg) node pull)) w (with_node w seg node (status.Claimed pull))) (claim_answered (claim_answer sts node pull)))
    (statuses_same o t w seg h below)
    (claim_kept o t w seg node pull (claim_answer (status_in w seg) node pull) h
    (λ went. segments_changed h (node_set o t ((Claim seg node pull, Done) ∷ t) w seg node (status.Claimed pull) h.segments below is (λ g n. refl)))))))

-- a node is completed once its last chunk is loaded
loaded_kept : (o : OpeningValue) (t : Trace) (w new : WorldValue) (step : Step) (b c : Bool) → PartsHold o t w → b ≡ c → PartsHold o ((step, Done) ∷ t) new
    → Keeps o t step (if_done (complete_answered b (Ok tt)) w new) (complete_answered c (Ok tt))
loaded_kept o t w new step true true h same went = (refl, went)
loaded_kept o t w new step false false h same went = keeps_refused o t w step NotLoaded h
loaded_kept o t w new step true false h same went = absurd (true≢false same)
loaded_kept o t w new step false true h same went = absurd (true≢false (sym same))

complete_kept : (o : OpeningValue) (t : Trace) (w new : WorldValue) (step : Step) (b c : Bool) (completed : Result (Unit {0}) CompleteFault) → PartsHold o t w
    → (completed ≡ Ok tt → b ≡ c) → (completed ≡ Ok tt → PartsHold o ((step, Done) ∷ t) new)
    → Keeps o t step (if_done (complete_answered b completed) w new) (complete_answered c completed)
complete_kept o t w new step b c (Ok tt) h same went = loaded_kept o t w new step b c h (same refl) (went refl)
complete_kept o t w new step b c (Err (complete.NotPartial found)) h same went = keeps_refused o t w step NotPartial h
complete_kept o t w new step b c (Err complete.WrongPull) h same went = keeps_refused o t w step WrongPull h

-- there is a range for the number of each segment
pub range_there : (o : OpeningValue) (seg : ℕ) → seg < length o.recon.segments → (range : Range) × (slice_get o.recon.segments seg ≡ Some range)
range_there o seg below = let none : Range = record { lo = 0; hi = 0; src = 0; dst = 0 } in (slice_index_or o.recon.segments seg none, slice_get-get_or o.recon.segments seg none below)

-- the range of a segment of the world
pub range_same : (o : OpeningValue) (w : WorldValue) (seg : ℕ) (range : Range) → w.recon ≡ o.recon → slice_get o.recon.segments seg ≡ Some range → range_of w seg ≡ Some range
range_same o w seg range same there = ap (λ recon. slice_get recon.segments seg) same ∙ there

-- the last chunk of a node is loaded in the world just where it is by the history
loaded_whole_same : (o : OpeningValue) (t : Trace) (w : WorldValue) (seg node : ℕ) → AllEndsBelow o → PartsHold o t w → seg < length o.recon.segments → is_loaded_whole w seg node ≡ has_last seg node (loads t)
loaded_whole_same o t w seg node ends h below =
    let found = range_there o seg below in
    let goes : destination_of w seg ≡ found.0.dst = ap (λ range. option_map_or (λ (r : Range). r.dst) range 0) (range_same o w seg found.0 h.plans.recon found.1) in
    ap (λ part. is_whole (loaded_at (core_at w part) seg) node) goes
    ∙ (h.partitions.each found.0.dst (ends seg found.0 found.1).destination).moves.whole seg node (found.0, found.1, refl)

pub complete_keeps : (o : OpeningValue) (t : Trace) (w : WorldValue) (seg node pull : ℕ) → AllEndsBelow o → PartsHold o t w → Keeps o t (Complete seg node pull) (step_result w (Complete seg node pull)) (answer o t (Complete seg node pull))
complete_keeps o t w seg node pull ends h =
    keeps_moving o t w (Complete seg node pull) _ _ h (keeps_segment o t w (Complete seg node pull) seg _ _ h (λ below. keeps_node o t w (Complete seg node pull) node _ _ h (λ is.
    subst (λ sts. Keeps o t (Complete seg node pull) (if_done (complete_answered (is_loaded_whole w seg node) (complete_answer (status_in w seg) node pull)) w (with_node w seg node (status.Complete pull))) (complete_answered (has_last seg node (loads t)) (complete_answer sts node pull)))
    (statuses_same o t w seg h below)
    (complete_kept o t w (with_node w seg node (status.Complete pull)) (Complete seg node pull) (is_loaded_whole w seg node) (has_last seg node (loads t)) (complete_answer (status_in w seg) node pull) h
    (λ went. loaded_whole_same o t w seg node ends h below)
    (λ went. segments_changed h (node_set o t ((Complete seg node pull, Done) ∷ t) w seg node (status.Complete pull) h.segments below is (λ g n. refl)))))))

pub status_keeps : (o : OpeningValue) (t : Trace) (w : WorldValue) (seg node : ℕ) → PartsHold o t w → Keeps o t (StatusOf seg node) (step_result w (StatusOf seg node)) (answer o t (StatusOf seg node))
status_keeps o t w seg node h =
    keeps_segment o t w (StatusOf seg node) seg _ _ h (λ below. keeps_node o t w (StatusOf seg node) node _ _ h (λ is. (
      ap (λ (sts : ℕ → Status). Reads (sts node) (reading sts node)) (statuses_same o t w seg h below),
      h,
    )))
