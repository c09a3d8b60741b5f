-- The results of the steps of the split trees.
use Rattle.std.proofs.Common.{◌≡◌, ℕ, ◌<◌, ◌⊎◌, true, false, List, [], map, length, get_or, set, Option, Some, None, Ok, refl, sym, ap, ◌∙◌, subst, inl, inr, arith}
use Rattle.std.specs.Prelude.{IsTrue, not, option_map, option_and_then, slice_get, slice_set, unwrap_or}
use Rattle.std.specs.Option.{option_map_or}
use Rattle.std.proofs.lemmas.List.{get_or_default, set-get_or}
use Rattle.std.proofs.lemmas.Option.{slice_get_within, slice_get_read}
use Rattle.sq_moves.specs.declared.status.Status.{Status}
use Rattle.sq_moves.specs.declared.status.Status.TheVariants.{Free, Split, Claimed, Partial, Complete}
use Rattle.sq_moves.specs.declared.status.Reading.{Reading}
use Rattle.sq_moves.specs.Status.{covering, reading, is_begun}
use Rattle.sq_moves.specs.Tree.{status_at, with_status}
use Rattle.sq_moves.specs.Answer.{begin_answer}
use Rattle.sq_moves.specs.declared.recon.Range.{Range}
use Rattle.sq_moves.specs.ReconValue.{ReconValue, leaf_at, leaf_of, segment_of}
use Rattle.sq_exec.specs.CoreValue.{CoreValue, PartCoreValue}
use Rattle.sq_exec.specs.Moving.{begun_core}
use Rattle.sq_model.specs.declared.step.Step.TheVariants.{Begin}
use Rattle.sq_model.specs.declared.answer.Answer.{Answer}
use Rattle.sq_model.specs.declared.answer.Answer.TheVariants.{Done, Reads, Refused}
use Rattle.sq_model.specs.declared.answer.Refusal.{Refusal}
use Rattle.sq_model.specs.declared.answer.Refusal.TheVariants.{NotMoving, Memory}
use Rattle.sq_model.specs.Answers.{begin_answered}
use Rattle.sq_model.specs.Leader.{is_moving_phase}
use Rattle.sq_transition.specs.WorldValue.{WorldValue, tree_at, core_at, status_in, source_of}
use Rattle.sq_transition.specs.Leading.{phase_of}
use Rattle.sq_transition.specs.LeaderResults.{StepResult, if_moving}
use Rattle.sq_transition.specs.TreeResults.{status_result, begin_result, with_begun, with_node, if_done, if_segment, if_node}
use Rattle.sq_transition.specs.SubmitResults.{is_root_given_up}
use Rattle.sq_transition.specs.Transition.{IsResult}
use Rattle.sq_model.specs.Legal.{takes_memory}
use Rattle.sq_world.specs.Sound.{IsSound}
use Rattle.sq_world.specs.Results.{refuse_if}
use Rattle.sq_world.proofs.Guards.{IsNamed, passed}
use Rattle.sq_world.proofs.Cores.{core_of, core_read, core_written, core_kept}

pub tree_read : (w : WorldValue) (seg : ℕ) (tree : List Status) → seg < length w.trees → tree ≡ get_or w.trees seg tree → tree ≡ tree_at w seg
tree_read w seg tree lt is = is ∙ get_or_default w.trees seg tree [] lt

pub status_told : (w : WorldValue) (number named seg node : ℕ) (tree : List Status) (status : Status) (reads : Reading) → IsSound w → IsNamed w number named seg node
    → tree ≡ get_or w.trees seg tree → status ≡ status_at tree node → reads ≡ reading (status_at tree) node → (Reads status reads, w) ≡ status_result w number named
status_told w number named seg node tree status reads sound here is status_is reads_is =
    let at : tree ≡ tree_at w seg = tree_read w seg tree (omega (arith, here.exists, sound.trees)) is in
    let told = λ (t : List Status) (n : ℕ). Reads (status_at t n) (reading (status_at t) n) in
    let answer : Reads status reads ≡ told (tree_at w number) named =
    ap (λ (s : Status). Reads s reads) status_is ∙ ap (Reads (status_at tree node)) reads_is ∙ ap (λ (t : List Status). told t node) at
    ∙ ap (λ (s : ℕ). told (tree_at w s) node) here.segment ∙ ap (told (tree_at w number)) here.which in
    ap (λ (a : Answer). (a, w)) answer ∙ here.goes (told (tree_at w number) named, w)

-- the leaf of a root key in a segment with this range
abbrev leaf_there : (width root seg : ℕ) → Option Range → Option (ℕ × ℕ)
leaf_there width root seg range = option_map (λ segment. (seg, leaf_of width segment root)) range

abbrev leaf_by : (width root : ℕ) (segments : List Range) → Option ℕ → Option (ℕ × ℕ)
leaf_by width root segments at = option_and_then (λ seg. leaf_there width root seg (slice_get segments seg)) at

-- a root key that is found is in a segment that there is
leaf_within : (segments : List Range) (width root at seg leaf : ℕ) (range : Option Range) → slice_get segments at ≡ range
    → Some (seg, leaf) ≡ leaf_there width root at range → seg < length segments
leaf_within segments width root at seg leaf None there found = absurd cc
leaf_within segments width root at seg leaf (Some range) there found =
    let here : seg ≡ at = ap (λ (o : Option (ℕ × ℕ)). (unwrap_or o (0, 0)).0) found in
    omega (arith, here, slice_get_within segments at range there)

found_within : (recon : ReconValue) (root seg leaf : ℕ) (at : Option ℕ)
    → Some (seg, leaf) ≡ leaf_by recon.width root recon.segments at → seg < length recon.segments
found_within recon root seg leaf None found = absurd cc
found_within recon root seg leaf (Some at) found = leaf_within recon.segments recon.width root at seg leaf (slice_get recon.segments at) refl found

pub leaf_exists : (recon : ReconValue) (root seg leaf : ℕ) → Some (seg, leaf) ≡ leaf_at recon root → seg < length recon.segments
leaf_exists recon root seg leaf found = found_within recon root seg leaf (segment_of recon.segments root) found

-- the node over a root key was begun just where the one was that covers its leaf
pub given_up_there : (w : WorldValue) (root seg leaf node : ℕ) (tree : List Status) (status : Status) → length w.trees ≡ length w.recon.segments → Some (seg, leaf) ≡ leaf_at w.recon root
    → tree ≡ get_or w.trees seg tree → node ≡ covering (status_at tree) leaf → status ≡ status_at tree node → is_begun status ≡ is_root_given_up w root
given_up_there w root seg leaf node tree status many found is covers status_is =
    let at : tree ≡ tree_at w seg = tree_read w seg tree (omega (arith, many, leaf_exists w.recon root seg leaf found)) is in
    let begun = λ (t : List Status). is_begun (status_at t (covering (status_at t) leaf)) in
    ap is_begun (status_is ∙ ap (status_at tree) covers) ∙ ap begun at
    ∙ ap (λ (o : Option (ℕ × ℕ)). option_map_or (λ one. is_begun (status_in w one.0 (covering (status_in w one.0) one.1))) o false) found

pub begun_status : (status : Status) → ((pull : ℕ) × (status ≡ Partial pull)) ⊎ ((pull : ℕ) × (status ≡ Complete pull)) → true ≡ is_begun status
begun_status status (inl partial) = ap is_begun (sym partial.1)
begun_status status (inr complete) = ap is_begun (sym complete.1)

pub not_begun : (status : Status) → ((pull : ℕ) → status ≡ Partial pull → ⊥) → ((pull : ℕ) → status ≡ Complete pull → ⊥) → false ≡ is_begun status
not_begun Free partial complete = refl
not_begun Split partial complete = refl
not_begun (Claimed pull) partial complete = refl
not_begun (Partial pull) partial complete = absurd (partial pull refl)
not_begun (Complete pull) partial complete = absurd (complete pull refl)

-- the source of a segment by its range
pub source_is : (w : WorldValue) (seg from : ℕ) (range : Range) → seg < length w.recon.segments → range ≡ get_or w.recon.segments seg range → from ≡ range.src → from ≡ source_of w seg
source_is w seg from range lt is from_is =
    from_is ∙ ap (λ (r : Option Range). option_map_or (λ one. one.src) r 0) (sym (slice_get_read w.recon.segments (length w.recon.segments) seg range refl lt is))

pub source_exists : (w : WorldValue) (seg from : ℕ) (range : Range) → IsSound w → seg < length w.recon.segments → range ≡ get_or w.recon.segments seg range → from ≡ range.src → from < length w.cores
source_exists w seg from range sound lt is from_is =
    let ends = sound.ends seg range (slice_get_read w.recon.segments (length w.recon.segments) seg range refl lt is) in
    omega (arith, ends.0, from_is, sound.cores)

-- where a step may be done on a node it continues with that
begins : (w : WorldValue) (number named seg node pull : ℕ) (tree : List Status) (done : Unit {0}) → IsSound w → Ok done ≡ refuse_if (not (is_moving_phase (phase_of w.leader))) NotMoving
    → IsNamed w number named seg node → tree ≡ get_or w.trees seg tree → Done ≡ begin_answered (begin_answer (status_at tree) node pull)
    → (Done, with_begun w seg node pull) ≡ begin_result w number named pull
begins w number named seg node pull tree done sound moving here is may =
    let at : tree ≡ tree_at w seg = tree_read w seg tree (omega (arith, here.exists, sound.trees)) is in
    let whole = λ (s n : ℕ). if_done (begin_answered (begin_answer (status_in w s) n pull)) w (with_begun w s n pull) in
    let answered : Done ≡ begin_answered (begin_answer (status_in w seg) node pull) = may ∙ ap (λ (t : List Status). begin_answered (begin_answer (status_at t) node pull)) at in
    ap (λ (a : Answer). if_done a w (with_begun w seg node pull)) answered
    ∙ ap (λ (s : ℕ). whole s node) here.segment ∙ ap (whole number) here.which
    ∙ here.goes (whole number named)
    ∙ passed (not (is_moving_phase (phase_of w.leader))) NotMoving w (if_segment w number (if_node w named (whole number named))) done moving

begin_done : (w : WorldValue) (parts : List PartCoreValue) (number named seg node pull from : ℕ) (at : ℕ) (range : Range) (part after : PartCoreValue) (tree other written : List Status) (done : Unit {0}) → map core_of parts ≡ w.cores
    → IsSound w → Ok done ≡ refuse_if (not (is_moving_phase (phase_of w.leader))) NotMoving → IsNamed w number named seg node
    → tree ≡ get_or w.trees seg tree → Done ≡ begin_answered (begin_answer (status_at tree) node pull)
    → range ≡ get_or w.recon.segments seg range → from ≡ range.src → part ≡ get_or parts from part → after.core ≡ begun_core part.core seg node pull
    → at ≡ seg → other ≡ get_or w.trees at other → written ≡ with_status other node (Partial pull)
    → (Done, record w { cores = map core_of (set parts from after); trees = set w.trees at written }) ≡ begin_result w number named pull
begin_done w parts number named seg node pull from at range part after tree other written done are sound moving here is may range_is from_is part_is after_is at_is other_is written_is =
    let lt : from < length w.cores = source_exists w seg from range sound here.exists range_is from_is in
    let core : part.core ≡ core_at w from = core_read w parts are from part lt part_is in
    let cores : map core_of (set parts from after) ≡ slice_set w.cores (source_of w seg) (begun_core (core_at w (source_of w seg)) seg node pull) =
    core_written w parts are from after (begun_core (core_at w from) seg node pull) (after_is ∙ ap (λ (c : CoreValue). begun_core c seg node pull) core)
    ∙ ap (λ (s : ℕ). slice_set w.cores s (begun_core (core_at w s) seg node pull)) (source_is w seg from range here.exists range_is from_is) in
    let trees : set w.trees at written ≡ slice_set w.trees seg (with_status (tree_at w seg) node (Partial pull)) =
    ap (set w.trees at) (written_is ∙ ap (λ (t : List Status). with_status t node (Partial pull)) (tree_read w at other (omega (arith, at_is, here.exists, sound.trees)) other_is))
    ∙ ap (λ (s : ℕ). set w.trees s (with_status (tree_at w s) node (Partial pull))) at_is in
    let same : record w { cores = map core_of (set parts from after); trees = set w.trees at written } ≡ with_begun w seg node pull =
    λ k. record w { cores = cores k; trees = trees k } in
    ap (λ (v : WorldValue). (Done, v)) same ∙ begins w number named seg node pull tree done sound moving here is may

-- the same, where the world was this
pub begin_returns : (w old : WorldValue) (parts : List PartCoreValue) (number named seg node pull from : ℕ) (at : ℕ) (range : Range) (part after : PartCoreValue) (tree other written : List Status) (done : Unit {0}) → w ≡ old → map core_of parts ≡ w.cores
    → IsSound old → Ok done ≡ refuse_if (not (is_moving_phase (phase_of old.leader))) NotMoving → IsNamed old number named seg node
    → tree ≡ get_or w.trees seg tree → Done ≡ begin_answered (begin_answer (status_at tree) node pull)
    → range ≡ get_or w.recon.segments seg range → from ≡ range.src → part ≡ get_or parts from part → after.core ≡ begun_core part.core seg node pull
    → at ≡ seg → other ≡ get_or w.trees at other → written ≡ with_status other node (Partial pull)
    → IsResult (Begin number named pull) old (begin_result old number named pull) Done (record w { cores = map core_of (set parts from after); trees = set w.trees at written })
begin_returns w old parts number named seg node pull from at range part after tree other written done same are sound moving here is may range_is from_is part_is after_is at_is other_is written_is =
    subst
    (λ (v : WorldValue).
    IsSound v → Ok done ≡ refuse_if (not (is_moving_phase (phase_of v.leader))) NotMoving → IsNamed v number named seg node
    → IsResult (Begin number named pull) v (begin_result v number named pull) Done (record w { cores = map core_of (set parts from after); trees = set w.trees at written }))
    same
    (λ sound_w moving_w here_w. inl (begin_done w parts number named seg node pull from at range part after tree other written done are sound_w moving_w here_w is may range_is from_is part_is after_is at_is other_is written_is))
    sound moving here

pub begin_lacks_memory : (w old : WorldValue) (parts : List PartCoreValue) (number named seg node pull from : ℕ) (part after : PartCoreValue) (tree : List Status) (done : Unit {0}) → w ≡ old → map core_of parts ≡ w.cores
    → IsSound old → Ok done ≡ refuse_if (not (is_moving_phase (phase_of old.leader))) NotMoving → IsNamed old number named seg node
    → tree ≡ get_or w.trees seg tree → Done ≡ begin_answered (begin_answer (status_at tree) node pull) → part ≡ get_or parts from part → after.core ≡ part.core
    → IsResult (Begin number named pull) old (begin_result old number named pull) (Refused Memory) (record w { cores = map core_of (set parts from after) })
begin_lacks_memory w old parts number named seg node pull from part after tree done same are sound moving here is may part_is after_is =
    let cores : map core_of (set parts from after) ≡ w.cores = core_kept w parts are from part after part_is after_is in
    let kept : record w { cores = map core_of (set parts from after) } ≡ w = λ k. record w { cores = cores k } in
    let is_old : tree ≡ get_or old.trees seg tree = is ∙ ap (λ (v : WorldValue). get_or v.trees seg tree) same in
    let goes : (Done, with_begun old seg node pull) ≡ begin_result old number named pull = begins old number named seg node pull tree done sound moving here is_old may in
    inr (refl, subst (λ (r : StepResult). IsTrue (takes_memory (Begin number named pull) r.0)) goes refl, kept ∙ same)

-- the partition that begins a node knows its segment
pub source_knows : (w old : WorldValue) (parts : List PartCoreValue) (seg from : ℕ) (range : Range) (part after : PartCoreValue) → w ≡ old → map core_of parts ≡ w.cores → IsSound old → seg < length old.recon.segments
    → range ≡ get_or w.recon.segments seg range → from ≡ range.src → part ≡ get_or parts from part → after.core ≡ part.core → seg < length after.core.recon.segments
source_knows w old parts seg from range part after same are sound exists range_is from_is part_is after_is =
    subst (λ (v : WorldValue). IsSound v → seg < length v.recon.segments → seg < length after.core.recon.segments) same
    (λ sound_w exists_w.
    let lt : from < length w.cores = source_exists w seg from range sound_w exists_w range_is from_is in
    let core : part.core ≡ core_at w from = core_read w parts are from part lt part_is in
    let recon : after.core.recon ≡ w.recon = ap (λ (c : CoreValue). c.recon) (after_is ∙ core) ∙ (sound_w.parts from (omega (arith, sound_w.cores, lt))).recon in
    subst (λ (r : ReconValue). seg < length r.segments) (sym recon) exists_w)
    sound exists

-- the result of a step on a node of a segment: an answer by the statuses of the tree, and where that is done a new
-- status of the node
module _ (w : WorldValue) (answered : (ℕ → Status) → ℕ → ℕ → Answer) (new : Status) where
  abbrev whole_step : ℕ → ℕ → StepResult
  whole_step seg node = if_done (answered (status_in w seg) seg node) w (with_node w seg node new)

  abbrev named_step : ℕ → ℕ → StepResult
  named_step number named = if_moving w (if_segment w number (if_node w named (whole_step number named)))

  -- it is made in the world as it was seen
  module _ {seen : WorldValue} {number named seg node at : ℕ} {tree : List Status} {done : Unit {0}} (same : seen ≡ w) (sound : IsSound w) (moving : Ok done ≡ refuse_if (not (is_moving_phase (phase_of w.leader))) NotMoving)
      (here : IsNamed w number named seg node) (at_is : at ≡ seg) (is : tree ≡ get_or seen.trees at tree) where
    goes_there : whole_step seg node ≡ named_step number named
    goes_there =
        ap (λ (s : ℕ). whole_step s node) here.segment ∙ ap (whole_step number) here.which
        ∙ here.goes (whole_step number named)
        ∙ passed (not (is_moving_phase (phase_of w.leader))) NotMoving w (if_segment w number (if_node w named (whole_step number named))) done moving

    is_now : tree ≡ get_or w.trees at tree
    is_now = is ∙ ap (λ (v : WorldValue). get_or v.trees at tree) same

    tree_here : tree ≡ tree_at w seg
    tree_here = tree_read w at tree (omega (arith, at_is, here.exists, sound.trees)) is_now ∙ ap (tree_at w) at_is

    answered_here : (answer : Answer) → answer ≡ answered (status_at tree) seg node → answer ≡ answered (status_in w seg) seg node
    answered_here answer may = may ∙ ap (λ (t : List Status). answered (status_at t) seg node) tree_here

    pub node_done : {written : List Status} → Done ≡ answered (status_at tree) seg node → written ≡ with_status tree node new → (Done, record seen { trees = set seen.trees at written }) ≡ named_step number named
    node_done {written} may written_is =
        let trees : set w.trees at written ≡ slice_set w.trees seg (with_status (tree_at w seg) node new) =
        ap (set w.trees at) (written_is ∙ ap (λ (t : List Status). with_status t node new) tree_here) ∙ ap (λ (s : ℕ). set w.trees s (with_status (tree_at w seg) node new)) at_is in
        ap (λ (v : WorldValue). (Done, record v { trees = set v.trees at written })) same
        ∙ ap (λ (v : WorldValue). (Done, v)) (λ k. record w { trees = trees k })
        ∙ ap (λ (a : Answer). if_done a w (with_node w seg node new)) (answered_here Done may) ∙ goes_there

    pub node_stays : {written : List Status} {answer : Answer} → (refusal : Refusal) → answer ≡ Refused refusal → Refused refusal ≡ answered (status_at tree) seg node → written ≡ tree → (answer, record seen { trees = set seen.trees at written }) ≡ named_step number named
    node_stays {written} {answer} refusal gave may written_is =
        let trees : set w.trees at written ≡ w.trees = ap (set w.trees at) (written_is ∙ is_now) ∙ set-get_or w.trees at tree in
        ap (λ (a : Answer). (a, record seen { trees = set seen.trees at written })) gave
        ∙ ap (λ (v : WorldValue). (Refused refusal, record v { trees = set v.trees at written })) same
        ∙ ap (λ (v : WorldValue). (Refused refusal, v)) (λ k. record w { trees = trees k })
        ∙ ap (λ (a : Answer). if_done a w (with_node w seg node new)) (answered_here (Refused refusal) may) ∙ goes_there
